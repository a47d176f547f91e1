-- The lines that are printed are read back.
use Rattle.std.proofs.Common.{◌≡◌, ℕ, ◌+◌, ◌^◌, ◌<◌, ◌≤◌, List, [], ◌∷◌, ◌++◌, length, map, drop, codes, decimal, refl, sym, ap, ◌∙◌, arith, append_assoc, length-append, Result, Ok}
use Rattle.std.specs.Prelude.{filter}
use Rattle.std.specs.List.{AllByRecursion}
use Rattle.std.proofs.lemmas.Grind.{flat_map-append}
use Rattle.std.proofs.lemmas.List.{map-append}
use Rattle.std.proofs.lemmas.List.Elements.{filter-append}
use Rattle.ras_facts.specs.declared.bank.BankReport.{BankReport}
use Rattle.ras_script.proofs.LineAndWordLemmas.{words_separated}
use Rattle.ras_script.proofs.LineTextLemmas.{text_read}
use Rattle.ras_script.proofs.LinesLemmas.{line_cut}
use Rattle.ras_script.specs.Line.{is_asking, line_of, line_of_words}
use Rattle.ras_script.specs.LineLaws.{IsBankInRange, line_words}
use Rattle.ras_script.specs.Splitting.{lines_of}
use Rattle.ras_script.specs.SplittingLaws.{Lacks, script_of}
use Rattle.ras_script.specs.declared.line.ErrorReport.TheVariants.{Bank}
use Rattle.ras_script.specs.declared.line.Line.{Line}
use Rattle.ras_script.specs.declared.line.Line.TheVariants as asks
use Rattle.ras_script.specs.declared.line.LineRefused.{LineRefused}
use Rattle.ras_script.specs.declared.reader.TheConstants.{LONGEST_LINE}
use Rattle.bank_lines.specs.declared.found.Finding.{Finding}
use Rattle.bank_lines.specs.declared.found.Finding.TheVariants.{Nothing, Whole, Torn, Full, Partial, Foreign, Firmware, Unread}
use Rattle.bank_lines.specs.Finding.{IsFoundInRange, IsInTypes, Numbered, report_in, reports_in}
use Rattle.bank_lines.specs.Texts.{asks_in, asks_of, asking_line, firmware_line, found_lines, found_text, full_line, lines_at, partial_comment, printed, printed_lines, torn_line, unread_line, vendor_line}
use Rattle.bank_lines.proofs.NumeralLemmas.{WordOk, both, decimal_ok, hexadecimal_ok, joined_lack, joined_short, lack_both, literal_lacks}

-- ---- what a line asks for

pub bank_read : (report : BankReport) → IsBankInRange report → line_of (asking_line report) ≡ Ok (asks.Report (Bank report))
bank_read report within = text_read (asks.Report (Bank report)) within

-- a line that begins with `#` and a space is a comment
comment : (rest : List ℕ) → line_of (35 ∷ 32 ∷ rest) ≡ Ok asks.Nothing
comment rest = ap line_of_words (words_separated (35 ∷ []) rest)

asked_alone : (line : List ℕ) (asked : Result Line LineRefused) → line_of line ≡ asked → asks_in (line ∷ []) ≡ filter is_asking (asked ∷ [])
asked_alone line asked is = ap (λ (a : Result Line LineRefused). filter is_asking (a ∷ [])) is

each_of : (number : ℕ) (found : Finding) → IsInTypes found
    → asks_in (lines_at number found) ≡ asks_of (record { number = number; found = found })
each_of number Nothing within = refl
each_of number (Whole report) within = asked_alone (asking_line report) (Ok (asks.Report (Bank report))) (bank_read report within)
each_of number (Torn report) within =
    ap (λ (a : Result Line LineRefused). filter is_asking (a ∷ line_of (asking_line report) ∷ [])) (comment (drop 2 (torn_line number)))
    ∙ asked_alone (asking_line report) (Ok (asks.Report (Bank report))) (bank_read report within)
each_of number (Full report) within =
    ap (λ (a : Result Line LineRefused). filter is_asking (a ∷ line_of (asking_line report) ∷ [])) (comment (drop 2 full_line))
    ∙ asked_alone (asking_line report) (Ok (asks.Report (Bank report))) (bank_read report within)
each_of number (Firmware cpu) within = asked_alone (firmware_line cpu) (Ok asks.Nothing) (comment (drop 2 (firmware_line cpu)))
each_of number (Partial cpu bank) within = asked_alone (partial_comment cpu bank) (Ok asks.Nothing) (comment (drop 2 (partial_comment cpu bank)))
each_of number (Foreign vendor cpu bank) within = asked_alone (vendor_line vendor cpu bank) (Ok asks.Nothing) (comment (drop 2 (vendor_line vendor cpu bank)))
each_of number Unread within = asked_alone (unread_line number) (Ok asks.Nothing) (comment (drop 2 (unread_line number)))

pub each_read : (numbered : Numbered) → IsFoundInRange numbered → asks_in (found_lines numbered) ≡ asks_of numbered
each_read numbered within = each_of numbered.number numbered.found within.1

-- ---- the lines of the text

-- a printed line has no line feed, and is short
abbrev LineOk : List ℕ → Type 0
LineOk line = Lacks 10 line × (length line ≤ LONGEST_LINE)

bank_ok : (report : BankReport) → IsBankInRange report → LineOk (asking_line report)
bank_ok report within =
    let n = within.0 in
    let words : List (List ℕ) = line_words (asks.Report (Bank report)) in
    let name : WordOk (codes "bank") = (literal_lacks 10 (codes "bank") refl, omega arith) in
    let all : AllByRecursion WordOk words = (name, (decimal_ok report.boot n.0, (decimal_ok report.seconds n.1.0, (decimal_ok report.cpu (omega (arith, within.1)), (decimal_ok report.bank (omega (arith, within.2)), (decimal_ok report.tsc n.1.1.0, (hexadecimal_ok report.cap n.1.1.1.0, (hexadecimal_ok report.mcg n.1.1.1.1.0, (hexadecimal_ok report.status n.1.1.1.1.1.0, (hexadecimal_ok report.addr n.1.1.1.1.1.1.0, (hexadecimal_ok report.misc n.1.1.1.1.1.1.1.0, tt))))))))))) in
    (joined_lack words all, omega (arith, joined_short words all))

-- a text with a number after it has no line feed, and is short
number_after : (text : List ℕ) (n most : ℕ) → Lacks 10 text → length text ≤ most → n < 2 ^ 64 → Lacks 10 (text ++ decimal n) × (length (text ++ decimal n) ≤ most + 64)
number_after text n most lacks short small =
    let ok : WordOk (decimal n) = decimal_ok n small in
    (lack_both 10 text (decimal n) lacks ok.0, omega (arith, ok.1, length-append text (decimal n)))

-- a text with a literal after it has no line feed, and is short
literal_after : (text word : List ℕ) (most : ℕ) → Lacks 10 text × (length text ≤ most) → Lacks 10 word → length word ≤ 20 → Lacks 10 (text ++ word) × (length (text ++ word) ≤ most + 20)
literal_after text word most ok lacks short =
    (lack_both 10 text word ok.0 lacks, omega (arith, ok.1, length-append text word))

partial_ok : (cpu bank : ℕ) → cpu < 2 ^ 16 → bank < 2 ^ 8 → LineOk (partial_comment cpu bank)
partial_ok cpu bank small few =
    let head : List ℕ = codes "# partial cpu=" in
    let one = number_after head cpu 20 (literal_lacks 10 head refl) (omega arith) (omega arith) in
    let two = literal_after (head ++ decimal cpu) (codes " bank=") 84 one (literal_lacks 10 (codes " bank=") refl) (omega arith) in
    let three = number_after (head ++ decimal cpu ++ codes " bank=") bank 104 two.0 two.1 (omega arith) in
    (three.0, omega (arith, three.1))

vendor_ok : (vendor cpu bank : ℕ) → vendor < 2 ^ 64 → cpu < 2 ^ 16 → bank < 2 ^ 8 → LineOk (vendor_line vendor cpu bank)
vendor_ok vendor cpu bank least small few =
    let head : List ℕ = codes "# vendor=" in
    let one = number_after head vendor 20 (literal_lacks 10 head refl) (omega arith) least in
    let two = literal_after (head ++ decimal vendor) (codes " cpu=") 84 one (literal_lacks 10 (codes " cpu=") refl) (omega arith) in
    let three = number_after (head ++ decimal vendor ++ codes " cpu=") cpu 104 two.0 two.1 (omega arith) in
    let four = literal_after (head ++ decimal vendor ++ codes " cpu=" ++ decimal cpu) (codes " bank=") 168 three (literal_lacks 10 (codes " bank=") refl) (omega arith) in
    let five = number_after (head ++ decimal vendor ++ codes " cpu=" ++ decimal cpu ++ codes " bank=") bank 188 four.0 four.1 (omega arith) in
    (five.0, omega (arith, five.1))

firmware_ok : (cpu : ℕ) → cpu < 2 ^ 16 → LineOk (firmware_line cpu)
firmware_ok cpu small =
    let head : List ℕ = codes "# firmware cpu=" in
    let one = number_after head cpu 20 (literal_lacks 10 head refl) (omega arith) (omega arith) in
    let two = literal_after (head ++ decimal cpu) (codes " bank=255") 84 one (literal_lacks 10 (codes " bank=255") refl) (omega arith) in
    (two.0, omega (arith, two.1))

torn_ok : (number : ℕ) → number < 2 ^ 64 → LineOk (torn_line number)
torn_ok number small =
    let head : List ℕ = codes "# torn " in
    let one = number_after head number 20 (literal_lacks 10 head refl) (omega arith) small in
    (one.0, omega (arith, one.1))

unread_ok : (number : ℕ) → number < 2 ^ 64 → LineOk (unread_line number)
unread_ok number small =
    let head : List ℕ = codes "# unread " in
    let one = number_after head number 20 (literal_lacks 10 head refl) (omega arith) small in
    (one.0, omega (arith, one.1))

lines_ok : (number : ℕ) (found : Finding) → number < 2 ^ 64 → IsInTypes found → AllByRecursion LineOk (lines_at number found)
lines_ok number Nothing small within = tt
lines_ok number (Whole report) small within = (bank_ok report within, tt)
lines_ok number (Torn report) small within = (torn_ok number small, (bank_ok report within, tt))
lines_ok number (Full report) small within = ((literal_lacks 10 full_line refl, omega arith), (bank_ok report within, tt))
lines_ok number (Firmware cpu) small within = (firmware_ok cpu within, tt)
lines_ok number (Partial cpu bank) small within = (partial_ok cpu bank within.0 within.1, tt)
lines_ok number (Foreign vendor cpu bank) small within = (vendor_ok vendor cpu bank within.0 within.1 within.2, tt)
lines_ok number Unread small within = (unread_ok number small, tt)

all_ok : (founds : List Numbered) → AllByRecursion IsFoundInRange founds → AllByRecursion LineOk (printed_lines founds)
all_ok [] within = tt
all_ok (numbered ∷ founds) within =
    both LineOk (found_lines numbered) (printed_lines founds) (lines_ok numbered.number numbered.found within.0.0 within.0.1) (all_ok founds within.1)

printed_is : (founds : List Numbered) → printed founds ≡ script_of (printed_lines founds)
printed_is [] = refl
printed_is (numbered ∷ founds) =
    ap (λ (text : List ℕ). found_text numbered.number numbered.found ++ text) (printed_is founds)
    ∙ sym (flat_map-append (λ (line : List ℕ). line ++ 10 ∷ []) (found_lines numbered) (printed_lines founds))

lines_cut : (lines : List (List ℕ)) → AllByRecursion LineOk lines → lines_of (script_of lines) ≡ lines
lines_cut [] all = refl
lines_cut (line ∷ lines) all =
    ap lines_of (append_assoc line (10 ∷ []) (script_of lines))
    ∙ line_cut line (script_of lines) all.0.0
    ∙ ap (λ (ls : List (List ℕ)). line ∷ ls) (lines_cut lines all.1)

pub lines_read : (founds : List Numbered) → AllByRecursion IsFoundInRange founds → lines_of (printed founds) ≡ printed_lines founds
lines_read founds within = ap lines_of (printed_is founds) ∙ lines_cut (printed_lines founds) (all_ok founds within)

-- ---- what the lines ask for

asks_both : (xs ys : List (List ℕ)) → asks_in (xs ++ ys) ≡ asks_in xs ++ asks_in ys
asks_both xs ys = ap (filter is_asking) (map-append line_of xs ys) ∙ filter-append is_asking (map line_of xs) (map line_of ys)

abbrev asked : BankReport → Result Line LineRefused
asked report = Ok (asks.Report (Bank report))

asks_all : (founds : List Numbered) → AllByRecursion IsFoundInRange founds → asks_in (printed_lines founds) ≡ map asked (reports_in founds)
asks_all [] within = refl
asks_all (numbered ∷ founds) within =
    asks_both (found_lines numbered) (printed_lines founds)
    ∙ ap (λ (a : List (Result Line LineRefused)). a ++ asks_in (printed_lines founds)) (each_read numbered within.0)
    ∙ ap (λ (a : List (Result Line LineRefused)). map asked (report_in numbered.found) ++ a) (asks_all founds within.1)
    ∙ sym (map-append asked (report_in numbered.found) (reports_in founds))

pub asks_read : (founds : List Numbered) → AllByRecursion IsFoundInRange founds → asks_in (lines_of (printed founds)) ≡ map asked (reports_in founds)
asks_read founds within = ap asks_in (lines_read founds within) ∙ asks_all founds within

short_of : (lines : List (List ℕ)) → AllByRecursion LineOk lines → AllByRecursion (λ line. length line ≤ LONGEST_LINE) lines
short_of [] all = tt
short_of (line ∷ lines) all = (all.0.1, short_of lines all.1)

pub lines_short : (founds : List Numbered) → AllByRecursion IsFoundInRange founds → AllByRecursion (λ line. length line ≤ LONGEST_LINE) (lines_of (printed founds))
lines_short founds within = rw (lines_read founds within) (short_of (printed_lines founds) (all_ok founds within))
