-- The lines of a made-up script are short and have no line feed, so a script is split into them, within its limits.
use Rattle.std.proofs.Common.{◌≡◌, ℕ, ◌+◌, ◌*◌, ◌/◌, ◌%◌, ◌^◌, ◌<◌, ◌≤◌, ◌==◌, suc, zero, cond, Bool, true, false, List, [], ◌∷◌, ◌++◌, length, map, take, codes, refl, ap, subst, ◌∙◌, arith, append_assoc, lit<, length-append}
use Rattle.std.specs.Prelude.{nat_lt, not, ◌&&◌}
use Rattle.std.proofs.lemmas.Bool.Decides.{nat_tests}
use Rattle.std.specs.Char.{digit_value}
use Rattle.std.specs.Fmt.{decimal, digit_glyph, digits, digits_onto}
use Rattle.std.specs.List.{AllByRecursion, join_with_byte, list_all, list_any, slice_split}
use Rattle.std.specs.Str.Parse.{AllDigits}
use Rattle.std.proofs.lemmas.Fmt.{decimal_is_IsNumeral, digits_is_IsNumeral}
use Rattle.std.proofs.lemmas.List.{length-map, take_all}
use Rattle.std.proofs.lemmas.List.Elements.{All-from_recursion}
use Rattle.std.proofs.lemmas.List.Splits.{slice_split_at}
use Rattle.dimm_topology.specs.declared.row.Row.TheVariants.{Cpu, Module}
use Rattle.ras_facts.specs.declared.bank.BankReport.{BankReport}
use Rattle.ras_script.specs.LineLaws.{IsBankInRange, hexadecimal, line_text, line_words}
use Rattle.ras_script.specs.Lines.{is_too_long, lines_within, script_ended, script_lines}
use Rattle.ras_script.specs.declared.line.Line.TheVariants.{Row, Report}
use Rattle.ras_script.specs.declared.line.ErrorReport.TheVariants.{Bank}
use Rattle.ras_script.specs.declared.reader.TheConstants.{LONGEST_LINE, LONGEST_SCRIPT}
use Rattle.ras_script.specs.declared.line.Line.{Line}
use Rattle.ras_load.specs.LoadScript.{bank_line, bank_lines, bank_number, generated, load_bank, load_lines, load_script, machine_lines}
use Rattle.ras_load.specs.declared.script.TheConstants.{MOST_LINES}
use Rattle.ras_load.proofs.ReadingLemmas.{line_in_range}
use Rattle.ras_script.specs.Splitting.{lines_of, without_empty_last}
use Rattle.ras_script.specs.SplittingLaws.{Lacks, script_of}

-- A numeral has no line feed.
digits_lack : (radix : ℕ) (word : List ℕ) → radix ≤ 16 → AllDigits radix word → Lacks 10 word
digits_lack radix [] small all = tt
digits_lack radix (c ∷ cs) small all =
    ((λ same. let digit : digit_value 10 < radix = subst (λ b. digit_value b < radix) same all.0 in omega arith), digits_lack radix cs small all.1)

decimal_lacks : (n : ℕ) → n < 2 ^ 64 → Lacks 10 (decimal n)
decimal_lacks n small = digits_lack 10 (decimal n) (lit< tt) (decimal_is_IsNumeral n small).0.1

hexadecimal_lacks : (n : ℕ) → n < 2 ^ 64 → Lacks 10 (hexadecimal n)
hexadecimal_lacks n small =
    let fits : n < 16 ^ 64 = omega arith in
    digits_lack 16 (hexadecimal n) (lit< tt) (digits_is_IsNumeral 16 false (lit< tt) (lit< tt) n fits).0.1

both : (P : ℕ → Type 0) (xs ys : List ℕ) → AllByRecursion P xs → AllByRecursion P ys → AllByRecursion P (xs ++ ys)
both P [] ys one other = other
both P (x ∷ xs) ys one other = (one.0, both P xs ys one.1 other)

-- Words without line feeds, with spaces between them.
joined_lack : (words : List (List ℕ)) → AllByRecursion (Lacks 10) words → Lacks 10 (join_with_byte 32 words)
joined_lack [] all = tt
joined_lack (word ∷ []) all = all.0
joined_lack (word ∷ next ∷ words) all =
    let space : ◌≡◌ {A = ℕ} 32 10 → ⊥ = λ e. omega (arith, e) in
    both (λ b. ¬ (b ≡ 10)) word (32 ∷ join_with_byte 32 (next ∷ words)) all.0 (space, joined_lack (next ∷ words) all.1)

-- A word of a script: it has no line feed, and is short.
abbrev WordOk : List ℕ → Type 0
WordOk word = Lacks 10 word × (length word ≤ 64)

lacks_by_test : (word : List ℕ) → list_all (λ b. not (b == 10)) word ≡ true → Lacks 10 word
lacks_by_test [] all = tt
lacks_by_test (b ∷ bs) all = by (b == 10) refl all (λ rest. lacks_by_test bs rest)
  where
    by : (t : Bool) → (b == 10) ≡ t → (not t && list_all (λ b. not (b == 10)) bs) ≡ true → (list_all (λ b. not (b == 10)) bs ≡ true → Lacks 10 bs) → (¬ (b ≡ 10)) × Lacks 10 bs
    by true is all rest = absurd cc
    by false is all rest = ((λ same. grind (arith, nat_tests, is, same)), rest all)

-- There are at most as many digits as steps.
few_last : (i d : ℕ) (acc rest : List ℕ) (last : Bool) → length rest ≤ length acc + 1 + i → length (cond last (d ∷ acc) rest) ≤ length acc + suc i
few_last i d acc rest true more = omega arith
few_last i d acc rest false more = omega arith

few_digits : (k radix n : ℕ) (acc : List ℕ) → length (digits_onto k radix false n acc) ≤ length acc + k
few_digits zero radix n acc = omega arith
few_digits (suc k) radix n acc =
    let d : ℕ = digit_glyph false (n % radix) in
    few_last k d acc (digits_onto k radix false (n / radix) (d ∷ acc)) (n / radix == 0) (omega (arith, few_digits k radix (n / radix) (d ∷ acc)))

short_numeral : (radix n : ℕ) → length (digits radix false n) ≤ 64
unfolding digits
short_numeral radix n = few_digits 64 radix n []

decimal_ok : (n : ℕ) → n < 2 ^ 64 → WordOk (decimal n)
decimal_ok n small = (decimal_lacks n small, short_numeral 10 n)

hexadecimal_ok : (n : ℕ) → n < 2 ^ 64 → WordOk (hexadecimal n)
hexadecimal_ok n small = (hexadecimal_lacks n small, short_numeral 16 n)

-- Short words with spaces between them.
joined_short : (words : List (List ℕ)) → AllByRecursion WordOk words → length (join_with_byte 32 words) ≤ 65 * length words
joined_short [] all = omega arith
joined_short (word ∷ []) all = omega (arith, all.0.1)
joined_short (word ∷ next ∷ words) all =
    let rest : length (join_with_byte 32 (next ∷ words)) ≤ 65 * length (next ∷ words) = joined_short (next ∷ words) all.1 in
    let here : length word ≤ 64 = all.0.1 in
    omega (arith, rest, here, length-append word (32 ∷ join_with_byte 32 (next ∷ words)))

lacking : (words : List (List ℕ)) → AllByRecursion WordOk words → AllByRecursion (Lacks 10) words
lacking [] all = tt
lacking (word ∷ words) all = (all.0.0, lacking words all.1)

-- A line of a script: at most eleven words.
abbrev LineOk : List ℕ → Type 0
LineOk line = Lacks 10 line × (length line ≤ 715)

line_ok : (words : List (List ℕ)) → length words ≤ 11 → AllByRecursion WordOk words → LineOk (join_with_byte 32 words)
line_ok words few all = (joined_lack words (lacking words all), omega (arith, few, joined_short words all))

-- A script is split into lines without line feeds.
test_no : (b : ℕ) (t : Bool) → (b == 10) ≡ t → ¬ (b ≡ 10) → (b == 10) ≡ false
test_no b true is isnt = absurd (isnt (grind (arith, nat_tests, is)))
test_no b false is isnt = is

no_feed : (line : List ℕ) → Lacks 10 line → AllByRecursion (λ b. (b == 10) ≡ false) line
no_feed [] lacks = tt
no_feed (b ∷ bs) lacks = (test_no b (b == 10) refl lacks.0, no_feed bs lacks.1)

split_script : (lines : List (List ℕ)) → AllByRecursion LineOk lines → slice_split (λ b. b == 10) (script_of lines) ≡ lines ++ [] ∷ []
split_script [] all = refl
split_script (line ∷ lines) all =
    ap (slice_split (λ b. b == 10)) (append_assoc line (10 ∷ []) (script_of lines))
    ∙ slice_split_at (λ b. b == 10) line 10 (script_of lines) (All-from_recursion (λ b. (b == 10) ≡ false) line (no_feed line all.0.0)) refl
    ∙ ap (λ (ls : List (List ℕ)). line ∷ ls) (split_script lines all.1)

without_last : (lines : List (List ℕ)) → without_empty_last (lines ++ [] ∷ []) ≡ lines
without_last [] = refl
without_last (line ∷ []) = refl
without_last (line ∷ next ∷ lines) = ap (λ (ls : List (List ℕ)). line ∷ ls) (without_last (next ∷ lines))

lines_split : (lines : List (List ℕ)) → AllByRecursion LineOk lines → lines_of (script_of lines) ≡ lines
lines_split lines all = ap without_empty_last (split_script lines all) ∙ without_last lines

-- No line is too long, and the lines are a script within its limit.
none_long : (lines : List (List ℕ)) → AllByRecursion LineOk lines → list_any is_too_long lines ≡ false
none_long [] all = refl
none_long (line ∷ lines) all =
    let short : nat_lt LONGEST_LINE (length line) ≡ false = grind (arith, nat_tests, all.0.1) in
    rw (short, none_long lines all.1) refl

script_short : (lines : List (List ℕ)) → AllByRecursion LineOk lines → length (script_of lines) ≤ 716 * length lines
script_short [] all = omega arith
script_short (line ∷ lines) all =
    omega (arith, script_short lines all.1, all.0.1, length-append (line ++ 10 ∷ []) (script_of lines), length-append line (10 ∷ []))

within : (most : ℕ) (text : List ℕ) (lines : List (List ℕ)) → lines_of text ≡ lines → list_any is_too_long lines ≡ false → length text ≤ most
    → lines_within most text ≡ record { whole = lines; ending = script_ended }
unfolding lines_within
within most text lines split none fits =
    let all : take (most + 1) text ≡ text = take_all (most + 1) text (omega arith) in
    let short : nat_lt most (length text) ≡ false = grind (arith, nat_tests, fits) in
    rw (all, split, none, short) refl

pub short_script : (lines : List (List ℕ)) → AllByRecursion LineOk lines → length lines ≤ 50005 → script_lines (script_of lines) ≡ record { whole = lines; ending = script_ended }
short_script lines all few =
    within LONGEST_SCRIPT (script_of lines) lines (lines_split lines all) (none_long lines all) (omega (arith, few, script_short lines all))

-- ---- the lines of a script that is made up

literal_ok : (word : List ℕ) → list_all (λ b. not (b == 10)) word ≡ true → length word ≤ 64 → WordOk word
literal_ok word lacks short = (lacks_by_test word lacks, short)

kind_ok : (kind : List ℕ) → list_all (λ b. not (b == 10)) kind ≡ true → length kind ≤ 64 → WordOk kind
kind_ok = literal_ok

module_ok : (label : List ℕ) (channel : ℕ) → WordOk label → channel < 2 ^ 64 → LineOk (line_text (Row (Module label 0 7 channel)))
module_ok label channel ok small =
    line_ok (line_words (Row (Module label 0 7 channel))) (omega arith)
    (literal_ok (codes "module") refl (omega arith), (ok, (decimal_ok 0 (omega arith), (decimal_ok 7 (omega arith), (decimal_ok channel small, tt)))))

cpu_ok : LineOk (line_text (Row (Cpu 0 0)))
cpu_ok = line_ok (line_words (Row (Cpu 0 0))) (omega arith) (literal_ok (codes "cpu") refl (omega arith), (decimal_ok 0 (omega arith), (decimal_ok 0 (omega arith), tt)))

bank_ok : (bank : BankReport) → IsBankInRange bank → LineOk (line_text (Report (Bank bank)))
bank_ok bank range =
    let numbers = range.0 in
    line_ok (line_words (Report (Bank bank))) (omega arith) (
      literal_ok (codes "bank") refl (omega arith),
      (
        decimal_ok bank.boot numbers.0,
        (
          decimal_ok bank.seconds numbers.1.0,
          (
            decimal_ok bank.cpu (omega (arith, range.1)),
            (
              decimal_ok bank.bank (omega (arith, range.2)),
              (
                decimal_ok bank.tsc numbers.1.1.0,
                (
                  hexadecimal_ok bank.cap numbers.1.1.1.0,
                  (
                    hexadecimal_ok bank.mcg numbers.1.1.1.1.0,
                    (
                      hexadecimal_ok bank.status numbers.1.1.1.1.1.0,
                      (hexadecimal_ok bank.addr numbers.1.1.1.1.1.1.0, (hexadecimal_ok bank.misc numbers.1.1.1.1.1.1.1.0, tt)),
                    ),
                  ),
                ),
              ),
            ),
          ),
        ),
      ),
    )

all_both : (P : Line → Type 0) (xs ys : List Line) → AllByRecursion P xs → AllByRecursion P ys → AllByRecursion P (xs ++ ys)
all_both P [] ys one other = other
all_both P (x ∷ xs) ys one other = (one.0, all_both P xs ys one.1 other)

abbrev TextOk : Line → Type 0
TextOk line = LineOk (line_text line)

texts_ok : (lines : List Line) → AllByRecursion TextOk lines → AllByRecursion LineOk (map line_text lines)
texts_ok [] all = tt
texts_ok (line ∷ lines) all = (all.0, texts_ok lines all.1)

machine_ok : AllByRecursion TextOk machine_lines
machine_ok =
    let m0 : TextOk (Row (Module (codes "M0") 0 7 0)) = module_ok (codes "M0") 0 (literal_ok (codes "M0") refl (omega arith)) (omega arith) in
    let m1 : TextOk (Row (Module (codes "M1") 0 7 1)) = module_ok (codes "M1") 1 (literal_ok (codes "M1") refl (omega arith)) (omega arith) in
    let m2 : TextOk (Row (Module (codes "M2") 0 7 2)) = module_ok (codes "M2") 2 (literal_ok (codes "M2") refl (omega arith)) (omega arith) in
    let m3 : TextOk (Row (Module (codes "M3") 0 7 3)) = module_ok (codes "M3") 3 (literal_ok (codes "M3") refl (omega arith)) (omega arith) in
    (cpu_ok, (m0, (m1, (m2, (m3, tt)))))

banks_ok : (n : ℕ) → n ≤ MOST_LINES → AllByRecursion TextOk (bank_lines n)
unfolding bank_lines
banks_ok zero few = tt
banks_ok (suc n) few =
    all_both TextOk (bank_lines n) (bank_line (n + 1) ∷ []) (banks_ok n (omega arith))
    (bank_ok (load_bank (bank_number (n + 1)) (generated (bank_number (n + 1)))) (line_in_range (n + 1) (omega arith)), tt)

count_lines : (n : ℕ) → length (bank_lines n) ≡ n
unfolding bank_lines
count_lines zero = refl
count_lines (suc n) = omega (arith, count_lines n, length-append (bank_lines n) (bank_line (n + 1) ∷ []))

pub lines_whole : (n : ℕ) → n ≤ MOST_LINES → script_lines (load_script n) ≡ record { whole = map line_text (load_lines n); ending = script_ended }
lines_whole n few =
    let same : length (map line_text (load_lines n)) ≡ length (load_lines n) = length-map (load_lines n) line_text in
    short_script (map line_text (load_lines n)) (texts_ok (load_lines n) (all_both TextOk machine_lines (bank_lines n) machine_ok (banks_ok n few)))
    (omega (arith, few, count_lines n, same, length-append machine_lines (bank_lines n)))
