-- The numbers of the lines of `klog` fit their types.
use Rattle.std.proofs.Common.{◌≡◌, ℕ, ◌-◌, ◌^◌, ◌<◌, ◌≤◌, ◌&&◌, Bool, true, false, List, [], ◌∷◌, refl, arith, Option, None, Some, if◌then◌else◌, is_some, nat_eq, nat_le, nat_lt, unwrap_or, codes, drop, length, take}
use Rattle.std.specs.Prelude.{⊤}
use Rattle.std.proofs.lemmas.Bool.Decides.{nat_tests}
use Rattle.std.specs.List.{AllByRecursion, ends_with, list_all}
use Rattle.std.specs.Option.{option_map, option_map_or}
use Rattle.std.specs.Str.{bytes_eq}
use Rattle.std.specs.Str.Parse.{digits_value}
use Rattle.ras_klog.specs.Reading.{after_marker, bank_of, check_of, colon_number, is_empty, is_vendor_and_model, klog_line_of, named, parts_of, processor_line_of, provided, read_then, start_line_of, told_by_words, tsc_of, word}
use Rattle.ras_klog.specs.declared.line.KlogLine.{KlogLine}
use Rattle.ras_klog.specs.declared.line.KlogLine.TheVariants.{Start, Tsc, Processor, Other}
use Rattle.ras_script.specs.Number.{decimal_of, hexadecimal_of, is_numeral, numeral_value}
use Rattle.bank_lines.specs.EdacLines.{driver_text, edac_bank, edac_line_of, edac_mark, edac_processor, edac_register, edac_start, edac_vendor, is_check, is_of_edac, edac_number}
use Rattle.bank_lines.specs.EdacReports.{edac_after, marked_told, told_lines}
use Rattle.bank_lines.specs.LogHeads.{after, is_own, up_to}
use Rattle.bank_lines.specs.LogLines.{driver_told, edac_line_after, edac_told_by, is_cut, is_of_report, log_line_after, log_line_by, log_line_of, log_mark, mark_of, line_told_by, left_unread, printed_plain, vendor_of, with_vendor}
use Rattle.bank_lines.specs.Parts.{cut_at, value_after}
use Rattle.bank_lines.specs.declared.edac_line.EdacLine.{EdacLine}
use Rattle.bank_lines.specs.declared.edac_line.EdacLine.TheVariants as Edac
use Rattle.bank_lines.specs.declared.edac_report.EdacReport.{EdacReport}
use Rattle.bank_lines.specs.declared.edac_report.EdacReport.TheVariants.{Idle, Begun, Counted, Placed, Told}
use Rattle.bank_lines.specs.declared.log_line.LogLine.{LogLine}
use Rattle.bank_lines.specs.declared.log_line.LogLine.TheVariants.{Nothing, Unread, Part}
use Rattle.bank_lines.specs.declared.log_line.MarkedLine.{MarkedLine}
use Rattle.bank_lines.specs.declared.log_line.MarkedLine.TheVariants as Marked
use Rattle.bank_lines.specs.declared.log_line.Print.{Print}
use Rattle.bank_lines.specs.declared.mark.LogMark.{LogMark}
use Rattle.bank_lines.specs.declared.mark.LogMark.TheVariants.{AtPlain, AtEdac}

-- a statement holds of an option's value, if there is one
abbrev pub Each : {A : Type 0} → (A → Type 0) → Option A → Type 0
Each P None = ⊤
Each P (Some x) = P x

-- the numbers of a line of `klog` fit their types
abbrev pub IsLineInRange : KlogLine → Type 0
IsLineInRange (Start cpu mcg bank status) = (cpu < 2 ^ 16) × (mcg < 2 ^ 64) × (bank < 2 ^ 8) × (status < 2 ^ 64)
IsLineInRange (Tsc tsc addr misc) = (tsc < 2 ^ 64) × (addr < 2 ^ 64) × (misc < 2 ^ 64)
IsLineInRange (Processor seconds) = seconds < 2 ^ 64
IsLineInRange Other = ⊤

-- the numbers of a line of a log fit their types
abbrev pub IsLogLineInRange : LogLine → Type 0
IsLogLineInRange (Part line print vendor) = IsLineInRange line × (vendor < 2 ^ 64)
IsLogLineInRange line = ⊤

-- ---- numbers

numeral_within : (radix longest most : ℕ) (w : List ℕ) → Each (λ n. n ≤ most) (numeral_value radix longest most w)
numeral_within radix longest most w = by (is_numeral radix longest w) (nat_le (digits_value radix w) most) refl
  where
    by : (numeral fits : Bool) → nat_le (digits_value radix w) most ≡ fits
        → Each (λ n. n ≤ most) (if numeral && fits then Some (digits_value radix w) else None)
    by true true h = grind (arith, nat_tests, h)
    by true false h = tt
    by false fits h = tt

pub each_then : {A B : Type 0} (P : A → Type 0) (Q : B → Type 0) (o : Option A) (next : A → Option B)
    → Each P o → ((x : A) → P x → Each Q (next x)) → Each Q (read_then o next)
each_then P Q None next h step = tt
each_then P Q (Some x) next h step = step x h

pub each_provided : {A : Type 0} (Q : A → Type 0) (holds : Bool) (o : Option A) → Each Q o → Each Q (provided holds o)
each_provided Q true o h = h
each_provided Q false o h = tt

each_if : {A : Type 0} (Q : A → Type 0) (test : Bool) (o p : Option A) → Each Q o → Each Q p → Each Q (if test then o else p)
each_if Q true o p h k = h
each_if Q false o p h k = k

each_wider : {A : Type 0} (P Q : A → Type 0) (o : Option A) → ((x : A) → P x → Q x) → Each P o → Each Q o
each_wider P Q None wider h = tt
each_wider P Q (Some x) wider h = wider x h

decimal_in : (most : ℕ) (w : List ℕ) → Each (λ n. n ≤ most) (decimal_of most w)
decimal_in most w = numeral_within 10 20 most w

hexadecimal_in : (w : List ℕ) → Each (λ n. n < 2 ^ 64) (hexadecimal_of w)
hexadecimal_in w = each_wider (λ n. n ≤ 2 ^ 64 - 1) (λ n. n < 2 ^ 64) (hexadecimal_of w) (λ n h. omega (arith, h)) (numeral_within 16 16 (2 ^ 64 - 1) w)

colon_in : (most : ℕ) (w : List ℕ) → Each (λ n. n ≤ most) (colon_number most w)
colon_in most w =
    each_if (λ n. n ≤ most) (ends_with nat_eq w (codes ":")) (decimal_of most (take (length w - 1) w)) None (decimal_in most (take (length w - 1) w)) tt

-- ---- lines of `klog`

bank_in : (cpu : ℕ) (words : List (List ℕ)) → cpu < 2 ^ 16 → Each IsLineInRange (bank_of cpu words)
unfolding bank_of
bank_in cpu words small =
    let ended : ℕ → ℕ → ℕ → Option KlogLine = λ mcg bank status. provided (list_all is_empty (drop 4 words)) (Some (Start cpu mcg bank status)) in
    let stated : ℕ → ℕ → Option KlogLine = λ mcg bank. read_then (hexadecimal_of (word words 3)) (λ status. ended mcg bank status) in
    let banked : ℕ → Option KlogLine = λ mcg. read_then (colon_number 255 (word words 2)) (λ bank. stated mcg bank) in
    each_then (λ n. n < 2 ^ 64) IsLineInRange (hexadecimal_of (word words 0)) (λ mcg. provided (bytes_eq (word words 1) (codes "Bank")) (banked mcg)) (hexadecimal_in (word words 0)) (λ mcg m.
    each_provided IsLineInRange (bytes_eq (word words 1) (codes "Bank")) (banked mcg) (
    each_then (λ n. n ≤ 255) IsLineInRange (colon_number 255 (word words 2)) (λ bank. stated mcg bank) (colon_in 255 (word words 2)) (λ bank b.
    each_then (λ n. n < 2 ^ 64) IsLineInRange (hexadecimal_of (word words 3)) (λ status. ended mcg bank status) (hexadecimal_in (word words 3)) (λ status s.
    each_provided IsLineInRange (list_all is_empty (drop 4 words)) (Some (Start cpu mcg bank status)) (small, m, omega (arith, b), s)))))

check_in : (cpu : ℕ) (words : List (List ℕ)) → cpu < 2 ^ 16 → Each IsLineInRange (check_of cpu words)
unfolding check_of
check_in cpu words small =
    let exception : Option KlogLine = provided (bytes_eq (word words 1) (codes "Exception:")) (bank_of cpu (drop 2 words)) in
    each_if IsLineInRange (bytes_eq (word words 0) (codes "Check:")) (bank_of cpu (drop 1 words)) (provided (bytes_eq (word words 0) (codes "Check")) exception) (bank_in cpu (drop 1 words) small) (
    each_provided IsLineInRange (bytes_eq (word words 0) (codes "Check")) exception (
    each_provided IsLineInRange (bytes_eq (word words 1) (codes "Exception:")) (bank_of cpu (drop 2 words)) (bank_in cpu (drop 2 words) small)))

start_in : (words : List (List ℕ)) → Each IsLineInRange (start_line_of words)
unfolding start_line_of
start_in words =
    each_then (λ n. n ≤ 65535) IsLineInRange (colon_number 65535 (word words 0)) (λ cpu. provided (bytes_eq (word words 1) (codes "Machine")) (check_of cpu (drop 2 words))) (colon_in 65535 (word words 0)) (λ cpu c.
    each_provided IsLineInRange (bytes_eq (word words 1) (codes "Machine")) (check_of cpu (drop 2 words)) (check_in cpu (drop 2 words) (omega (arith, c))))

named_in : (name : List ℕ) (words : List (List ℕ)) → (named name words).0 < 2 ^ 64
unfolding named
named_in name words =
    by (bytes_eq (word words 0) name) refl (hexadecimal_of (word words 1)) refl (hexadecimal_in (word words 1))
  where
    by : (is : Bool) → bytes_eq (word words 0) name ≡ is
        → (number : Option ℕ) → hexadecimal_of (word words 1) ≡ number → Each (λ n. n < 2 ^ 64) number
        → (named name words).0 < 2 ^ 64
    by false is number reads small = rw is (omega arith)
    by true is None reads small = rw is (rw reads (omega arith))
    by true is (Some n) reads small = rw is (rw reads small)

tsc_in : (words : List (List ℕ)) → Each IsLineInRange (tsc_of words)
unfolding tsc_of
tsc_in words =
    each_then (λ n. n < 2 ^ 64) IsLineInRange (hexadecimal_of (word words 0)) _ (hexadecimal_in (word words 0)) (λ tsc t.
    (t, named_in (codes "ADDR") (drop 1 words), named_in (codes "MISC") (named (codes "ADDR") (drop 1 words)).1))

processor_in : (words : List (List ℕ)) → Each IsLineInRange (processor_line_of words)
unfolding processor_line_of
processor_in words =
    let read : Option KlogLine = read_then (decimal_of (2 ^ 64 - 1) (word words 2)) (λ seconds. Some (Processor seconds)) in
    let small : Each IsLineInRange read =
    each_then (λ n. n ≤ 2 ^ 64 - 1) IsLineInRange (decimal_of (2 ^ 64 - 1) (word words 2)) (λ seconds. Some (Processor seconds)) (decimal_in (2 ^ 64 - 1) (word words 2)) (λ seconds s. omega (arith, s)) in
    each_provided IsLineInRange (is_vendor_and_model (word words 0)) (provided (bytes_eq (word words 1) (codes "TIME")) read) (
    each_provided IsLineInRange (bytes_eq (word words 1) (codes "TIME")) read small)

words_in : (words : List (List ℕ)) → Each IsLineInRange (told_by_words words)
words_in words =
    let timed : Option KlogLine = provided (bytes_eq (word words 0) (codes "PROCESSOR")) (processor_line_of (drop 1 words)) in
    let counted : Option KlogLine = if bytes_eq (word words 0) (codes "TSC") then tsc_of (drop 1 words) else timed in
    each_if IsLineInRange (bytes_eq (word words 0) (codes "CPU")) (start_line_of (drop 1 words)) counted (start_in (drop 1 words)) (
    each_if IsLineInRange (bytes_eq (word words 0) (codes "TSC")) (tsc_of (drop 1 words)) timed (tsc_in (drop 1 words)) (
    each_provided IsLineInRange (bytes_eq (word words 0) (codes "PROCESSOR")) (processor_line_of (drop 1 words)) (processor_in (drop 1 words))))

line_or_other : (o : Option KlogLine) → Each IsLineInRange o → IsLineInRange (unwrap_or o Other)
line_or_other None h = tt
line_or_other (Some line) h = h

klog_in : (bytes : List ℕ) → IsLineInRange (klog_line_of bytes)
klog_in bytes =
    line_or_other _ (each_then (λ text. ⊤) IsLineInRange (after_marker bytes) (λ text. told_by_words (parts_of text)) (all (after_marker bytes)) (λ text t. words_in (parts_of text)))
  where
    all : (o : Option (List ℕ)) → Each (λ text. ⊤) o
    all None = tt
    all (Some text) = tt

-- ---- lines of a log

vendor_in : (text : List ℕ) → Each (λ n. n ≤ 2 ^ 64 - 1) (vendor_of text)
vendor_in text =
    each_if (λ n. n ≤ 2 ^ 64 - 1) (is_cut text) None (decimal_of (2 ^ 64 - 1) (up_to 58 (after 32 text))) tt (decimal_in (2 ^ 64 - 1) (up_to 58 (after 32 text)))

timed_in : (print : Print) (seconds : ℕ) (vendor : Option ℕ) → seconds < 2 ^ 64 → Each (λ n. n ≤ 2 ^ 64 - 1) vendor
    → IsLogLineInRange (with_vendor print seconds vendor)
timed_in print seconds None t v = tt
timed_in print seconds (Some vendor) t v = (t, omega (arith, v))

untold_in : (text : List ℕ) → IsLogLineInRange (left_unread text)
untold_in text = by (is_of_report text)
  where
    by : (is : Bool) → IsLogLineInRange (if is then Unread else Nothing)
    by true = tt
    by false = tt

told_in : (print : Print) (text : List ℕ) (line : KlogLine) → IsLineInRange line → IsLogLineInRange (line_told_by print text line)
told_in print text Other h = untold_in text
told_in print text (Processor seconds) h = timed_in print seconds (vendor_of text) h (vendor_in text)
told_in print text (Start cpu mcg bank status) h = (h, omega arith)
told_in print text (Tsc tsc addr misc) h = (h, omega arith)

own_or_other : (is : Bool) (line other : LogLine) → IsLogLineInRange line → IsLogLineInRange other → IsLogLineInRange (if is then line else other)
own_or_other true line other h k = h
own_or_other false line other h k = k

after_in : (head marked : List ℕ) → IsLogLineInRange (log_line_after head marked)
after_in head marked =
    let text : List ℕ = drop (length log_mark) marked in
    own_or_other (is_own head) _ _ (told_in printed_plain text (klog_line_of marked) (klog_in marked)) (untold_in text)

-- ---- EDAC's lines

abbrev IsEdacLineInRange : EdacLine → Type 0
IsEdacLineInRange (Edac.Start cpu mcg bank status) = (cpu < 2 ^ 16) × (mcg < 2 ^ 64) × (bank < 2 ^ 8) × (status < 2 ^ 64)
IsEdacLineInRange (Edac.Tsc n) = n < 2 ^ 64
IsEdacLineInRange (Edac.Addr n) = n < 2 ^ 64
IsEdacLineInRange (Edac.Misc n) = n < 2 ^ 64
IsEdacLineInRange (Edac.Processor vendor seconds) = (vendor < 2 ^ 64) × (seconds < 2 ^ 64)

register_in : (w : List ℕ) → Each (λ n. n < 2 ^ 64) (edac_number w)
unfolding edac_number
register_in w = hexadecimal_in (option_map_or (λ digits. digits) (value_after (codes "0x") w) w)

edac_register_in : (words : List (List ℕ)) → Each (λ n. n < 2 ^ 64) (edac_register words)
unfolding edac_register
edac_register_in words =
    each_then (λ n. n < 2 ^ 64) (λ n. n < 2 ^ 64) (edac_number (word words 0)) (λ register. provided (list_all is_empty (drop 1 words)) (Some register)) (register_in (word words 0)) (λ register r.
    each_provided (λ n. n < 2 ^ 64) (list_all is_empty (drop 1 words)) (Some register) r)

edac_bank_in : (cpu : ℕ) (words : List (List ℕ)) → cpu < 2 ^ 16 → Each IsEdacLineInRange (edac_bank cpu words)
unfolding edac_bank
edac_bank_in cpu words small =
    let stated : ℕ → ℕ → Option EdacLine = λ mcg bank. read_then (edac_register (drop 3 words)) (λ status. Some (Edac.Start cpu mcg bank status)) in
    let banked : ℕ → Option EdacLine = λ mcg. read_then (colon_number 255 (word words 2)) (λ bank. stated mcg bank) in
    each_then (λ n. n < 2 ^ 64) IsEdacLineInRange (edac_number (word words 0)) (λ mcg. provided (bytes_eq (word words 1) (codes "Bank")) (banked mcg)) (register_in (word words 0)) (λ mcg m.
    each_provided IsEdacLineInRange (bytes_eq (word words 1) (codes "Bank")) (banked mcg) (
    each_then (λ n. n ≤ 255) IsEdacLineInRange (colon_number 255 (word words 2)) (λ bank. stated mcg bank) (colon_in 255 (word words 2)) (λ bank b.
    each_then (λ n. n < 2 ^ 64) IsEdacLineInRange (edac_register (drop 3 words)) (λ status. Some (Edac.Start cpu mcg bank status)) (edac_register_in (drop 3 words)) (λ status s.
    (small, m, omega (arith, b), s)))))

edac_start_in : (words : List (List ℕ)) → Each IsEdacLineInRange (edac_start words)
unfolding edac_start
edac_start_in words =
    let checked : ℕ → Option EdacLine = λ cpu. provided (is_check (word words 3)) (edac_bank cpu (drop 4 words)) in
    let named : ℕ → Option EdacLine = λ cpu. provided (bytes_eq (word words 2) (codes "Check")) (checked cpu) in
    each_then (λ n. n ≤ 65535) IsEdacLineInRange (colon_number 65535 (word words 0)) (λ cpu. provided (bytes_eq (word words 1) (codes "Machine")) (named cpu)) (colon_in 65535 (word words 0)) (λ cpu c.
    each_provided IsEdacLineInRange (bytes_eq (word words 1) (codes "Machine")) (named cpu) (
    each_provided IsEdacLineInRange (bytes_eq (word words 2) (codes "Check")) (checked cpu) (
    each_provided IsEdacLineInRange (is_check (word words 3)) (edac_bank cpu (drop 4 words)) (edac_bank_in cpu (drop 4 words) (omega (arith, c))))))

edac_vendor_in : (w : List ℕ) → Each (λ n. n ≤ 2 ^ 64 - 1) (edac_vendor w)
edac_vendor_in w = each_provided (λ n. n ≤ 2 ^ 64 - 1) (is_some (edac_number (after 58 w))) (decimal_of (2 ^ 64 - 1) (up_to 58 w)) (decimal_in (2 ^ 64 - 1) (up_to 58 w))

edac_processor_in : (words : List (List ℕ)) → Each IsEdacLineInRange (edac_processor words)
unfolding edac_processor
edac_processor_in words =
    let ended : ℕ → ℕ → Option EdacLine = λ vendor seconds. provided (nat_lt 3 (length words)) (Some (Edac.Processor vendor seconds)) in
    let timed : ℕ → Option EdacLine = λ vendor. read_then (decimal_of (2 ^ 64 - 1) (word words 2)) (λ seconds. ended vendor seconds) in
    each_then (λ n. n ≤ 2 ^ 64 - 1) IsEdacLineInRange (edac_vendor (word words 0)) (λ vendor. provided (bytes_eq (word words 1) (codes "TIME")) (timed vendor)) (edac_vendor_in (word words 0)) (λ vendor v.
    each_provided IsEdacLineInRange (bytes_eq (word words 1) (codes "TIME")) (timed vendor) (
    each_then (λ n. n ≤ 2 ^ 64 - 1) IsEdacLineInRange (decimal_of (2 ^ 64 - 1) (word words 2)) (λ seconds. ended vendor seconds) (decimal_in (2 ^ 64 - 1) (word words 2)) (λ seconds s.
    each_provided IsEdacLineInRange (nat_lt 3 (length words)) (Some (Edac.Processor vendor seconds)) (omega (arith, v), omega (arith, s)))))

each_map : {A B : Type 0} (P : A → Type 0) (Q : B → Type 0) (f : A → B) (o : Option A) → Each P o → ((x : A) → P x → Q (f x)) → Each Q (option_map f o)
each_map P Q f None h step = tt
each_map P Q f (Some x) h step = step x h

edac_line_in : (text : List ℕ) → Each IsEdacLineInRange (edac_line_of text)
edac_line_in text =
    let words : List (List ℕ) = cut_at 32 text in
    let rest : List (List ℕ) = drop 1 words in
    let kind : List ℕ = word words 0 in
    let registers : Option ℕ = edac_register rest in
    let misc : Option EdacLine = option_map (λ n. Edac.Misc n) registers in
    let addr : Option EdacLine = option_map (λ n. Edac.Addr n) registers in
    let tsc : Option EdacLine = option_map (λ n. Edac.Tsc n) registers in
    let placed : Option EdacLine = if bytes_eq kind (codes "ADDR") then addr else misc in
    let counted : Option EdacLine = if bytes_eq kind (codes "TSC") then tsc else placed in
    let timed : Option EdacLine = if bytes_eq kind (codes "PROCESSOR") then edac_processor rest else counted in
    let small : Each (λ n. n < 2 ^ 64) registers = edac_register_in rest in
    each_if IsEdacLineInRange (bytes_eq kind (codes "CPU")) (edac_start rest) timed (edac_start_in rest) (
    each_if IsEdacLineInRange (bytes_eq kind (codes "PROCESSOR")) (edac_processor rest) counted (edac_processor_in rest) (
    each_if IsEdacLineInRange (bytes_eq kind (codes "TSC")) tsc placed (each_map (λ n. n < 2 ^ 64) IsEdacLineInRange (λ n. Edac.Tsc n) registers small (λ n h. h)) (
    each_if IsEdacLineInRange (bytes_eq kind (codes "ADDR")) addr misc (each_map (λ n. n < 2 ^ 64) IsEdacLineInRange (λ n. Edac.Addr n) registers small (λ n h. h)) (
    each_map (λ n. n < 2 ^ 64) IsEdacLineInRange (λ n. Edac.Misc n) registers small (λ n h. h)))))

-- ---- lines by their marks

abbrev IsMarkedInRange : MarkedLine → Type 0
IsMarkedInRange (Marked.Plain line) = IsLogLineInRange line
IsMarkedInRange (Marked.Edac line) = IsEdacLineInRange line

told_by_in : (line : Option EdacLine) → Each IsEdacLineInRange line → IsMarkedInRange (edac_told_by line)
told_by_in None l = tt
told_by_in (Some line) l = l

driver_in : (head text : List ℕ) → IsMarkedInRange (driver_told head text)
driver_in head text = by (is_of_edac text)
  where
    by : (is : Bool) → IsMarkedInRange (if is then edac_told_by (provided (is_own head) (edac_line_of text)) else Marked.Plain Nothing)
    by true = told_by_in _ (each_provided IsEdacLineInRange (is_own head) (edac_line_of text) (edac_line_in text))
    by false = tt

edac_after_in : (head marked : List ℕ) → IsMarkedInRange (edac_line_after head marked)
edac_after_in head marked = by (driver_text (drop (length edac_mark) marked))
  where
    by : (text : Option (List ℕ)) → IsMarkedInRange (option_map_or (driver_told head) text (Marked.Plain Nothing))
    by None = tt
    by (Some text) = driver_in head text

by_in : (line : List ℕ) (mark : Option LogMark) → IsMarkedInRange (log_line_by line mark)
by_in line None = tt
by_in line (Some (AtPlain place)) = after_in (take place line) (drop place line)
by_in line (Some (AtEdac place)) = edac_after_in (take place line) (drop place line)

log_line_in : (line : List ℕ) → IsMarkedInRange (log_line_of line)
log_line_in line = by_in line (mark_of line)

-- ---- what lines tell

abbrev pub IsReportInRange : EdacReport → Type 0
IsReportInRange (Counted tsc) = tsc < 2 ^ 64
IsReportInRange (Placed tsc addr) = (tsc < 2 ^ 64) × (addr < 2 ^ 64)
IsReportInRange report = ⊤

told_marked_in : (report : EdacReport) (line : MarkedLine) → IsReportInRange report → IsMarkedInRange line → IsLogLineInRange (marked_told report line)
told_marked_in report (Marked.Edac (Edac.Start cpu mcg bank status)) r l = (l, omega arith)
told_marked_in Begun (Marked.Edac (Edac.Tsc n)) r l = tt
told_marked_in (Counted tsc) (Marked.Edac (Edac.Addr n)) r l = tt
told_marked_in (Placed tsc addr) (Marked.Edac (Edac.Misc n)) r l = ((r.0, r.1, l), omega arith)
told_marked_in Told (Marked.Edac (Edac.Processor vendor seconds)) r l = (l.1, l.0)
told_marked_in report (Marked.Edac line) r l = tt
told_marked_in report (Marked.Plain (Part (Start cpu mcg bank status) print vendor)) r l = l
told_marked_in Idle (Marked.Plain (Part line print vendor)) r l = l
told_marked_in report (Marked.Plain (Part line print vendor)) r l = tt
told_marked_in report (Marked.Plain Nothing) r l = tt
told_marked_in report (Marked.Plain Unread) r l = tt

edac_next_in : (report : EdacReport) (line : MarkedLine) → IsReportInRange report → IsMarkedInRange line → IsReportInRange (edac_after report line)
edac_next_in report (Marked.Edac (Edac.Start cpu mcg bank status)) r l = tt
edac_next_in Begun (Marked.Edac (Edac.Tsc n)) r l = l
edac_next_in (Counted tsc) (Marked.Edac (Edac.Addr n)) r l = (r, l)
edac_next_in (Placed tsc addr) (Marked.Edac (Edac.Misc n)) r l = tt
edac_next_in Told (Marked.Edac (Edac.Processor vendor seconds)) r l = tt
edac_next_in report (Marked.Edac line) r l = r
edac_next_in report (Marked.Plain (Part (Start cpu mcg bank status) print vendor)) r l = tt
edac_next_in report (Marked.Plain line) r l = r

pub told_lines_in : (report : EdacReport) (lines : List (List ℕ)) → IsReportInRange report → AllByRecursion IsLogLineInRange (told_lines report lines)
told_lines_in report [] r = tt
told_lines_in report (line ∷ lines) r =
    (told_marked_in report (log_line_of line) r (log_line_in line), told_lines_in (edac_after report (log_line_of line)) lines (edac_next_in report (log_line_of line) r (log_line_in line)))
