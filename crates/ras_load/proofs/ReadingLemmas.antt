-- The lines of a made-up script are in range, and are read as they were written.
use Rattle.std.proofs.Common.{◌≡◌, ℕ, ◌+◌, ◌-◌, ◌%◌, ◌<◌, ◌≤◌, ◌==◌, suc, zero, cond, Bool, true, false, List, [], ◌∷◌, ◌++◌, map, Ok, refl, arith}
use Rattle.std.specs.List.{AllByRecursion}
use Rattle.ras_load.specs.LoadScript.{bank_line, bank_lines, bank_number, generated, load_bank, load_lines, machine_lines}
use Rattle.ras_load.specs.declared.script.TheConstants.{MOST_LINES}
use Rattle.ras_script.proofs.LineTextLemmas.{text_read}
use Rattle.ras_script.specs.Line.{line_of}
use Rattle.ras_script.specs.LineLaws.{IsBankInRange, IsInRange, line_text}
use Rattle.ras_script.specs.declared.line.Line.{Line}

both : {X : Type 0} (P : X → Type 0) (xs ys : List X) → AllByRecursion P xs → AllByRecursion P ys → AllByRecursion P (xs ++ ys)
both P [] ys one other = other
both P (x ∷ xs) ys one other = (one.0, both P xs ys one.1 other)

machine_in_range : AllByRecursion IsInRange machine_lines
machine_in_range =
    let m0 : 0 ≤ 14 = omega arith in
    let m1 : 1 ≤ 14 = omega arith in
    let m2 : 2 ≤ 14 = omega arith in
    let m3 : 3 ≤ 14 = omega arith in
    let zero : 0 < 256 = omega arith in
    let seven : 7 < 256 = omega arith in
    let cpu : 0 < 65536 = omega arith in
    ((cpu, zero), ((refl, zero, seven, m0), ((refl, zero, seven, m1), ((refl, zero, seven, m2), ((refl, zero, seven, m3), tt)))))

bank_in_range : (i number : ℕ) → i ≤ MOST_LINES → IsBankInRange (load_bank i number)
bank_in_range i number few =
    ((omega arith, (omega arith, (omega arith, (omega arith, (omega arith, (omega arith, (omega arith, (omega arith, tt)))))))), omega arith, omega arith)

-- The report of a line is its own or the report of the line before it.
number_within : (i : ℕ) (test : Bool) → cond test (i - 1) i ≤ i
number_within i true = omega arith
number_within i false = omega arith

pub line_in_range : (i : ℕ) → i ≤ MOST_LINES → IsBankInRange (load_bank (bank_number i) (generated (bank_number i)))
line_in_range i few =
    let within : bank_number i ≤ i = number_within i (i % 10 == 0) in
    bank_in_range (bank_number i) (generated (bank_number i)) (omega (arith, within))

banks_in_range : (n : ℕ) → n ≤ MOST_LINES → AllByRecursion IsInRange (bank_lines n)
unfolding bank_lines
banks_in_range zero few = tt
banks_in_range (suc n) few =
    both IsInRange (bank_lines n) (bank_line (n + 1) ∷ []) (banks_in_range n (omega arith)) (line_in_range (n + 1) (omega arith), tt)

pub lines_in_range : (n : ℕ) → n ≤ MOST_LINES → AllByRecursion IsInRange (load_lines n)
lines_in_range n few = both IsInRange machine_lines (bank_lines n) machine_in_range (banks_in_range n few)

read_all : (lines : List Line) → AllByRecursion IsInRange lines → map line_of (map line_text lines) ≡ map Ok lines
read_all [] range = refl
read_all (line ∷ lines) range = λ i. text_read line range.0 i ∷ read_all lines range.1 i

pub lines_read : (n : ℕ) → n ≤ MOST_LINES → map line_of (map line_text (load_lines n)) ≡ map Ok (load_lines n)
lines_read n few = read_all (load_lines n) (lines_in_range n few)
