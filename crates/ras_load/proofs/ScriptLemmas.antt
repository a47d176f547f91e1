-- The text of a made-up script, line by line.
use Rattle.std.proofs.Common.{◌≡◌, ℕ, ◌+◌, ◌-◌, ◌%◌, ◌==◌, suc, cond, Bool, true, false, List, [], ◌∷◌, ◌++◌, map, codes, refl, sym, ap, ◌∙◌, arith, append-nil, append_assoc}
use Rattle.std.specs.Fmt.{digits}
use Rattle.std.proofs.lemmas.List.Concat.{flat_map-append}
use Rattle.ras_base.specs.Text.{line_with}
use Rattle.ras_load.specs.LoadScript.{bank_line, bank_lines, bank_number, generated, load_bank, load_script, machine_lines, next_number}
use Rattle.ras_script.specs.LineLaws.{line_text}
use Rattle.ras_script.specs.SplittingLaws.{script_of}
use Rattle.ras_script.specs.declared.line.Line.{Line}
use Rattle.ras_script.specs.declared.line.Line.TheVariants.{Report}
use Rattle.ras_script.specs.declared.line.ErrorReport.TheVariants.{Bank}
use Rattle.ras_facts.specs.declared.bank.BankReport.{BankReport}

-- lines as the text of a script, and the lines of two lists
abbrev text_of : List Line → List ℕ
text_of lines = script_of (map line_text lines)

map_both : (xs ys : List Line) → map line_text (xs ++ ys) ≡ map line_text xs ++ map line_text ys
map_both [] ys = refl
map_both (x ∷ xs) ys = ap (λ (l : List (List ℕ)). line_text x ∷ l) (map_both xs ys)

text_both : (xs ys : List Line) → text_of (xs ++ ys) ≡ text_of xs ++ text_of ys
text_both xs ys = ap script_of (map_both xs ys) ∙ flat_map-append (λ (line : List ℕ). line ++ 10 ∷ []) (map line_text xs) (map line_text ys)

-- The number after the number at an index.
pub number_step : (n : ℕ) → generated (n + 1) ≡ next_number (generated n)
unfolding generated
number_step n = let is : n + 1 ≡ suc n = omega arith in ap generated is

lines_step : (n : ℕ) → bank_lines (n + 1) ≡ bank_lines n ++ bank_line (n + 1) ∷ []
unfolding bank_lines
lines_step n = let is : n + 1 ≡ suc n = omega arith in ap bank_lines is

pub no_lines : bank_lines 0 ≡ []
unfolding bank_lines
no_lines = refl

pub first_number : generated 0 ≡ 1
unfolding generated
first_number = refl

-- which report a line asks for
tenth_is : (n : ℕ) (test : Bool) → (n + 1) % 10 ≡ 0 → ((n + 1) % 10 == 0) ≡ test → cond test (n + 1 - 1) (n + 1) ≡ n
tenth_is n true is t = omega arith
tenth_is n false is t = grind (arith, is, t)

other_is : (n : ℕ) (test : Bool) → ¬ ((n + 1) % 10 ≡ 0) → ((n + 1) % 10 == 0) ≡ test → cond test (n + 1 - 1) (n + 1) ≡ n + 1
other_is n true isnt t = grind (arith, isnt, t)
other_is n false isnt t = refl

-- One more line: its own report, or for every tenth line the report of the line before it.
module _ (start text new : List ℕ) (n : ℕ) (bank : BankReport) (so_far : text ≡ start ++ text_of (bank_lines n)) (added : new ≡ text ++ line_with (line_text (Report (Bank bank)))) where
  line_more : bank ≡ load_bank (bank_number (n + 1)) (generated (bank_number (n + 1))) → new ≡ start ++ text_of (bank_lines (n + 1))
  line_more is =
      added ∙ ap (λ t. t ++ line_with (line_text (Report (Bank bank)))) so_far
      ∙ append_assoc start (text_of (bank_lines n)) (line_with (line_text (Report (Bank bank))))
      ∙ ap (λ t. start ++ t) (
      ap (λ b. text_of (bank_lines n) ++ line_with (line_text (Report (Bank b)))) is
      ∙ ap (λ t. text_of (bank_lines n) ++ t) (sym (append-nil (line_with (line_text (bank_line (n + 1))))))
      ∙ sym (text_both (bank_lines n) (bank_line (n + 1) ∷ []))
      ∙ sym (ap text_of (lines_step n)))

  pub tenth_more : (n + 1) % 10 ≡ 0 → bank ≡ load_bank n (generated n) → new ≡ start ++ text_of (bank_lines (n + 1))
  tenth_more tenth is = line_more (is ∙ ap (λ r. load_bank r (generated r)) (sym (tenth_is n ((n + 1) % 10 == 0) tenth refl)))

  pub other_more : ¬ ((n + 1) % 10 ≡ 0) → bank ≡ load_bank (n + 1) (generated (n + 1)) → new ≡ start ++ text_of (bank_lines (n + 1))
  other_more other is = line_more (is ∙ ap (λ r. load_bank r (generated r)) (sym (other_is n ((n + 1) % 10 == 0) other refl)))

-- the machine description as text, and the script
abbrev pub machine_bytes : List ℕ
machine_bytes = codes "cpu 0 0\nmodule M0 0 7 0\nmodule M1 0 7 1\nmodule M2 0 7 2\nmodule M3 0 7 3\n"

machine_text : text_of machine_lines ≡ machine_bytes
unfolding digits
machine_text = refl

pub script_is : (n : ℕ) → machine_bytes ++ text_of (bank_lines n) ≡ load_script n
script_is n = ap (λ t. t ++ text_of (bank_lines n)) (sym machine_text) ∙ sym (text_both machine_lines (bank_lines n))
