-- Lists of words by their lengths.
use Rattle.std.proofs.Common.{◌≡◌, ℕ, ◌<◌, ◌≤◌, List, [], ◌∷◌, length, map, get_or, refl, arith, Bor, Err}
use Rattle.ras_script.specs.declared.line.LineRefused.{LineRefused}
use Rattle.ras_script.specs.Fields.{read_report}

-- the word at an index, as a slice pattern gives it
abbrev pub at : List (Bor (List ℕ)) → ℕ → List ℕ
at words place = (get_or words place record { ref_ptr = (0, 0); now = [] }).now

pub three : (words : List (Bor (List ℕ))) → 3 ≤ length words → length words < 4 → map (λ word. word.now) words ≡ at words 0 ∷ at words 1 ∷ at words 2 ∷ []
three (a ∷ b ∷ c ∷ []) some few = refl
three words some few = absurd (omega arith)

pub four : (words : List (Bor (List ℕ))) → 4 ≤ length words → length words < 5 → map (λ word. word.now) words ≡ at words 0 ∷ at words 1 ∷ at words 2 ∷ at words 3 ∷ []
four (a ∷ b ∷ c ∷ d ∷ []) some few = refl
four words some few = absurd (omega arith)

pub five : (words : List (Bor (List ℕ))) → 5 ≤ length words → length words < 6 → map (λ word. word.now) words ≡ at words 0 ∷ at words 1 ∷ at words 2 ∷ at words 3 ∷ at words 4 ∷ []
five (a ∷ b ∷ c ∷ d ∷ e ∷ []) some few = refl
five words some few = absurd (omega arith)

pub ten : (words : List (Bor (List ℕ))) → 10 ≤ length words → length words < 11 → map (λ word. word.now) words ≡ at words 0 ∷ at words 1 ∷ at words 2 ∷ at words 3 ∷ at words 4 ∷ at words 5 ∷ at words 6 ∷ at words 7 ∷ at words 8 ∷ at words 9 ∷ []
ten (a ∷ b ∷ c ∷ d ∷ e ∷ f ∷ g ∷ h ∷ i ∷ j ∷ []) some few = refl
ten words some few = absurd (omega arith)

-- Too few words for a bank.
pub too_few : (words : List (Bor (List ℕ))) → length words < 10 → read_report (map (λ word. word.now) words) ≡ Err LineRefused.Words
too_few (a ∷ b ∷ c ∷ d ∷ e ∷ f ∷ g ∷ h ∷ i ∷ j ∷ []) few = absurd (omega arith)
too_few words few = refl

pub too_many : (words : List (Bor (List ℕ))) → 11 ≤ length words → read_report (map (λ word. word.now) words) ≡ Err LineRefused.Words
too_many (a ∷ b ∷ c ∷ d ∷ e ∷ f ∷ g ∷ h ∷ i ∷ j ∷ []) many = absurd (omega arith)
too_many words many = refl
