-- A line of two pieces.
use Rattle.std.proofs.Common.{◌≡◌, ℕ, List, [], ◌∷◌, ◌++◌, refl, ap, ◌∙◌, append_assoc}
use Rattle.ras_base.specs.Text.{line_with}

-- two pieces and a line feed make a line
pub line_of_two : (old a b c d first second third : List ℕ)
    → first ≡ old ++ a ++ b → second ≡ first ++ c ++ d → third ≡ second ++ 10 ∷ []
    → third ≡ old ++ line_with (a ++ b ++ c ++ d)
line_of_two old a b c d first second third one two three =
    three
    ∙ ap (λ (t : List ℕ). t ++ 10 ∷ []) two
    ∙ ap (λ (t : List ℕ). t ++ c ++ d ++ 10 ∷ []) one
    ∙ simp append_assoc refl
