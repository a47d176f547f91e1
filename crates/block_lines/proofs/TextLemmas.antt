-- Texts of several pieces.
use Rattle.std.proofs.Common.{◌≡◌, ℕ, List, [], ◌∷◌, ◌++◌, codes, refl, ap, ◌∙◌, append_assoc, Result, Ok, Err, OnOk}
use Rattle.std.specs.List.{join_with_byte}

-- two pieces, one after the other, if the second is appended to the first
pub two_pieces : {A E : Type 0} (old a b c d first second : List ℕ) (result : Result A E)
    → first ≡ old ++ a ++ b → OnOk result (second ≡ first ++ c ++ d) → OnOk result (second ≡ old ++ (a ++ b ++ c ++ d))
two_pieces old a b c d first second (Ok done) one two =
    two ∙ ap (λ (t : List ℕ). t ++ c ++ d) one ∙ simp append_assoc refl
two_pieces old a b c d first second (Err why) one two = tt

-- the words of a block's line
pub ghes_pieces : (old boot seconds source number hex t1 t2 t3 t4 t5 t6 last : List ℕ)
    → t1 ≡ old ++ codes "ghes " ++ boot → t2 ≡ t1 ++ codes " " ++ seconds → t3 ≡ t2 ++ codes " " ++ source → t4 ≡ t3 ++ codes " " ++ number
    → t5 ≡ t4 ++ 32 ∷ [] → t6 ≡ t5 ++ hex → last ≡ t6 ++ 10 ∷ []
    → last ≡ old ++ join_with_byte 32 (codes "ghes" ∷ boot ∷ seconds ∷ source ∷ number ∷ hex ∷ []) ++ 10 ∷ []
ghes_pieces old boot seconds source number hex t1 t2 t3 t4 t5 t6 last e1 e2 e3 e4 e5 e6 e7 =
    let f2 = e2 ∙ ap (λ (t : List ℕ). t ++ codes " " ++ seconds) e1 in
    let f3 = e3 ∙ ap (λ (t : List ℕ). t ++ codes " " ++ source) f2 in
    let f4 = e4 ∙ ap (λ (t : List ℕ). t ++ codes " " ++ number) f3 in
    let f5 = e5 ∙ ap (λ (t : List ℕ). t ++ 32 ∷ []) f4 in
    let f6 = e6 ∙ ap (λ (t : List ℕ). t ++ hex) f5 in
    e7 ∙ ap (λ (t : List ℕ). t ++ 10 ∷ []) f6 ∙ simp append_assoc refl
