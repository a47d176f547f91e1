-- The pieces of a comment.
use Rattle.std.proofs.Common.{◌≡◌, ℕ, List, [], ◌∷◌, ◌++◌, refl, sym, ap, ◌∙◌, append_assoc, append-nil}

-- a name, a number and a line feed
pub one_number : (text a b t1 t2 t3 : List ℕ) → t1 ≡ text ++ a → t2 ≡ t1 ++ b → t3 ≡ t2 ++ 10 ∷ [] → t3 ≡ text ++ (((a ++ b) ++ 10 ∷ []) ++ [])
one_number text a b t1 t2 t3 e1 e2 e3 =
    e3 ∙ ap (λ (t : List ℕ). t ++ 10 ∷ []) (e2 ∙ ap (λ (t : List ℕ). t ++ b) e1 ∙ append_assoc text a b) ∙ append_assoc text (a ++ b) (10 ∷ [])
    ∙ ap (λ (t : List ℕ). text ++ t) (sym (append-nil ((a ++ b) ++ 10 ∷ [])))

-- two names with their numbers, and a line feed
pub two_numbers : (text a b c d t1 t2 t3 t4 t5 : List ℕ) → t1 ≡ text ++ a → t2 ≡ t1 ++ b → t3 ≡ t2 ++ c → t4 ≡ t3 ++ d → t5 ≡ t4 ++ 10 ∷ []
    → t5 ≡ text ++ (((a ++ b ++ c ++ d) ++ 10 ∷ []) ++ [])
two_numbers text a b c d t1 t2 t3 t4 t5 e1 e2 e3 e4 e5 =
    let all : t4 ≡ text ++ (a ++ b ++ c ++ d) =
    e4 ∙ ap (λ (t : List ℕ). t ++ d) (e3 ∙ ap (λ (t : List ℕ). t ++ c) (e2 ∙ ap (λ (t : List ℕ). t ++ b) e1)) ∙ simp append_assoc refl in
    e5 ∙ ap (λ (t : List ℕ). t ++ 10 ∷ []) all ∙ append_assoc text (a ++ b ++ c ++ d) (10 ∷ [])
    ∙ ap (λ (t : List ℕ). text ++ t) (sym (append-nil ((a ++ b ++ c ++ d) ++ 10 ∷ [])))
