-- What `places` gives of a list that grows.
use Rattle.std.specs.Prelude.{◌≡◌, List, [], ◌∷◌, ◌++◌}
use Rattle.std.proofs.Common.{refl, ap, append_assoc, append-nil}
use Rattle.ras_base.specs.Places.{places_behind, places}

pub places_behind-append : {X : Type 0} (before xs ys : List X)
    → places_behind before (xs ++ ys) ≡ places_behind before xs ++ places_behind (before ++ xs) ys
places_behind-append before [] ys = rw append-nil refl
places_behind-append {X} before (x ∷ xs) ys =
    let rest : List (List X × X) → List (List X × X) = λ tail. (before, x) ∷ tail in
    let step : places_behind (before ++ x ∷ []) (xs ++ ys) ≡ places_behind (before ++ x ∷ []) xs ++ places_behind ((before ++ x ∷ []) ++ xs) ys = places_behind-append (before ++ x ∷ []) xs ys in
    ap rest (rw append_assoc at step)

-- One more element comes after all others.
pub places-snoc : {X : Type 0} (xs : List X) (x : X) → places (xs ++ x ∷ []) ≡ places xs ++ (xs, x) ∷ []
places-snoc xs x = places_behind-append [] xs (x ∷ [])
