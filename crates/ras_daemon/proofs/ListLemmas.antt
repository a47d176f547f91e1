-- Lists that are cut, filtered and joined, and their beginnings.
use Rattle.std.proofs.Common.{◌≡◌, ℕ, suc, zero, ◌≤◌, Bool, true, false, List, [], ◌∷◌, ◌++◌, length, take, refl, sym, ap, ◌∙◌, arith}
use Rattle.std.specs.Prelude.{filter, if◌then◌else◌}
use Rattle.std.specs.List.{AllByRecursion, flat_map}
use Rattle.std.proofs.lemmas.List.Elements.{filter-append}

-- the first of two joined lists, and a whole list
pub take-front : {X : Type 0} (xs ys : List X) → take (length xs) (xs ++ ys) ≡ xs
take-front [] ys = refl
take-front (x ∷ xs) ys = ap (λ zs. x ∷ zs) (take-front xs ys)

pub take-whole : {X : Type 0} (xs : List X) (n : ℕ) → length xs ≤ n → take n xs ≡ xs
take-whole [] zero most = refl
take-whole [] (suc n) most = refl
take-whole (x ∷ xs) zero most = absurd (omega arith)
take-whole (x ∷ xs) (suc n) most = ap (λ zs. x ∷ zs) (take-whole xs n (omega arith))

-- the elements of the first list that pass are the first that pass
pub take-passing : {X : Type 0} (p : X → Bool) (xs ys : List X) → take (length (filter p xs)) (filter p (xs ++ ys)) ≡ filter p xs
take-passing p xs ys = ap (take (length (filter p xs))) (filter-append p xs ys) ∙ take-front (filter p xs) (filter p ys)

-- elements that don't pass may be left out if they give nothing
pub flat_map-passing : {X Y : Type 0} (p : X → Bool) (f : X → List Y) → ((x : X) → p x ≡ false → f x ≡ []) → (xs : List X) → flat_map f (filter p xs) ≡ flat_map f xs
flat_map-passing p f none [] = refl
flat_map-passing {X} {Y} p f none (x ∷ xs) = by (p x) refl (flat_map-passing p f none xs)
  where
    by : (b : Bool) → p x ≡ b → flat_map f (filter p xs) ≡ flat_map f xs → flat_map f (if b then x ∷ filter p xs else filter p xs) ≡ f x ++ flat_map f xs
    by true is rest = ap (λ (ys : List Y). f x ++ ys) rest
    by false is rest = rest ∙ ap (λ (ys : List Y). ys ++ flat_map f xs) (sym (none x is))

-- a statement about each element of two lists holds of the first list
pub all-front : {X : Type 0} (P : X → Type 0) (xs ys : List X) → AllByRecursion P (xs ++ ys) → AllByRecursion P xs
all-front P [] ys all = tt
all-front P (x ∷ xs) ys all = (all.0, all-front P xs ys all.1)

pub all-weaker : {X : Type 0} (P Q : X → Type 0) → ((x : X) → P x → Q x) → (xs : List X) → AllByRecursion P xs → AllByRecursion Q xs
all-weaker P Q weaker [] all = tt
all-weaker P Q weaker (x ∷ xs) all = (weaker x all.0, all-weaker P Q weaker xs all.1)

pub all-filter : {X : Type 0} (P : X → Type 0) (p : X → Bool) (xs : List X) → AllByRecursion P xs → AllByRecursion P (filter p xs)
all-filter P p [] all = tt
all-filter {X} P p (x ∷ xs) all = by (p x) (all-filter P p xs all.1)
  where
    by : (b : Bool) → AllByRecursion P (filter p xs) → AllByRecursion P (if b then x ∷ filter p xs else filter p xs)
    by true rest = (all.0, rest)
    by false rest = rest
