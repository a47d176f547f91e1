-- Sums and counts that grow with a list.
use Rattle.std.proofs.Common.{◌≡◌, ℕ, ◌+◌, ◌≤◌, Bool, true, false, cond, List, [], ◌∷◌, ◌++◌, take, sum, get_or, Some, ap, refl, ◌∙◌, arith}
use Rattle.std.specs.Prelude.{count_by}
use Rattle.std.specs.List.{slice_get, sum_by}
use Rattle.std.proofs.lemmas.List.{take_more}
use Rattle.std.proofs.lemmas.List.Sums.{sum_by-cons, sum_by_more_le_part, sum_by_push}
use Rattle.std.proofs.lemmas.Option.{slice_get_within, get_or_from_slice_get}
use Rattle.dimm_topology.specs.Labels.{Bytes}
use Rattle.mca_status.specs.declared.classes.ItemClass.TheVariants.{Ce}
use Rattle.ras_account.specs.Account.{weight_in}
use Rattle.ras_account.specs.Modules.{Module}
use Rattle.ras_load.specs.Summary.{class_total, weight_of_class}

-- A list's beginning with one more element.
take_next : {X : Type 0} (xs : List X) (i : ℕ) (x : X) → slice_get xs i ≡ Some x → take (i + 1) xs ≡ take i xs ++ x ∷ []
take_next xs i x is = take_more xs i x (slice_get_within xs i x is) ∙ ap (λ y. take i xs ++ y ∷ []) (get_or_from_slice_get xs i x x is)

pub sum_more : {X : Type 0} (f : X → ℕ) (xs : List X) (i : ℕ) (x : X) → slice_get xs i ≡ Some x → sum_by f (take (i + 1) xs) ≡ sum_by f (take i xs) + f x
sum_more f xs i x is = ap (sum_by f) (take_next xs i x is) ∙ sum_by_push f (take i xs) x

-- The weight of a class is at most all weight, for a module and for the modules so far.
first_within : (xs : List ℕ) → get_or xs 0 0 ≤ sum xs
first_within [] = omega arith
first_within (x ∷ xs) = omega (arith, sum_by-cons (λ y. y) x xs)

class_within : (row : Bytes × Module) → weight_of_class Ce row ≤ sum row.1.sums
class_within row = first_within row.1.sums

pub sum_fits : (rows : List (Bytes × Module)) (i : ℕ) (row : Bytes × Module) (total : ℕ) → slice_get rows i ≡ Some row → total ≡ class_total Ce (take i rows)
    → total + weight_of_class Ce row ≤ weight_in rows
sum_fits rows i row total is so_far =
    let whole : sum_by (weight_of_class Ce) (take i rows) + sum (get_or rows i row).1.sums ≤ weight_in rows =
    sum_by_more_le_part (weight_of_class Ce) (λ r. sum r.1.sums) rows i row (slice_get_within rows i row is) class_within in
    let here : sum (get_or rows i row).1.sums ≡ sum row.1.sums = ap (λ (r : Bytes × Module). sum r.1.sums) (get_or_from_slice_get rows i row row is) in
    let of_class : weight_of_class Ce row ≤ sum row.1.sums = class_within row in
    omega (arith, so_far, whole, here, of_class)

count_more : {X : Type 0} (p : X → Bool) (xs : List X) (i : ℕ) (x : X) → slice_get xs i ≡ Some x → count_by p (take (i + 1) xs) ≡ count_by p (take i xs) + cond (p x) 1 0
count_more p xs i x is = sum_more (λ y. cond (p y) 1 0) xs i x is

-- An element that is counted, and an element that isn't.
module _ {X : Type 0} (p : X → Bool) (xs : List X) (i : ℕ) (x : X) (count new : ℕ) (is : slice_get xs i ≡ Some x) where
  pub counted : p x ≡ true → count ≡ count_by p (take i xs) → new ≡ count + 1 → new ≡ count_by p (take (i + 1) xs)
  counted passes so_far added =
      let one : ◌≡◌ {A = ℕ} (cond (p x) 1 0) 1 = rw passes refl in
      omega (arith, so_far, added, count_more p xs i x is, one)

  pub uncounted : p x ≡ false → count ≡ count_by p (take i xs) → new ≡ count → new ≡ count_by p (take (i + 1) xs)
  uncounted fails so_far added =
      let none : ◌≡◌ {A = ℕ} (cond (p x) 1 0) 0 = rw fails refl in
      omega (arith, so_far, added, count_more p xs i x is, none)
