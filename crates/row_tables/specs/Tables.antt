-- Tables that a list of elements gives: each element may name a key, and each key has one row, in the order in which
-- the keys were first named. A key's row depends only on the elements of that key. The test `same` says whether two
-- keys are the same.
use Rattle.std.specs.Prelude.{Bool, false, if◌then◌else◌, Option, None, Some, List, [], ◌∷◌, ◌++◌, filter, map}
use Rattle.std.specs.List.{list_any, filter_map}

module _ {K : Type 0} (same : K → K → Bool) where
  -- The keys of a list that aren't there yet, in the order in which they are first seen, each once.
  abbrev pub added_keys : List K → List K → List K
  added_keys held [] = []
  added_keys held (k ∷ ks) = if list_any (same k) held then added_keys held ks else k ∷ added_keys (held ++ k ∷ []) ks

  -- the keys of a list in the order in which they are first seen, each once
  abbrev pub distinct_keys : List K → List K
  distinct_keys ks = added_keys [] ks

  -- Whether an element names this key.
  abbrev pub is_key : K → Option K → Bool
  is_key k None = false
  is_key k (Some j) = same k j

  -- the elements of a list that name a key, in order
  abbrev pub of_key : {X : Type 0} → (X → Option K) → List X → K → List X
  of_key key xs k = filter (λ x. is_key k (key x)) xs

  -- the table of a list: each key in the order in which it was first seen, with the row that its own elements give
  abbrev pub table : {X R : Type 0} → (X → Option K) → (List X → R) → List X → List (K × R)
  table {X} {R} key row xs = map {B = K × R} (λ k. (k, row (of_key key xs k))) (distinct_keys (filter_map key xs))

  -- a table with the row of a key changed in its place, or with a new row after the others
  abbrev pub updated_rows : {R : Type 0} → K → R → (R → R) → List (K × R) → List (K × R)
  updated_rows k new change [] = (k, new) ∷ []
  updated_rows k new change (e ∷ es) = if same k e.0 then (e.0, change e.1) ∷ es else e ∷ updated_rows k new change es

  -- a table continued by one element, which changes at most the row of the key that it names:
  -- `first` gives the row of a key's first element, and `more` the row after another one
  abbrev pub table_after : {X R : Type 0} → (X → Option K) → (X → R) → (R → X → R) → List (K × R) → X → List (K × R)
  table_after {X} {R} key first more es x = seen_at (key x)
    where
      seen_at : Option K → List (K × R)
      seen_at None = es
      seen_at (Some k) = updated_rows k (first x) (λ r. more r x) es
