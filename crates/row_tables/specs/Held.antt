-- A table as contracts see it: the keys with rows, and the reserved keys.
use Rattle.std.specs.Prelude.{◌≡◌, ℕ, zero, suc, Bool, true, false, if◌then◌else◌, List, [], ◌∷◌, ◌++◌, map, take, drop}
use Rattle.std.specs.List.{list_any}
use Rattle.std.specs.Map.{keys_of}
use Rattle.row_tables.specs.Tables.{updated_rows, added_keys}

-- The keys with their rows, in the order in which they were added, and the reserved keys, which wait for a row.
pub record Held (K R : Type 0) : Type 0 where
  pub rows : List (K × R)
  pub waiting : List K

-- This is the first index of a key in a list.
abbrev pub IsPlace : {K : Type 0} → (K → K → Bool) → K → List K → ℕ → Type 0
IsPlace same key [] place = ⊥
IsPlace same key (k ∷ ks) zero = same key k ≡ true
IsPlace same key (k ∷ ks) (suc place) = (same key k ≡ false) × IsPlace same key ks place

module _ {K R : Type 0} where
  -- the keys that have rows or are reserved
  abbrev pub all_keys : Held K R → List K
  all_keys held = keys_of held.rows ++ held.waiting

  -- keys with the same row each
  abbrev pub waiting_rows : R → List K → List (K × R)
  waiting_rows row keys = map {B = K × R} (λ key. (key, row)) keys

  -- The entries, without those of the first `held` entries whose keys fail a test.
  abbrev pub kept_entries : (K → Bool) → ℕ → List (K × R) → List (K × R)
  kept_entries test zero entries = entries
  kept_entries test (suc held) [] = []
  kept_entries test (suc held) (e ∷ es) = if test e.0 then e ∷ kept_entries test held es else kept_entries test held es

  module _ (same : K → K → Bool) where
    -- Whether a key has a row.
    abbrev pub is_held : List (K × R) → K → Bool
    is_held rows key = list_any (same key) (keys_of rows)

    -- Whether a key has a row, or is the first reserved key.
    abbrev pub is_ready : Held K R → K → Bool
    is_ready held key = list_any (same key) (keys_of held.rows ++ take 1 held.waiting)

    -- Whether a key has a row or is reserved.
    abbrev pub is_there : Held K R → K → Bool
    is_there held key = list_any (same key) (all_keys held)

    -- the keys of a list that have no row, in the order in which they are first seen, each once
    abbrev pub new_keys : List (K × R) → List K → List K
    new_keys rows keys = added_keys same (keys_of rows) keys

    -- The reserved keys once these keys are reserved too. Keys that have a row or are reserved already add nothing.
    abbrev pub waiting_with : Held K R → List K → List K
    waiting_with held keys = held.waiting ++ added_keys same (all_keys held) keys

    -- The table with this row for a key, which has a row already or gets one after the others.
    abbrev pub with_row : Held K R → K → R → Held K R
    with_row held key row = record {
      rows = updated_rows same key row (λ old. row) held.rows;
      waiting = if is_held held.rows key then held.waiting else drop 1 held.waiting;
    }

    -- A row is put at an index, for the key there.
    abbrev pub PutsAt : Held K R → Held K R → ℕ → R → Type 0
    PutsAt old new place row =
        (key : K) → IsPlace same key (all_keys old) place → new ≡ with_row old key row
