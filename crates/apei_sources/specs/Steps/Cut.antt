-- The first entries of data, by their number, as a block stores them.
use Rattle.std.specs.Prelude.{◌≡◌, ℕ, zero, suc, true, false, List, [], ◌∷◌}
use Rattle.std.specs.List.{list_any}
use Rattle.apei_sources.specs.Entries.{has_entry, first_of, rest_of, is_refused}

-- the first n entries
unfoldable pub cut : ℕ → List ℕ → List (List ℕ)
cut zero bytes = []
cut (suc count) bytes = first_of bytes ∷ cut count (rest_of bytes)

-- Each of the first n entries lies inside the bytes.
unfoldable pub AreInside : ℕ → List ℕ → Type 0
AreInside zero bytes = Unit {0}
AreInside (suc count) bytes = (has_entry bytes ≡ true) × AreInside count (rest_of bytes)

-- A block's fields: each entry lies inside its bytes, and its section can be read.
pub record IsBlock (count : ℕ) (bytes : List ℕ) : Type 0 where
  pub inside : AreInside count bytes
  pub readable : list_any is_refused (cut count bytes) ≡ false
