-- A store's fields as contracts see them.
use Rattle.std.specs.Prelude.{◌≡◌, ℕ, ◌<◌, ◌≤◌, false, Option, None, Some, List, length, map, get_or}
use Rattle.erst_store.specs.declared.store.Record.{Record}
use Rattle.erst_store.specs.Store.{Stored, most_bytes, ids, holds, bytes_under}

-- a record without its address in memory
abbrev pub view : Record → Stored
view r = record { id = r.id; bytes = r.bytes.items }

abbrev pub views : List Record → List Stored
views records = map view records

-- The record under this identifier is at this index.
pub record StandsAt (id : ℕ) (records : List Stored) (place : ℕ) : Type 0 where
  pub within : place < length records
  pub same : get_or (ids records) place 0 ≡ id

-- The index of the record under an identifier, if any.
abbrev pub Places : ℕ → List Stored → Option ℕ → Type 0
Places id records (Some place) = StandsAt id records place
Places id records None = holds id records ≡ false

-- The bytes found under an identifier, if any.
abbrev pub Finds : ℕ → List Stored → Option (List ℕ) → Type 0
Finds id records (Some bytes) = (bytes_under id records ≡ Some bytes) × (length bytes ≤ most_bytes)
Finds id records None = bytes_under id records ≡ None
