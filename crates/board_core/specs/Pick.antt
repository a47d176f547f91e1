-- Which of the states that a crash may leave a new board starts in.
use Rattle.std.specs.Prelude.{◌≡◌, ℕ, ◌+◌, ◌<◌, ◌≤◌, ◌⊎◌, List, [], ◌∷◌, length, slice_index}
use Rattle.board_core.specs.declared.pick.Pick.{Pick}
use Rattle.board_core.specs.declared.pick.Pick.TheVariants.{Old, New, Fill}
use Rattle.board_core.specs.DiskModel.{Range, IsOutside, DiskFile}

-- An offset is in one of these ranges.
abbrev pub IsInside : List Range → ℕ → Type 0
IsInside [] place = ⊥
IsInside (range ∷ ranges) place = ((range.place ≤ place) × (place < range.place + range.count)) ⊎ IsInside ranges place

-- Bytes with this byte at each offset in these ranges, and unchanged elsewhere.
pub record IsFilled (byte : ℕ) (ranges : List Range) (old new : List ℕ) : Type 0 where
  pub size : length new ≡ length old
  pub filled : (k : ℕ) → k < length old → IsInside ranges k → slice_index new k ≡ byte
  pub others : (k : ℕ) → IsOutside ranges k → slice_index new k ≡ slice_index old k

-- The chosen bytes of a file: as of the last sync, or as a read returns them, or the latter with every byte written
-- since the last sync set to one byte.
abbrev pub IsPicked : Pick → DiskFile → List ℕ → List ℕ → Type 0
IsPicked Old file now taken = taken ≡ file.synced
IsPicked New file now taken = taken ≡ now
IsPicked (Fill byte) file now taken = IsFilled byte file.written now taken
