-- Disk calls that are made one after another, as a board lists them.
use Rattle.std.specs.Prelude.{◌≡◌, ℕ, ◌+◌, ◌≤◌, ◌<◌, List, ◌++◌}
use Rattle.ras_base.specs.Prefix.{IsPrefixOf}
use Rattle.board_core.specs.declared.board.FileNo.{FileNo}
use Rattle.board_core.specs.declared.board.DiskCall.{DiskCall}
use Rattle.board_core.specs.declared.board.DiskCall.TheVariants.{Size, ReadAt, WriteAt, Sync}
use Rattle.board_core.specs.Told.{Told}

-- Size and ReadAt calls leave all files as they are.
abbrev pub IsReading : DiskCall → Type 0
IsReading (Size file) = Unit {0}
IsReading (ReadAt file place count) = Unit {0}
IsReading (WriteAt file place count) = ⊥
IsReading (Sync file) = ⊥

-- A read covers this offset of a file.
abbrev pub ReadsPlace : FileNo → ℕ → DiskCall → Type 0
ReadsPlace file place (Size other) = ⊥
ReadsPlace file place (ReadAt other from count) = (other ≡ file) × (from ≤ place) × (place < from + count)
ReadsPlace file place (WriteAt other from count) = ⊥
ReadsPlace file place (Sync other) = ⊥

-- the model with these disk calls added to its list
abbrev pub with_calls : List DiskCall → Told → Told
with_calls made t = record t { disk_calls = t.disk_calls ++ made }

-- Disk calls of this kind were made, and nothing else in the model changed.
pub record Calls (Are : List DiskCall → Type 0) (old new : Told) : Type 0 where
  pub made : List DiskCall
  pub is : new ≡ with_calls made old
  pub are : Are made

-- The disk calls that were made are of this kind: they are listed after those made before.
pub record Makes (Are : List DiskCall → Type 0) (old new : Told) : Type 0 where
  pub made : List DiskCall
  pub listed : new.disk_calls ≡ old.disk_calls ++ made
  pub are : Are made

-- These calls are a beginning of calls of this kind, possibly none or all of them.
pub record IsBeginning (Are : List DiskCall → Type 0) (calls : List DiskCall) : Type 0 where
  pub whole : List DiskCall
  pub are : Are whole
  pub begins : IsPrefixOf calls whole
