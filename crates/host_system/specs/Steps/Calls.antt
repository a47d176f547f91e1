-- What a call of the system on a file of a board, or on the output, means for the board.
use Rattle.std.specs.Prelude.{◌≡◌, ℕ, List, ◌++◌, length, Option, IfSome, Result, OnOk, OnErr}
use Rattle.board_core.specs.declared.board.FileNo.{FileNo}
use Rattle.board_core.specs.Clock.{IsSynced, Leads, Passes}
use Rattle.board_core.specs.Stop.{Appends, Begins, InFile, InOut, Same, file_in, with_file_in}
use Rattle.board_core.specs.Told.{Torn, overlay}
use Rattle.host_system.specs.BoardFile.{AreNamed, IsUsable, KeepsOthers, SeesSame}
use Rattle.host_system.specs.FolderPast.{FolderPast, IfTold}
use Rattle.host_system.specs.View.{clock_over, seen_now}

-- A board sees these bytes written at an offset of a file.
abbrev pub SeesWritten : FileNo → ℕ → List ℕ → FolderPast → FolderPast → Type 0
SeesWritten file place bytes old new =
    seen_now new ≡ with_file_in file (overlay place bytes (file_in file (seen_now old))) (seen_now old)

-- A board sees a torn write at an offset of a file.
abbrev pub SeesTorn : FileNo → ℕ → ℕ → FolderPast → FolderPast → Type 0
SeesTorn file place count old new = InFile file (Torn place count) (seen_now old) (seen_now new)

-- A board sees a piece appended to the output.
abbrev pub SeesPrinted : List ℕ → FolderPast → FolderPast → Type 0
SeesPrinted piece old new = seen_now new ≡ record (seen_now old) { out = (seen_now old).out ++ piece }

-- A board sees a beginning of a piece appended to the output.
abbrev pub SeesBegun : List ℕ → FolderPast → FolderPast → Type 0
SeesBegun piece old new = InOut (Begins piece) (seen_now old) (seen_now new)

-- Bytes were written at an offset of a usable file, or the write failed. The file may be used as before, and the other
-- file and the store's file are unchanged.
pub record WritesFile {T E : Type 0} (file : FileNo) (place : ℕ) (bytes : List ℕ) (result : Result T E) (old new : Option FolderPast) : Type 0 where
  pub told : OnOk result (IfTold (SeesWritten file place bytes) old new)
  pub failed : OnErr result (IfTold (SeesTorn file place (length bytes)) old new)
  pub keeps : IfTold (KeepsOthers file) old new
  pub stops : Passes (InFile file (Torn place (length bytes))) (clock_over old) (clock_over new)
  pub usable : IfSome new (IsUsable file)

-- A file was synced, or the sync failed. A board sees the same, and the other file and the store's file are unchanged.
-- On `Ok` the file is durable, and may be used as before.
pub record Syncs {T E : Type 0} (IsFor : FileNo → FolderPast → Type 0) (file : FileNo) (result : Result T E) (old new : Option FolderPast) : Type 0 where
  pub told : IfTold SeesSame old new
  pub keeps : IfTold (KeepsOthers file) old new
  pub stops : Passes Same (clock_over old) (clock_over new)
  pub synced : OnOk result (IfSome old (λ p. IsSynced file (file_in file (seen_now p)) (clock_over new)))
  pub usable : OnOk result (IfSome new (IsFor file))

-- The folder was synced, or that failed. On `Ok` the names of both files are durable.
pub record SyncsNames {T E : Type 0} (result : Result T E) (old new : Option FolderPast) : Type 0 where
  pub told : IfTold SeesSame old new
  pub keeps : (file : FileNo) → IfTold (KeepsOthers file) old new
  pub stops : Passes Same (clock_over old) (clock_over new)
  pub named : OnOk result (IfSome new AreNamed)

-- A piece was printed, or that failed. The files are unchanged.
pub record PrintsPiece {T E : Type 0} (piece : List ℕ) (result : Result T E) (old new : Option FolderPast) : Type 0 where
  pub told : OnOk result (IfTold (SeesPrinted piece) old new)
  pub failed : OnErr result (IfTold (SeesBegun piece) old new)
  pub keeps : (file : FileNo) → IfTold (KeepsOthers file) old new
  pub stops : Passes (InOut (Begins piece)) (clock_over old) (clock_over new)
  pub printed : OnOk result (Leads (InOut (Appends piece)) (clock_over old) (clock_over new))
