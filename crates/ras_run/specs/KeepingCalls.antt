-- The disk calls by which a link is kept: at most one switch to the journal's other file, and then
-- the append. All of them are WriteAt and Sync calls of one file.
use Rattle.std.specs.Prelude.{◌≡◌, ◌⊎◌, ℕ, ◌+◌, List, [], ◌∷◌, ◌++◌, length}
use Rattle.board_core.specs.declared.board.FileNo.{FileNo}
use Rattle.board_core.specs.declared.board.DiskCall.{DiskCall}
use Rattle.board_core.specs.declared.board.DiskCall.TheVariants.{WriteAt, Sync}

-- a write of n bytes from an offset on, and then a sync
abbrev pub write_through_calls : FileNo → ℕ → ℕ → List DiskCall
write_through_calls file place count = WriteAt file place count ∷ Sync file ∷ []

-- A whole switch to a file: four calls, or six if the file's first gate isn't closed yet. The first gate is closed,
-- then everything after it is written, then it is opened.
pub record IsSwitch (file : FileNo) (calls : List DiskCall) : Type 0 where
  pub closing : List DiskCall
  pub count : ℕ
  pub is : calls ≡ closing ++ (write_through_calls file 1 count ++ write_through_calls file 0 1)
  pub only : (closing ≡ []) ⊎ (closing ≡ write_through_calls file 0 1)

-- A whole append to a file: the link and the next closed gate are written after the chain's closed gate, and then that
-- gate is opened.
pub record IsAppend (link : List ℕ) (file : FileNo) (calls : List DiskCall) : Type 0 where
  pub gate : ℕ
  pub is : calls ≡ write_through_calls file (gate + 1) (length link + 1) ++ write_through_calls file gate 1

-- All calls that append a link.
pub record IsKeeping (link : List ℕ) (calls : List DiskCall) : Type 0 where
  pub file : FileNo
  pub switch : List DiskCall
  pub append : List DiskCall
  pub is : calls ≡ switch ++ append
  pub at_most_one : (switch ≡ []) ⊎ IsSwitch file switch
  pub appends : IsAppend link file append
