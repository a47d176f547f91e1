-- A file's bytes after a write, by what is left of the write.
use Rattle.std.specs.Prelude.{◌≡◌, ℕ, ◌≤◌, List, ◌++◌, length, max}
use Rattle.board_core.specs.DiskModel.{Range, DiskFile, MayLeaveFile, with_range}

-- If a crash may leave the first bytes before the write, it may leave the second after it.
abbrev pub IsLaid : Range → List ℕ → List ℕ → Type 0
IsLaid range old new = (file : DiskFile) → MayLeaveFile file old → MayLeaveFile (with_range range.place range.count file) new

-- Bytes with others after them, so that there are at least this many, and no more than before or than this.
pub record IsPadded (size : ℕ) (old new : List ℕ) : Type 0 where
  pub gap : List ℕ
  pub is : new ≡ old ++ gap
  pub enough : size ≤ length new
  pub within : length new ≤ max (length old) size
