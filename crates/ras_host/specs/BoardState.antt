-- A board over a system as contracts see it.
use Rattle.std.specs.Prelude.{ℕ, ◌==◌, if◌then◌else◌, List, Option}
use Rattle.board_core.specs.Cause.{Faults}
use Rattle.host_system.specs.FolderPast.{FolderPast}
use Rattle.ras_host.specs.declared.journal.JournalFiles.{JournalFiles}
use Rattle.ras_host.specs.declared.kept.Kept.{Kept}
use Rattle.ras_host.specs.declared.kept.Kept.TheVariants.{Unread, Unreadable}

-- The device of a board before its first use. Only a run, whose kind is 1, uses it.
abbrev pub kept_for : ℕ → Kept
kept_for how = if how == 1 then Unread else Unreadable

-- What was done to the folder, if the system is modelled; the journal's files and the device as the board has them;
-- how many of its calls have failed, how many of the system's, and how many the board refused; and the listed calls,
-- as numbers.
pub record BoardState : Type 0 where
  pub past : Option FolderPast
  pub files : JournalFiles
  pub kept : Kept
  pub faults : Faults
  pub count : ℕ
  pub refused : ℕ
  pub disk_calls : List (List ℕ × List ℕ)
  pub accesses : List (List ℕ × List ℕ)
