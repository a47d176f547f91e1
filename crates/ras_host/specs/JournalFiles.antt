-- What a call does to the journal's files, and to the folder that they are in.
use Rattle.std.specs.Prelude.{◌≡◌, ℕ, ◌⊎◌, List, length, take, Bool, IsTrue, Option, ◌==◌, if◌then◌else◌}
use Rattle.board_core.specs.Clock.{Passes}
use Rattle.board_core.specs.Stop.{Left}
use Rattle.board_core.specs.declared.board.FileNo.{FileNo}
use Rattle.board_core.specs.declared.board.FileNo.TheVariants.{Zero, One}
use Rattle.host_system.specs.BoardFile.{AreOpenable, IsReadable, IsUsable, KeepsStore, HasSettledStore}
use Rattle.host_system.specs.FolderPast.{FolderPast, GoesOnBy, IfTold, PrintsOrSyncs}
use Rattle.host_system.specs.View.{HasWholeStore, clock_over, seen_now}
use Rattle.ras_host.specs.Blame.{AreReports}
use Rattle.ras_host.specs.declared.journal.JournalFiles.{JournalFiles}
use Rattle.ras_host.specs.declared.journal.JournalFiles.TheVariants.{Shut, Open, Unread, Seen}
use Rattle.ras_host.specs.declared.reading.Pair.{Pair}
use Rattle.ras_host.specs.declared.reading.ReadFile.{ReadFile}

-- the value for a file in a pair, and the pair with another value there
abbrev pub part_of : {T : Type 0} → FileNo → Pair T → T
part_of Zero pair = pair.zero
part_of One pair = pair.one

abbrev pub with_part : {T : Type 0} → FileNo → T → Pair T → Pair T
with_part Zero part pair = record pair { zero = part }
with_part One part pair = record pair { one = part }

-- the files of a board before their first use: a run's files if the kind is 1, otherwise a report's
abbrev pub files_for : ℕ → JournalFiles
files_for how = if how == 1 then Shut else Unread

-- How many bytes of a journal file are read at most: one more than the longest journal file has.
abbrev pub most_read : ℕ
most_read = 67108865

-- What was read of a file with these bytes: its length, and its first bytes, up to the most.
pub record IsRead (read : ReadFile) (whole : List ℕ) : Type 0 where
  pub size : read.length ≡ length whole
  pub items : read.bytes.items ≡ take most_read whole

-- This was read of both files.
pub record AreRead (files : Pair ReadFile) (past : FolderPast) : Type 0 where
  pub zero : IsRead files.zero (seen_now past).file0
  pub one : IsRead files.one (seen_now past).file1

-- Both files have this property, except a file that isn't sound.
pub record AreSound (Is : FileNo → FolderPast → Type 0) (sound : Pair Bool) (past : FolderPast) : Type 0 where
  pub zero : IsTrue sound.zero → Is Zero past
  pub one : IsTrue sound.one → Is One past

-- what was read of both files, and which of them may be synced
pub record AreSeen (files : Pair ReadFile) (sound : Pair Bool) (past : FolderPast) : Type 0 where
  pub read : AreRead files past
  pub readable : AreSound IsReadable sound past

-- A run's open files may be used, except a file whose sync failed. Files that aren't open yet may be opened, and files
-- that aren't read yet may be read.
abbrev pub AreHeld : JournalFiles → FolderPast → Type 0
AreHeld Shut past = AreOpenable past
AreHeld (Open sound) past = AreSound IsUsable sound past
AreHeld Unread past = AreOpenable past
AreHeld (Seen files sound) past = AreSeen files sound past

-- A file may be used: it is open and sound, or was read.
abbrev pub IsReady : FileNo → JournalFiles → Type 0
IsReady file Shut = ⊥
IsReady file (Open sound) = IsTrue (part_of file sound)
IsReady file Unread = ⊥
IsReady file (Seen files sound) = Unit {0}

-- A file is sound. No file is sound before all names of the folder are durable.
abbrev pub IsOneSound : JournalFiles → Type 0
IsOneSound Shut = ⊥
IsOneSound (Open sound) = IsTrue sound.zero ⊎ IsTrue sound.one
IsOneSound Unread = ⊥
IsOneSound (Seen files sound) = IsTrue sound.zero ⊎ IsTrue sound.one

-- If a file became sound, the name of the record store's file is durable, provided that the file's bytes were.
abbrev pub SettlesStore : JournalFiles → JournalFiles → FolderPast → FolderPast → Type 0
SettlesStore old new before after = IsOneSound new → IsOneSound old ⊎ (HasWholeStore before → HasSettledStore after)

-- A call on the journal's files was made: a board sees this change of the folder, and a crash leaves what a crash
-- before the call might have left, after this step. The store's file is as durable as before.
pub record Moves (Sees : FolderPast → FolderPast → Type 0) (Step : Left → Left → Type 0)
    (old new : JournalFiles) (before after : Option FolderPast) : Type 0 where
  pub sees : IfTold Sees before after
  pub store : IfTold KeepsStore before after
  pub settles : IfTold (SettlesStore old new) before after
  pub stops : Passes Step (clock_over before) (clock_over after)
  -- A report's files are read and synced, and nothing else is done.
  pub reading : AreReports old → IfTold (GoesOnBy PrintsOrSyncs) before after
