-- What was done to a folder since all of it was durable, and what a crash may leave since then.
use Rattle.std.specs.Prelude.{◌≡◌, ℕ, zero, suc, ◌⊎◌, List, [], ◌∷◌, ◌++◌, length, Option, None, Some, IsSome}
use Rattle.std.specs.Option.{option_map, unwrap_or}
use Rattle.host_system.specs.declared.system.FileName.{FileName}
use Rattle.host_system.specs.declared.system.FileName.TheVariants.{Journal, Store, New}
use Rattle.host_system.specs.Folder.{Folder, FolderChange, wrote, synced, loses, synced_names, printed, folder_after, folder_after_all, FileUse, opened, locked, lost, Stopped, MayLeaveFolder, During, settled_folder, entry_named, bytes_now}

-- the files and the output when all was durable, and what was done since, in order
pub record FolderPast : Type 0 where
  pub first : Stopped
  pub changes : List FolderChange

abbrev pub changed_by : FolderChange → FolderPast → FolderPast
changed_by change past = record past { changes = past.changes ++ change ∷ [] }

-- the folder now
abbrev pub folder_of : FolderPast → Folder
folder_of past = folder_after_all past.changes (settled_folder past.first)

-- What a crash may leave after the first t changes, or later.
abbrev pub MayLeaveFolderSince : Folder → List FolderChange → ℕ → Stopped → Type 0
MayLeaveFolderSince folder [] zero left = MayLeaveFolder folder left
MayLeaveFolderSince folder [] (suc t) left = ⊥
MayLeaveFolderSince folder (change ∷ changes) zero left = During change folder left ⊎ MayLeaveFolderSince (folder_after change folder) changes zero left
MayLeaveFolderSince folder (change ∷ changes) (suc t) left = MayLeaveFolderSince (folder_after change folder) changes t left

-- Each of these changes has this property.
abbrev pub AllAre : (FolderChange → Type 0) → List FolderChange → Type 0
AllAre Is [] = Unit {0}
AllAre Is (change ∷ changes) = Is change × AllAre Is changes

-- The past continues with changes that all have this property.
pub record GoesOnBy (Is : FolderChange → Type 0) (old new : FolderPast) : Type 0 where
  pub more : List FolderChange
  pub first : new.first ≡ old.first
  pub changes : new.changes ≡ old.changes ++ more
  pub each : AllAre Is more

-- A change prints a piece, or syncs a journal file or the folder's names, or records that such a sync failed. No file
-- is opened, made, locked, written, removed or renamed.
abbrev pub PrintsOrSyncs : FolderChange → Type 0
PrintsOrSyncs (synced (Journal file)) = Unit {0}
PrintsOrSyncs (loses (Journal file)) = Unit {0}
PrintsOrSyncs synced_names = Unit {0}
PrintsOrSyncs (printed piece) = Unit {0}
PrintsOrSyncs change = ⊥

-- ---- for the clauses of the calls

-- A call made this change, if the system is modelled.
abbrev pub Did : FolderChange → Option FolderPast → Option FolderPast → Type 0
Did change old new = new ≡ option_map (changed_by change) old

-- This relates the pasts of a system before and after a call, if the system is modelled.
abbrev pub IfTold : (FolderPast → FolderPast → Type 0) → Option FolderPast → Option FolderPast → Type 0
IfTold P None new = new ≡ None
IfTold P (Some old) None = ⊥
IfTold P (Some old) (Some new) = P old new

-- the bytes of a file, or no bytes if it is missing
abbrev pub bytes_or : Option (List ℕ) → List ℕ
bytes_or bytes = unwrap_or bytes []

-- the bytes that a read of the name returns now, if the file exists
abbrev pub bytes_named : FileName → FolderPast → Option (List ℕ)
bytes_named name past = bytes_now (entry_named name (folder_of past))

abbrev pub file_bytes : FileName → FolderPast → List ℕ
file_bytes name past = bytes_or (bytes_named name past)

-- the length of the file with this name in bytes, if the file exists
abbrev pub length_told : FileName → FolderPast → Option ℕ
length_told name past = option_map length (bytes_named name past)

abbrev pub HasFile : FileName → FolderPast → Type 0
HasFile name past = IsSome (bytes_named name past)

abbrev pub IsMissing : FileName → FolderPast → Type 0
IsMissing name past = bytes_named name past ≡ None

-- A failed call has made the change or not.
abbrev pub MayDo : FolderChange → FolderPast → FolderPast → Type 0
MayDo change old new = (new ≡ old) ⊎ (new ≡ changed_by change old)

-- a failed write
abbrev pub MayWrite : FileName → ℕ → ℕ → FolderPast → FolderPast → Type 0
MayWrite name place count old new = (bytes : List ℕ) × MayDo (wrote name place count bytes) old new

-- a failed print
abbrev pub MayPrint : List ℕ → FolderPast → FolderPast → Type 0
MayPrint piece old new = (part : List ℕ) × (missing : List ℕ) × (part ++ missing ≡ piece) × (new ≡ changed_by (printed part) old)

-- how a run has the file of a name
abbrev pub use_of : FileName → FolderPast → FileUse
use_of name past = (entry_named name (folder_of past)).how

abbrev pub IsOpen : FileName → FolderPast → Type 0
IsOpen name past = (use_of name past ≡ opened) ⊎ (use_of name past ≡ locked)

-- No sync of the file failed.
abbrev pub IsNotLost : FileName → FolderPast → Type 0
IsNotLost name past = use_of name past ≡ lost → ⊥

-- A file may be written if it is open. A journal file has to be locked too, and the record store's file is
-- never written in place.
abbrev pub MayBeWritten : FileName → FolderPast → Type 0
MayBeWritten (Journal file) past = use_of (Journal file) past ≡ locked
MayBeWritten Store past = ⊥
MayBeWritten New past = use_of New past ≡ opened
