-- The files of a board over a system: when a file may be used, and what a call leaves unchanged.
use Rattle.std.specs.Prelude.{◌≡◌, [], List, IsSome}
use Rattle.erst_store.specs.Store.{Stored}
use Rattle.board_core.specs.Stop.{Left}
use Rattle.board_core.specs.declared.board.FileNo.{FileNo}
use Rattle.board_core.specs.declared.board.FileNo.TheVariants.{Zero, One}
use Rattle.host_system.specs.declared.system.FileName.TheVariants.{Journal, Store}
use Rattle.host_system.specs.Folder.{Folder, NameEntry, locked, lost, entry_named, bytes_now}
use Rattle.host_system.specs.FolderPast.{FolderPast, bytes_named, folder_of}
use Rattle.host_system.specs.View.{HasWholeStore, IsDurable, seen_now}

-- A file exists, its name is durable, and it is locked.
pub record IsUsableAs (entry : NameEntry) : Type 0 where
  pub there : IsSome (bytes_now entry)
  pub named : entry.others ≡ []
  pub is_locked : entry.how ≡ locked

abbrev pub IsUsableIn : FileNo → Folder → Type 0
IsUsableIn file folder = IsUsableAs (entry_named (Journal file) folder)

-- No sync of the file failed.
abbrev pub IsOpenableIn : FileNo → Folder → Type 0
IsOpenableIn file folder = (entry_named (Journal file) folder).how ≡ lost → ⊥

abbrev pub IsUsable : FileNo → FolderPast → Type 0
IsUsable file past = IsUsableIn file (folder_of past)

abbrev pub IsOpenable : FileNo → FolderPast → Type 0
IsOpenable file past = IsOpenableIn file (folder_of past)

-- A file exists and is locked. Its name may not be durable yet.
pub record IsHeldIn (file : FileNo) (folder : Folder) : Type 0 where
  pub there : IsSome (bytes_now (entry_named (Journal file) folder))
  pub is_locked : (entry_named (Journal file) folder).how ≡ locked

abbrev pub IsHeld : FileNo → FolderPast → Type 0
IsHeld file past = IsHeldIn file (folder_of past)

-- A file's name is durable: on the disk it refers to what it refers to now.
abbrev pub IsNamedIn : FileNo → Folder → Type 0
IsNamedIn file folder = (entry_named (Journal file) folder).others ≡ []

abbrev pub IsNamed : FileNo → FolderPast → Type 0
IsNamed file past = IsNamedIn file (folder_of past)

-- A file that is only read may be synced: its name is durable, and no sync of it failed.
pub record IsReadableIn (file : FileNo) (folder : Folder) : Type 0 where
  pub named : IsNamedIn file folder
  pub openable : IsOpenableIn file folder

abbrev pub IsReadable : FileNo → FolderPast → Type 0
IsReadable file past = IsReadableIn file (folder_of past)

-- ---- the record store's file

-- A name and all bytes of its file are durable.
abbrev pub IsSettled : NameEntry → Type 0
IsSettled entry = (entry.others ≡ []) × IsDurable entry.now

-- The store's file is durable, and so is its name.
abbrev pub HasSettledStore : FolderPast → Type 0
HasSettledStore past = IsSettled (folder_of past).store

abbrev pub with_store : List Stored → Left → Left
with_store store left = record left { store = store }

-- ---- what stays as it was

-- A file stays as usable as it was.
pub record KeepsFileIn (file : FileNo) (old new : Folder) : Type 0 where
  pub named : IsNamedIn file old → IsNamedIn file new
  pub held : IsHeldIn file old → IsHeldIn file new
  pub usable : IsUsableIn file old → IsUsableIn file new
  pub openable : IsOpenableIn file old → IsOpenableIn file new

abbrev pub KeepsFile : FileNo → FolderPast → FolderPast → Type 0
KeepsFile file old new = KeepsFileIn file (folder_of old) (folder_of new)

-- No sync of either file failed.
pub record AreOpenable (past : FolderPast) : Type 0 where
  pub zero : IsOpenable Zero past
  pub one : IsOpenable One past

pub record AreUsable (past : FolderPast) : Type 0 where
  pub zero : IsUsable Zero past
  pub one : IsUsable One past

-- Both files are usable. If the store's file is durable, so is its name.
pub record AreOpened (past : FolderPast) : Type 0 where
  pub usable : AreUsable past
  pub settled : HasWholeStore past → HasSettledStore past

-- The names of both files are durable. If the store's file is durable, so is its name.
pub record AreNamed (past : FolderPast) : Type 0 where
  pub zero : IsNamed Zero past
  pub one : IsNamed One past
  pub settled : HasWholeStore past → HasSettledStore past

-- After a call the store's file has the same bytes, and it and its name are as durable as before.
pub record KeepsStore (old new : FolderPast) : Type 0 where
  pub same : bytes_named Store new ≡ bytes_named Store old
  pub settled : HasSettledStore old → HasSettledStore new
  pub whole : HasWholeStore old → HasWholeStore new

abbrev pub other_than : FileNo → FileNo
other_than Zero = One
other_than One = Zero

-- A call of one file leaves the other file as usable as it was, and the store's file with the same bytes and as
-- durable.
pub record KeepsOthersIn (file : FileNo) (old new : Folder) : Type 0 where
  pub same : bytes_now new.store ≡ bytes_now old.store
  pub settled : IsSettled old.store → IsSettled new.store
  pub whole : IsDurable old.store.now → IsDurable new.store.now
  pub other : KeepsFileIn (other_than file) old new

abbrev pub KeepsOthers : FileNo → FolderPast → FolderPast → Type 0
KeepsOthers file old new = KeepsOthersIn file (folder_of old) (folder_of new)

-- A board sees the same as before.
abbrev pub SeesSame : FolderPast → FolderPast → Type 0
SeesSame old new = seen_now new ≡ seen_now old
