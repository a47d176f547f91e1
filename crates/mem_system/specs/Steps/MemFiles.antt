-- The files of a system in memory, as names of the folder.
use Rattle.std.specs.Prelude.{◌≡◌, ℕ, ◌+◌, List, length, map, Option, None, Some, Vec}
use Rattle.std.specs.Option.{option_map}
use Rattle.std.specs.Borrow.{Lends, MutBor, Fml}
use Rattle.std.specs.declared.alloc.Global.{Global}
use Rattle.board_core.specs.declared.board.FileNo.TheVariants.{Zero, One}
use Rattle.board_core.specs.DiskModel.{Range, DiskFile}
use Rattle.mem_system.specs.declared.mem_files.MemEntry.{MemEntry}
use Rattle.mem_system.specs.declared.mem_files.MemFile.{MemFile}
use Rattle.mem_system.specs.declared.mem_files.MemFiles.{MemFiles}
use Rattle.mem_system.specs.declared.mem_files.MemWrite.{MemWrite}
use Rattle.host_system.specs.declared.system.FileName.{FileName}
use Rattle.host_system.specs.declared.system.FileName.TheVariants.{Journal, Store, New}
use Rattle.mem_system.specs.contracts.mem_files.MemEntry as of_entry
use Rattle.mem_system.specs.contracts.mem_files.MemFiles as of_files
use Rattle.host_system.specs.Folder.{FileUse, shut, FolderFile, NameEntry, Folder, change_name, folder_after, renamed, renewed, synced_names, on_disk, used}
use Rattle.host_system.specs.FolderPast.{FolderPast, folder_of}

-- the number by which a name is noted
abbrev pub number_of : FileName → ℕ
number_of (Journal Zero) = 0
number_of (Journal One) = 1
number_of Store = 2
number_of New = 3

-- ---- a file

abbrev pub range_of : MemWrite → Range
range_of write = record { place = write.place; count = length write.bytes.items + write.missing }

abbrev pub synced_or : Option (Vec ℕ Global) → List ℕ → List ℕ
synced_or None bytes = bytes
synced_or (Some synced) bytes = synced.items

abbrev pub disk_seen : MemFile → DiskFile
disk_seen file = record { synced = synced_or file.synced file.bytes.items; written = map range_of file.written.items }

abbrev pub file_seen : MemFile → FolderFile
file_seen file = record { bytes = file.bytes.items; disk = disk_seen file }

abbrev pub other_seen : Option MemFile → Option DiskFile
other_seen file = on_disk (option_map file_seen file)

abbrev pub entry_seen : MemEntry → NameEntry
entry_seen entry = record { now = option_map file_seen entry.here; others = map other_seen entry.others.items; how = shut }

-- ---- the files

abbrev pub mem_entry : FileName → MemFiles → MemEntry
mem_entry (Journal Zero) files = files.zero
mem_entry (Journal One) files = files.one
mem_entry Store files = files.store
mem_entry New files = files.fresh

abbrev pub with_mem_entry : FileName → MemFiles → MemEntry → MemFiles
with_mem_entry (Journal Zero) files entry = record files { zero = entry }
with_mem_entry (Journal One) files entry = record files { one = entry }
with_mem_entry Store files entry = record files { store = entry }
with_mem_entry New files entry = record files { fresh = entry }

abbrev pub LendsEntry : FileName → MutBor MemFiles → MutBor MemEntry → Fml
LendsEntry name files entry = Lends of_files.the_row of_entry.the_row files entry (with_mem_entry name files.now)

-- ---- how a run has the files, which they don't hold

pub record Uses : Type 0 where
  pub zero : FileUse
  pub one : FileUse
  pub store : FileUse
  pub new : FileUse

abbrev pub with_use : FileName → FileUse → Uses → Uses
with_use (Journal Zero) how uses = record uses { zero = how }
with_use (Journal One) how uses = record uses { one = how }
with_use Store how uses = record uses { store = how }
with_use New how uses = record uses { new = how }

abbrev pub uses_of : Folder → Uses
uses_of folder = record { zero = folder.zero.how; one = folder.one.how; store = folder.store.how; new = folder.new.how }

-- the folder of these files, with this output, and used in this way
abbrev pub held_in : MemFiles → List ℕ → Uses → Folder
held_in files out uses = record {
  zero = used uses.zero (entry_seen files.zero);
  one = used uses.one (entry_seen files.one);
  store = used uses.store (entry_seen files.store);
  new = used uses.new (entry_seen files.fresh);
  out = out;
}

-- One name changed by this step.
abbrev pub IsChanged : FileName → (NameEntry → NameEntry) → MemFiles → MemFiles → Type 0
IsChanged name step old new = (out : List ℕ) (uses : Uses) → held_in new out uses ≡ change_name name step (held_in old out uses)

-- One name refers to another file now, or to no file.
abbrev pub IsRenewed : FileName → Option FolderFile → MemFiles → MemFiles → Type 0
IsRenewed name file old new = (out : List ℕ) (uses : Uses) (how : FileUse) → held_in new out (with_use name how uses) ≡ change_name name (renewed file how) (held_in old out uses)

abbrev pub IsSame : MemFiles → MemFiles → Type 0
IsSame old new = (out : List ℕ) (uses : Uses) → held_in new out uses ≡ held_in old out uses

abbrev pub IsRenamed : MemFiles → MemFiles → Type 0
IsRenamed old new = (out : List ℕ) (uses : Uses) → held_in new out (uses_of (folder_after renamed (held_in old out uses))) ≡ folder_after renamed (held_in old out uses)

abbrev pub AreSettled : MemFiles → MemFiles → Type 0
AreSettled old new = (out : List ℕ) (uses : Uses) → held_in new out uses ≡ folder_after synced_names (held_in old out uses)

-- The files and the output are the folder's, with all that the disk may have of it.
abbrev pub AreHeld : FolderPast → MemFiles → List ℕ → Type 0
AreHeld past files out = held_in files out (uses_of (folder_of past)) ≡ folder_of past
