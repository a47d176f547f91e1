-- The folder that a run works in, and its output: what each name refers to, what a read returns, and what a
-- crash of the machine may leave.
use Rattle.std.specs.Prelude.{◌≡◌, ℕ, ◌⊎◌, List, [], ◌∷◌, ◌++◌, take, Option, None, Some}
use Rattle.std.specs.Option.{option_map}
use Rattle.board_core.specs.DiskModel.{settled_file, DiskFile, MayLeaveFile, with_range}
use Rattle.board_core.specs.Told.{overlay}
use Rattle.board_core.specs.declared.board.FileNo.TheVariants.{Zero, One}
use Rattle.host_system.specs.declared.system.FileName.{FileName}
use Rattle.host_system.specs.declared.system.FileName.TheVariants.{Journal, Store, New}

-- A file: its bytes as a read returns them, and what the disk has of it.
pub record FolderFile : Type 0 where
  pub bytes : List ℕ
  pub disk : DiskFile

-- How a run has a file: not open; open; open and locked; or lost, because a sync of it failed and its bytes may not be
-- relied on.
pub data FileUse : Type 0 where
  shut : FileUse
  opened : FileUse
  locked : FileUse
  lost : FileUse

-- What a name refers to now; what else it may refer to on the disk, which is everything it has referred to since the
-- folder was synced; and how a run has its file.
pub record NameEntry : Type 0 where
  pub now : Option FolderFile
  pub others : List (Option DiskFile)
  pub how : FileUse

-- the four names of the folder, and what was printed
pub record Folder : Type 0 where
  pub zero : NameEntry
  pub one : NameEntry
  pub store : NameEntry
  pub new : NameEntry
  pub out : List ℕ

abbrev pub entry_named : FileName → Folder → NameEntry
entry_named (Journal Zero) folder = folder.zero
entry_named (Journal One) folder = folder.one
entry_named Store folder = folder.store
entry_named New folder = folder.new

-- the folder with this change to one name
abbrev pub change_name : FileName → (NameEntry → NameEntry) → Folder → Folder
change_name (Journal Zero) step folder = record folder { zero = step folder.zero }
change_name (Journal One) step folder = record folder { one = step folder.one }
change_name Store step folder = record folder { store = step folder.store }
change_name New step folder = record folder { new = step folder.new }

-- ---- changes

-- A file after a write of `count` bytes at an offset, of which `bytes` arrived. A write that failed may have
-- written any bytes, even others.
abbrev pub after_writing : ℕ → ℕ → List ℕ → FolderFile → FolderFile
after_writing place count bytes file = record {
  bytes = overlay place (take count bytes) file.bytes;
  disk = with_range place count file.disk;
}

-- a file whose bytes are all durable
abbrev pub settled_file_of : List ℕ → FolderFile
settled_file_of bytes = record { bytes = bytes; disk = settled_file bytes }

-- A name after this change to its present file, if it has one.
abbrev pub with_now : (FolderFile → FolderFile) → NameEntry → NameEntry
with_now step entry = record entry { now = option_map step entry.now }

-- what the disk has of a file that may be missing
abbrev pub on_disk : Option FolderFile → Option DiskFile
on_disk file = option_map (λ f. f.disk) file

-- A name that now refers to another file, or to no file, and how a run has that file.
abbrev pub renewed : Option FolderFile → FileUse → NameEntry → NameEntry
renewed file how entry = record { now = file; others = on_disk entry.now ∷ entry.others; how = how }

-- a name, with how a run now has its file
abbrev pub used : FileUse → NameEntry → NameEntry
used how entry = record entry { how = how }

-- a name after its folder was synced
abbrev pub settled_name : NameEntry → NameEntry
settled_name entry = record entry { others = [] }

-- What a call did: it wrote at an offset of a file, with the number of bytes asked for and the bytes that
-- arrived; it synced a file; it made an empty file, which is then open; it opened a file; it locked a file;
-- it failed to sync a file; it removed a name; it renamed the new store; it synced the folder; it printed a
-- piece.
pub data FolderChange : Type 0 where
  wrote : FileName → ℕ → ℕ → List ℕ → FolderChange
  synced : FileName → FolderChange
  made : FileName → FolderChange
  opens : FileName → FolderChange
  locks : FileName → FolderChange
  loses : FileName → FolderChange
  removed : FileName → FolderChange
  renamed : FolderChange
  synced_names : FolderChange
  printed : List ℕ → FolderChange

-- the folder after a change
abbrev pub folder_after : FolderChange → Folder → Folder
folder_after (wrote name place count bytes) folder = change_name name (with_now (after_writing place count bytes)) folder
folder_after (synced name) folder = change_name name (with_now (λ file. settled_file_of file.bytes)) folder
folder_after (made name) folder = change_name name (renewed (Some (settled_file_of [])) opened) folder
folder_after (opens name) folder = change_name name (used opened) folder
folder_after (locks name) folder = change_name name (used locked) folder
folder_after (loses name) folder = change_name name (used lost) folder
folder_after (removed name) folder = change_name name (renewed None shut) folder
folder_after renamed folder = record folder { store = renewed folder.new.now shut folder.store; new = renewed None shut folder.new }
folder_after synced_names folder = record folder {
  zero = settled_name folder.zero;
  one = settled_name folder.one;
  store = settled_name folder.store;
  new = settled_name folder.new;
}
folder_after (printed piece) folder = record folder { out = folder.out ++ piece }

abbrev pub folder_after_all : List FolderChange → Folder → Folder
folder_after_all [] folder = folder
folder_after_all (change ∷ changes) folder = folder_after_all changes (folder_after change folder)

-- ---- what a crash leaves

-- what a crash leaves: the bytes of each file that exists, and the output
pub record Stopped : Type 0 where
  pub zero : Option (List ℕ)
  pub one : Option (List ℕ)
  pub store : Option (List ℕ)
  pub new : Option (List ℕ)
  pub out : List ℕ

-- A crash may leave this of a file, which may be missing.
abbrev pub MayLeaveOne : Option DiskFile → Option (List ℕ) → Type 0
MayLeaveOne None None = Unit {0}
MayLeaveOne (Some file) (Some bytes) = MayLeaveFile file bytes
MayLeaveOne file left = ⊥

-- A crash may leave this of one of these files.
abbrev pub MayLeaveAny : List (Option DiskFile) → Option (List ℕ) → Type 0
MayLeaveAny [] left = ⊥
MayLeaveAny (file ∷ files) left = MayLeaveOne file left ⊎ MayLeaveAny files left

-- A crash may leave under a name the file that the name refers to, or has referred to since the folder was synced,
-- with any bytes that the disk may leave of it.
abbrev pub MayLeaveName : NameEntry → Option (List ℕ) → Type 0
MayLeaveName entry left = MayLeaveAny (on_disk entry.now ∷ entry.others) left

-- A crash may leave these files, one choice for each name, and all of the printed text.
pub record MayLeaveFolder (folder : Folder) (left : Stopped) : Type 0 where
  pub zero : MayLeaveName folder.zero left.zero
  pub one : MayLeaveName folder.one left.one
  pub store : MayLeaveName folder.store left.store
  pub new : MayLeaveName folder.new left.new
  pub out : left.out ≡ folder.out

-- A crash during a change leaves what a crash before it or after it may leave. A crash during a print leaves any
-- beginning of the piece.
abbrev pub During : FolderChange → Folder → Stopped → Type 0
During (printed piece) folder left =
    (part : List ℕ) × (missing : List ℕ) × (part ++ missing ≡ piece) × MayLeaveFolder (folder_after (printed part) folder) left
During change folder left = MayLeaveFolder folder left ⊎ MayLeaveFolder (folder_after change folder) left

-- A name that isn't open, whose file is durable with these bytes, or is missing.
abbrev pub entry_from : Option (List ℕ) → NameEntry
entry_from bytes = record { now = option_map settled_file_of bytes; others = []; how = shut }

-- The folder after the machine starts over these files: all of them are durable, and none is open.
abbrev pub settled_folder : Stopped → Folder
settled_folder start = record {
  zero = entry_from start.zero;
  one = entry_from start.one;
  store = entry_from start.store;
  new = entry_from start.new;
  out = start.out;
}

-- the bytes that a read returns, if the file exists
abbrev pub bytes_now : NameEntry → Option (List ℕ)
bytes_now entry = option_map (λ file. file.bytes) entry.now

-- what a read returns of each file, and the output
abbrev pub here_in : Folder → Stopped
here_in folder = record {
  zero = bytes_now folder.zero;
  one = bytes_now folder.one;
  store = bytes_now folder.store;
  new = bytes_now folder.new;
  out = folder.out;
}
