-- What one call of the operating system does, for the clauses of `Kernel`.
use Rattle.std.specs.Prelude.{◌≡◌, ◌⊎◌, ℕ, Bool, true, false, Option, None, Some, IfSome, Result, Ok, Err}
use Rattle.std.specs.Option.{option_map}
use Rattle.host_system.specs.declared.kernel.FileKind.TheVariants.{Link}
use Rattle.host_system.specs.declared.kernel.FoundFile.{FoundFile}
use Rattle.host_system.specs.declared.kernel.Held.{Held}
use Rattle.host_system.specs.declared.kernel.Held.TheVariants.{Kept, Opened}
use Rattle.host_system.specs.declared.kernel.Note.{Note}
use Rattle.host_system.specs.declared.kernel.Note.TheVariants.{Locked, Lost, Absent, Names}
use Rattle.host_system.specs.declared.kernel.Place.{Place}
use Rattle.host_system.specs.declared.kernel.Place.TheVariants.{Name}
use Rattle.host_system.specs.declared.kernel.Refusal.{Refusal}
use Rattle.host_system.specs.declared.kernel.Refusal.TheVariants.{Exists, NotPermitted, Unsupported, Interrupted}
use Rattle.host_system.specs.declared.kernel.Way.{Way}
use Rattle.host_system.specs.declared.system.FileName.{FileName}
use Rattle.host_system.specs.declared.system.FileName.TheVariants.{Journal}
use Rattle.host_system.specs.Folder.{FolderChange, opens, locks, loses, made, synced, synced_names}
use Rattle.host_system.specs.FolderPast.{FolderPast, Did, IfTold, MayDo, HasFile, IsMissing, IsOpen, length_told}

-- ---- what is found

-- Nothing was found, and the file with this name is missing; or the file was found, with its length.
abbrev pub IsFound : FileName → Option FoundFile → FolderPast → Type 0
IsFound name found past = length_told name past ≡ option_map (λ f. f.length) found

-- What was found, if the name is one of the four.
abbrev pub IsFoundAt : Place → Option FoundFile → FolderPast → Type 0
IsFoundAt (Name name) found past = IsFound name found past
IsFoundAt place found past = Unit {0}

abbrev pub IsLink : Option FoundFile → Type 0
IsLink None = ⊥
IsLink (Some found) = found.kind ≡ Link

-- What a name itself refers to was found: its file, or a symlink, of which nothing more is known. Only a journal
-- file's name may be a symlink.
abbrev pub IsFoundItself : Place → Option FoundFile → FolderPast → Type 0
IsFoundItself (Name (Journal file)) found past = IsLink found ⊎ IsFound (Journal file) found past
IsFoundItself place found past = IsFoundAt place found past

-- A call that only looks changes nothing except the count of failed calls.
pub record Looks (old new : Option FolderPast) (before now : Option FolderChange) : Type 0 where
  pub told : new ≡ old
  pub prepared : now ≡ before

-- A file that isn't a symlink is in the folder that its name is in.
abbrev pub IsThere : Place → Option FoundFile → (FileName → Bool) → Type 0
IsThere (Name name) (Some found) reaches = (found.kind ≡ Link → ⊥) → reaches name ≡ true
IsThere place found reaches = Unit {0}

-- The file that was opened last is open in this way, if the kernel is modelled.
abbrev pub IsOpenAs : Way → Option FolderPast → Way → Type 0
IsOpenAs how None way = Unit {0}
IsOpenAs how (Some past) way = way ≡ how

-- ---- which answers count as failed calls

abbrev pub failed_any : {T E : Type 0} → Result T E → ℕ
failed_any (Ok value) = 0
failed_any (Err why) = 1

-- The calls that failed in making a file. That the file exists isn't a failure: another run has made it.
abbrev pub failed_make : Result (Unit {0}) Refusal → ℕ
failed_make (Ok done) = 0
failed_make (Err Exists) = 0
failed_make (Err why) = 1

-- The calls that failed in a sync of a file. That the file system can't sync a file that is only read isn't a failure.
abbrev pub failed_sync : Held → Result (Unit {0}) Refusal → ℕ
failed_sync held (Ok done) = 0
failed_sync (Opened name) (Err Unsupported) = 0
failed_sync held (Err why) = 1

-- The calls that failed in a sync of the folder. For a process that keeps no file it isn't a failure if the folder
-- can't be synced or may not be opened.
abbrev pub failed_names : Bool → Result (Unit {0}) Refusal → ℕ
failed_names keeps (Ok done) = 0
failed_names false (Err Unsupported) = 0
failed_names false (Err NotPermitted) = 0
failed_names keeps (Err why) = 1

-- The calls that failed in a read. An interrupted read isn't a failure.
abbrev pub failed_read : {T : Type 0} → Result T Refusal → ℕ
failed_read (Ok value) = 0
failed_read (Err Interrupted) = 0
failed_read (Err why) = 1

-- ---- which file a call is made on

abbrev pub name_of : Held → FileName
name_of (Kept name) = name
name_of (Opened name) = name

-- The calls before this one have prepared this change, if the kernel is modelled.
abbrev pub IsPrepared : FolderChange → Option FolderPast → Option FolderChange → Type 0
IsPrepared change None prepared = Unit {0}
IsPrepared change (Some past) prepared = prepared ≡ Some change

-- A file may be used: it is kept as a name's file, or it is the file that was opened last, by this name.
abbrev pub IsHeldBy : Held → Option FolderPast → Option FolderChange → Type 0
IsHeldBy (Kept name) told prepared = Unit {0}
IsHeldBy (Opened name) told prepared = IsPrepared (opens name) told prepared

-- A file may be synced: if it is kept, it exists and is open.
abbrev pub MaySync : Held → Option FolderPast → Option FolderChange → Type 0
MaySync (Kept name) told prepared = IfSome told (HasFile name) × IfSome told (IsOpen name)
MaySync (Opened name) told prepared = IsPrepared (opens name) told prepared

-- ---- what a call that failed did

-- Making a file failed. In a modelled folder nobody else makes files, so a missing file doesn't exist when it is made.
abbrev pub FailsMake : FileName → Refusal → Option FolderPast → Option FolderPast → Type 0
FailsMake name Exists old new = (old ≡ None) × (new ≡ None)
FailsMake name why old new = IfTold (MayDo (made name)) old new

-- A sync of a file failed. If the file was opened only to be read, and the file system has no syncs, the sync counts
-- as done, because then nothing is left to be written. A read-only mount without errors syncs successfully; a mount
-- that returns "read-only file system" has failed, and has bytes that will never be written.
abbrev pub FailsSync : Held → Refusal → Option FolderPast → Option FolderPast → Type 0
FailsSync (Kept name) why old new = Did (loses name) old new
FailsSync (Opened name) Unsupported old new = Did (synced name) old new
FailsSync (Opened name) why old new = Did (loses name) old new

-- Syncing the names failed, in a process that keeps no file. It may count as done if the file system has no syncs. A
-- modelled folder may be opened.
abbrev pub FailsNames : Refusal → Option FolderPast → Option FolderChange → Type 0
FailsNames Unsupported told prepared = IsPrepared synced_names told prepared
FailsNames NotPermitted told prepared = told ≡ None
FailsNames why told prepared = Unit {0}

-- ---- notes

-- the change that a note makes
abbrev pub change_of : Note → FolderChange
change_of (Locked name) = locks name
change_of (Lost name) = loses name
change_of (Absent file) = synced (Journal file)
change_of Names = synced_names

-- What may be noted: that a prepared change is done, that a file isn't relied on any more, and that a missing file is
-- synced. A file counts as locked only if a sync of the folders makes its name durable.
abbrev pub MayNote : Note → Option FolderPast → Option FolderChange → (FileName → Bool) → Type 0
MayNote (Locked name) told prepared reaches = IsPrepared (locks name) told prepared × (reaches name ≡ true)
MayNote (Lost name) told prepared reaches = Unit {0}
MayNote (Absent file) told prepared reaches = IfSome told (IsMissing (Journal file))
MayNote Names told prepared reaches = IsPrepared synced_names told prepared
