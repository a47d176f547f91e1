-- Calls that a board doesn't see, and the call that gives the record store a new file.
use Rattle.std.specs.Prelude.{◌≡◌, ℕ, ◌⊎◌, List, [], Option, Some}
use Rattle.board_core.specs.Clock.{Passes}
use Rattle.board_core.specs.Stop.{Same}
use Rattle.host_system.specs.Folder.{Folder, FolderFile, opened, settled_name, settled_file_of}
use Rattle.host_system.specs.FolderPast.{FolderPast, folder_of, IfTold}
use Rattle.host_system.specs.View.{clock_over}

-- Everything is unchanged except what `rasd.new` refers to.
pub record KeepsSeen (old new : Folder) : Type 0 where
  pub zero : new.zero ≡ old.zero
  pub one : new.one ≡ old.one
  pub store : new.store ≡ old.store
  pub out : new.out ≡ old.out

abbrev pub SeesNothing : FolderPast → FolderPast → Type 0
SeesNothing old new = KeepsSeen (folder_of old) (folder_of new)

-- Calls were made that changed only `rasd.new`. A crash during them or after them leaves what a crash before them
-- might have left, as a board sees it.
pub record Quiet (old new : Option FolderPast) : Type 0 where
  pub keeps : IfTold SeesNothing old new
  pub stops : Passes Same (clock_over old) (clock_over new)

-- `rasd.new` refers to this file, which is open.
pub record HasNew (file : FolderFile) (past : FolderPast) : Type 0 where
  pub is : (folder_of past).new.now ≡ Some file
  pub is_open : (folder_of past).new.how ≡ opened

-- The store's file has these bytes, and they are durable. Its name may not be. Everything else is unchanged.
pub record Moved (bytes : List ℕ) (old new : Folder) : Type 0 where
  pub zero : new.zero ≡ old.zero
  pub one : new.one ≡ old.one
  pub store : new.store.now ≡ Some (settled_file_of bytes)
  pub out : new.out ≡ old.out

abbrev pub HasMoved : List ℕ → FolderPast → FolderPast → Type 0
HasMoved bytes old new = Moved bytes (folder_of old) (folder_of new)

-- The store's file has these bytes, and so has the disk under its name. Everything else is as a read returned it.
pub record Replaced (bytes : List ℕ) (old new : Folder) : Type 0 where
  pub zero : new.zero ≡ settled_name old.zero
  pub one : new.one ≡ settled_name old.one
  pub store : new.store.now ≡ Some (settled_file_of bytes)
  pub others : new.store.others ≡ []
  pub out : new.out ≡ old.out

abbrev pub IsReplaced : List ℕ → FolderPast → FolderPast → Type 0
IsReplaced bytes old new = Replaced bytes (folder_of old) (folder_of new)

-- A failed rename did nothing, or gave the file its name.
abbrev pub MayHaveMoved : List ℕ → FolderPast → FolderPast → Type 0
MayHaveMoved bytes old new = SeesNothing old new ⊎ HasMoved bytes old new
