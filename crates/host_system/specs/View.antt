-- The folder as a board sees it: its two files, the record store in its store file, and the output.
use Rattle.std.specs.Prelude.{◌≡◌, ℕ, List, [], length, Option, None, Some}
use Rattle.std.specs.Option.{option_map}
use Rattle.std.specs.Result.{result_unwrap_or}
use Rattle.erst_store.specs.Store.{Stored}
use Rattle.erst_store.specs.StoreFile.{store_bytes}
use Rattle.erst_store.specs.StoreReading.{file_at}
use Rattle.ras_base.specs.LittleEndian.{AreBytes}
use Rattle.board_core.specs.Clock.{Clock, untold}
use Rattle.board_core.specs.declared.board.FileNo.TheVariants.{Zero, One}
use Rattle.host_system.specs.declared.system.FileName.{FileName}
use Rattle.host_system.specs.declared.system.FileName.TheVariants.{Journal, Store, New}
use Rattle.board_core.specs.Stop.{Left}
use Rattle.host_system.specs.Folder.{FolderFile, Stopped, here_in, settled_folder}
use Rattle.host_system.specs.FolderPast.{FolderPast, MayLeaveFolderSince, bytes_or, folder_of, file_bytes, IsNotLost}

-- the store in a file: empty if the file is missing or isn't a store
abbrev pub store_in : Option (List ℕ) → List Stored
store_in None = []
store_in (Some bytes) = result_unwrap_or (file_at bytes) []

-- The file has the bytes of this store. If the file is missing the store is empty.
abbrev pub IsFileOf : List Stored → Option (List ℕ) → Type 0
IsFileOf store None = store ≡ []
IsFileOf store (Some bytes) = bytes ≡ store_bytes store

-- what a board sees of these files
abbrev pub seen_as : Stopped → Left
seen_as left = record {
  file0 = bytes_or left.zero;
  file1 = bytes_or left.one;
  store = store_in left.store;
  out = left.out;
}

-- what a crash may leave, as a board sees it
pub record LeavesSince (past : FolderPast) (t : ℕ) (left : Left) : Type 0 where
  pub stopped : Stopped
  pub may : MayLeaveFolderSince (settled_folder past.first) past.changes t stopped
  pub is : left ≡ seen_as stopped

-- the number of changes made so far, and what a crash may leave since each
abbrev pub clock_over : Option FolderPast → Clock
clock_over None = untold
clock_over (Some past) = record { now = length past.changes; may_leave_since = LeavesSince past }

-- what a board sees now
abbrev pub seen_now : FolderPast → Left
seen_now past = seen_as (here_in (folder_of past))

-- the model of a board over a system
abbrev pub told_over : Option FolderPast → Option Left
told_over past = option_map seen_now past

-- ---- the record store's file

-- All bytes of a file that may be missing are durable.
abbrev pub IsDurable : Option FolderFile → Type 0
IsDurable None = Unit {0}
IsDurable (Some file) = file.disk.written ≡ []

-- All bytes of the store's file are durable. Its name may not be.
abbrev pub HasWholeStore : FolderPast → Type 0
HasWholeStore past = IsDurable (folder_of past).store.now

-- The record store's file is usable: all its bytes are durable, and each is below 256.
pub record HasUsableStore (past : FolderPast) : Type 0 where
  pub whole : HasWholeStore past
  pub bytes : AreBytes (file_bytes Store past)

-- A read returns what was written, unless a sync of the file failed. The record store's file is never written
-- in place, so all its bytes have to be durable.
abbrev pub MayBeRead : FileName → FolderPast → Type 0
MayBeRead (Journal file) past = IsNotLost (Journal file) past
MayBeRead Store past = HasWholeStore past
MayBeRead New past = IsNotLost New past

-- A board may begin over a folder: no sync of a journal file failed, and the record store's file is durable and its
-- bytes are below 256. Names may not be durable, for example after a run was killed.
pub record MayBegin (past : FolderPast) : Type 0 where
  pub zero : IsNotLost (Journal Zero) past
  pub one : IsNotLost (Journal One) past
  pub whole : HasWholeStore past
  pub bytes : AreBytes (file_bytes Store past)
