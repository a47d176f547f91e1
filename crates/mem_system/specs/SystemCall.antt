-- The calls of a system, as values, and what the folder's model says of each: when it may be made, its result and its
-- change.
use Rattle.std.specs.Prelude.{◌≡◌, ℕ, ◌≤◌, ◌⊎◌, List, length, take, drop, Option, None, Some, Result, Ok, Err, Vec}
use Rattle.std.specs.Option.{option_map}
use Rattle.std.specs.declared.alloc.Global.{Global}
use Rattle.ras_base.specs.LittleEndian.{AreBytes}
use Rattle.board_core.specs.declared.board.FileNo.{FileNo}
use Rattle.board_core.specs.declared.source.Failed.{Failed}
use Rattle.host_system.specs.declared.system.FileName.{FileName}
use Rattle.host_system.specs.declared.system.FileName.TheVariants.{Journal}
use Rattle.host_system.specs.Folder.{FolderChange, wrote, synced, made, opens, locks, loses, removed, renamed, synced_names, printed}
use Rattle.host_system.specs.FolderPast.{FolderPast, changed_by, HasFile, IsMissing, IsOpen, IsNotLost, MayBeWritten, MayDo, MayPrint, bytes_named, file_bytes, length_told}

-- The thirteen calls of `System`, with their arguments. A buffer to be filled is given by its length.
pub data SystemCall : Type 0 where
  to_find : FileName → SystemCall
  to_open : FileName → SystemCall
  to_make : FileName → SystemCall
  to_lock : FileName → SystemCall
  to_read : FileName → ℕ → SystemCall
  to_read_at : FileName → ℕ → ℕ → SystemCall
  to_write_at : FileName → ℕ → List ℕ → SystemCall
  to_sync : FileName → SystemCall
  to_sync_read : FileNo → SystemCall
  to_remove : FileName → SystemCall
  to_rename : SystemCall
  to_sync_names : SystemCall
  to_print : List ℕ → SystemCall

-- A result: the call failed, or it did what it was asked to, or this is the length of a file that may be missing, or
-- these are its bytes.
pub data Answer : Type 0 where
  failed : Answer
  did : Answer
  found : Option ℕ → Answer
  gave : Option (List ℕ) → Answer

-- ---- the answers, as the methods of `System` return them

abbrev pub did_or_failed : Result (Unit {0}) Failed → Answer
did_or_failed (Ok done) = did
did_or_failed (Err error) = failed

abbrev pub found_or_failed : Result (Option ℕ) Failed → Answer
found_or_failed (Ok size) = found size
found_or_failed (Err error) = failed

abbrev pub gave_or_failed : Result (Option (Vec ℕ Global)) Failed → Answer
gave_or_failed (Ok bytes) = gave (option_map (λ v. v.items) bytes)
gave_or_failed (Err error) = failed

-- The buffer has these bytes after the call.
abbrev pub filled_or_failed : List ℕ → Result (Unit {0}) Failed → Answer
filled_or_failed buf (Ok done) = gave (Some buf)
filled_or_failed buf (Err error) = failed

-- ---- a call that succeeds

-- what `System` requires of a call
abbrev pub MayAsk : SystemCall → FolderPast → Type 0
MayAsk (to_open name) past = HasFile name past × IsNotLost name past
MayAsk (to_make name) past = IsMissing name past
MayAsk (to_lock name) past = IsOpen name past
MayAsk (to_read_at name place count) past = IsOpen name past × (count ≤ length (drop place (file_bytes name past)))
MayAsk (to_write_at name place bytes) past = HasFile name past × MayBeWritten name past × (place ≤ length (file_bytes name past))
MayAsk (to_sync name) past = HasFile name past × IsOpen name past
MayAsk (to_sync_read file) past = IsNotLost (Journal file) past
MayAsk (to_remove name) past = HasFile name past
MayAsk to_rename past = HasFile FileName.New past
MayAsk call past = Unit {0}

-- the result that the folder gives
abbrev pub answer_in : SystemCall → FolderPast → Answer
answer_in (to_find name) past = found (length_told name past)
answer_in (to_read name most) past = gave (option_map (take most) (bytes_named name past))
answer_in (to_read_at name place count) past = gave (Some (take count (drop place (file_bytes name past))))
answer_in call past = did

-- the change that the call makes, if any
abbrev pub change_by : SystemCall → Option FolderChange
change_by (to_open name) = Some (opens name)
change_by (to_make name) = Some (made name)
change_by (to_lock name) = Some (locks name)
change_by (to_write_at name place bytes) = Some (wrote name place (length bytes) bytes)
change_by (to_sync name) = Some (synced name)
change_by (to_sync_read file) = Some (synced (Journal file))
change_by (to_remove name) = Some (removed name)
change_by to_rename = Some renamed
change_by to_sync_names = Some synced_names
change_by (to_print bytes) = Some (printed bytes)
change_by call = None

-- the past with one more change, or unchanged
abbrev pub with_any : Option FolderChange → FolderPast → FolderPast
with_any None past = past
with_any (Some change) past = changed_by change past

-- ---- a call that fails

-- A failed write wrote nothing, or any bytes in place of those it was asked to, but not more of them.
abbrev pub MayWriteBytes : FileName → ℕ → ℕ → FolderPast → FolderPast → Type 0
MayWriteBytes name place count old new =
    (new ≡ old) ⊎ ((bytes : List ℕ) × AreBytes bytes × (length bytes ≤ count) × (new ≡ changed_by (wrote name place count bytes) old))

-- what a failed call may have done
abbrev pub MayFail : SystemCall → FolderPast → FolderPast → Type 0
MayFail (to_make name) old new = MayDo (made name) old new
MayFail (to_write_at name place bytes) old new = MayWriteBytes name place (length bytes) old new
MayFail (to_sync name) old new = new ≡ changed_by (loses name) old
MayFail (to_sync_read file) old new = new ≡ changed_by (loses (Journal file)) old
MayFail (to_remove name) old new = MayDo (removed name) old new
MayFail to_rename old new = MayDo renamed old new
MayFail (to_print bytes) old new = MayPrint bytes old new
MayFail call old new = new ≡ old
