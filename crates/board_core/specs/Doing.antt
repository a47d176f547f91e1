-- What a function over a board does: its acts one after another, how far they came, and what a crash leaves meanwhile.
use Rattle.std.specs.Prelude.{◌≡◌, ℕ, ◌≤◌, ◌⊎◌, List, [], ◌∷◌, ◌++◌, length, Option, Some, IfSome, Result, Ok, Err, OnOk, OnErr}
use Rattle.erst_store.specs.Device.{Device}
use Rattle.board_core.specs.declared.board.FileNo.{FileNo}
use Rattle.board_core.specs.declared.board.DiskCall.{DiskCall}
use Rattle.board_core.specs.declared.board.DiskCall.TheVariants.{WriteAt, Sync}
use Rattle.board_core.specs.declared.board.Reg.{Reg}
use Rattle.board_core.specs.declared.board.Access.{Access}
use Rattle.board_core.specs.declared.board.Access.TheVariants.{Read, Write, RangeRead, RangeWrite}
use Rattle.board_core.specs.declared.board.BoardPut.{BoardPut}
use Rattle.board_core.specs.declared.board.BoardPut.TheVariants.{Refused}
use Rattle.board_core.specs.Cause.{Faults, Kind, Rose, FailsAs, count_of, device_call, disk_call, print_call, with_count, put_failure}
use Rattle.board_core.specs.Clock.{Clock, Adds, Rests, Passes, Leads, IsSynced, StoreIsLeft}
use Rattle.board_core.specs.Stop.{Left, Same, InFile, InStore, InOut, Begins, Appends}
use Rattle.board_core.specs.Told.{Told, Torn, Steps, Relates, file_of, device_of, on_device, register_in, with_call, with_access}
use Rattle.board_core.specs.Told.{after_write, after_write_through, after_print, after_reg_write, after_range_write, after_put}
use Rattle.board_core.specs.Told.{MayList, MayListAccess, MayAct, FailsAccess, FailsWrite, FailsThrough, FailsPrint, StoreBy}

-- A board as contracts see it: its model, what a crash leaves of it, and its counts of faults.
pub record Seen : Type 1 where
  pub told : Option Told
  pub clock : Clock
  pub faults : Faults

-- ---- acts

-- a call of the device: a register read or written, bytes of its range read (from an offset, and their number) or
-- written, a record put
pub data DeviceCall : Type 0 where
  reg_read : Reg → DeviceCall
  reg_write : Reg → ℕ → DeviceCall
  range_read : ℕ → ℕ → DeviceCall
  range_write : ℕ → List ℕ → DeviceCall
  put : ℕ → List ℕ → DeviceCall

-- A write of bytes at an offset of a file with its sync; a write without a sync; a print; a disk call that writes
-- nothing; or a call of the device. Each is one call of a board, except the first, which is two.
pub data Act : Type 0 where
  through : FileNo → ℕ → List ℕ → Act
  writes : FileNo → ℕ → List ℕ → Act
  prints : List ℕ → Act
  calls : DiskCall → Act
  device : DeviceCall → Act

-- the kind of fault that a failed call of this act raises
abbrev pub kind_of : Act → Kind
kind_of (through file place bytes) = disk_call
kind_of (writes file place bytes) = disk_call
kind_of (prints bytes) = print_call
kind_of (calls call) = disk_call
kind_of (device call) = device_call

-- ---- a call of the device: done, failed

-- the model after a device call that succeeded
abbrev pub after_device : DeviceCall → Told → Told
after_device (reg_read reg) t = with_access (Read reg (register_in reg (device_of t))) t
after_device (reg_write reg value) t = with_access (Write reg value) (on_device (after_reg_write reg value) t)
after_device (range_read place count) t = with_access (RangeRead place count) t
after_device (range_write place bytes) t =
    with_access (RangeWrite place (length bytes)) (on_device (after_range_write place bytes) t)
after_device (put id bytes) t = on_device (after_put id bytes) t

-- A failed device call may or may not have acted, and may or may not be listed.
abbrev pub FailsDevice : DeviceCall → Told → Told → Type 0
FailsDevice (reg_read reg) old new = MayListAccess (Read reg 0) old new
FailsDevice (reg_write reg value) old new = FailsAccess (Write reg value) (after_reg_write reg value) old new
FailsDevice (range_read place count) old new = MayListAccess (RangeRead place count) old new
FailsDevice (range_write place bytes) old new =
    FailsAccess (RangeWrite place (length bytes)) (after_range_write place bytes) old new
FailsDevice (put id bytes) old new = MayAct (after_put id bytes) old new

-- the accesses that a device call lists
abbrev pub accesses_by : DeviceCall → Device → List Access
accesses_by (reg_read reg) d = Read reg (register_in reg d) ∷ []
accesses_by (reg_write reg value) d = Write reg value ∷ []
accesses_by (range_read place count) d = RangeRead place count ∷ []
accesses_by (range_write place bytes) d = RangeWrite place (length bytes) ∷ []
accesses_by (put id bytes) d = []

-- ---- one act: done, failed, torn by a crash

-- the model after an act
abbrev pub after_act : Act → Told → Told
after_act (through file place bytes) t = after_write_through file place bytes t
after_act (writes file place bytes) t = after_write file place bytes t
after_act (prints bytes) t = after_print bytes t
after_act (calls call) t = with_call call t
after_act (device call) t = after_device call t

-- how the model may change if a call of this act fails
abbrev pub FailsAct : Act → Told → Told → Type 0
FailsAct (through file place bytes) old new = FailsThrough file place bytes old new
FailsAct (writes file place bytes) old new = FailsWrite file place (length bytes) old new
FailsAct (prints bytes) old new = FailsPrint bytes old new
FailsAct (calls call) old new = MayList call old new
FailsAct (device call) old new = FailsDevice call old new

-- How what a crash leaves may change during this act.
abbrev pub Tears : Act → Option Told → Left → Left → Type 0
Tears (through file place bytes) told = InFile file (Torn place (length bytes))
Tears (writes file place bytes) told = InFile file (Torn place (length bytes))
Tears (prints bytes) told = InOut (Begins bytes)
Tears (device (reg_write reg value)) told = InStore (StoreBy (after_reg_write reg value) told)
Tears (device (put id bytes)) told = InStore (StoreBy (after_put id bytes) told)
Tears act told = Same

-- the disk calls that an act lists
abbrev pub disk_calls_by : Act → List DiskCall
disk_calls_by (through file place bytes) = WriteAt file place (length bytes) ∷ Sync file ∷ []
disk_calls_by (writes file place bytes) = WriteAt file place (length bytes) ∷ []
disk_calls_by (prints bytes) = []
disk_calls_by (calls call) = call ∷ []
disk_calls_by (device call) = []

-- ---- one call of a board

-- What is certain of a crash once this act has succeeded: a sync leaves the file's bytes and the store, a print the
-- whole piece, and a device call that may change the store leaves the changed one if a crash before left the old one.
abbrev pub ActSettles : Act → Seen → Seen → Type 0
ActSettles (calls (Sync file)) old new =
    IfSome old.told (λ t. IsSynced file (file_of file t) new.clock) × StoreIsLeft new.told new.clock
ActSettles (prints bytes) old new = Leads (InOut (Appends bytes)) old.clock new.clock
ActSettles (device (reg_write reg value)) old new = StoreIsLeft old.told old.clock → StoreIsLeft new.told new.clock
ActSettles (device (put id bytes)) old new = StoreIsLeft old.told old.clock → StoreIsLeft new.told new.clock
ActSettles act old new = Unit {0}

-- An act was made by one call, with this result. The model changes as the act does, or as a failed call of it may; a
-- crash at most tears the act; the call counts one fault of its kind if and only if it failed.
pub record ActMade {T E : Type 0} (act : Act) (result : Result T E) (old new : Seen) : Type 0 where
  pub told : OnOk result (Steps (after_act act) old.told new.told)
  pub failed : OnErr result (Relates (FailsAct act) old.told new.told)
  pub stops : Passes (Tears act old.told) old.clock new.clock
  pub settles : OnOk result (ActSettles act old new)
  pub cause : FailsAs (kind_of act) old.faults new.faults result

-- Nothing changed, and a crash meanwhile leaves what a crash before might have left.
pub record BoardStays (old new : Seen) : Type 0 where
  pub told : new.told ≡ old.told
  pub stops : Passes Same old.clock new.clock
  pub faults : new.faults ≡ old.faults

-- A put was made. A put that the store refuses changes nothing.
abbrev pub PutMade : ℕ → List ℕ → Result (Unit {0}) BoardPut → Seen → Seen → Type 0
PutMade id bytes (Err (Refused cause)) old new = BoardStays old new
PutMade id bytes result old new = ActMade (device (put id bytes)) (put_failure result) old new

-- ---- acts one after another

abbrev pub after_acts : List Act → Told → Told
after_acts [] t = t
after_acts (act ∷ acts) t = after_acts acts (after_act act t)

-- One of the acts failed, as a fault of this kind, and was the last. The acts before it are done.
abbrev pub FailsActs : Kind → List Act → Told → Told → Type 0
FailsActs kind [] old new = ⊥
FailsActs kind (act ∷ acts) old new =
    ((kind_of act ≡ kind) × FailsAct act old new) ⊎ FailsActs kind acts (after_act act old) new

-- A crash tore one of the acts, and the acts before it are done.
abbrev pub Moment : List Act → Told → Left → Type 0
Moment [] t left = ⊥
Moment (act ∷ acts) t left = Tears act (Some t) t.here left ⊎ Moment acts (after_act act t) left

-- the disk calls that these acts list
abbrev pub calls_of : List Act → List DiskCall
calls_of [] = []
calls_of (act ∷ acts) = disk_calls_by act ++ calls_of acts

-- the accesses that these acts list, if this is the model before them
abbrev pub accesses_of : List Act → Told → List Access
accesses_of [] t = []
accesses_of (device call ∷ acts) t = accesses_by call (device_of t) ++ accesses_of acts (after_device call t)
accesses_of (act ∷ acts) t = accesses_of acts (after_act act t)

-- ---- what a call does

-- All calls succeeded; a call of the board of this kind failed; or the function gave up before the first.
pub data Ended : Type 0 where
  went_well : Ended
  broke : Kind → Ended
  gave_up : Ended

-- how a result ends, given how each error ends
abbrev pub ended_by : {T E : Type 0} → (E → Ended) → Result T E → Ended
ended_by why (Ok x) = went_well
ended_by why (Err e) = why e

-- how a function ends whose errors are all failed calls of this kind
abbrev pub one_end : {T E : Type 0} → Kind → Result T E → Ended
one_end kind result = ended_by (λ _. broke kind) result

-- the acts of a put; a put that the store refuses does nothing
abbrev pub put_acts : ℕ → List ℕ → Result (Unit {0}) BoardPut → List Act
put_acts id bytes (Err (Refused cause)) = []
put_acts id bytes result = device (put id bytes) ∷ []

-- The count of this kind of fault rose by one, and the other counts are unchanged.
pub record Raises (kind : Kind) (old new : Faults) : Type 0 where
  pub later : count_of kind old ≤ count_of kind new
  pub own : Rose (count_of kind old) (count_of kind new)
  pub others : new ≡ with_count kind (count_of kind new) old

-- All acts are done: the model has changed by them, a crash meanwhile leaves a moment of them, and no fault is counted.
pub record GoesWell (acts : List Act) (old new : Seen) : Type 0 where
  pub told : Steps (after_acts acts) old.told new.told
  pub stops : (t : Told) → Rests t old.told old.clock → Adds (Moment acts t) old.clock new.clock
  pub rests : (t : Told) → Rests t old.told old.clock → Rests (after_acts acts t) new.told new.clock
  pub faults : new.faults ≡ old.faults

-- A call of this kind failed in one of the acts: the fault is counted, and the acts before it are done.
pub record Breaks (kind : Kind) (acts : List Act) (old new : Seen) : Type 0 where
  pub told : Relates (FailsActs kind acts) old.told new.told
  pub stops : (t : Told) → Rests t old.told old.clock → Adds (Moment acts t) old.clock new.clock
  pub faults : Raises kind old.faults new.faults

-- A function did these acts; or it began them and a call of the board failed; or it gave up and the board is
-- unchanged.
abbrev pub Does : {X : Type 0} → (X → Seen) → List Act → Ended → X → X → Type 0
Does see acts went_well old new = GoesWell acts (see old) (see new)
Does see acts (broke kind) old new = Breaks kind acts (see old) (see new)
Does see acts gave_up old new = new ≡ old

-- The function didn't give up before its first call.
abbrev pub IsMade : Ended → Type 0
IsMade went_well = Unit {0}
IsMade (broke kind) = Unit {0}
IsMade gave_up = ⊥

-- A call failed, or the function gave up.
abbrev pub IsBad : Ended → Type 0
IsBad went_well = ⊥
IsBad (broke kind) = Unit {0}
IsBad gave_up = Unit {0}

-- ---- acts of one sort

-- An act of the disk: neither a print nor a call of the device.
abbrev pub IsOnDisk : Act → Type 0
IsOnDisk (through file place bytes) = Unit {0}
IsOnDisk (writes file place bytes) = Unit {0}
IsOnDisk (prints bytes) = ⊥
IsOnDisk (calls call) = Unit {0}
IsOnDisk (device call) = ⊥

-- All acts are of the disk.
abbrev pub AreOnDisk : List Act → Type 0
AreOnDisk [] = Unit {0}
AreOnDisk (act ∷ acts) = IsOnDisk act × AreOnDisk acts

abbrev pub IsOffDevice : Act → Type 0
IsOffDevice (through file place bytes) = Unit {0}
IsOffDevice (writes file place bytes) = Unit {0}
IsOffDevice (prints bytes) = Unit {0}
IsOffDevice (calls call) = Unit {0}
IsOffDevice (device call) = ⊥

-- No act is a call of the device.
abbrev pub AreOffDevice : List Act → Type 0
AreOffDevice [] = Unit {0}
AreOffDevice (act ∷ acts) = IsOffDevice act × AreOffDevice acts
