-- The model of a board, and what each call does to it.
use Rattle.std.specs.Prelude.{◌≡◌, ℕ, ◌+◌, ◌-◌, ◌≤◌, ◌⊎◌, min, max, List, [], ◌∷◌, ◌++◌, length, take, drop, Option, None, Some, Result, Ok, Err}
use Rattle.std.specs.Option.{option_map}
use Rattle.erst_store.specs.declared.store.PutRefused.{PutRefused}
use Rattle.erst_store.specs.Store.{Stored, refusal_of, AnswersRefusal}
use Rattle.erst_store.specs.Device.{Device, Volatile, device_with, volatile_of, act, with_put, range_with}
use Rattle.board_core.specs.declared.board.FileNo.{FileNo}
use Rattle.board_core.specs.declared.board.DiskCall.{DiskCall}
use Rattle.board_core.specs.declared.board.DiskCall.TheVariants.{WriteAt, Sync}
use Rattle.board_core.specs.declared.board.Reg.{Reg}
use Rattle.board_core.specs.declared.board.Reg.TheVariants.{Action, Value}
use Rattle.board_core.specs.declared.board.Access.{Access}
use Rattle.board_core.specs.declared.board.BoardPut.{BoardPut}
use Rattle.board_core.specs.declared.board.BoardPut.TheVariants.{Refused, Failed}
use Rattle.board_core.specs.Stop.{Left, file_in, with_file_in, Becomes}

-- The files as a read returns them, the record store and the bytes printed so far, which a crash leaves if everything
-- written is durable; the device's state apart from its store; and the disk calls and the accesses to the device made
-- so far.
pub record Told : Type 0 where
  pub here : Left
  pub volatile : Volatile
  pub disk_calls : List DiskCall
  pub accesses : List Access

-- ---- the files and the text

abbrev pub file_of : FileNo → Told → List ℕ
file_of file t = file_in file t.here

abbrev pub with_file : FileNo → List ℕ → Told → Told
with_file file bytes t = record t { here = with_file_in file bytes t.here }

-- the model with one more disk call in its list
abbrev pub with_call : DiskCall → Told → Told
with_call call t = record t { disk_calls = t.disk_calls ++ call ∷ [] }

-- a file's bytes after a write of other bytes from an offset on, which may extend the file
abbrev pub overlay : ℕ → List ℕ → List ℕ → List ℕ
overlay place bytes old = take place old ++ bytes ++ drop (place + length bytes) old

-- the model after a write
abbrev pub after_write : FileNo → ℕ → List ℕ → Told → Told
after_write file place bytes t =
    with_call (WriteAt file place (length bytes)) (with_file file (overlay place bytes (file_of file t)) t)

-- the model after a write and a sync
abbrev pub after_write_through : FileNo → ℕ → List ℕ → Told → Told
after_write_through file place bytes t = with_call (Sync file) (after_write file place bytes t)

-- the model after a print
abbrev pub after_print : List ℕ → Told → Told
after_print bytes t = record t { here = record t.here { out = t.here.out ++ bytes } }

-- A read of n bytes from an offset puts these bytes into the front of a buffer.
pub record ReadsBytes (place n : ℕ) (buffer file : List ℕ) : Type 0 where
  pub count : n ≡ min (length buffer) (length file - place)
  pub bytes : take n buffer ≡ take n (drop place file)

-- ---- the device

-- the device as a whole: its store, which a crash leaves, and the rest
abbrev pub device_of : Told → Device
device_of t = device_with t.here.store t.volatile

abbrev pub with_device : Device → Told → Told
with_device d t = record t { here = record t.here { store = d.store }; volatile = volatile_of d }

-- the model after a step that changes only the device
abbrev pub on_device : (Device → Device) → Told → Told
on_device step t = with_device (step (device_of t)) t

-- the model with one more access in its list
abbrev pub with_access : Access → Told → Told
with_access access t = record t { accesses = t.accesses ++ access ∷ [] }

-- the number in a register
abbrev pub register_in : Reg → Device → ℕ
register_in Action d = d.action
register_in Value d = d.value

-- the device after a number was written to a register: a write to Action does that action
abbrev pub after_reg_write : Reg → ℕ → Device → Device
after_reg_write Action value d = act value d
after_reg_write Value value d = record d { value = value }

-- the device after bytes were written into its range
abbrev pub after_range_write : ℕ → List ℕ → Device → Device
after_range_write place bytes d = record d { range = range_with place bytes d.range }

-- The device after a put of a record. A put that the store refuses changes nothing.
abbrev pub unless_refused : Option PutRefused → Device → Device → Device
unless_refused None new old = new
unless_refused (Some cause) new old = old

abbrev pub after_put : ℕ → List ℕ → Device → Device
after_put id bytes d = unless_refused (refusal_of id bytes d.store) (with_put id bytes d) d

-- A put returns the store's refusal. If the store doesn't refuse the record, the put succeeds, or memory runs out, or
-- it fails.
abbrev pub AnswersPut : Result (Unit {0}) BoardPut → Option PutRefused → Type 0
AnswersPut (Ok done) refusal = refusal ≡ None
AnswersPut (Err (Refused cause)) refusal = AnswersRefusal {X = Unit {0}} (Err cause) refusal
AnswersPut (Err Failed) refusal = Unit {0}

-- What a crash during a device call leaves of the store: as before the call or as after it, never between. Says nothing
-- of a board that isn't modelled.
abbrev pub StoreBy : (Device → Device) → Option Told → List Stored → List Stored → Type 0
StoreBy step None = λ old new. Unit {0}
StoreBy step (Some t) = Becomes (step (device_of t)).store

-- ---- calls that failed

-- A failed disk call may or may not be listed, and changes nothing else.
abbrev pub MayList : DiskCall → Told → Told → Type 0
MayList call old new = (new ≡ old) ⊎ (new ≡ with_call call old)

-- A write of n bytes that didn't succeed: any bytes may be in the written range, all others are unchanged, and the
-- length is between the old one and the length after the whole write.
pub record Torn (place n : ℕ) (old new : List ℕ) : Type 0 where
  pub front : take place new ≡ take place old
  pub back : drop (place + n) new ≡ drop (place + n) old
  pub longer : length old ≤ length new
  pub within : length new ≤ max (length old) (place + n)

-- A failed write of n bytes: it was torn, and may or may not be listed.
abbrev pub FailsWrite : FileNo → ℕ → ℕ → Told → Told → Type 0
FailsWrite file place n old new =
    (bytes : List ℕ) × Torn place n (file_of file old) bytes
    × MayList (WriteAt file place n) (with_file file bytes old) new

-- A write and then a sync, of which one failed: the write was torn, or all was written and the sync may or may not be
-- listed.
abbrev pub FailsThrough : FileNo → ℕ → List ℕ → Told → Told → Type 0
FailsThrough file place bytes old new =
    FailsWrite file place (length bytes) old new ⊎ MayList (Sync file) (after_write file place bytes old) new

-- A failed print has appended a beginning of its piece.
abbrev pub FailsPrint : List ℕ → Told → Told → Type 0
FailsPrint bytes old new =
    (part : List ℕ) × (rest : List ℕ) × (part ++ rest ≡ bytes) × (new ≡ after_print part old)

-- A failed access may or may not be listed, and changes nothing else.
abbrev pub MayListAccess : Access → Told → Told → Type 0
MayListAccess access old new = (new ≡ old) ⊎ (new ≡ with_access access old)

-- A failed device call may or may not have acted.
abbrev pub MayAct : (Device → Device) → Told → Told → Type 0
MayAct step old new = (new ≡ old) ⊎ (new ≡ on_device step old)

-- A failed write to the device may or may not have acted, and may or may not be listed.
pub record FailsAccess (access : Access) (step : Device → Device) (old new : Told) : Type 0 where
  pub told : Told
  pub acted : MayAct step old told
  pub listed : MayListAccess access told new

-- ---- what holds if a board is modelled

-- If a board is modelled, its model changes by this step.
abbrev pub Steps : (Told → Told) → Option Told → Option Told → Type 0
Steps step old new = new ≡ option_map step old

-- If a board is modelled, this relates its models before and after.
abbrev pub Relates : (Told → Told → Type 0) → Option Told → Option Told → Type 0
Relates P None new = new ≡ None
Relates P (Some old) None = ⊥
Relates P (Some old) (Some new) = P old new
