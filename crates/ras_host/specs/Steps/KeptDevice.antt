-- The device that a board keeps, over the record store in the folder's store file.
use Rattle.std.specs.Prelude.{◌≡◌, ℕ, ◌⊎◌, Bool, false, ◌&&◌, nat_eq, if◌then◌else◌, List, [], Option, None, Some, IfSome, Result, Ok, Err, IsOk, OnOk, OnErr, IsSomeAnd}
use Rattle.std.specs.Cmp.Lexicographic.{pointwise}
use Rattle.board_core.specs.Clock.{Passes}
use Rattle.board_core.specs.Stop.{Becomes, InStore}
use Rattle.board_core.specs.Told.{AnswersPut}
use Rattle.board_core.specs.declared.board.BoardPut.{BoardPut}
use Rattle.board_core.specs.declared.board.BoardPut.TheVariants.{Refused}
use Rattle.board_core.specs.declared.board.FileNo.{FileNo}
use Rattle.erst_store.specs.Device.{Device, Volatile, device_with, volatile_of, new_device, with_put}
use Rattle.erst_store.specs.DeviceLaws.{IsDevice}
use Rattle.erst_store.specs.Store.{Stored, refusal_of}
use Rattle.host_system.specs.BoardFile.{KeepsFile, HasSettledStore, with_store}
use Rattle.host_system.specs.FolderPast.{FolderPast, GoesOnBy, IfTold, PrintsOrSyncs, bytes_named}
use Rattle.host_system.specs.StoreFile.{SparesNoStore}
use Rattle.host_system.specs.View.{HasUsableStore, IsFileOf, clock_over, seen_now}
use Rattle.host_system.specs.declared.system.FileName.TheVariants.{Store}
use Rattle.ras_host.specs.declared.kept.Change.{Change}
use Rattle.ras_host.specs.declared.kept.Kept.{Kept}
use Rattle.ras_host.specs.declared.saved.Saved.{Saved}
use Rattle.ras_host.specs.declared.kept.Kept.TheVariants.{Unread, Here, Lost, Unreadable}

-- The device isn't used: the board is a report's, or the store's file couldn't be read.
abbrev pub IsOff : Kept → Type 0
IsOff Unreadable = Unit {0}
IsOff kept = ⊥

-- A device that isn't used stays unused, and the folder is unchanged.
pub record StaysOff (old new : Kept) (before after : Option FolderPast) : Type 0 where
  pub off : IsOff new
  pub told : after ≡ before

-- A report's board has used no device, and has only printed and synced since it found the folder.
pub record IsReading (kept : Kept) (found now : Option FolderPast) : Type 0 where
  pub off : IsOff kept
  pub goes : IfSome found (λ past. IsSomeAnd now (GoesOnBy PrintsOrSyncs past))

-- Whether two records, or two stores, are the same.
abbrev pub is_same_record : Stored → Stored → Bool
is_same_record one other = nat_eq one.id other.id && pointwise nat_eq one.bytes other.bytes

abbrev pub is_same_store : List Stored → List Stored → Bool
is_same_store one other = pointwise is_same_record one other

-- The device's registers and range; at first those of a new device. If the device is lost, they are those after the
-- call if the file has the store from after it, and otherwise those before the call.
abbrev pub volatile_in : Kept → List Stored → Volatile
volatile_in Unread store = volatile_of (new_device [] 0)
volatile_in (Here saved) store = volatile_of saved.device
volatile_in (Lost before after) store = if is_same_store store after.store then volatile_of after else volatile_of before
volatile_in Unreadable store = volatile_of (new_device [] 0)

-- the device as a whole
abbrev pub device_in : Kept → FolderPast → Device
device_in kept past = device_with (seen_now past).store (volatile_in kept (seen_now past).store)

-- If the device is kept, it has this store.
abbrev pub IsOver : Kept → List Stored → Type 0
IsOver (Here saved) store = saved.device.store ≡ store
IsOver kept store = Unit {0}

-- If the device is kept, the store's file has the bytes of its store. If the file is missing, this store is empty.
abbrev pub IsFiled : Kept → Option (List ℕ) → Type 0
IsFiled (Here saved) file = IsFileOf saved.device.store file
IsFiled kept file = Unit {0}

-- The kept device and the folder agree.
pub record IsInStep (kept : Kept) (past : FolderPast) : Type 0 where
  pub filed : IsFiled kept (bytes_named Store past)
  pub over : IsOver kept (seen_now past).store
  pub device : IsDevice (device_in kept past)
  pub usable : HasUsableStore past

-- Each change of the device reached the store's file.
abbrev pub IsSaved : Kept → Type 0
IsSaved (Lost before after) = ⊥
IsSaved kept = Unit {0}

-- A device has done this step, which left its store unchanged, and is kept.
pub record Acts (step : Device → Device) (old : Device) (new : Kept) : Type 0 where
  pub saved : Saved
  pub kept : new ≡ Here saved
  pub after : saved.device ≡ step old
  pub store : (step old).store ≡ old.store
  pub device : IsDevice saved.device

-- The folder and the device are unchanged.
pub record Keeps (old new : Kept) (past : FolderPast) : Type 0 where
  pub device : device_in new past ≡ device_in old past
  pub saved : IsSaved new → IsSaved old

-- The device has done this step, and a board sees no other change. The files stay as usable as they were.
pub record Turns (step : Device → Device) (old new : Kept) (before after : FolderPast) : Type 0 where
  pub device : device_in new after ≡ step (device_in old before)
  pub sees : seen_now after ≡ with_store (step (device_in old before)).store (seen_now before)
  pub files : (file : FileNo) → KeepsFile file before after

-- The device has done this step, or no step.
abbrev pub MayTurn : (Device → Device) → Kept → Kept → FolderPast → FolderPast → Type 0
MayTurn step old new before after = Turns (λ d. d) old new before after ⊎ Turns step old new before after

-- If the folder is modelled, a store is unchanged, or has become the store of the device after a step.
abbrev pub BecomesBy : (Device → Device) → Kept → Option FolderPast → List Stored → List Stored → Type 0
BecomesBy step kept None = λ old new. Unit {0}
BecomesBy step kept (Some past) = Becomes (step (device_in kept past)).store

-- If each change has reached the store's file, so had each earlier change, and either the folder is unchanged or the
-- store's file and its name are durable.
abbrev pub Settles : Kept → Kept → FolderPast → FolderPast → Type 0
Settles old new before after = IsSaved new → IsSaved old × ((after ≡ before) ⊎ HasSettledStore after)

-- A call on the device succeeded and did this step, or failed and did this step or none. A crash meanwhile leaves the
-- store before the step or after it.
pub record Turned {T E : Type 0} (step : Device → Device) (old new : Kept) (result : Result T E) (before after : Option FolderPast) : Type 0 where
  pub ok : OnOk result (IfTold (Turns step old new) before after)
  pub err : OnErr result (IfTold (MayTurn step old new) before after)
  pub stops : Passes (InStore (BecomesBy step old before)) (clock_over before) (clock_over after)
  pub in_step : IfSome after (IsInStep new)
  pub saved : IfTold (Settles old new) before after
  -- A store file that isn't a store isn't replaced.
  pub spares : IfTold SparesNoStore before after

-- What holds of a put that the store refused.
abbrev pub IfRefused : Result (Unit {0}) BoardPut → Type 0 → Type 0
IfRefused (Err (Refused cause)) P = P
IfRefused result P = Unit {0}

-- Nothing changed.
pub record Stays (old new : Kept) (before after : Option FolderPast) : Type 0 where
  pub told : after ≡ before
  pub keeps : IfSome before (Keeps old new)

-- A change of a device by a step, before its store is written to the file, and whether the file has these bytes
-- already.
pub record IsChange (step : Device → Device) (saved : Saved) (change : Change) : Type 0 where
  pub before : change.before ≡ record saved.device { store = [] }
  pub made : change.made.device ≡ step saved.device
  pub device : IsDevice change.made.device
  pub same : change.differs ≡ false → change.made.file ≡ saved.file

-- A device is lost after this step, which wasn't written to the file.
pub record Loses (step : Device → Device) (saved : Saved) (new : Kept) : Type 0 where
  pub before : Device
  pub made : Device
  pub lost : new ≡ Lost before made
  pub was : before ≡ record saved.device { store = [] }
  pub same : made ≡ step saved.device
  pub device : IsDevice made

-- A device that was taken out is kept unchanged, or is lost.
abbrev pub StaysOrLoses : (Device → Device) → Saved → Kept → Type 0
StaysOrLoses step saved new = Acts (λ d. d) saved.device new ⊎ Loses step saved new

-- A device is kept if its store was written to the file; otherwise it is lost, together with the device from before.
abbrev pub KeepsOrLoses : {T E : Type 0} → Result T E → Device → Saved → Kept → Type 0
KeepsOrLoses (Ok done) before saved new = new ≡ Here saved
KeepsOrLoses (Err failed) before saved new = new ≡ Lost before saved.device

-- ---- the device also where nothing is told

-- The device that a call acts on: the kept one, or a new one at the first use.
abbrev pub IsUsed : Kept → Device → Type 0
IsUsed Unread d = d ≡ new_device d.store 0
IsUsed (Here saved) d = d ≡ saved.device
IsUsed kept d = ⊥

-- The kept device is this one.
abbrev pub IsHere : Kept → Device → Type 0
IsHere (Here saved) d = saved.device ≡ d
IsHere kept d = ⊥

-- A device is kept.
abbrev pub IsThere : Kept → Type 0
IsThere (Here saved) = Unit {0}
IsThere kept = ⊥

-- A call does this step on the device, which is kept.
pub record Does (step : Device → Device) (old new : Kept) : Type 0 where
  pub before : Device
  pub used : IsUsed old before
  pub after : IsHere new (step before)

-- a device after a put with this result
abbrev pub after_answer : ℕ → List ℕ → Result (Unit {0}) BoardPut → Device → Device
after_answer id bytes (Ok done) d = with_put id bytes d
after_answer id bytes (Err refused) d = d

-- A put returns what the store returns, and doesn't change the device if the store refuses the record.
pub record Puts (id : ℕ) (bytes : List ℕ) (result : Result (Unit {0}) BoardPut) (old new : Kept) : Type 0 where
  pub before : Device
  pub used : IsUsed old before
  pub answers : AnswersPut result (refusal_of id bytes before.store)
  pub after : IsHere new (after_answer id bytes result before)

-- A call only read the device, which is kept then; it can fail only if no device was kept. The folder and the device
-- are unchanged.
pub record Looks {T E : Type 0} (old new : Kept) (result : Result T E) (before after : Option FolderPast) : Type 0 where
  pub does : OnOk result (Does (λ d. d) old new)
  pub answers : IsThere old → IsOk result
  pub told : after ≡ before
  pub same : IfSome before (Keeps old new)
  pub in_step : IfSome after (IsInStep new)
