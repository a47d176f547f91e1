-- What an operation returns, and what it leaves.
use Rattle.std.specs.Prelude.{◌≡◌, ◌≢◌, ℕ, ◌-◌, Bool, ◌||◌, nat_eq, List, ◌++◌, length, replicate, Option, None, Some, Result, Ok, Err, IfSome, if◌then◌else◌}
use Rattle.ras_base.specs.LittleEndian.{number_at}
use Rattle.erst_store.specs.declared.device.CommandStatus.{CommandStatus}
use Rattle.erst_store.specs.declared.device.CommandStatus.TheVariants.{Success, NotEnoughSpace, StoreEmpty, NotFound}
use Rattle.erst_store.specs.Actions.{range_length}
use Rattle.erst_store.specs.Store.{Stored, holds, bytes_under, with_record, without, is_reserved, is_full_for}
use Rattle.erst_store.specs.Device.{Device, status_number, id_place}
use Rattle.erst_store.specs.DeviceLaws.{IsDevice}
use Rattle.board_core.specs.Cause.{Faults, device_call}
use Rattle.board_core.specs.Clock.{Passes, StoreIsLeft}
use Rattle.board_core.specs.Stop.{Becomes, InStore}
use Rattle.board_core.specs.Told.{Relates, Told, device_of}
use Rattle.board_core.specs.Doing.{DeviceCall, Does, Ended, Raises, Seen, broke, ended_by, went_well}
use Rattle.erst_interp.specs.declared.entries.InstructionEntry.{InstructionEntry}
use Rattle.erst_interp.specs.Run.{KeepsButDevice, acts_of}
use Rattle.erst_driver.specs.declared.refusals.DriverRefused.{DriverRefused}
use Rattle.erst_driver.specs.declared.refusals.DriverRefused.TheVariants.{Register, Busy, NoMemory, Status as EndedWith}
use Rattle.erst_driver.specs.declared.step.Step.{Step}
use Rattle.erst_driver.specs.Operations.{actions_of, after_steps, device_calls, fetch_calls, is_free_in_time, read_steps}

abbrev pub Answer : Type 0
Answer = Result (Unit {0}) DriverRefused

-- the result of an operation that ends with this status
abbrev pub by_status : CommandStatus → Answer
by_status Success = Ok tt
by_status status = Err (EndedWith (status_number status))

-- The result over a device that gives this many busy answers. The operation gives up if the device is busy for too
-- long.
abbrev pub answer_within : ℕ → Answer
answer_within busy = if is_free_in_time busy then Ok tt else Err Busy

-- the result of an operation over a device that carried out its command
abbrev pub answer_at : Device → Answer
answer_at d = if is_free_in_time d.busy then by_status d.status else Err Busy

-- the result of an operation with these steps, over a device
abbrev pub answer_of : List Step → Device → Answer
answer_of steps d = answer_at (after_steps steps d)

-- ---- what comes of a command

-- the status of a command about one record: the store has the record, or is empty, or lacks it
abbrev pub found_status : ℕ → List Stored → CommandStatus
found_status id store =
    if nat_eq (length store) 0 then StoreEmpty
    else (if holds id store then Success else NotFound)

-- The result of a command about one record: Busy if the device gives as many busy answers as there are checks, or
-- more.
abbrev pub answer_on_found : ℕ → Device → Answer
answer_on_found id d =
    if is_free_in_time d.slow then by_status (found_status id d.store) else Err Busy

-- The calls of a read. A read that succeeds reads the range too.
abbrev pub read_calls : List (List InstructionEntry) → ℕ → Device → List DeviceCall
read_calls lists id d = device_calls lists (actions_of (read_steps id) d) d ++ fetch_calls (answer_on_found id d)

-- the identifier in the header of a record's bytes
abbrev pub written_id : List ℕ → ℕ
written_id bytes = number_at id_place 8 bytes

-- Whether a write is refused: the identifier is reserved, or the store has no room for it.
abbrev pub is_put_refused : ℕ → List Stored → Bool
is_put_refused id store = is_reserved id || is_full_for id store

-- the status of a write of a record under this identifier
abbrev pub put_status : ℕ → List Stored → CommandStatus
put_status id store = if is_put_refused id store then NotEnoughSpace else Success

abbrev pub store_after_write : List ℕ → List Stored → List Stored
store_after_write bytes store =
    if is_put_refused (written_id bytes) store then store
    else with_record (written_id bytes) bytes store

-- the result of a write of a record under this identifier, over a device
abbrev pub answer_on_put : ℕ → Device → Answer
answer_on_put id d =
    if is_free_in_time d.slow then by_status (put_status id d.store) else Err Busy

-- ---- what holds unless a call of the board failed

-- This is returned, unless a call of the device failed.
abbrev pub AnswersAs : Answer → Answer → Type 0
AnswersAs (Err Register) answer = Unit {0}
AnswersAs result answer = result ≡ answer

-- Register is returned if a call of the device failed, every other result after all calls.
abbrev pub driver_end : DriverRefused → Ended
driver_end Register = broke device_call
driver_end why = went_well

-- A beginning of these calls was made, and then memory ran out.
pub record DoesSome {X : Type 0} (see : X → Seen) (calls : List DeviceCall) (old new : X) : Type 0 where
  pub done : List DeviceCall
  pub later : List DeviceCall
  pub splits : done ++ later ≡ calls
  pub does : Does see (acts_of done) went_well old new

-- A listing makes these calls, or a beginning of them until memory ran out.
abbrev pub DoesListing : {X T : Type 0} → (X → Seen) → List DeviceCall → Result T DriverRefused → X → X → Type 0
DoesListing see calls (Err NoMemory) old new = DoesSome see calls old new
DoesListing see calls result old new = Does see (acts_of calls) (ended_by driver_end result) old new

-- Register is returned if and only if the count of failed device calls rose. With any other result all counts are
-- unchanged.
abbrev pub HasCauseIn : {T : Type 0} → Result T DriverRefused → Faults → Faults → Type 0
HasCauseIn (Err Register) before now = Raises device_call before now
HasCauseIn result before now = now ≡ before

-- A call that allocates nothing never returns NoMemory, and a status that it returns isn't 0.
abbrev pub IsAnswered : {T : Type 0} → Result T DriverRefused → Type 0
IsAnswered (Err NoMemory) = ⊥
IsAnswered (Err (EndedWith status)) = status ≢ 0
IsAnswered result = Unit {0}

-- A call that allocates memory may run out of it, and has no other error except Register.
abbrev pub IsMemoryOnly : {T : Type 0} → Result T DriverRefused → Type 0
IsMemoryOnly (Ok x) = Unit {0}
IsMemoryOnly (Err Register) = Unit {0}
IsMemoryOnly (Err NoMemory) = Unit {0}
IsMemoryOnly (Err why) = ⊥

-- ---- what a crash during an operation leaves of the record store, compared with what a crash before it might have
-- left; says nothing of a board that isn't modelled

-- The record store is unchanged.
abbrev pub Stays : Option Told → List Stored → List Stored → Type 0
Stays None old new = Unit {0}
Stays (Some t) old new = new ≡ old

-- The record store is unchanged, or lacks the record under this identifier.
abbrev pub Clears : ℕ → Option Told → List Stored → List Stored → Type 0
Clears id None old new = Unit {0}
Clears id (Some t) old new = Becomes (without id old) old new

-- The record store is unchanged, or has this record put.
abbrev pub Puts : List ℕ → Option Told → List Stored → List Stored → Type 0
Puts bytes None old new = Unit {0}
Puts bytes (Some t) old new = Becomes (store_after_write bytes old) old new

-- ---- what a read leaves in a buffer of the range's length

-- a buffer with the record under an identifier, and zeros after it
pub record HoldsRecord (id : ℕ) (store : List Stored) (buffer : List ℕ) : Type 0 where
  pub bytes : List ℕ
  pub found : bytes_under id store ≡ Some bytes
  pub is : buffer ≡ bytes ++ replicate (range_length - length bytes) 0

-- A call of the device failed if and only if the operation returns Register, and the operation never runs out of
-- memory.
pub record EndsOperation {T : Type 0} (result : Result T DriverRefused) (before now : Faults) : Type 0 where
  pub cause : HasCauseIn result before now
  pub refused : IsAnswered result

-- ---- what an operation does to a board

-- An operation that makes these calls over a device, returns this result, and may change the record store in this way.
pub record RunsOperation {X : Type 0} (see : X → Seen) (calls : Device → List DeviceCall) (answer : Device → Answer) (Store : Option Told → List Stored → List Stored → Type 0) (result : Answer) (old new : X) : Type 0 where
  -- The operation's calls are its acts, up to the first failed call.
  pub does : IfSome (see old).told (λ t. Does see (acts_of (calls (device_of t))) (ended_by driver_end result) old new)
  -- The operation returns this result, unless a call failed.
  pub answers : IfSome (see old).told (λ t. AnswersAs result (answer (device_of t)))
  -- In the model only the device changes.
  pub kept : Relates KeepsButDevice (see old).told (see new).told
  -- If a crash before would leave the store in the model, a crash during the operation leaves that store or this change
  -- of it.
  pub stops : StoreIsLeft (see old).told (see old).clock → Passes (InStore (Store (see old).told)) (see old).clock (see new).clock
  pub ends : EndsOperation result (see old).faults (see new).faults
  -- The device in the model was a device.
  pub device : IfSome (see old).told (λ t. IsDevice (device_of t))

-- A listing, which may run out of memory after some of its calls, and doesn't change the record store.
pub record ListsRecords {X T : Type 0} (see : X → Seen) (calls : Device → List DeviceCall) (result : Result T DriverRefused) (old new : X) : Type 0 where
  pub does : IfSome (see old).told (λ t. DoesListing see (calls (device_of t)) result old new)
  pub refused : IsMemoryOnly result
  pub kept : Relates KeepsButDevice (see old).told (see new).told
  -- If a crash before would leave the store in the model, so would a crash during the listing.
  pub stops : StoreIsLeft (see old).told (see old).clock → Passes (InStore (Stays (see old).told)) (see old).clock (see new).clock
  pub cause : HasCauseIn result (see old).faults (see new).faults
  -- The device in the model was a device.
  pub device : IfSome (see old).told (λ t. IsDevice (device_of t))
