-- The clauses of private functions on the actions that they run.
use Rattle.std.specs.Prelude.{◌≡◌, ℕ, ◌+◌, ◌≤◌, ◌⊎◌, nat_lt, if◌then◌else◌, min, length, take, drop, List, [], ◌∷◌, ◌++◌, Option, Some, None, Result, Ok, Err, IfSome}
use Rattle.erst_store.specs.Store.{Stored, most_records, ids}
use Rattle.erst_store.specs.Device.{Device}
use Rattle.erst_store.specs.DeviceLaws.{IsDevice, left_to_list}
use Rattle.board_core.specs.Clock.{StoreIsLeft}
use Rattle.board_core.specs.Told.{Told, device_of}
use Rattle.erst_interp.specs.declared.entries.InstructionEntry.{InstructionEntry}
use Rattle.erst_interp.specs.Admission.{IsAdmittedTable}
use Rattle.erst_interp.specs.Faithful.{answer_after}
use Rattle.erst_interp.specs.Run.{IsCutShort, acts_of}
use Rattle.board_core.specs.Doing.{DeviceCall, Seen, after_acts}
use Rattle.erst_interp.specs.Steps.Running.{GoesWell, Fails}
use Rattle.erst_driver.specs.declared.refusals.DriverRefused.{DriverRefused}
use Rattle.erst_driver.specs.declared.refusals.DriverRefused.TheVariants.{Register, Busy, NoMemory}
use Rattle.erst_driver.specs.declared.step.Step.{Step}
use Rattle.erst_driver.specs.Operations.{after_step, after_steps, actions_of, write_steps, checks, listings, ids_steps, told_by, device_calls, put_in_range, fetch_calls, write_calls}
use Rattle.erst_driver.specs.Answers.{answer_of}

-- A property of the model, if the model's device is a device.
abbrev pub Over : (Told → Type 0) → Option Told → Type 0
Over P None = Unit {0}
Over P (Some t) = IsDevice (device_of t) → P t

-- The model's device was a device, because an admitted table made a device call.
pub record HasDevice (lists : List (List InstructionEntry)) (told : Option Told) : Type 0 where
  pub admitted : IsAdmittedTable lists
  pub device : IfSome told (λ t. IsDevice (device_of t))

-- Actions of which none failed.
abbrev pub Called : List (List InstructionEntry) → ℕ → Option Told → Option Told → Type 0
Called lists count old new = ((count ≡ 0) × (new ≡ old)) ⊎ HasDevice lists old

-- ---- what the model says of calls

-- At least one call.
abbrev pub HasCall : List DeviceCall → Type 0
HasCall [] = ⊥
HasCall (call ∷ calls) = Unit {0}

-- A beginning of these calls was made.
pub record Begins (calls : List DeviceCall) (old : Told) (new : Option Told) : Type 0 where
  pub done : List DeviceCall
  pub later : List DeviceCall
  pub splits : done ++ later ≡ calls
  pub some : HasCall done
  pub told : new ≡ Some (after_acts (acts_of done) old)

-- A board with this model made these calls. If a call failed, it made them up to this call, and if memory ran out, a
-- beginning of them.
abbrev pub Leaves : {T : Type 0} → Result T DriverRefused → Told → Option Told → List DeviceCall → Type 0
Leaves (Err Register) old new calls = IsCutShort calls old new
Leaves (Err NoMemory) old new calls = Begins calls old new
Leaves result old new calls = new ≡ Some (after_acts (acts_of calls) old)

-- If no call failed, and a crash before leaves the store in the model, so does a crash after.
abbrev pub KeepsStored : {T : Type 0} → Result T DriverRefused → Seen → Seen → Type 0
KeepsStored (Err Register) old new = Unit {0}
KeepsStored result old new = StoreIsLeft old.told old.clock → StoreIsLeft new.told new.clock

-- ---- plans

-- a plan: the actions to run over a device
abbrev pub Plan : Type 0
Plan = Device → List Step

-- the record stores that a device passes through
unfoldable pub ComesThrough : List Step → Device → List Stored → Type 0
ComesThrough [] d store = store ≡ d.store
ComesThrough (s ∷ steps) d store = (store ≡ d.store) ⊎ ComesThrough steps (after_step s d) store

abbrev pub StoreIn : Plan → Option Told → List Stored → List Stored → Type 0
StoreIn plan None old new = Unit {0}
StoreIn plan (Some t) old new = IsDevice (device_of t) → (new ≡ old) ⊎ ComesThrough (plan (device_of t)) (device_of t) new

-- the checks of a device that is checked at most n times
abbrev pub asks_within : ℕ → ℕ → List Step
asks_within most busy = if nat_lt busy most then checks (busy + 1) else checks most

abbrev pub answers_within : ℕ → ℕ → Result (Unit {0}) DriverRefused
answers_within most busy = if nat_lt busy most then Ok tt else Err Busy

-- The model after actions that were done.
pub record Tells (lists : List (List InstructionEntry)) (steps : List Step) (t : Told) (new : Option Told) : Type 0 where
  pub told : new ≡ Some (told_by lists steps t)
  pub device : device_of (told_by lists steps t) ≡ after_steps steps (device_of t)
  pub is : IsDevice (after_steps steps (device_of t))

-- A plan was done, and no call failed; or a call failed on the way.
pub record Done (lists : List (List InstructionEntry)) (plan : Plan) (old new : Seen) : Type 0 where
  pub well : GoesWell (StoreIn plan old.told) old new
  pub tells : Over (λ t. Tells lists (plan (device_of t)) t new.told) old.told

-- The model after a plan in which a call failed.
abbrev pub CutIn : List (List InstructionEntry) → Plan → Option Told → Option Told → Type 0
CutIn lists plan old new = Over (λ t. IsCutShort (device_calls lists (plan (device_of t)) (device_of t)) t new) old

pub record FailsIn (lists : List (List InstructionEntry)) (plan : Plan) (old new : Seen) : Type 0 where
  pub fails : Fails (StoreIn plan old.told) old new
  pub cut : CutIn lists plan old.told new.told

-- A beginning of a list of actions.
abbrev pub IsBeginning : List Step → List Step → Type 0
IsBeginning some all = (rest : List Step) × (some ++ rest ≡ all)

-- One action was done, with this result.
pub record Acted (lists : List (List InstructionEntry)) (s : Step) (value : ℕ) (old new : Seen) : Type 0 where
  pub done : Done lists (λ d. s ∷ []) old new
  pub gives : Over (λ t. value ≡ answer_after s.action s.input (device_of t)) old.told

abbrev pub Acts : List (List InstructionEntry) → Step → Result ℕ DriverRefused → Seen → Seen → Type 0
Acts lists s (Ok value) old new = Acted lists s value old new
Acts lists s (Err Register) old new = FailsIn lists (λ d. s ∷ []) old new
Acts lists s (Err why) old new = ⊥

-- Several actions were done, or a call failed.
abbrev pub Runs : List (List InstructionEntry) → Plan → Result (Unit {0}) DriverRefused → Seen → Seen → Type 0
Runs lists plan (Ok done) old new = Done lists plan old new
Runs lists plan (Err Register) old new = FailsIn lists plan old new
Runs lists plan (Err why) old new = ⊥

-- A plan was done to its end, with this result over a board whose model has a device.
pub record Answered (lists : List (List InstructionEntry)) (plan : Plan) (answer : Device → Result (Unit {0}) DriverRefused) (result : Result (Unit {0}) DriverRefused) (old new : Seen) : Type 0 where
  pub done : Done lists plan old new
  pub answers : Over (λ t. result ≡ answer (device_of t)) old.told

abbrev pub Operates : List (List InstructionEntry) → Plan → (Device → Result (Unit {0}) DriverRefused) → Result (Unit {0}) DriverRefused → Seen → Seen → Type 0
Operates lists plan answer (Err Register) old new = FailsIn lists plan old new
Operates lists plan answer (Err NoMemory) old new = ⊥
Operates lists plan answer result old new = Answered lists plan answer result old new

-- An operation was done, and the range was read after it.
pub record Fetched (lists : List (List InstructionEntry)) (steps : List Step) (buffer : List ℕ) (old new : Seen) : Type 0 where
  pub well : GoesWell (StoreIn (actions_of steps) old.told) old new
  pub told : Over (λ t. new.told ≡ Some (after_acts (acts_of (fetch_calls (Ok tt))) (told_by lists (actions_of steps (device_of t)) t))) old.told
  pub here : Over (λ t. device_of (told_by lists (actions_of steps (device_of t)) t) ≡ after_steps (actions_of steps (device_of t)) (device_of t)) old.told
  pub answers : Over (λ t. Ok tt ≡ answer_of steps (device_of t)) old.told
  pub bytes : Over (λ t. buffer ≡ (after_steps (actions_of steps (device_of t)) (device_of t)).range) old.told

-- An operation in which a call failed, maybe the read of the range.
pub record FailsFetch (lists : List (List InstructionEntry)) (steps : List Step) (old new : Seen) : Type 0 where
  pub fails : Fails (StoreIn (actions_of steps) old.told) old new
  pub cut : Over (λ t. IsCutShort (device_calls lists (actions_of steps (device_of t)) (device_of t) ++ fetch_calls (answer_of steps (device_of t))) t new.told) old.told

abbrev pub Reads : List (List InstructionEntry) → List Step → List ℕ → Result (Unit {0}) DriverRefused → Seen → Seen → Type 0
Reads lists steps buffer (Ok done) old new = Fetched lists steps buffer old new
Reads lists steps buffer (Err Register) old new = FailsFetch lists steps old new
Reads lists steps buffer (Err why) old new = Operates lists (actions_of steps) (answer_of steps) (Err why) old new

-- ---- listings

-- The record store is unchanged, or is the store that the model had.
abbrev pub Quietly : Option Told → List Stored → List Stored → Type 0
Quietly None old new = Unit {0}
Quietly (Some t) old new = IsDevice (device_of t) → (new ≡ old) ⊎ (new ≡ t.here.store)

-- A listing in which a call failed.
pub record FailsQuietly (lists : List (List InstructionEntry)) (plan : Plan) (old new : Seen) : Type 0 where
  pub fails : Fails (Quietly old.told) old new
  pub cut : CutIn lists plan old.told new.told

-- A listing that reached its end.
pub record EndsListing (lists : List (List InstructionEntry)) (old new : Seen) : Type 0 where
  pub done : Done lists (λ d. listings (left_to_list d)) old new
  pub cursor : Over (λ t. (after_steps (listings (left_to_list (device_of t))) (device_of t)).cursor ≡ 0) old.told
  pub store : Over (λ t. (after_steps (listings (left_to_list (device_of t))) (device_of t)).store ≡ t.here.store) old.told

abbrev pub ListsOut : List (List InstructionEntry) → Result (Unit {0}) DriverRefused → Seen → Seen → Type 0
ListsOut lists (Ok done) old new = EndsListing lists old new
ListsOut lists (Err Register) old new = FailsQuietly lists (λ d. listings (left_to_list d)) old new
ListsOut lists (Err why) old new = ⊥

-- A listing during which memory ran out.
pub record Starves (lists : List (List InstructionEntry)) (plan : Plan) (old new : Seen) : Type 0 where
  pub well : GoesWell (Quietly old.told) old new
  pub begun : Over (λ t. Begins (device_calls lists (plan (device_of t)) (device_of t)) t new.told) old.told

-- Identifiers were collected.
pub record Collected (lists : List (List InstructionEntry)) (found : List ℕ) (old new : Seen) : Type 0 where
  pub done : Done lists (λ d. listings (min (left_to_list d) most_records)) old new
  pub few : length found ≤ most_records
  pub found_is : Over (λ t. found ≡ take most_records (drop (device_of t).cursor (ids t.here.store))) old.told

abbrev pub Collects : {X : Type 0} → (X → List ℕ) → List (List InstructionEntry) → Result X DriverRefused → Seen → Seen → Type 0
Collects view lists (Ok found) old new = Collected lists (view found) old new
Collects view lists (Err Register) old new = FailsQuietly lists (λ d. listings (min (left_to_list d) most_records)) old new
Collects view lists (Err NoMemory) old new = Starves lists (λ d. listings (min (left_to_list d) most_records)) old new
Collects view lists (Err why) old new = ⊥

-- All identifiers of a store were listed.
pub record ListedAll (lists : List (List InstructionEntry)) (found : List ℕ) (old new : Seen) : Type 0 where
  pub done : Done lists ids_steps old new
  pub few : length found ≤ most_records
  pub found_is : Over (λ t. found ≡ ids t.here.store) old.told

abbrev pub ListsAll : {X : Type 0} → (X → List ℕ) → List (List InstructionEntry) → Result X DriverRefused → Seen → Seen → Type 0
ListsAll view lists (Ok found) old new = ListedAll lists (view found) old new
ListsAll view lists (Err Register) old new = FailsQuietly lists ids_steps old new
ListsAll view lists (Err NoMemory) old new = Starves lists ids_steps old new
ListsAll view lists (Err why) old new = ⊥

-- ---- writes

-- The record store is unchanged, or is one that the device passes through once these bytes are in the range.
abbrev pub StoreInWrite : List ℕ → Option Told → List Stored → List Stored → Type 0
StoreInWrite bytes None old new = Unit {0}
StoreInWrite bytes (Some t) old new =
    IsDevice (device_of t)
    → (new ≡ old)
    ⊎ ComesThrough (actions_of write_steps (device_of (put_in_range bytes t))) (device_of (put_in_range bytes t)) new

-- Bytes were written into the range, and a write was done.
pub record Written (lists : List (List InstructionEntry)) (bytes : List ℕ) (result : Result (Unit {0}) DriverRefused) (old new : Seen) : Type 0 where
  pub well : GoesWell (StoreInWrite bytes old.told) old new
  pub tells : Over (λ t. Tells lists (actions_of write_steps (device_of (put_in_range bytes t))) (put_in_range bytes t) new.told) old.told
  pub answers : Over (λ t. result ≡ answer_of write_steps (device_of (put_in_range bytes t))) old.told

-- A call failed, maybe the call that writes the bytes.
pub record FailsWrite (lists : List (List InstructionEntry)) (bytes : List ℕ) (old new : Seen) : Type 0 where
  pub fails : Fails (StoreInWrite bytes old.told) old new
  pub cut : Over (λ t. IsCutShort (write_calls lists bytes (device_of t)) t new.told) old.told

abbrev pub Writes : List (List InstructionEntry) → List ℕ → Result (Unit {0}) DriverRefused → Seen → Seen → Type 0
Writes lists bytes (Err Register) old new = FailsWrite lists bytes old new
Writes lists bytes (Err NoMemory) old new = ⊥
Writes lists bytes result old new = Written lists bytes result old new
