-- The model, the record store and the counts after the private functions of a run.
use Rattle.std.specs.Prelude.{◌≡◌, ◌≢◌, ℕ, ◌+◌, ◌-◌, ◌≤◌, ◌⊎◌, true, false, List, [], Option, Some, None, Result, Ok, Err, IfSome}
use Rattle.erst_store.specs.Store.{Stored}
use Rattle.erst_store.specs.Actions.{range_address, range_length}
use Rattle.board_core.specs.Told.{Steps, Told, device_of, Relates}
use Rattle.board_core.specs.Stop.{InStore}
use Rattle.board_core.specs.Clock.{Passes, StoreIsLeft}
use Rattle.board_core.specs.Cause.{device_call}
use Rattle.board_core.specs.Doing.{DeviceCall, Moment, Raises, Seen, after_acts}
use Rattle.erst_interp.specs.declared.entries.InstructionEntry.{InstructionEntry}
use Rattle.erst_interp.specs.declared.machine.Variables.{Variables}
use Rattle.erst_interp.specs.declared.refusals.RunRefused.{RunRefused}
use Rattle.erst_interp.specs.declared.refusals.RunRefused.TheVariants.{Register}
use Rattle.erst_interp.specs.Machine.{MachineState, Outcome, goes, stops, new_variables, is_inside, End, end_from, most_turns}
use Rattle.erst_interp.specs.Run.{KeepsButDevice, IsCutShort, acts_of}
use Rattle.erst_interp.specs.Steps.Parts.{uses_register}

-- Calls succeeded, or the last of them failed. The record store may have changed in this way. If a crash before calls
-- that succeeded leaves the store in the model, so does a crash after them.
pub record GoesWell (Store : List Stored → List Stored → Type 0) (old new : Seen) : Type 0 where
  pub kept : Relates KeepsButDevice old.told new.told
  pub stops : Passes (InStore Store) old.clock new.clock
  pub stored : StoreIsLeft old.told old.clock → StoreIsLeft new.told new.clock
  pub faults : new.faults ≡ old.faults

pub record Fails (Store : List Stored → List Stored → Type 0) (old new : Seen) : Type 0 where
  pub kept : Relates KeepsButDevice old.told new.told
  pub stops : Passes (InStore Store) old.clock new.clock
  pub raises : Raises device_call old.faults new.faults

abbrev pub Touches : {T E : Type 0} → (List Stored → List Stored → Type 0) → Result T E → Seen → Seen → Type 0
Touches Store (Ok x) old new = GoesWell Store old new
Touches Store (Err e) old new = Fails Store old new

-- The record store is unchanged.
abbrev pub Stays : List Stored → List Stored → Type 0
Stays old new = new ≡ old

-- ---- calls of the device

-- The record store is unchanged, or is what a crash during these calls leaves of it.
abbrev pub StoreIn : List DeviceCall → Option Told → List Stored → List Stored → Type 0
StoreIn calls None old new = Unit {0}
StoreIn calls (Some t) old new = (new ≡ old) ⊎ Moment (acts_of calls) t (record t.here { store = new })

-- These calls were made and succeeded, or one of them failed and was the last.
pub record Made (calls : List DeviceCall) (old new : Seen) : Type 0 where
  pub told : Steps (after_acts (acts_of calls)) old.told new.told
  pub well : GoesWell (StoreIn calls old.told) old new

pub record Cut (calls : List DeviceCall) (old new : Seen) : Type 0 where
  pub told : IfSome old.told (λ t. IsCutShort calls t new.told)
  pub fails : Fails (StoreIn calls old.told) old new

-- ---- parts of a turn

-- the state with these variables and the model's device
abbrev pub state_in : Variables → Told → MachineState
state_in v t = record { variables = v; device = device_of t; calls = [] }

abbrev pub state_of : Outcome → MachineState
state_of (goes s) = s
state_of (stops why s) = s

-- The calls that a part of a turn makes; an empty list for a board that isn't modelled.
abbrev pub calls_in : (MachineState → Outcome) → Variables → Option Told → List DeviceCall
calls_in part v None = []
calls_in part v (Some t) = (state_of (part (state_in v t))).calls

abbrev pub ComesTo : Outcome → Result Variables RunRefused → Type 0
ComesTo (goes s) (Ok v) = v ≡ s.variables
ComesTo (stops cause s) (Err why) = cause ≡ why
ComesTo outcome result = ⊥

-- A part is done, or refused without a failed call.
pub record Turned (part : MachineState → Outcome) (v : Variables) (result : Result Variables RunRefused) (old new : Seen) : Type 0 where
  pub made : Made (calls_in part v old.told) old new
  pub comes : IfSome old.told (λ t. ComesTo (part (state_in v t)) result)

abbrev pub Turns : (MachineState → Outcome) → Variables → Result Variables RunRefused → Seen → Seen → Type 0
Turns part v (Err Register) old new = Cut (calls_in part v old.told) old new
Turns part v result old new = Turned part v result old new

-- an entry that uses no register, so that no call was made
pub record IsUnused (e : InstructionEntry) (result : Result Variables RunRefused) (old new : Option Told) : Type 0 where
  pub unused : uses_register e ≡ false
  pub called : result ≢ Err Register
  pub same : new ≡ old

-- the offset of a stretch in the range, if it is inside
abbrev pub IsPlace : ℕ → ℕ → Option ℕ → Type 0
IsPlace address count None = is_inside address count ≡ false
IsPlace address count (Some place) = (is_inside address count ≡ true) × (place ≡ address - range_address) × (place + count ≤ range_length)

-- ---- runs

-- the state at the start of a run over the model's device, and the run's end
abbrev pub start_over : ℕ → Told → MachineState
start_over input t = state_in (new_variables input) t

abbrev pub end_over : List InstructionEntry → ℕ → Told → End
end_over list input t = end_from most_turns list (start_over input t)
