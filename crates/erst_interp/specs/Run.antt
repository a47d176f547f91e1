-- What a run does to a board, whether or not a call of the board fails.
use Rattle.std.specs.Prelude.{map, ◌≡◌, ℕ, zero, suc, ◌⊎◌, List, slice_get, Option, Some, None, Result, Err, IfSome, OnOk}
use Rattle.erst_store.specs.Store.{Stored}
use Rattle.board_core.specs.Cause.{Faults, device_call}
use Rattle.board_core.specs.Clock.{Passes, StoreIsLeft}
use Rattle.board_core.specs.Doing.{Act, DeviceCall, FailsActs, Raises, Seen, after_acts, device}
use Rattle.board_core.specs.Stop.{InStore}
use Rattle.board_core.specs.Told.{Relates, Told, device_of}
use Rattle.erst_interp.specs.declared.entries.InstructionEntry.{InstructionEntry}
use Rattle.erst_interp.specs.declared.refusals.RunRefused.{RunRefused}
use Rattle.erst_interp.specs.declared.refusals.RunRefused.TheVariants.{Register}
use Rattle.erst_interp.specs.Machine.{MachineState, Outcome, goes, stops, turn, End, machine_end, start, most_turns}

-- calls of the device one after another
abbrev pub acts_of : List DeviceCall → List Act
acts_of calls = map (λ call. device call) calls

-- the model after a run that ended in a state
abbrev pub told_after : MachineState → Told → Told
told_after s t = after_acts (acts_of s.calls) t

-- One of these calls failed and was the last, and the calls before it are done.
abbrev pub IsCutShort : List DeviceCall → Told → Option Told → Type 0
IsCutShort calls old None = ⊥
IsCutShort calls old (Some new) = FailsActs device_call (acts_of calls) old new

-- If no call of the board failed, the run is the machine's: it returns what the machine returns, and made the machine's
-- calls. If one failed, the run made the machine's calls up to that one.
abbrev pub IsRun : Result ℕ RunRefused → End → Told → Option Told → Type 0
IsRun (Err Register) end old new = IsCutShort end.state.calls old new
IsRun answer end old new = (answer ≡ end.answer) × (new ≡ Some (told_after end.state old))

-- In the model, only the record store, the rest of the device and the list of accesses change, and the device stays as
-- slow as it was.
pub record KeepsButDevice (old new : Told) : Type 0 where
  pub here : new.here ≡ record old.here { store = new.here.store }
  pub disk_calls : new.disk_calls ≡ old.disk_calls
  pub slow : new.volatile.slow ≡ old.volatile.slow

-- Register is returned if and only if the count of failed device calls rose. With any other result all counts are
-- unchanged.
abbrev pub RunCause : Result ℕ RunRefused → Faults → Faults → Type 0
RunCause (Err Register) before now = Raises device_call before now
RunCause answer before now = now ≡ before

-- There is a next entry, and it has this property.
abbrev pub AtNext : (InstructionEntry → Type 0) → Option InstructionEntry → Type 0
AtNext Holds None = ⊥
AtNext Holds (Some e) = Holds e

-- A turn after which the run continues ends in a state with one property, and a turn after which it stops in a state
-- with the other.
abbrev pub AfterTurn : (MachineState → Type 0) → (MachineState → Type 0) → Outcome → Type 0
AfterTurn Goes Stops (goes s) = Goes s
AfterTurn Goes Stops (stops why s) = Stops s

-- A run of at most this many turns passes through a device with this record store.
unfoldable pub PassesStore : ℕ → List InstructionEntry → MachineState → List Stored → Type 0
PassesStore zero list s store = store ≡ s.device.store
PassesStore (suc turns) list s store =
    (store ≡ s.device.store)
    ⊎ AtNext (λ e. AfterTurn (λ t. PassesStore turns list t store) (λ t. store ≡ t.device.store) (turn e s))
    (slice_get list s.variables.index)

-- The record store is unchanged, or becomes one that the run passes through. Says nothing of a board that isn't
-- modelled.
abbrev pub StoreInRun : List InstructionEntry → ℕ → Option Told → List Stored → List Stored → Type 0
StoreInRun list input None old new = Unit {0}
StoreInRun list input (Some t) old new = (new ≡ old) ⊎ PassesStore most_turns list (start input (device_of t)) new

-- A run of a list over a board.
pub record RunsList (list : List InstructionEntry) (input : ℕ) (result : Result ℕ RunRefused) (old new : Seen) : Type 0 where
  -- The run is the machine's, up to a call that failed.
  pub runs : IfSome old.told (λ t. IsRun result (machine_end list input (device_of t)) t new.told)
  -- In the model only the device changes.
  pub kept : Relates KeepsButDevice old.told new.told
  -- A crash during the run leaves a record store that the machine passes through, and everything else unchanged.
  pub stops : Passes (InStore (StoreInRun list input old.told)) old.clock new.clock
  -- If the run succeeds, and a crash before it would leave the store in the model, so would a crash after it.
  pub stored : OnOk result (StoreIsLeft old.told old.clock → StoreIsLeft new.told new.clock)
  -- Register is returned if and only if a call failed.
  pub cause : RunCause result old.faults new.faults
