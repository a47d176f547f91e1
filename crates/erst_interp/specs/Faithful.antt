-- What a list of an action has to do: the action, whatever the device.
use Rattle.std.specs.Prelude.{◌≡◌, ℕ, ◌^◌, ◌<◌, ◌⊎◌, nat_eq, List, Option, Some, None, Result, Ok, Err, IfSome, if◌then◌else◌}
use Rattle.erst_store.specs.Actions.{set_record_offset}
use Rattle.erst_store.specs.Device.{Device, act}
use Rattle.erst_store.specs.DeviceLaws.{IsDevice}
use Rattle.erst_store.specs.Store.{Stored}
use Rattle.board_core.specs.Clock.{Passes}
use Rattle.board_core.specs.Doing.{Seen}
use Rattle.board_core.specs.Stop.{InStore}
use Rattle.board_core.specs.Told.{Told, device_of}
use Rattle.erst_interp.specs.declared.entries.InstructionEntry.{InstructionEntry}
use Rattle.erst_interp.specs.declared.refusals.RunRefused.{RunRefused}
use Rattle.erst_interp.specs.declared.refusals.RunRefused.TheVariants.{Register}
use Rattle.erst_interp.specs.Machine.{End, machine_end}
use Rattle.erst_interp.specs.Admission.{takes_input, gives_answer}

-- the inputs of an action: an offset has 32 bits, and any other 64
abbrev pub input_limit : ℕ → ℕ
input_limit action = if nat_eq action set_record_offset then 2 ^ 32 else 2 ^ 64

-- the device with the input in its Value register, if the action takes it
abbrev pub with_input : ℕ → ℕ → Device → Device
with_input action input d = if takes_input action then record d { value = input } else d

-- the device after the action, and what it returns: the device's value, or the input if the action returns nothing
abbrev pub device_after : ℕ → ℕ → Device → Device
device_after action input d = act action (with_input action input d)

-- the value that the action returns, or the input if it returns nothing
abbrev pub answer_after : ℕ → ℕ → Device → ℕ
answer_after action input d = if gives_answer action then (device_after action input d).value else input

-- A run did the action.
pub record DoesAction (action input : ℕ) (d : Device) (end : End) : Type 0 where
  pub answer : end.answer ≡ Ok (answer_after action input d)
  pub device : end.state.device ≡ device_after action input d

-- A list is faithful to an action if its run does the action, on every device and every input.
abbrev pub IsFaithful : ℕ → List InstructionEntry → Type 0
IsFaithful action list = (input : ℕ) (d : Device) → IsDevice d → input < input_limit action → DoesAction action input d (machine_end list input d)

-- What a run of an admitted list does to a board: it returns what the action returns, and the board's model has the
-- device after the action. It fails only if a call of the board failed.
pub record ActsOn (action input value : ℕ) (t : Told) (new : Option Told) : Type 0 where
  pub after : Told
  pub told : new ≡ Some after
  pub device : device_of after ≡ device_after action input (device_of t)
  pub answer : value ≡ answer_after action input (device_of t)

-- A run does the action, or fails because a call of the board failed.
abbrev pub DoesRun : ℕ → ℕ → Result ℕ RunRefused → Told → Option Told → Type 0
DoesRun action input (Ok answer) t new = ActsOn action input answer t new
DoesRun action input (Err Register) t new = Unit {0}
DoesRun action input (Err why) t new = ⊥

-- A run returns a value, or fails only because a call of the board failed.
abbrev pub IsRegisterAlone : Result ℕ RunRefused → Type 0
IsRegisterAlone (Ok answer) = Unit {0}
IsRegisterAlone (Err Register) = Unit {0}
IsRegisterAlone (Err why) = ⊥

-- The record store is unchanged, or becomes the store in the model or the store after the action. Says nothing of a
-- board that isn't modelled.
abbrev pub StoreInAction : ℕ → ℕ → Option Told → List Stored → List Stored → Type 0
StoreInAction action input None old new = Unit {0}
StoreInAction action input (Some t) old new =
    (new ≡ old) ⊎ (new ≡ t.here.store) ⊎ (new ≡ (device_after action input (device_of t)).store)

-- A run of an admitted list over a board does its action.
pub record RunsAction (action input : ℕ) (result : Result ℕ RunRefused) (old new : Seen) : Type 0 where
  -- The run returns what the action returns, and the device is the device after the action.
  pub does : input < input_limit action → IfSome old.told (λ t. DoesRun action input result t new.told)
  -- The run fails only if a call of the board failed.
  pub only_register : IsRegisterAlone result
  -- The device in the model was a device.
  pub device : IfSome old.told (λ t. IsDevice (device_of t))
  -- A crash during the run leaves a record store that a crash before might have left, or the store in the model, or
  -- the store after the action.
  pub stores : input < input_limit action → Passes (InStore (StoreInAction action input old.told)) old.clock new.clock
