-- The operations on the device, each as the actions that it runs one after another: ACPI 6.5, section 18.5.2,
-- "Operations". How often a busy device is checked is this project's own rule.
use Rattle.std.specs.Prelude.{ℕ, ◌+◌, ◌<◌, ◌≤◌, min, length, Bool, nat_lt, List, [], ◌∷◌, ◌++◌, replicate, Result, Ok, Err, if◌then◌else◌}
use Rattle.std.specs.List.{AllByRecursion}
use Rattle.erst_store.specs.Actions.{begin_write_operation, begin_read_operation, begin_clear_operation, end_operation, set_record_offset, execute_operation, check_busy_status, get_command_status, get_record_identifier, set_record_identifier, get_record_count, range_length}
use Rattle.erst_store.specs.Device.{Device}
use Rattle.erst_store.specs.DeviceLaws.{left_to_list}
use Rattle.erst_store.specs.Store.{most_records}
use Rattle.board_core.specs.Doing.{DeviceCall, after_acts, range_read, range_write}
use Rattle.board_core.specs.Told.{Told, device_of, after_range_write}
use Rattle.erst_interp.specs.declared.entries.InstructionEntry.{InstructionEntry}
use Rattle.erst_interp.specs.Faithful.{device_after, input_limit}
use Rattle.erst_interp.specs.Machine.{End, machine_end}
use Rattle.erst_interp.specs.Run.{acts_of, told_after}
use Rattle.erst_interp.specs.Table.{list_of}
use Rattle.erst_driver.specs.declared.refusals.DriverRefused.{DriverRefused}
use Rattle.erst_driver.specs.declared.step.Step.{Step}

-- ---- the actions of an operation

-- An admitted table does this action, and the action takes this input.
pub record Inside (s : Step) : Type 0 where
  pub action : s.action ≤ get_record_count
  pub input : s.input < input_limit s.action

abbrev pub AreInside : List Step → Type 0
AreInside steps = AllByRecursion Inside steps

abbrev pub step : ℕ → ℕ → Step
step action input = record { action = action; input = input }

abbrev pub without_input : ℕ → Step
without_input action = step action 0

-- the actions of each operation up to its execution
abbrev pub clear_steps : ℕ → List Step
clear_steps id =
    without_input begin_clear_operation ∷ step set_record_identifier id ∷ without_input execute_operation ∷ []

abbrev pub read_steps : ℕ → List Step
read_steps id =
    without_input begin_read_operation ∷ step set_record_offset 0 ∷ step set_record_identifier id
    ∷ without_input execute_operation ∷ []

abbrev pub write_steps : List Step
write_steps =
    without_input begin_write_operation ∷ step set_record_offset 0 ∷ without_input execute_operation ∷ []

-- A device that gives this many busy answers is checked once more, until it answers 0. After 1,000 checks it isn't
-- checked again.
abbrev pub checks : ℕ → List Step
checks count = replicate count (without_input check_busy_status)

abbrev pub most_checks : ℕ
most_checks = 1000

-- Whether a device that gives this many busy answers is free within the most checks.
abbrev pub is_free_in_time : ℕ → Bool
is_free_in_time busy = nat_lt busy most_checks

-- the checks of a device that gives this many busy answers
abbrev pub asks : ℕ → List Step
asks busy = if is_free_in_time busy then checks (busy + 1) else checks most_checks

-- Once the device isn't busy any more, its status is read, and the operation is ended.
abbrev pub ends : ℕ → List Step
ends busy =
    if is_free_in_time busy then without_input get_command_status ∷ without_input end_operation ∷ [] else []

-- the steps after the execution: the checks, then the status and the end
abbrev pub finishes : ℕ → List Step
finishes busy = asks busy ++ ends busy

-- Identifiers are listed to the end of the list, and then again from the first on, until the end is returned or there
-- are as many as a store can contain.
abbrev pub listings : ℕ → List Step
listings count = replicate count (without_input get_record_identifier)

abbrev pub ids_steps : Device → List Step
ids_steps d = listings (left_to_list d) ++ listings (min (length d.store + 1) most_records)

-- ---- what they do

-- the device after one action and after several
abbrev pub after_step : Step → Device → Device
after_step s d = device_after s.action s.input d

unfoldable pub after_steps : List Step → Device → Device
after_steps [] d = d
after_steps (s ∷ steps) d = after_steps steps (after_step s d)

-- the run of an action's list by the machine
abbrev pub end_by : List (List InstructionEntry) → Step → Device → End
end_by lists s d = machine_end (list_of s.action lists) s.input d

-- the calls of the device that these runs make, one run after another
unfoldable pub device_calls : List (List InstructionEntry) → List Step → Device → List DeviceCall
device_calls lists [] d = []
device_calls lists (s ∷ steps) d = (end_by lists s d).state.calls ++ device_calls lists steps (end_by lists s d).state.device

-- the model of a board after these runs
abbrev pub told_by_step : List (List InstructionEntry) → Step → Told → Told
told_by_step lists s t = told_after (end_by lists s (device_of t)).state t

-- the model of a board after these steps, by the lists of a table
abbrev pub told_by : List (List InstructionEntry) → List Step → Told → Told
told_by lists steps t = after_acts (acts_of (device_calls lists steps (device_of t))) t

-- all actions of an operation with these steps, over a device
abbrev pub actions_of : List Step → Device → List Step
actions_of steps d = steps ++ finishes (after_steps steps d).busy

-- ---- the calls of the operations

abbrev pub clear_calls : List (List InstructionEntry) → ℕ → Device → List DeviceCall
clear_calls lists id d = device_calls lists (actions_of (clear_steps id) d) d

-- the calls that read the range after an operation with this result
abbrev pub fetch_calls : Result (Unit {0}) DriverRefused → List DeviceCall
fetch_calls (Ok done) = range_read 0 range_length ∷ []
fetch_calls (Err why) = []

-- the model once a write has put the bytes into the range
abbrev pub put_in_range : List ℕ → Told → Told
put_in_range bytes t = after_acts (acts_of (range_write 0 bytes ∷ [])) t

abbrev pub write_calls : List (List InstructionEntry) → List ℕ → Device → List DeviceCall
write_calls lists bytes d =
    range_write 0 bytes ∷ device_calls lists (actions_of write_steps (after_range_write 0 bytes d)) (after_range_write 0 bytes d)

abbrev pub list_calls : List (List InstructionEntry) → Device → List DeviceCall
list_calls lists d = device_calls lists (ids_steps d) d
