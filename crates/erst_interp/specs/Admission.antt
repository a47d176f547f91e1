-- Which lists of an action are admitted: those that do the action, whatever the device. The rules
-- are this project's own. An admitted list is laid out like this, where idle entries leave both the
-- device and the value alone:
--
--   actions that take the input    idle*, the input's write, idle*, the action's write, idle*
--   EXECUTE                        (idle or a write to Value)*, the action's write, idle*
--   actions that answer            idle*, the action's write, idle*, the answer's read
--   all others                     idle*, the action's write, idle*
use Rattle.std.specs.Prelude.{◌≡◌, ℕ, ◌-◌, ◌^◌, ◌≤◌, Bool, true, false, ◌&&◌, ◌||◌, not, nat_eq, is_some, List, [], ◌∷◌, ◌++◌, length, bit_and, Option, Some, IsTrue, if◌then◌else◌}
use Rattle.std.specs.List.{list_all}
use Rattle.erst_store.specs.Actions.{set_record_offset, execute_operation, check_busy_status, get_command_status, get_record_identifier, set_record_identifier, get_record_count}
use Rattle.board_core.specs.declared.board.Reg.{Reg}
use Rattle.board_core.specs.declared.board.Reg.TheVariants.{Action, Value}
use Rattle.erst_interp.specs.declared.entries.Instruction.{Instruction}
use Rattle.erst_interp.specs.declared.entries.Instruction.TheVariants.{ReadRegister, ReadRegisterValue, WriteRegister, WriteRegisterValue, Noop, LoadVar1, LoadVar2, Add, Subtract, Stall}
use Rattle.erst_interp.specs.declared.entries.InstructionEntry.{InstructionEntry}
use Rattle.erst_interp.specs.Machine.{most_turns}
use Rattle.erst_interp.specs.Table.{list_of}

-- ---- the actions

-- the actions that take the input, and the actions that return something
abbrev pub takes_input : ℕ → Bool
takes_input action = nat_eq action set_record_offset || nat_eq action set_record_identifier

abbrev pub gives_answer : ℕ → Bool
gives_answer action =
    nat_eq action check_busy_status || nat_eq action get_command_status
    || nat_eq action get_record_identifier || nat_eq action get_record_count

-- the bits that the mask of an input's write has to have: the low 32 of an offset, all of an identifier
abbrev pub input_bits : ℕ → ℕ
input_bits action = if nat_eq action set_record_offset then 2 ^ 32 - 1 else 2 ^ 64 - 1

-- The bits that the mask of a result's read has to have: bit 0 of whether the device is busy, the low 8 of a status,
-- all of an identifier, the low 32 of a count.
abbrev pub answer_bits : ℕ → ℕ
answer_bits action =
    if nat_eq action check_busy_status then 1
    else (if nat_eq action get_command_status then 2 ^ 8 - 1
    else (if nat_eq action get_record_identifier then 2 ^ 64 - 1 else 2 ^ 32 - 1))

-- ---- entries

-- Whether an entry uses this register.
abbrev pub is_action : Option Reg → Bool
is_action (Some Action) = true
is_action register = false

abbrev pub is_value : Option Reg → Bool
is_value (Some Value) = true
is_value register = false

-- Whether a mask has these bits.
abbrev pub holds_bits : ℕ → ℕ → Bool
holds_bits bits mask = nat_eq (bit_and mask bits) bits

-- Whether an entry changes neither the device nor the value.
abbrev pub is_idle_by : Instruction → Option Reg → Bool
is_idle_by Noop register = true
is_idle_by Stall register = true
is_idle_by Add register = true
is_idle_by Subtract register = true
is_idle_by LoadVar1 register = is_some register
is_idle_by LoadVar2 register = is_some register
is_idle_by _ register = false

abbrev pub is_idle : InstructionEntry → Bool
is_idle e = is_idle_by e.instruction e.register

-- Whether an entry uses a whole register, and preserves none of its bits.
abbrev pub is_whole : InstructionEntry → Bool
is_whole e = nat_eq e.offset 0 && not e.preserves

-- Whether an entry writes the number of an action to Action.
abbrev pub is_constant : Instruction → Bool
is_constant WriteRegisterValue = true
is_constant _ = false

abbrev pub is_act : ℕ → InstructionEntry → Bool
is_act action e =
    is_constant e.instruction && is_action e.register && is_whole e
    && nat_eq (bit_and e.value e.mask) action

-- Whether an entry writes the input to Value.
abbrev pub is_write : Instruction → Bool
is_write WriteRegister = true
is_write _ = false

abbrev pub is_input : ℕ → InstructionEntry → Bool
is_input action e =
    is_write e.instruction && is_value e.register && is_whole e && holds_bits (input_bits action) e.mask

-- Whether an entry writes its own number to Value, which EXECUTE_OPERATION ignores.
abbrev pub is_free : ℕ → InstructionEntry → Bool
is_free action e =
    nat_eq action execute_operation && is_constant e.instruction && is_value e.register && not e.preserves

-- Whether an entry reads the result from Value. A result of 0 or 1 may be compared with 1.
abbrev pub is_read : ℕ → ℕ → Instruction → Bool
is_read action value ReadRegister = true
is_read action value ReadRegisterValue = nat_eq action check_busy_status && nat_eq value 1
is_read action value _ = false

abbrev pub is_answer : ℕ → InstructionEntry → Bool
is_answer action e =
    is_read action e.value e.instruction && is_value e.register && nat_eq e.offset 0
    && holds_bits (answer_bits action) e.mask

-- ---- lists

abbrev pub AreIdle : List InstructionEntry → Type 0
AreIdle entries = IsTrue (list_all is_idle entries)

-- idle entries, one other entry, and again idle entries
pub record HoldsOne (Is : InstructionEntry → Bool) (entries : List InstructionEntry) : Type 0 where
  pub before : List InstructionEntry
  pub one : InstructionEntry
  pub after : List InstructionEntry
  pub laid : entries ≡ before ++ one ∷ after
  pub idle_before : AreIdle before
  pub is : IsTrue (Is one)
  pub idle_after : AreIdle after

-- What comes before the action's write: the input's write among idle entries; or idle entries and, before
-- EXECUTE_OPERATION, also writes to Value.
abbrev pub BeginsBy : Bool → ℕ → List InstructionEntry → Type 0
BeginsBy true action entries = HoldsOne (is_input action) entries
BeginsBy false action entries = IsTrue (list_all (λ e. is_idle e || is_free action e) entries)

-- what comes before the write to Action in a list of this action
abbrev pub IsBeginning : ℕ → List InstructionEntry → Type 0
IsBeginning action entries = BeginsBy (takes_input action) action entries

-- idle entries, and last the read of the result
pub record EndsWithAnswer (action : ℕ) (entries : List InstructionEntry) : Type 0 where
  pub idle : List InstructionEntry
  pub last : InstructionEntry
  pub laid : entries ≡ idle ++ last ∷ []
  pub are_idle : AreIdle idle
  pub is : IsTrue (is_answer action last)

-- What comes after the action's write: idle entries and, if the action returns something, last the read of the result.
abbrev pub EndsBy : Bool → ℕ → List InstructionEntry → Type 0
EndsBy true action entries = EndsWithAnswer action entries
EndsBy false action entries = AreIdle entries

-- what comes after the write to Action in a list of this action
abbrev pub IsEnding : ℕ → List InstructionEntry → Type 0
IsEnding action entries = EndsBy (gives_answer action) action entries

-- An admitted list of an action: its only write to Action, with what comes before and after it.
pub record IsAdmitted (action : ℕ) (list : List InstructionEntry) : Type 0 where
  pub short : length list ≤ most_turns
  pub before : List InstructionEntry
  pub act : InstructionEntry
  pub after : List InstructionEntry
  pub laid : list ≡ before ++ act ∷ after
  pub is : IsTrue (is_act action act)
  pub begins : IsBeginning action before
  pub ends : IsEnding action after

-- A table is admitted if the lists of actions 0 to 10 are.
abbrev pub IsAdmittedTable : List (List InstructionEntry) → Type 0
IsAdmittedTable lists = (action : ℕ) → action ≤ get_record_count → IsAdmitted action (list_of action lists)
