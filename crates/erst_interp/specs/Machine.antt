-- The serialization machine: ACPI 6.5, section 18.5.1.2, "Serialization Instructions". It runs the list of an action
-- over the device, one instruction a turn. That it ends after 4,096 turns, that GOTO counts within the action's list
-- and that STALL doesn't wait are this project's own rules.
use Rattle.std.specs.Prelude.{ℕ, zero, suc, ◌+◌, ◌-◌, ◌*◌, ◌/◌, ◌%◌, ◌^◌, Bool, true, false, ◌&&◌, nat_eq, nat_le, List, [], ◌∷◌, ◌++◌, take, drop, slice_get, bit_and, bit_or, Option, Some, None, Result, Ok, Err, if◌then◌else◌}
use Rattle.erst_store.specs.Actions.{range_address, range_length}
use Rattle.erst_store.specs.Device.{Device}
use Rattle.board_core.specs.declared.board.Reg.{Reg}
use Rattle.board_core.specs.Doing.{DeviceCall, reg_read, reg_write, range_read, range_write}
use Rattle.board_core.specs.Told.{register_in, after_reg_write, after_range_write}
use Rattle.erst_interp.specs.declared.entries.Instruction.{Instruction}
use Rattle.erst_interp.specs.declared.entries.Instruction.TheVariants.{ReadRegister, ReadRegisterValue, WriteRegister, WriteRegisterValue, Noop, LoadVar1, LoadVar2, StoreVar1, Add, Subtract, AddValue, SubtractValue, Stall, StallWhileTrue, SkipNextInstructionIfTrue, Goto, SetSrcAddressBase, SetDstAddressBase, MoveData, Unknown}
use Rattle.erst_interp.specs.declared.entries.InstructionEntry.{InstructionEntry}
use Rattle.erst_interp.specs.declared.machine.Variables.{Variables}
use Rattle.erst_interp.specs.declared.refusals.RunRefused.{RunRefused}
use Rattle.erst_interp.specs.declared.refusals.RunRefused.TheVariants.{Fuel, BadInstruction, BadRegister, BadRange}

-- The state of a run: the variables, which are the index of the next entry in the list, the value,
-- var1, var2, and the source and destination bases; the device; and the calls of the device made so
-- far.
pub record MachineState : Type 0 where
  pub variables : Variables
  pub device : Device
  pub calls : List DeviceCall

-- the variables at the start of a run
abbrev pub new_variables : ℕ → Variables
new_variables input = record { index = 0; value = input; var1 = 0; var2 = 0; src = 0; dst = 0 }

-- How a turn ends: the run continues in a state, or fails in a state.
pub data Outcome : Type 0 where
  goes : MachineState → Outcome
  stops : RunRefused → MachineState → Outcome

-- ---- numbers of 64 bits

-- a number, a sum and a difference in 64 bits
abbrev pub wrapped : ℕ → ℕ
wrapped number = number % 2 ^ 64

abbrev pub wrapped_sum : ℕ → ℕ → ℕ
wrapped_sum x y = wrapped (x + y)

abbrev pub wrapped_difference : ℕ → ℕ → ℕ
wrapped_difference x y = wrapped (x + (2 ^ 64 - y))

-- 1 for true
abbrev pub truth : Bool → ℕ
truth true = 1
truth false = 0

-- ---- fields of registers

-- the number in an entry's field: shifted right by the bit offset and masked
abbrev pub field_of : InstructionEntry → ℕ → ℕ
field_of e number = bit_and (number / 2 ^ e.offset) e.mask

-- a number shifted left by the bit offset
abbrev pub in_place : InstructionEntry → ℕ → ℕ
in_place e number = wrapped (number * 2 ^ e.offset)

-- The register's other bits when a number is written with preserve: the number without the bits of the field.
abbrev pub cleared : InstructionEntry → ℕ → ℕ
cleared e number = bit_and number (2 ^ 64 - 1 - in_place e e.mask)

-- what is written with preserve: the number in the field, and the register's other bits
abbrev pub with_field : InstructionEntry → ℕ → ℕ → ℕ
with_field e x number = bit_or (in_place e (bit_and x e.mask)) (cleared e number)

-- what is written without preserve: the number in the field, and 0 in all other bits
abbrev pub alone : InstructionEntry → ℕ → ℕ
alone e x = in_place e (bit_and x e.mask)

-- ---- calls of the device

abbrev pub after_register_read : Reg → MachineState → MachineState
after_register_read reg s = record s { calls = s.calls ++ reg_read reg ∷ [] }

abbrev pub after_register_write : Reg → ℕ → MachineState → MachineState
after_register_write reg number s = record s {
  device = after_reg_write reg number s.device;
  calls = s.calls ++ reg_write reg number ∷ [];
}

abbrev pub after_range_read : ℕ → ℕ → MachineState → MachineState
after_range_read place count s = record s { calls = s.calls ++ range_read place count ∷ [] }

abbrev pub after_range_write_at : ℕ → List ℕ → MachineState → MachineState
after_range_write_at place bytes s = record s {
  device = after_range_write place bytes s.device;
  calls = s.calls ++ range_write place bytes ∷ [];
}

-- the number in an entry's field of a register
abbrev pub field_in : InstructionEntry → Reg → MachineState → ℕ
field_in e reg s = field_of e (register_in reg s.device)

-- a number is written into an entry's field of a register, which is read first if the other bits
-- are kept
abbrev pub after_field : InstructionEntry → Reg → ℕ → MachineState → MachineState
after_field e reg x s =
    if e.preserves then after_register_write reg (with_field e x (register_in reg s.device)) (after_register_read reg s)
    else after_register_write reg (alone e x) s

-- bytes of the range moved from one offset to another, as if all were read first
abbrev pub after_move : ℕ → ℕ → ℕ → MachineState → MachineState
after_move from to count s = after_range_write_at to (take count (drop from s.device.range)) (after_range_read from count s)

-- Whether this many bytes from an address on are inside the range.
abbrev pub is_inside : ℕ → ℕ → Bool
is_inside address count = nat_le range_address address && nat_le (address + count) (range_address + range_length)

-- ---- instructions

-- the variables with the index of the entry after this one
abbrev pub next : Variables → Variables
next v = record v { index = v.index + 1 }

-- a state with these variables
abbrev pub with_variables : Variables → MachineState → MachineState
with_variables v s = record s { variables = v }

-- an instruction that uses no register
abbrev pub computes : Variables → MachineState → Outcome
computes v s = goes (with_variables v s)

-- an instruction that uses the entry's register
abbrev pub with_register : Option Reg → MachineState → (Reg → Outcome) → Outcome
with_register None s go_on = stops BadRegister s
with_register (Some reg) s go_on = go_on reg

-- an instruction that uses the register of its entry
abbrev pub uses : InstructionEntry → MachineState → (Reg → Outcome) → Outcome
uses e s go_on = with_register e.register s go_on

-- an instruction that reads the entry's field, and an instruction that writes it
abbrev pub reads : InstructionEntry → MachineState → (ℕ → Variables) → Outcome
reads e s after = uses e s (λ reg. goes (with_variables (after (field_in e reg s)) (after_register_read reg s)))

abbrev pub writes : InstructionEntry → ℕ → MachineState → Outcome
writes e x s = uses e s (λ reg. goes (with_variables (next s.variables) (after_field e reg x s)))

-- an instruction that reads the field and writes another number into it
abbrev pub changes : InstructionEntry → MachineState → (ℕ → ℕ) → Outcome
changes e s change = uses e s (λ reg. goes (with_variables (next s.variables)
    (after_field e reg (change (field_in e reg s)) (after_register_read reg s))))

-- Bytes are moved in the range: var2 of them, from an offset after the source base to the same
-- offset after the destination base. Both stretches have to be inside the range.
abbrev pub moved : ℕ → MachineState → Outcome
moved offset s =
    if is_inside (s.variables.src + offset) s.variables.var2 && is_inside (s.variables.dst + offset) s.variables.var2
    then goes (with_variables (next s.variables) (after_move (s.variables.src + offset - range_address)
    (s.variables.dst + offset - range_address) s.variables.var2 s))
    else stops BadRange s

-- the instruction that moves bytes, whose offset is in its entry's field
abbrev pub moves : InstructionEntry → MachineState → Outcome
moves e s = uses e s (λ reg. moved (field_in e reg s) (after_register_read reg s))

-- What an instruction does. If the test of SKIP_NEXT_INSTRUCTION_IF_TRUE is true, the index rises by 2; if the test of
-- STALL_WHILE_TRUE is true, it stays.
abbrev pub turn_of : Instruction → InstructionEntry → Variables → MachineState → Outcome
turn_of ReadRegister e v s = reads e s (λ x. next (record v { value = x }))
turn_of ReadRegisterValue e v s = reads e s (λ x. next (record v { value = truth (nat_eq x e.value) }))
turn_of WriteRegister e v s = writes e v.value s
turn_of WriteRegisterValue e v s = writes e e.value s
turn_of Noop e v s = computes (next v) s
turn_of LoadVar1 e v s = reads e s (λ x. next (record v { var1 = x }))
turn_of LoadVar2 e v s = reads e s (λ x. next (record v { var2 = x }))
turn_of StoreVar1 e v s = writes e v.var1 s
turn_of Add e v s = computes (next (record v { var1 = wrapped_sum v.var1 v.var2 })) s
turn_of Subtract e v s = computes (next (record v { var1 = wrapped_difference v.var2 v.var1 })) s
turn_of AddValue e v s = changes e s (λ x. wrapped_sum x e.value)
turn_of SubtractValue e v s = changes e s (λ x. wrapped_difference x e.value)
turn_of Stall e v s = computes (next v) s
turn_of StallWhileTrue e v s = reads e s (λ x. if nat_eq x e.value then v else next v)
turn_of SkipNextInstructionIfTrue e v s = reads e s (λ x. if nat_eq x e.value then next (next v) else next v)
turn_of Goto e v s = computes (record v { index = e.value }) s
turn_of SetSrcAddressBase e v s = reads e s (λ x. next (record v { src = x }))
turn_of SetDstAddressBase e v s = reads e s (λ x. next (record v { dst = x }))
turn_of MoveData e v s = moves e s
turn_of Unknown e v s = stops BadInstruction s

-- one turn with this entry
abbrev pub turn : InstructionEntry → MachineState → Outcome
turn e s = turn_of e.instruction e s.variables s

-- ---- runs

-- how a run ends: with its value or an error, in a state
pub record End : Type 0 where
  pub answer : Result ℕ RunRefused
  pub state : MachineState

-- how the run ends from the next entry on: if there is no entry, with its value
abbrev pub at_entry : (InstructionEntry → End) → MachineState → Option InstructionEntry → End
at_entry go_on s None = record { answer = Ok s.variables.value; state = s }
at_entry go_on s (Some e) = go_on e

-- the end of a run after a turn: of the rest of the run, or the turn's error
abbrev pub after_turn : (MachineState → End) → Outcome → End
after_turn go_on (goes s) = go_on s
after_turn go_on (stops why s) = record { answer = Err why; state = s }

-- The end of a run that has n turns left. If no turn is left and there is a next entry, the run fails before that
-- entry is read.
unfoldable pub end_from : ℕ → List InstructionEntry → MachineState → End
end_from zero list s =
    at_entry (λ e. record { answer = Err Fuel; state = s }) s (slice_get list s.variables.index)
end_from (suc turns) list s =
    at_entry (λ e. after_turn (λ t. end_from turns list t) (turn e s)) s (slice_get list s.variables.index)

-- how many turns a run may make
abbrev pub most_turns : ℕ
most_turns = 4096

-- the state at the start of a run with this input over a device
abbrev pub start : ℕ → Device → MachineState
start input device = record { variables = new_variables input; device = device; calls = [] }

-- the end of the run of a list
abbrev pub machine_end : List InstructionEntry → ℕ → Device → End
machine_end list input device = end_from most_turns list (start input device)
