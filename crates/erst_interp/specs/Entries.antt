-- One entry of a table: ACPI 6.5, section 18.5.1.2, "Serialization Instruction Entries". It has 32 bytes: the action
-- at 0, the instruction at 1, flags at 2, of which bit 0 is "preserve register", the register at 4, a value (8) at 16
-- and a mask (8) at 24. The register is a generic address structure (section 5.2.3.2): the address space at 4, the bit
-- width at 5, the bit offset at 6, the access size at 7, the address (8) at 8. Bit width and access size are not used.
-- That the two registers are in address space 0 at their addresses is this project's own.
use Rattle.std.specs.Prelude.{ℕ, ◌&&◌, nat_eq, nat_lt, List, [], ◌∷◌, get_or, slice_index, Option, Some, None, if◌then◌else◌}
use Rattle.ras_base.specs.Bits.{is_set}
use Rattle.ras_base.specs.LittleEndian.{number_at}
use Rattle.erst_store.specs.Actions.{action_address, value_address}
use Rattle.board_core.specs.declared.board.Reg.{Reg}
use Rattle.board_core.specs.declared.board.Reg.TheVariants.{Action, Value}
use Rattle.erst_interp.specs.declared.entries.Instruction.{Instruction}
use Rattle.erst_interp.specs.declared.entries.Instruction.TheVariants.{ReadRegister, ReadRegisterValue, WriteRegister, WriteRegisterValue, Noop, LoadVar1, LoadVar2, StoreVar1, Add, Subtract, AddValue, SubtractValue, Stall, StallWhileTrue, SkipNextInstructionIfTrue, Goto, SetSrcAddressBase, SetDstAddressBase, MoveData, Unknown}
use Rattle.erst_interp.specs.declared.entries.InstructionEntry.{InstructionEntry}

-- the instructions in the order of their numbers, from 0 on
abbrev pub instructions : List Instruction
instructions =
    ReadRegister
    ∷ ReadRegisterValue
    ∷ WriteRegister
    ∷ WriteRegisterValue
    ∷ Noop
    ∷ LoadVar1
    ∷ LoadVar2
    ∷ StoreVar1
    ∷ Add
    ∷ Subtract
    ∷ AddValue
    ∷ SubtractValue
    ∷ Stall
    ∷ StallWhileTrue
    ∷ SkipNextInstructionIfTrue
    ∷ Goto
    ∷ SetSrcAddressBase
    ∷ SetDstAddressBase
    ∷ MoveData
    ∷ []

-- the instruction of a number
abbrev pub instruction_of : ℕ → Instruction
instruction_of number = get_or instructions number Unknown

-- the register at an address
abbrev pub register_of : ℕ → Option Reg
register_of address =
    if nat_eq address action_address then Some Action
    else (if nat_eq address value_address then Some Value else None)

-- the register at an address, if the address space and the bit offset are valid for it
abbrev pub register_at : ℕ → ℕ → ℕ → Option Reg
register_at space offset address = if nat_eq space 0 && nat_lt offset 64 then register_of address else None

-- the entry at the front of bytes
abbrev pub entry_of : List ℕ → InstructionEntry
entry_of bytes = record {
  action = slice_index bytes 0;
  instruction = instruction_of (slice_index bytes 1);
  preserves = is_set 0 (slice_index bytes 2);
  register = register_at (slice_index bytes 4) (slice_index bytes 6) (number_at 8 8 bytes);
  offset = slice_index bytes 6;
  value = number_at 16 8 bytes;
  mask = number_at 24 8 bytes;
}
