-- The instructions by kind, and what each kind does with the variables.
use Rattle.std.specs.Prelude.{◌≡◌, ℕ, ◌+◌, ◌&&◌, is_some, Bool, true, false, Option, Some, None, Result, Ok, Err, nat_eq, if◌then◌else◌}
use Rattle.board_core.specs.declared.board.Reg.{Reg}
use Rattle.erst_interp.specs.declared.entries.Instruction.{Instruction}
use Rattle.erst_interp.specs.declared.entries.Instruction.TheVariants.{ReadRegister, ReadRegisterValue, WriteRegister, WriteRegisterValue, Noop, LoadVar1, LoadVar2, StoreVar1, Add, Subtract, AddValue, SubtractValue, Stall, StallWhileTrue, SkipNextInstructionIfTrue, Goto, SetSrcAddressBase, SetDstAddressBase, MoveData, Unknown}
use Rattle.erst_interp.specs.declared.entries.InstructionEntry.{InstructionEntry}
use Rattle.erst_interp.specs.declared.machine.Variables.{Variables}
use Rattle.erst_interp.specs.declared.machine.Work.{Work}
use Rattle.erst_interp.specs.declared.machine.Work as Work
use Rattle.erst_interp.specs.declared.machine.Use.{Use}
use Rattle.erst_interp.specs.declared.machine.Use.TheVariants.{Reads, Writes, Changes, Moves}
use Rattle.erst_interp.specs.declared.refusals.RunRefused.{RunRefused}
use Rattle.erst_interp.specs.declared.refusals.RunRefused.TheVariants.{BadInstruction, Register}
use Rattle.erst_interp.specs.Machine.{MachineState, Outcome, goes, stops, next, truth, wrapped_sum, wrapped_difference, computes, uses, with_variables, field_in, after_register_read, after_field, moved}

abbrev pub work_of : Instruction → Work
work_of Unknown = Work.TheVariants.Unknown
work_of Noop = Work.TheVariants.Computes
work_of Stall = Work.TheVariants.Computes
work_of Add = Work.TheVariants.Computes
work_of Subtract = Work.TheVariants.Computes
work_of Goto = Work.TheVariants.Computes
work_of WriteRegister = Work.TheVariants.Uses Writes
work_of WriteRegisterValue = Work.TheVariants.Uses Writes
work_of StoreVar1 = Work.TheVariants.Uses Writes
work_of AddValue = Work.TheVariants.Uses Changes
work_of SubtractValue = Work.TheVariants.Uses Changes
work_of MoveData = Work.TheVariants.Uses Moves
work_of _ = Work.TheVariants.Uses Reads

abbrev pub computed : Instruction → InstructionEntry → Variables → Variables
computed Goto e v = record v { index = e.value }
computed Add e v = next (record v { var1 = wrapped_sum v.var1 v.var2 })
computed Subtract e v = next (record v { var1 = wrapped_difference v.var2 v.var1 })
computed _ e v = next v

abbrev pub taken : Instruction → InstructionEntry → ℕ → Variables → Variables
taken ReadRegister e x v = next (record v { value = x })
taken ReadRegisterValue e x v = next (record v { value = truth (nat_eq x e.value) })
taken LoadVar1 e x v = next (record v { var1 = x })
taken LoadVar2 e x v = next (record v { var2 = x })
taken StallWhileTrue e x v = if nat_eq x e.value then v else next v
taken SkipNextInstructionIfTrue e x v = if nat_eq x e.value then next (next v) else next v
taken SetSrcAddressBase e x v = next (record v { src = x })
taken SetDstAddressBase e x v = next (record v { dst = x })
taken _ e x v = next v

abbrev pub given : Instruction → InstructionEntry → Variables → ℕ
given WriteRegisterValue e v = e.value
given StoreVar1 e v = v.var1
given _ e v = v.value

abbrev pub changed : Instruction → InstructionEntry → ℕ → ℕ
changed SubtractValue e x = wrapped_difference x e.value
changed _ e x = wrapped_sum x e.value

-- what an instruction that uses the register does
abbrev pub used_by : Use → Instruction → InstructionEntry → Variables → Reg → MachineState → Outcome
used_by Reads i e v reg s = goes (with_variables (taken i e (field_in e reg s) v) (after_register_read reg s))
used_by Writes i e v reg s = goes (with_variables (next s.variables) (after_field e reg (given i e v) s))
used_by Changes i e v reg s = goes (with_variables (next s.variables)
    (after_field e reg (changed i e (field_in e reg s)) (after_register_read reg s)))
used_by Moves i e v reg s = moved (field_in e reg s) (after_register_read reg s)

abbrev pub use_of : Use → InstructionEntry → Variables → Reg → MachineState → Outcome
use_of how e v reg s = used_by how e.instruction e v reg s

abbrev pub turn_by : Work → Instruction → InstructionEntry → Variables → MachineState → Outcome
turn_by Work.TheVariants.Unknown i e v s = stops BadInstruction s
turn_by Work.TheVariants.Computes i e v s = computes (computed i e v) s
turn_by (Work.TheVariants.Uses how) i e v s = uses e s (λ reg. used_by how i e v reg s)

-- Whether an entry uses a valid register.
abbrev pub is_use : Work → Bool
is_use (Work.TheVariants.Uses how) = true
is_use work = false

abbrev pub uses_register : InstructionEntry → Bool
uses_register e = is_use (work_of e.instruction) && is_some e.register

-- ---- entries after which the one that follows is the next, whatever the board answers

abbrev pub is_straight_use : Use → Instruction → Bool
is_straight_use Reads StallWhileTrue = false
is_straight_use Reads SkipNextInstructionIfTrue = false
is_straight_use Reads i = true
is_straight_use Writes i = true
is_straight_use Changes i = true
is_straight_use Moves i = false

abbrev pub is_straight_computed : Instruction → Bool
is_straight_computed Goto = false
is_straight_computed i = true

abbrev pub is_straight_at : Use → Instruction → Option Reg → Bool
is_straight_at how i None = false
is_straight_at how i (Some reg) = is_straight_use how i

abbrev pub is_straight_by : Work → Instruction → Option Reg → Bool
is_straight_by Work.TheVariants.Unknown i register = false
is_straight_by Work.TheVariants.Computes i register = is_straight_computed i
is_straight_by (Work.TheVariants.Uses how) i register = is_straight_at how i register

abbrev pub is_straight : InstructionEntry → Bool
is_straight e = is_straight_by (work_of e.instruction) e.instruction e.register

-- The turn of an entry that runs straight on to the next.
abbrev pub GoesOn : Variables → Result Variables RunRefused → Type 0
GoesOn v (Ok after) = after.index ≡ v.index + 1
GoesOn v (Err Register) = Unit {0}
GoesOn v (Err why) = ⊥
