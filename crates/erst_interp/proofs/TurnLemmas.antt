-- The instructions by their kinds.
use Rattle.std.proofs.Common.{◌≡◌, ◌∙◌, Option, Some, refl, sym, ap}
use Rattle.board_core.specs.declared.board.Reg.{Reg}
use Rattle.erst_interp.specs.declared.entries.Instruction.{Instruction}
use Rattle.erst_interp.specs.declared.entries.Instruction.TheVariants.{ReadRegister, ReadRegisterValue, WriteRegister, WriteRegisterValue, Noop, LoadVar1, LoadVar2, StoreVar1, Add, Subtract, AddValue, SubtractValue, Stall, StallWhileTrue, SkipNextInstructionIfTrue, Goto, SetSrcAddressBase, SetDstAddressBase, MoveData, Unknown}
use Rattle.erst_interp.specs.declared.entries.InstructionEntry.{InstructionEntry}
use Rattle.erst_interp.specs.declared.machine.Use.{Use}
use Rattle.erst_interp.specs.declared.machine.Work.{Work}
use Rattle.erst_interp.specs.declared.machine.Work as Work
use Rattle.erst_interp.specs.Machine.{MachineState, turn, turn_of, with_register}
use Rattle.erst_interp.specs.Steps.Parts.{work_of, turn_by, used_by}

pub by_kind : (i : Instruction) (e : InstructionEntry) (s : MachineState) → turn_of i e s.variables s ≡ turn_by (work_of i) i e s.variables s
by_kind ReadRegister e s = refl
by_kind ReadRegisterValue e s = refl
by_kind WriteRegister e s = refl
by_kind WriteRegisterValue e s = refl
by_kind Noop e s = refl
by_kind LoadVar1 e s = refl
by_kind LoadVar2 e s = refl
by_kind StoreVar1 e s = refl
by_kind Add e s = refl
by_kind Subtract e s = refl
by_kind AddValue e s = refl
by_kind SubtractValue e s = refl
by_kind Stall e s = refl
by_kind StallWhileTrue e s = refl
by_kind SkipNextInstructionIfTrue e s = refl
by_kind Goto e s = refl
by_kind SetSrcAddressBase e s = refl
by_kind SetDstAddressBase e s = refl
by_kind MoveData e s = refl
by_kind Unknown e s = refl

-- An entry that uses its register.
pub turn_uses : (e : InstructionEntry) (how : Use) (reg : Reg) → Work.TheVariants.Uses how ≡ work_of e.instruction → e.register ≡ Some reg
    → (s : MachineState) → used_by how e.instruction e s.variables reg s ≡ turn e s
turn_uses e how reg kind there s =
    sym (by_kind e.instruction e s
    ∙ ap (λ (work : Work). turn_by work e.instruction e s.variables s) (sym kind)
    ∙ ap (λ (r : Option Reg). with_register r s (λ q. used_by how e.instruction e s.variables q s)) there)
