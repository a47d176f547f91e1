-- The calls that a board lists, noted as numbers.
use Rattle.std.specs.Prelude.{ℕ, zero, suc, List, [], ◌∷◌, map}
use Rattle.board_core.specs.declared.board.FileNo.{FileNo}
use Rattle.board_core.specs.declared.board.FileNo.TheVariants.{Zero, One}
use Rattle.board_core.specs.declared.board.DiskCall.{DiskCall}
use Rattle.board_core.specs.declared.board.DiskCall.TheVariants.{Size, ReadAt, WriteAt, Sync}
use Rattle.board_core.specs.declared.board.Reg.{Reg}
use Rattle.board_core.specs.declared.board.Reg.TheVariants.{Action, Value}
use Rattle.board_core.specs.declared.board.Access.{Access}
use Rattle.board_core.specs.declared.board.Access.TheVariants.{Read, Write, RangeRead, RangeWrite}

abbrev pub file_numbered : ℕ → FileNo
file_numbered zero = Zero
file_numbered (suc n) = One

abbrev pub register_numbered : ℕ → Reg
register_numbered zero = Action
register_numbered (suc n) = Value

abbrev pub disk_call_numbered : ℕ → FileNo → ℕ → ℕ → DiskCall
disk_call_numbered zero file place length = Size file
disk_call_numbered (suc zero) file place length = ReadAt file place length
disk_call_numbered (suc (suc zero)) file place length = WriteAt file place length
disk_call_numbered (suc (suc (suc n))) file place length = Sync file

abbrev pub disk_call_noted : List ℕ → DiskCall
disk_call_noted (kind ∷ file ∷ place ∷ length ∷ []) = disk_call_numbered kind (file_numbered file) place length
disk_call_noted numbers = Size Zero

abbrev pub disk_calls_noted : List (List ℕ × List ℕ) → List DiskCall
disk_calls_noted calls = map (λ call. disk_call_noted call.0) calls

abbrev pub access_numbered : ℕ → ℕ → ℕ → Access
access_numbered zero one other = Read (register_numbered one) other
access_numbered (suc zero) one other = Write (register_numbered one) other
access_numbered (suc (suc zero)) one other = RangeRead one other
access_numbered (suc (suc (suc n))) one other = RangeWrite one other

abbrev pub access_noted : List ℕ → Access
access_noted (kind ∷ one ∷ other ∷ []) = access_numbered kind one other
access_noted numbers = Read Action 0

abbrev pub accesses_noted : List (List ℕ × List ℕ) → List Access
accesses_noted calls = map (λ call. access_noted call.0) calls
