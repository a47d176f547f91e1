-- The parts of a call of a board in memory.
use Rattle.std.specs.Prelude.{◌≡◌, Bool, true, false, ◌⊎◌, Result, Ok, Err}
use Rattle.board_core.specs.declared.mem_board.Fault.{Fault}
use Rattle.board_core.specs.declared.mem_board.Fault.TheVariants.{Disk, Device, Print}
use Rattle.board_core.specs.declared.source.Failed.{Failed}
use Rattle.board_core.specs.Cause.{Kind, disk_call, device_call, print_call}
use Rattle.board_core.specs.MemBoard.{State, fails_next, counted, Faulted, with_refusal}

abbrev pub kind_in : Fault → Kind
kind_in Disk = disk_call
kind_in Device = device_call
kind_in Print = print_call

-- A call began; `listed` is the board that has listed it. The call is counted. It fails if and only if it was chosen
-- to, or if the list can't grow, and then it isn't listed.
abbrev pub Begins : Kind → State → State → State → Result (Unit {0}) Failed → Type 0
Begins kind listed old new (Ok done) = (fails_next old ≡ false) × (new ≡ counted listed)
Begins kind listed old new (Err failed) =
    ((fails_next old ≡ true) × Faulted kind (counted listed) new) ⊎ Faulted kind (with_refusal (counted old)) new

-- A call is counted once it is listed, or can't be listed.
abbrev pub Counts : Kind → Bool → State → State → Result (Unit {0}) Failed → Type 0
Counts kind true old new (Ok done) = (fails_next old ≡ false) × (new ≡ counted old)
Counts kind true old new (Err failed) = (fails_next old ≡ true) × Faulted kind (counted old) new
Counts kind false old new (Ok done) = ⊥
Counts kind false old new (Err failed) = Faulted kind (with_refusal (counted old)) new

-- A call that began successfully ended: it fails if and only if memory for its change ran out.
abbrev pub Ends : {E : Type 0} → Kind → Result (Unit {0}) E → State → State → Result (Unit {0}) Failed → Type 0
Ends kind (Ok made) old new (Ok done) = new ≡ old
Ends kind (Err refused) old new (Err failed) = Faulted kind (with_refusal old) new
Ends kind change old new result = ⊥
