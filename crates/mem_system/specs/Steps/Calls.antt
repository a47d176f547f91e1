-- The parts of a call of a system in memory.
use Rattle.std.specs.Prelude.{◌≡◌, ℕ, Bool, true, false, List, Option, None, Some, Result, Ok, Err}
use Rattle.board_core.specs.declared.source.Failed.{Failed}
use Rattle.host_system.specs.Folder.{FolderChange}
use Rattle.mem_system.specs.declared.mem_system.ChosenFailure.{ChosenFailure}
use Rattle.mem_system.specs.declared.mem_system.Fault.{Fault}
use Rattle.mem_system.specs.declared.mem_system.Fault.TheVariants.{Does, Writes}
use Rattle.mem_system.specs.MemSystem.{Choice, MemState, Work, everything, other, work_of, if_everything, bytes_written, bytes_printed, chosen_next, counted, faulted, starving}

-- ---- choices

abbrev pub fault_seen : Fault → Work
fault_seen (Does effect) = work_of effect
fault_seen (Writes bytes) = other bytes.items

abbrev pub choice_seen : ChosenFailure → Choice
choice_seen choice = record { call = choice.call; work = fault_seen choice.fault }

-- Whether a change is made that is made in full or not at all, and this change.
abbrev pub is_whole : Option Work → Bool
is_whole None = true
is_whole (Some everything) = true
is_whole (Some work) = false

abbrev pub whole_change : Option Work → FolderChange → Option FolderChange
whole_change None change = Some change
whole_change (Some work) change = if_everything work change

-- the bytes that arrive of a write, if any, and the bytes that are printed
abbrev pub written_by : Option Work → List ℕ → Option (List ℕ)
written_by None bytes = Some bytes
written_by (Some work) bytes = bytes_written work bytes

abbrev pub printed_by : Option Work → List ℕ → List ℕ
printed_by None bytes = bytes
printed_by (Some work) bytes = bytes_printed work bytes

-- ---- a call

-- A call ended: it failed if it was chosen to fail, or if memory ran out for its effect.
abbrev pub Ends : {E : Type 0} → Bool → Result (Unit {0}) E → MemState → MemState → Result (Unit {0}) Failed → Type 0
Ends false (Ok made) old new (Ok done) = new ≡ old
Ends true (Ok made) old new (Err error) = new ≡ faulted old
Ends chosen (Err refused) old new (Err error) = new ≡ starving old
Ends chosen made old new result = ⊥

-- A call that changes nothing was made: it failed if and only if it was chosen to fail.
abbrev pub Looks : {E : Type 0} → MemState → MemState → Result (Unit {0}) E → Type 0
Looks old new (Ok done) = (chosen_next old ≡ None) × (new ≡ counted old)
Looks old new (Err error) = (work : Work) × ((chosen_next old ≡ Some work) × (new ≡ faulted (counted old)))
