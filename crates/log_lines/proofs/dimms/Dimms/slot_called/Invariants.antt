-- The slots that were passed aren't called so.
use Rattle.std.proofs.Common.{◌≡◌, drop}
use Rattle.log_lines.specs.Dimms.{slot_called}
use Rattle.log_lines.proofs.dimms.Dimms.slot_called.Given as goal

abbrev pub invariant-loop-slot : goal.invariant-loop-slot
invariant-loop-slot l = slot_called (drop l.slot-index l.self.slots) l.label ≡ slot_called l.self.slots l.label
