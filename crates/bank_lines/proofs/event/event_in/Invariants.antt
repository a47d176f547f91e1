use Rattle.std.proofs.Common.{◌≡◌, length}
use Rattle.ras_script.specs.Lines.{without_last}
use Rattle.bank_lines.specs.TraceEvent.{fields_after, no_fields}
use Rattle.bank_lines.specs.Parts.{cut_at}
use Rattle.bank_lines.specs.PartsLeft.{parts_in}
use Rattle.bank_lines.proofs.event.event_in.Given as goal

abbrev pub invariant-loop-part : goal.invariant-loop-part
invariant-loop-part l = fields_after l.fields (without_last (parts_in l.parts)) ≡ fields_after no_fields (without_last (cut_at 44 l.text))

abbrev pub decreases-loop-part : goal.decreases-loop-part
decreases-loop-part l = length (parts_in l.parts)
