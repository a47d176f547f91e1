use Rattle.std.proofs.Common.{◌≡◌, [], length}
use Rattle.bank_lines.specs.Parts.{cut_at}
use Rattle.bank_lines.specs.PartsLeft.{parts_in}
use Rattle.bank_lines.specs.Trace.{last_word}
use Rattle.event_lines.proofs.section_event.raw_text.Given as goal

abbrev pub invariant-loop-part : goal.invariant-loop-part
invariant-loop-part l = last_word l.last (parts_in l.parts) ≡ last_word [] (cut_at 59 l.line)

abbrev pub decreases-loop-part : goal.decreases-loop-part
decreases-loop-part l = length (parts_in l.parts)
