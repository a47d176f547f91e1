use Rattle.std.proofs.Common.{◌≡◌, [], length}
use Rattle.bank_lines.specs.Parts.{cut_at}
use Rattle.bank_lines.specs.PartsLeft.{parts_in}
use Rattle.event_lines.specs.SectionEvent.{last_two}
use Rattle.event_lines.proofs.section_event.size_part.Given as goal

abbrev pub invariant-loop-part : goal.invariant-loop-part
invariant-loop-part l = last_two (l.before, l.last) (parts_in l.parts) ≡ last_two ([], []) (cut_at 59 l.text)

abbrev pub decreases-loop-part : goal.decreases-loop-part
decreases-loop-part l = length (parts_in l.parts)
