use Rattle.std.proofs.Common.{◌≡◌, false, length}
use Rattle.bank_lines.specs.Parts.{cut_at}
use Rattle.bank_lines.specs.PartsLeft.{parts_in}
use Rattle.event_lines.specs.Traced.{has_name}
use Rattle.event_lines.proofs.traced.has_name.Given as goal

abbrev pub invariant-loop-word : goal.invariant-loop-word
invariant-loop-word l = has_name l.by_firmware l.is_behind (parts_in l.words) ≡ has_name l.by_firmware false (cut_at 32 l.text)

abbrev pub decreases-loop-word : goal.decreases-loop-word
decreases-loop-word l = length (parts_in l.words)
