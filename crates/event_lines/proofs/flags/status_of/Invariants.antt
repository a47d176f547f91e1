use Rattle.std.proofs.Common.{◌≡◌, length}
use Rattle.bank_lines.specs.Parts.{cut_at}
use Rattle.bank_lines.specs.PartsLeft.{parts_in}
use Rattle.event_lines.specs.Flags.{flags_added, flags_of}
use Rattle.event_lines.proofs.flags.status_of.Given as goal

abbrev pub invariant-loop-flag : goal.invariant-loop-flag
invariant-loop-flag l = flags_added (flags_of l.severity) l.status (parts_in l.flags) ≡ flags_added (flags_of l.severity) 0 (cut_at 124 l.text)

abbrev pub decreases-loop-flag : goal.decreases-loop-flag
decreases-loop-flag l = length (parts_in l.flags)
