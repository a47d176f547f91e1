-- Each section so far can be read.
use Rattle.std.proofs.Common.{◌≡◌, false}
use Rattle.cper_records.specs.Descriptors.{is_section_refused, some_below}
use Rattle.cper_records.proofs.walk.is_some_refused.Given as goal

abbrev pub invariant-loop-i : goal.invariant-loop-i
invariant-loop-i l = some_below l.i (is_section_refused l.bytes) ≡ false
