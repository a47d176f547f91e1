-- The requested entry is among the entries left.
use Rattle.std.proofs.Common.{◌≡◌, ◌-◌, [], get_or}
use Rattle.apei_sources.specs.Steps.Cut.{cut, AreInside}
use Rattle.apei_sources.proofs.entries.nth_entry.Given as goal

abbrev pub invariant-loop-passed : goal.invariant-loop-passed
invariant-loop-passed l = record {
  inside : AreInside (l.count - l.passed) l.left;
  left : get_or (cut (l.count - l.passed) l.left) (l.i - l.passed) [] ≡ get_or (cut l.count l.fn.bytes) l.i [];
}
