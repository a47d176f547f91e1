-- The entries left decide.
use Rattle.std.proofs.Common.{◌≡◌, ◌-◌}
use Rattle.std.specs.List.{list_any}
use Rattle.apei_sources.specs.Entries.{is_refused}
use Rattle.apei_sources.specs.Steps.Cut.{cut, AreInside}
use Rattle.apei_sources.proofs.entries.is_some_refused.Given as goal

abbrev pub invariant-loop-done : goal.invariant-loop-done
invariant-loop-done l = record {
  inside : AreInside (l.count - l.done) l.rest;
  left : list_any is_refused (cut (l.count - l.done) l.rest) ≡ list_any is_refused (cut l.count l.fn.bytes);
}
