-- The sources so far, and the sources of the bytes left, are all.
use Rattle.std.proofs.Common.{◌≡◌, ◌-◌, [], nat_eq}
use Rattle.std.specs.List.{IsDistinct}
use Rattle.std.specs.Map.{keys_of}
use Rattle.apei_sources.specs.Hest.{sources_in}
use Rattle.apei_sources.proofs.hest_table.sources_at.Given as goal

abbrev pub invariant-loop-done : goal.invariant-loop-done
invariant-loop-done l = record {
  once : IsDistinct nat_eq (keys_of l.sources.entries);
  left : sources_in (l.count - l.done) l.sources.entries l.rest ≡ sources_in l.count [] l.fn.bytes;
}
