-- The entries that were counted and the entries left are all.
use Rattle.std.proofs.Common.{◌≡◌, ◌+◌, ◌≤◌, length}
use Rattle.std.specs.Option.{option_map}
use Rattle.apei_sources.specs.Entries.{entries_of}
use Rattle.apei_sources.proofs.entries.count_entries.Given as goal

abbrev pub invariant-loop-rest : goal.invariant-loop-rest
invariant-loop-rest l = record {
  short : l.count + length l.rest ≤ length l.fn.bytes;
  counted : option_map (λ entries. l.count + length entries) (entries_of l.rest) ≡ option_map
      (λ entries. length entries) (entries_of l.fn.bytes);
}

abbrev pub decreases-loop-rest : goal.decreases-loop-rest
decreases-loop-rest l = length l.rest
