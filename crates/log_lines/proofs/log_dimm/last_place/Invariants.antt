-- The last occurrence is behind `place`, or is the last one found so far.
use Rattle.std.proofs.Common.{◌≡◌, ◌+◌, ◌≤◌, drop, length, IfSome}
use Rattle.log_lines.specs.LogDimm.{last_place}
use Rattle.log_lines.proofs.LogDimmLemmas.{last_from}
use Rattle.log_lines.proofs.log_dimm.last_place.Given as goal

abbrev pub invariant-loop-place : goal.invariant-loop-place
invariant-loop-place l = record {
  last : last_from l.place l.found (last_place l.mark (drop l.place l.text)) ≡ last_place l.mark l.text;
  within : IfSome l.found (λ place. place + 1 ≤ length l.text);
}
