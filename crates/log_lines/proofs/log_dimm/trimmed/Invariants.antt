-- The end is behind `place`, or is the one found so far.
use Rattle.std.proofs.Common.{◌≡◌, ◌≤◌, drop, length}
use Rattle.log_lines.specs.LogDimm.{end_of}
use Rattle.log_lines.proofs.LogDimmLemmas.{end_from}
use Rattle.log_lines.proofs.log_dimm.trimmed.Given as goal

abbrev pub invariant-loop-place : goal.invariant-loop-place
invariant-loop-place l = record {
  ends : end_from l.place l.end (end_of (drop l.place l.text)) ≡ end_of l.text;
  within : l.end ≤ length l.text;
}
