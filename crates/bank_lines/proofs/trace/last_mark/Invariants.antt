use Rattle.std.proofs.Common.{◌-◌, ◌≤◌, length}
use Rattle.bank_lines.specs.Steps.Names.{LastBelow}
use Rattle.bank_lines.proofs.trace.last_mark.Given as goal

-- the last event name with its byte `_` before `from` is known
abbrev pub invariant-loop-passed : goal.invariant-loop-passed
invariant-loop-passed l = record {
  inside : l.from ≤ length l.line;
  last : LastBelow l.line l.from l.last;
}

abbrev pub decreases-loop-passed : goal.decreases-loop-passed
decreases-loop-passed l = length l.line - l.from
