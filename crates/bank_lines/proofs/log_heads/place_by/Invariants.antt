use Rattle.std.proofs.Common.{◌-◌, ◌≤◌, length}
use Rattle.bank_lines.proofs.LogHeadLemmas.{NoneBelow}
use Rattle.bank_lines.proofs.log_heads.place_by.Given as goal

-- no text has its byte at `pivot` before `from`
abbrev pub invariant-loop-passed : goal.invariant-loop-passed
invariant-loop-passed l = record {
  inside : l.from ≤ length l.within;
  none : NoneBelow l.pivot l.text l.within l.from;
}

abbrev pub decreases-loop-passed : goal.decreases-loop-passed
decreases-loop-passed l = length l.within - l.from
