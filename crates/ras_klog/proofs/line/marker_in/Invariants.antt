use Rattle.std.proofs.Common.{◌-◌, ◌≤◌, length}
use Rattle.ras_klog.proofs.LineLemmas.{NoneBelow}
use Rattle.ras_klog.proofs.line.marker_in.Given as goal

-- no prefix has its second byte before `from`
abbrev pub invariant-loop-passed : goal.invariant-loop-passed
invariant-loop-passed l = record {
  inside : l.from ≤ length l.line;
  none : NoneBelow l.line l.from;
}

abbrev pub decreases-loop-passed : goal.decreases-loop-passed
decreases-loop-passed l = length l.line - l.from
