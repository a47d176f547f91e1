use Rattle.std.proofs.Common.{◌-◌, ◌≤◌, length}
use Rattle.bank_lines.specs.LogLines.{log_mark}
use Rattle.bank_lines.specs.Steps.Marks.{FirstBelow}
use Rattle.bank_lines.proofs.LogHeadLemmas.{NoneBelow}
use Rattle.bank_lines.proofs.mark.mark_of.Given as goal

-- no prefix of the kernel's own text has its letter before `from`, and EDAC's first prefix below `from` is known
abbrev pub invariant-loop-passed : goal.invariant-loop-passed
invariant-loop-passed l = record {
  inside : l.from ≤ length l.line;
  plain : NoneBelow 15 log_mark l.line l.from;
  edac : FirstBelow l.line l.from l.edac;
}

abbrev pub decreases-loop-passed : goal.decreases-loop-passed
decreases-loop-passed l = length l.line - l.from
