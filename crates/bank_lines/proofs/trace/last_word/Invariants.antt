use Rattle.std.proofs.Common.{◌≤◌, length}
use Rattle.bank_lines.proofs.WordLemmas.{NoSpaceFrom}
use Rattle.bank_lines.proofs.trace.last_word.Given as goal

-- no space is at `start` or after it
abbrev pub invariant-loop-start : goal.invariant-loop-start
invariant-loop-start l = record {
  inside : l.start ≤ length l.text;
  none : NoSpaceFrom l.start l.text;
}

abbrev pub decreases-loop-start : goal.decreases-loop-start
decreases-loop-start l = l.start
