use Rattle.std.proofs.Common.{◌≡◌, length}
use Rattle.block_lines.specs.LogLines.{has_mark}
use Rattle.block_lines.proofs.log_line.has_mark.Given as goal

-- before the rest, no brace is followed by a report's number and prefix
abbrev pub invariant-loop-rest : goal.invariant-loop-rest
invariant-loop-rest l = has_mark l.rest ≡ has_mark l.text

abbrev pub decreases-loop-rest : goal.decreases-loop-rest
decreases-loop-rest l = length l.rest
