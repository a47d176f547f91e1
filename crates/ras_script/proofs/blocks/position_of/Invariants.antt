use Rattle.std.proofs.Common.{◌-◌, ◌≤◌, length}
use Rattle.ras_script.specs.Steps.Places.{StandsNowhere}
use Rattle.ras_script.proofs.blocks.position_of.Given as goal

-- The byte isn't in the text before `at`.
abbrev pub invariant-loop-at : goal.invariant-loop-at
invariant-loop-at l = record {
  within : l.at ≤ length l.text;
  none : StandsNowhere l.byte l.text 0 l.at;
}

abbrev pub decreases-loop-at : goal.decreases-loop-at
decreases-loop-at l = length l.text - l.at
