use Rattle.ras_script.specs.Steps.Places.{StandsNowhere}
use Rattle.ras_script.proofs.blocks.position_in_rest.Given as goal

abbrev pub invariant-loop-place : goal.invariant-loop-place
invariant-loop-place l = StandsNowhere l.byte l.text 0 l.place
