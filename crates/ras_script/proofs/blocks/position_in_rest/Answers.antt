use Rattle.std.proofs.Common.{arith}
use Rattle.ras_script.proofs.BlockLemmas.{found_at, found_nowhere, none_more}
use Rattle.ras_script.proofs.blocks.position_in_rest.Goals as goal

pub loop-place-preserved : goal.loop-place-preserved
loop-place-preserved c = none_more c.args.byte c.args.text.now c.loop-place.place c.loop-place.invariant c.if-text-place.false

pub returns-then-text-place-clause-place : goal.returns-then-text-place-clause-place
returns-then-text-place-clause-place c = found_at c.args.byte c.args.text.now c.loop-place.place c.loop-place-test.true c.loop-place.invariant c.if-text-place.true

pub returns-clause-place : goal.returns-clause-place
returns-clause-place c = found_nowhere c.args.byte c.args.text.now (λ k low high. c.loop-place.invariant k low (omega arith))
