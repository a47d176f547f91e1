use Rattle.ras_events.proofs.TakingLemmas.{take_first, take_more}
use Rattle.ras_events.proofs.preparing.take_all.Goals as goal

pub take-requires-clause-waits : goal.take-requires-clause-waits
take-requires-clause-waits c = (let can = take_first _ _ _ _ _ _ _ _ c.in-Some.entry c.loop-entry.invariant c.in-Some.ensures.steps.0 in can.waits)

pub loop-entry-preserved : goal.loop-entry-preserved
loop-entry-preserved c =
    take_more _ _ _ _ _ _ _ _ _ _ _ c.in-Some.entry c.loop-entry.invariant c.in-Some.ensures.steps.0 c.in-Some.ensures.steps.1
    c.take.ensures.state c.take.ensures.orders c.take.ensures.room c.take.ensures.in_turn
