use Rattle.board_core.proofs.LeavingLemmas.{filled_on}
use Rattle.board_core.proofs.leaving.fill.Goals as goal

pub loop-event-preserved : goal.loop-event-preserved
loop-event-preserved c = filled_on c.args.byte c.args.number c.args.events.now c.loop-event.event-index c.event-item.result c.args.bytes.now c.loop-event.bytes c.fill_one.new.bytes
    c.loop-event-test.true c.event-item.is c.loop-event.invariant c.fill_one.ensures
