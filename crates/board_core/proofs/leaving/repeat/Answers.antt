use Rattle.board_core.proofs.LeavingLemmas.{repeated}
use Rattle.board_core.proofs.leaving.repeat.Goals as goal

pub loop-event-preserved : goal.loop-event-preserved
loop-event-preserved c = repeated c.args.number c.args.events.now c.loop-event.event-index c.event-item.result c.args.bytes.now.items c.loop-event.bytes.items c.repeat_one.new.bytes.items
    c.loop-event-test.true c.event-item.is c.loop-event.invariant c.in_ok-repeat_one.ensures
