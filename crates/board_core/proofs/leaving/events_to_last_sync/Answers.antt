use Rattle.std.proofs.Common.{arith}
use Rattle.std.proofs.lemmas.Bool.{iff_false}
use Rattle.board_core.proofs.LeavingLemmas.{parted_here, parted_on}
use Rattle.board_core.proofs.leaving.events_to_last_sync.Goals as goal
use Rattle.board_core.proofs.leaving.events_to_last_sync.Goals.{then-syncs, else-syncs}

pub loop-place-preserved : goal.loop-place-preserved
loop-place-preserved c = elim c.if-syncs.branch [
  | then-syncs w ↦ rw w.count-is (record {
    within = omega arith;
    parted = parted_here c.args.number c.args.events.now c.loop-place.place c.index-events-place.result c.loop-place-test.true c.index-events-place.is (c.syncs.ensures.0 w.if-syncs.true);
  })
  | else-syncs w ↦ rw w.count-is (record {
    within = omega arith;
    parted = parted_on c.args.number c.args.events.now c.loop-place.place c.index-events-place.result c.loop-place-test.true c.index-events-place.is c.loop-place.count c.loop-place.invariant.within (iff_false c.syncs.ensures w.if-syncs.false) c.loop-place.invariant.parted;
  })
]
