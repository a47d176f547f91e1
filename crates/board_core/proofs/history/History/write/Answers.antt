use Rattle.board_core.proofs.HistoryLemmas.{wrote_zero, wrote_one}
use Rattle.board_core.proofs.history.History.write.Goals as goal

pub invariant_of-self : goal.invariant_of-self
invariant_of-self c = rw c.write.ensures.first (wrote_zero _ _ _ _ _ _ _ c.self.invariant c.write.result c.args.file c.args.place c.args.bytes.now _ c.in-Zero.is c.write.ensures.file c.write.ensures.events c.write.ensures.same_file c.write.ensures.same_events)

pub invariant_of-self-in-One : goal.invariant_of-self-in-One
invariant_of-self-in-One c = rw c.write-in-One.ensures.first (wrote_one _ _ _ _ _ _ _ c.self.invariant c.write-in-One.result c.args.file c.args.place c.args.bytes.now _ c.in-One.is c.write-in-One.ensures.file c.write-in-One.ensures.events c.write-in-One.ensures.same_file c.write-in-One.ensures.same_events)
