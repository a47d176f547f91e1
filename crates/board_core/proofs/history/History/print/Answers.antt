use Rattle.board_core.proofs.HistoryLemmas.{printed_out}
use Rattle.board_core.proofs.history.History.print.Goals as goal

pub invariant_of-self : goal.invariant_of-self
invariant_of-self c = printed_out _ _ _ _ _ _ _ c.self.invariant c.print.result c.args.bytes.now _ c.print.ensures.out c.print.ensures.events c.print.ensures.same_out c.print.ensures.same_events
