use Rattle.std.proofs.Common.{refl}
use Rattle.board_core.specs.declared.history.MemChange.TheVariants.{Synced}
use Rattle.board_core.proofs.HistoryLemmas.{synced_file}
use Rattle.board_core.proofs.history.History.sync.Goals as goal

pub invariant_of-self-2 : goal.invariant_of-self-2
invariant_of-self-2 c = synced_file _ _ _ _ _ _ _ c.self.invariant (Synced c.args.file) c.args.file refl c.in_ok-push.ensures.items
