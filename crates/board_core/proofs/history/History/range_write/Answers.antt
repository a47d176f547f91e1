use Rattle.std.proofs.Common.{ℕ, List, ap}
use Rattle.board_core.specs.declared.history.MemChange.TheVariants.{WroteRange}
use Rattle.board_core.specs.Doing.{device, range_write}
use Rattle.board_core.specs.Told.{after_range_write}
use Rattle.board_core.proofs.HistoryLemmas.{device_acted}
use Rattle.board_core.proofs.history.History.range_write.Goals as goal

pub invariant_of-self-2 : goal.invariant_of-self-2
invariant_of-self-2 c =
    device_acted _ _ _ _ _ _ _ c.self.invariant (WroteRange c.args.place c.in_ok-kept.kept) (device (range_write c.args.place c.args.bytes.now)) (after_range_write c.args.place c.args.bytes.now) c.range_write.new.self (λ has. has)
    (ap (λ (bytes : List ℕ). device (range_write c.args.place bytes)) c.in_ok-kept.ensures.items) c.in_ok-push.ensures.items c.range_write.ensures
