use Rattle.std.proofs.Common.{ℕ, List, [], ◌∷◌, ◌++◌, Option, ap, sym, ◌∙◌}
use Rattle.erst_store.specs.Device.{with_put}
use Rattle.erst_store.specs.declared.store.PutRefused.{PutRefused}
use Rattle.board_core.specs.declared.history.MemChange.{MemChange}
use Rattle.board_core.specs.declared.history.MemChange.TheVariants.{Put}
use Rattle.board_core.specs.Doing.{device, put}
use Rattle.board_core.specs.Told.{after_put, unless_refused}
use Rattle.board_core.proofs.HistoryLemmas.{device_acted}
use Rattle.board_core.proofs.history.History.put.Goals as goal

pub invariant_of-self-in-Ok : goal.invariant_of-self-in-Ok
invariant_of-self-in-Ok c =
    device_acted _ _ _ _ _ _ _ c.self.invariant (Put c.args.id c.in_ok-kept.kept) (device (put c.args.id c.args.bytes.now)) (after_put c.args.id c.args.bytes.now) c.put.new.self (λ has. has)
    (ap (λ (bytes : List ℕ). device (put c.args.id bytes)) c.in_ok-kept.ensures.items) (c.in_ok-push-in-Ok.ensures.items ∙ ap (λ (events : List MemChange). events ++ Put c.args.id c.in_ok-kept.kept ∷ []) c.in_ok-reserve.ensures.items)
    (c.in-Ok.ensures.ok ∙ sym (ap (λ (refusal : Option PutRefused). unless_refused refusal (with_put c.args.id c.args.bytes.now c.self.inside.device) c.self.inside.device) c.in-Ok.ensures.refused))
