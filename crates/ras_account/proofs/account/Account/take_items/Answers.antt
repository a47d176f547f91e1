use Rattle.std.proofs.Common.{◌≡◌, ◌+◌, ◌∷◌, List, drop, subst}
use Rattle.ras_facts.specs.declared.items.Item.{Item}
use Rattle.ras_account.specs.Steps.Taking.{IsAmid}
use Rattle.ras_account.proofs.StateLemmas.{drop-at}
use Rattle.ras_account.proofs.TakingLemmas.{amid-is_next, amid-more}
use Rattle.ras_account.proofs.account.Account.take_items.Goals as goal

pub take_item-requires-clause-next : goal.take_item-requires-clause-next
take_item-requires-clause-next c =
    let left : drop c.loop-item.item-index c.args.items.now ≡ c.item-item.result ∷ drop (c.loop-item.item-index + 1) c.args.items.now = drop-at c.args.items.now c.loop-item.item-index c.item-item.result c.loop-item-test.true c.item-item.is in
    amid-is_next c.args.self.now c.loop-item.self c.args.orders.now c.loop-item.orders c.args.seconds c.args.items.now (drop (c.loop-item.item-index + 1) c.args.items.now) c.item-item.result
    (subst (λ (items : List Item). IsAmid c.args.self.now c.loop-item.self c.args.orders.now c.loop-item.orders c.args.seconds c.args.items.now items) left c.loop-item.invariant)

pub loop-item-preserved : goal.loop-item-preserved
loop-item-preserved c =
    let left : drop c.loop-item.item-index c.args.items.now ≡ c.item-item.result ∷ drop (c.loop-item.item-index + 1) c.args.items.now = drop-at c.args.items.now c.loop-item.item-index c.item-item.result c.loop-item-test.true c.item-item.is in
    amid-more c.args.self.now c.loop-item.self c.args.orders.now c.loop-item.orders c.args.seconds c.args.items.now (drop (c.loop-item.item-index + 1) c.args.items.now) c.item-item.result
    (subst (λ (items : List Item). IsAmid c.args.self.now c.loop-item.self c.args.orders.now c.loop-item.orders c.args.seconds c.args.items.now items) left c.loop-item.invariant)
    c.take_item.new.self c.take_item.new.orders c.take_item.ensures.account c.take_item.ensures.orders
