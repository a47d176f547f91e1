use Rattle.std.proofs.Common.{◌+◌, ◌++◌, List, take, ap, subst, ◌∙◌}
use Rattle.page_policy.specs.declared.rows.Order.{Order}
use Rattle.ras_facts.specs.declared.items.Item.{Item}
use Rattle.ras_account.specs.Orders.{orders_along}
use Rattle.ras_account.specs.View.{View}
use Rattle.ras_account.specs.Steps.Taking.{sightings_at, GivesOrders}
use Rattle.ras_account.proofs.StateLemmas.{orders-named}
use Rattle.ras_account.proofs.account.Account.take_fact.Goals as goal

pub returns-clause-orders : goal.returns-clause-orders
returns-clause-orders c =
    let v : View = c.args.self.now in
    subst (λ (os : List Order). GivesOrders c.args.orders.now c.take_items.new.orders os)
    (ap (λ (w : View). orders_along w.state (sightings_at w.state c.args.fact.now.seconds c.args.fact.now.items)) c.count_name.ensures
    ∙ orders-named v.state (v.state.names ++ take 1 v.waiting.names) (v.state.entries + 1) (sightings_at v.state c.args.fact.now.seconds c.args.fact.now.items))
    (subst (λ (os : List Order). GivesOrders c.args.orders.now c.take_items.new.orders os)
    (ap (λ (items : List Item). orders_along c.count_name.new.self.state (sightings_at c.count_name.new.self.state c.args.fact.now.seconds items)) c.as_slice.ensures) c.take_items.ensures.orders)
