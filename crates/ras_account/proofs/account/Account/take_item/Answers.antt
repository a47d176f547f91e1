use Rattle.std.proofs.Common.{◌≡◌, ◌+◌, ◌++◌, ◌<◌, ◌^◌, option_to_list, refl, sym, ap, subst, ◌∙◌, arith}
use Rattle.ras_account.specs.Sightings.{Sighting}
use Rattle.ras_account.specs.Account.{State}
use Rattle.ras_account.specs.Continued.{account_after_item}
use Rattle.ras_account.specs.View.{View}
use Rattle.ras_account.specs.Accounts.{IsAccount}
use Rattle.ras_account.specs.Steps.Taking.{sighting_in, view_after_item, item_orders_in, GivesOrders}
use Rattle.ras_account.proofs.SoundLemmas.{item-sound}
use Rattle.ras_account.proofs.StateLemmas.{of_parts, view_of_parts, two-given}
use Rattle.ras_account.proofs.account.Account.take_item.Goals as goal

pub invariant_of-self : goal.invariant_of-self
invariant_of-self c =
    let before : State = of_parts c.self.inside.names.held c.self.inside.in_force.floor c.self.inside.in_force.limit c.self.inside.in_force.module_limit c.self.inside.entries c.self.inside.total c.self.inside.modules.rows c.self.inside.pages.rows in
    let s : Sighting = sighting_in before c.args.seconds c.args.item.now in
    let time : c.args.seconds < 2 ^ 64 = omega arith in
    let after : account_after_item before s ≡ record before { total = c.self.inside.total + c.from.result; modules = c.count-replaced.new.self.rows; pages = c.order_for_page-ordered.new.pages.rows } =
    λ i. record before {
      total = ap (λ n. c.self.inside.total + n) (sym c.from.ensures) i;
      modules = (sym (c.count-replaced.ensures.rows s refl refl refl) i).rows;
      pages = (sym (c.order_for_page-ordered.ensures.pages s refl refl refl) i).rows;
    } in
    subst IsAccount after
    (item-sound before s c.self.invariant (record { item = c.requires.next.valid; seconds = time; limit = c.self.invariant.limit; module_limit = c.self.invariant.module_limit }) (record {
      names = c.self.invariant.within.names;
      entries = c.self.invariant.within.entries;
      total = omega (arith, c.requires.next.total, ap (λ (v : View). v.state.total) c.self.view_is);
    }))

pub returns-clause-account : goal.returns-clause-account
returns-clause-account c =
    let before : State = of_parts c.self.inside.names.held c.self.inside.in_force.floor c.self.inside.in_force.limit c.self.inside.in_force.module_limit c.self.inside.entries c.self.inside.total c.self.inside.modules.rows c.self.inside.pages.rows in
    let s : Sighting = sighting_in before c.args.seconds c.args.item.now in
    let here : View = view_of_parts before c.self.inside.names.waiting c.self.inside.modules.waiting c.self.inside.pages.waiting in
    (λ i. view_of_parts
    (record before {
      total = ap (λ n. c.self.inside.total + n) c.from.ensures i;
      modules = (c.count-replaced.ensures.rows s refl refl refl i).rows;
      pages = (c.order_for_page-ordered.ensures.pages s refl refl refl i).rows;
    })
    c.self.inside.names.waiting
    (c.count-replaced.ensures.rows s refl refl refl i).waiting
    (c.order_for_page-ordered.ensures.pages s refl refl refl i).waiting)
    ∙ ap (λ (v : View). view_after_item v (sighting_in v.state c.args.seconds c.args.item.now)) c.self.view_is

pub returns-clause-orders : goal.returns-clause-orders
returns-clause-orders c =
    let before : State = of_parts c.self.inside.names.held c.self.inside.in_force.floor c.self.inside.in_force.limit c.self.inside.in_force.module_limit c.self.inside.entries c.self.inside.total c.self.inside.modules.rows c.self.inside.pages.rows in
    let s : Sighting = sighting_in before c.args.seconds c.args.item.now in
    let are : option_to_list c.order_for_page-ordered.result ++ option_to_list c.count-replaced.result ≡ item_orders_in c.args.self.now.state (sighting_in c.args.self.now.state c.args.seconds c.args.item.now) =
    (λ i. option_to_list (c.order_for_page-ordered.ensures.order s refl refl refl i) ++ option_to_list (c.count-replaced.ensures.order s refl refl refl i))
    ∙ ap (λ (v : View). item_orders_in v.state (sighting_in v.state c.args.seconds c.args.item.now)) c.self.view_is in
    subst (GivesOrders c.args.orders.now c.push_some-2.new.self) are
    (two-given c.args.orders.now c.push_some.new.self c.push_some-2.new.self c.order_for_page-ordered.result c.count-replaced.result c.push_some.ensures c.push_some-2.ensures)
