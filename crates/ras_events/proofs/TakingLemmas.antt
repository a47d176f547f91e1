-- The new entries of an event, counted in turn.
use Rattle.std.proofs.Common.{◌≡◌, ℕ, ◌+◌, ◌≤◌, ◌*◌, Bool, true, false, if◌then◌else◌, Option, None, Some, option_to_list, List, [], ◌∷◌, ◌++◌, length, sym, ap, subst, ◌∙◌, append_assoc, length-append, arith}
use Rattle.std.proofs.lemmas.List.{length-map}
use Rattle.std.proofs.lemmas.List.Sums.{sum_by-cons}
use Rattle.page_policy.specs.declared.rows.Order.{Order}
use Rattle.ras_facts.specs.declared.items.Item.{Item}
use Rattle.ras_facts.specs.declared.entry.Entry.{Entry}
use Rattle.ras_facts.specs.declared.entry.Entry.TheVariants.{Fact, Limit as PageLimit, Retire, ModuleLimit}
use Rattle.ras_facts.specs.Entries.{IsValidEntry, most_orders}
use Rattle.ras_account.specs.Account.{State}
use Rattle.ras_account.specs.Sightings.{Sighting, sightings_in, sightings_of}
use Rattle.ras_account.specs.Continued.{is_fresh_in, account_after, account_after_all, account_after_item}
use Rattle.ras_account.specs.Numbers.{IsWithin, StaysWithin}
use Rattle.ras_account.specs.Orders.{orders_along, orders_at, page_order_in, module_order_in}
use Rattle.ras_account.specs.View.{OrderList, View, WaitsFirst, IsReservedFor, added_by}
use Rattle.ras_account.proofs.NumberLemmas.{added_by-cons}
use Rattle.ras_events.specs.Steps.Beside.{CanTakeAll, IsTaking}
use Rattle.ras_events.specs.Preparing.{orders_along_entries}

-- ---- how many orders an entry gives

one_each : {X : Type 0} (o : Option X) → length (option_to_list o) ≤ 1
one_each None = omega arith
one_each (Some x) = omega arith

two_each : (a : State) (ss : List Sighting) → length (orders_along a ss) ≤ 2 * length ss
two_each a [] = omega arith
two_each a (s ∷ ss) =
    let page : List Order = option_to_list (page_order_in a.pages s) in
    let part : List Order = option_to_list (module_order_in a.modules s) in
    let later : List Order = orders_along (account_after_item a s) ss in
    omega (arith, one_each (page_order_in a.pages s), one_each (module_order_in a.modules s), two_each (account_after_item a s) ss, length-append page (part ++ later), length-append part later)

abbrev sighting_at : State → ℕ → Item → Sighting
sighting_at a seconds item = record { item = item; seconds = seconds; limit = a.limit; module_limit = a.module_limit }

few_at : (a : State) (e : Entry) → length (orders_along a (sightings_in a.limit a.module_limit e)) ≤ most_orders e
few_at a (Fact fact) = omega (arith, two_each a (sightings_of a.limit a.module_limit fact.seconds fact.items), ap (λ n. 2 * n) (length-map fact.items (λ (item : Item). sighting_at a fact.seconds item)))
few_at a (PageLimit limit) = omega arith
few_at a (Retire boot) = omega arith
few_at a (ModuleLimit limit) = omega arith

few_orders : (a : State) (e : Entry) → length (orders_at a e) ≤ most_orders e
few_orders a e = by (is_fresh_in a e)
  where
    by : (b : Bool) → length (if b then orders_along a (sightings_in a.limit a.module_limit e) else []) ≤ most_orders e
    by true = few_at a e
    by false = omega arith

-- ---- entries in turn

-- what counting the first of some entries requires
pub record CanTakeFirst (account : View) (orders : OrderList) (e : Entry) : Type 0 where
  pub valid : IsValidEntry e
  pub waits : WaitsFirst (added_by account.state (e ∷ [])) account.waiting
  pub room : most_orders e ≤ orders.room
  pub within : IsWithin (account_after account.state e)

first_of : (account : View) (orders : OrderList) (e : Entry) (rest : List Entry) → CanTakeAll account orders (e ∷ rest) → CanTakeFirst account orders e
first_of account orders e rest can = record {
  valid = can.valid.0;
  waits = (added_by (account_after account.state e) rest, sym (can.reserved ∙ added_by-cons account.state e rest));
  room = omega (arith, can.room, sum_by-cons most_orders e rest);
  within = can.within.0;
}

can_take : (start now : View) (before after : OrderList) (all left rest : List Entry) (number : ℕ) (e : Entry) → IsTaking start now before after all left number → left ≡ e ∷ rest → CanTakeAll now after (e ∷ rest)
can_take start now before after all left rest number e taking is = subst (CanTakeAll now after) is taking.can

pub take_first : (start now : View) (before after : OrderList) (all left rest : List Entry) (number : ℕ) (e : Entry) → IsTaking start now before after all left number → left ≡ e ∷ rest → CanTakeFirst now after e
take_first start now before after all left rest number e taking is = first_of now after e rest (can_take start now before after all left rest number e taking is)

pub take_more : (start now next : View) (before after given : OrderList) (all left rest : List Entry) (number fewer : ℕ) (e : Entry)
    → IsTaking start now before after all left number → left ≡ e ∷ rest → fewer + 1 ≡ number → next.state ≡ account_after now.state e
    → given.orders ≡ after.orders ++ orders_at now.state e → given.room + length (orders_at now.state e) ≡ after.room
    → ((entries : List Entry) → IsReservedFor now (e ∷ entries) → IsReservedFor next entries) → IsTaking start next before given all rest fewer
take_more start now next before after given all left rest number fewer e taking is one continues gives room in_turn =
    let can : CanTakeAll now after (e ∷ rest) = can_take start now before after all left rest number e taking is in
    record {
      count = omega (arith, taking.count, one, ap length is);
      can = record {
        reserved = in_turn rest can.reserved;
        valid = can.valid.1;
        within = subst (λ a. StaysWithin a rest) (sym continues) can.within.1;
        room = omega (arith, can.room, room, few_orders now.state e, sum_by-cons most_orders e rest);
      };
      state = ap (λ a. account_after_all a rest) continues ∙ ap (account_after_all now.state) (sym is) ∙ taking.state;
      orders =
          (λ i. gives i ++ orders_along_entries (continues i) rest)
          ∙ append_assoc after.orders (orders_at now.state e) (orders_along_entries (account_after now.state e) rest)
          ∙ ap (λ es. after.orders ++ orders_along_entries now.state es) (sym is)
          ∙ taking.orders;
      given = omega (arith, taking.given, room, ap length gives, length-append after.orders (orders_at now.state e));
    }
