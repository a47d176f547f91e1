-- The orders of an entry after a history are the orders that it gives when it continues the account.
use Rattle.std.proofs.Common.{◌≡◌, ℕ, Bool, true, false, ◌&&◌, not, cond, if◌then◌else◌, List, [], ◌∷◌, ◌++◌, map, Option, Some, None, refl, sym, ap, ◌∙◌, append_assoc, append-nil}
use Rattle.std.specs.Prelude.{flat_map, option_to_list}
use Rattle.std.specs.List.{list_any}
use Rattle.std.specs.Map.{keys_of}
use Rattle.std.specs.Option.{option_map_or}
use Rattle.ras_base.specs.Places.{places_behind}
use Rattle.dimm_topology.specs.Labels.{Bytes, same_label}
use Rattle.page_policy.specs.declared.rows.Order.{Order}
use Rattle.page_policy.specs.declared.rows.Order as Ordered
use Rattle.page_policy.specs.Rows.{PageReport, report, order_between}
use Rattle.page_policy.specs.Histories.{page_rows_of, state_in}
use Rattle.row_tables.specs.Tables.{distinct_keys}
use Rattle.page_policy.proofs.HistoryLemmas.{page_rows_of-more, order-history}
use Rattle.row_tables.proofs.TableLemmas.{lookup-keyed, keys-keyed, any-distinct}
use Rattle.ras_facts.specs.declared.name.Name.{Name}
use Rattle.ras_facts.specs.declared.entry.Entry.{Entry}
use Rattle.page_policy.specs.declared.buckets.Limit.{Limit}
use Rattle.ras_account.specs.History.{History, limit_after, module_limit_after}
use Rattle.ras_account.specs.Fresh.{is_fresh_behind}
use Rattle.ras_account.specs.Sightings.{Sighting, sightings, sightings_since_mark, sightings_in, label_of, reports_of}
use Rattle.ras_account.specs.Modules.{Module, errors_of, has_tripped, module_by_items}
use Rattle.ras_account.specs.Account.{State, account_of, modules_of}
use Rattle.ras_account.specs.Continued.{modules_after, account_after_item}
use Rattle.ras_account.specs.Orders.{place_of, page_order, module_order, item_orders, orders_of_items, orders_behind, is_replaced, page_order_in, module_order_in, orders_along, orders_at}
use Rattle.ras_account.proofs.KeyLemmas.{same_label-exact, same_label-refl}
use Rattle.ras_account.proofs.FreshLemmas.{is_fresh_in-account_of}
use Rattle.ras_account.proofs.AccountLemmas.{AreLast, at_page, errors-none, none-last, last-more, since-last, modules-more, counted, counted-more}

-- an item's order for its page
page_order_in-rows : (ss : List Sighting) (s : Sighting) → page_order_in (page_rows_of (reports_of ss)) s ≡ page_order ss s
page_order_in-rows ss s = by s.item.page
  where
    by : (page : Option ℕ) → page_order_in (page_rows_of (reports_of ss)) (at_page s page) ≡ page_order ss (at_page s page)
    by None = refl
    by (Some page) =
        let r : PageReport = report page s.item.class s.seconds s.item.weight s.limit in
        ap (λ rows. order_between page (state_in (page_rows_of (reports_of ss)) page) (state_in rows page)) (sym (page_rows_of-more (reports_of ss) r))
        ∙ order-history (reports_of ss) r

-- A module is to be replaced if and only if its own errors since the last upgrade marker made its bucket trip.
pub is_replaced-modules : (ss since : List Sighting) (label : Bytes) → AreLast since ss → is_replaced (modules_of ss since) label ≡ has_tripped (errors_of label since)
is_replaced-modules ss since label last =
    ap (λ o. option_map_or (λ (m : Module). m.replace) o false) (lookup-keyed same_label same_label-exact same_label-refl (λ l. module_by_items ss since l) label (distinct_keys same_label (map label_of ss)))
    ∙ ap (λ b. option_map_or (λ (m : Module). m.replace) (cond b (Some (module_by_items ss since label)) None) false) (any-distinct same_label same_label-exact same_label-refl label (map label_of ss))
    ∙ by (list_any (same_label label) (map label_of ss)) refl
  where
    by : (b : Bool) → list_any (same_label label) (map label_of ss) ≡ b
        → option_map_or (λ (m : Module). m.replace) (cond b (Some (module_by_items ss since label)) None) false ≡ has_tripped (errors_of label since)
    by true there = refl
    by false none = ap has_tripped (sym (errors-none since label (none-last ss since label last none)))

pub labels-modules : (ss since : List Sighting) → keys_of (modules_of ss since) ≡ distinct_keys same_label (map label_of ss)
labels-modules ss since = keys-keyed same_label same_label-exact same_label-refl (λ label. module_by_items ss since label) (distinct_keys same_label (map label_of ss))

-- an item's order for its module
module_order_in-modules : (ss since : List Sighting) (s : Sighting) → AreLast since ss → module_order_in (modules_of ss since) s ≡ module_order ss since s
module_order_in-modules ss since s last =
    (λ i. if not (is_replaced-modules ss since (label_of s) last i) && is_replaced (sym more i) (label_of s)
    then Some (Ordered.TheVariants.Module (place_of (label_of s) (keys_of (sym more i))))
    else None)
    ∙ (λ i. if not (has_tripped (errors_of (label_of s) since)) && is_replaced-modules (ss ++ s ∷ []) (since ++ s ∷ []) (label_of s) (last-more ss since s last) i
    then Some (Ordered.TheVariants.Module (place_of (label_of s) (labels-modules (ss ++ s ∷ []) (since ++ s ∷ []) i)))
    else None)
  where
    more : modules_of (ss ++ s ∷ []) (since ++ s ∷ []) ≡ modules_after (modules_of ss since) s
    more = modules-more ss since s last

-- the orders of items after other items
abbrev pub orders_from : List Sighting → List Sighting → List Sighting → List Sighting → List Order
orders_from ss since before more = flat_map (λ p. item_orders (ss ++ p.0) (since ++ p.0) p.1) (places_behind before more)

module _ (names : List Name) (floor : ℕ) (limit module_limit : Limit) (entries : ℕ) (ss since : List Sighting) (last : AreLast since ss) where
  abbrev account_at : List Sighting → State
  account_at before = counted names floor limit module_limit entries (ss ++ before) (since ++ before)

  last-behind : (before : List Sighting) → AreLast (since ++ before) (ss ++ before)
  last-behind before = by last
    where
      by : AreLast since ss → AreLast (since ++ before) (ss ++ before)
      by (front, is) = (front, sym (append_assoc front since before) ∙ ap (λ ts. ts ++ before) is)

  step : (before : List Sighting) (s : Sighting) → account_after_item (account_at before) s ≡ account_at (before ++ s ∷ [])
  step before s =
      sym (counted-more names floor limit module_limit entries (ss ++ before) (since ++ before) s (last-behind before))
      ∙ (λ i. counted names floor limit module_limit entries (append_assoc ss before (s ∷ []) i) (append_assoc since before (s ∷ []) i))

  pub along : (before more : List Sighting) → orders_along (account_at before) more ≡ orders_from ss since before more
  along before [] = refl
  along before (s ∷ more) =
      (λ i. option_to_list (page_order_in-rows (ss ++ before) s i)
      ++ (option_to_list (module_order_in-modules (ss ++ before) (since ++ before) s (last-behind before) i) ++ orders_along (step before s i) more))
      ∙ ap (λ rest. option_to_list (page_order (ss ++ before) s) ++ (option_to_list (module_order (ss ++ before) (since ++ before) s) ++ rest)) (along (before ++ s ∷ []) more)
      ∙ sym (append_assoc (option_to_list (page_order (ss ++ before) s)) (option_to_list (module_order (ss ++ before) (since ++ before) s)) (orders_from ss since (before ++ s ∷ []) more))

-- If the account is the account of a history, the orders are the orders of the history.
pub orders_at-account_of : (h : History) (e : Entry) → orders_at (account_of h) e ≡ orders_behind h e
orders_at-account_of h e =
    ap (λ b. if b then orders_along (account_of h) more else []) (is_fresh_in-account_of h e) ∙ by (is_fresh_behind h e)
  where
    more : List Sighting
    more = sightings_in (limit_after h) (module_limit_after h) e

    by : (b : Bool) → (if b then orders_along (account_of h) more else []) ≡ orders_of_items (sightings h) (sightings_since_mark h) (if b then more else [])
    by true =
        (λ i. orders_along (counted (account_of h).names (account_of h).floor (account_of h).limit (account_of h).module_limit (account_of h).entries
        (sym (append-nil (sightings h)) i) (sym (append-nil (sightings_since_mark h)) i)) more)
        ∙ along (account_of h).names (account_of h).floor (account_of h).limit (account_of h).module_limit (account_of h).entries (sightings h) (sightings_since_mark h) (since-last h) [] more
    by false = refl
