-- The orders that an entry gives. An item first orders its page offline, if the page's state rises, and then its
-- module's replacement, if the module's bucket trips for the first time.
use Rattle.std.specs.Prelude.{ℕ, zero, suc, Bool, false, ◌&&◌, not, if◌then◌else◌, Option, None, Some, List, [], ◌∷◌, ◌++◌, map, flat_map, option_and_then, option_to_list}
use Rattle.std.specs.Map.{keys_of, lookup}
use Rattle.std.specs.Option.{option_map_or}
use Rattle.ras_base.specs.Places.{places}
use Rattle.dimm_topology.specs.Labels.{Bytes, same_label}
use Rattle.page_policy.specs.declared.rows.Order.{Order}
use Rattle.page_policy.specs.declared.rows.Order as Ordered
use Rattle.page_policy.specs.declared.rows.PageRow.{PageRow}
use Rattle.page_policy.specs.Rows.{PageReport, order_between}
use Rattle.row_tables.specs.Tables.{distinct_keys}
use Rattle.page_policy.specs.Histories.{page_history, state_in, rows_after, order_behind}
use Rattle.ras_facts.specs.declared.entry.Entry.{Entry}
use Rattle.ras_account.specs.History.{History, empty, with_entry, with_mark}
use Rattle.ras_account.specs.Sightings.{Sighting, sightings, sightings_since_mark, sightings_in, sightings_behind, label_of, report_of, reports_of}
use Rattle.ras_account.specs.Modules.{Module, errors_of, has_tripped}
use Rattle.ras_account.specs.Account.{State}
use Rattle.ras_account.specs.Continued.{is_fresh_in, modules_after, account_after_item}

-- the index of a label among labels, from 0
abbrev pub place_of : Bytes → List Bytes → ℕ
place_of label [] = zero
place_of label (other ∷ labels) = if same_label label other then zero else suc (place_of label labels)

-- the order for the page of an item after all earlier items, which depends only on the items of that page
abbrev pub page_order : List Sighting → Sighting → Option Order
page_order earlier s =
    option_and_then (λ (r : PageReport). order_behind r.page (page_history (reports_of earlier) r.page) r) (report_of s)

-- Whether an item makes its module's bucket trip for the first time since the last upgrade marker. This depends only
-- on the earlier errors of the module.
abbrev pub trips_first : List Sighting → Sighting → Bool
trips_first since_mark s =
    not (has_tripped (errors_of (label_of s) since_mark))
    && has_tripped (errors_of (label_of s) (since_mark ++ s ∷ []))

-- the order for the module of an item after all earlier items and the items since the last upgrade marker. The order
-- names the module by the index of its label among all labels in first-seen order
abbrev pub module_order : List Sighting → List Sighting → Sighting → Option Order
module_order earlier since_mark s =
    if trips_first since_mark s
    then Some (Ordered.TheVariants.Module (place_of (label_of s) (distinct_keys same_label (map label_of (earlier ++ s ∷ [])))))
    else None

-- the orders of an item after all earlier items and the items since the last upgrade marker
abbrev pub item_orders : List Sighting → List Sighting → Sighting → List Order
item_orders earlier since_mark s =
    option_to_list (page_order earlier s) ++ option_to_list (module_order earlier since_mark s)

-- the orders of items, one after the other
abbrev pub orders_of_items : List Sighting → List Sighting → List Sighting → List Order
orders_of_items earlier since_mark ss =
    flat_map (λ p. item_orders (earlier ++ p.0) (since_mark ++ p.0) p.1) (places ss)

-- the orders of an entry after a history, in order
abbrev pub orders_behind : History → Entry → List Order
orders_behind history entry =
    orders_of_items (sightings history) (sightings_since_mark history) (sightings_behind history entry)

-- all orders of a history, and the orders since its last upgrade marker
abbrev pub orders : History → List Order
orders empty = []
orders (with_entry history entry) = orders history ++ orders_behind history entry
orders (with_mark history) = orders history

abbrev pub orders_since_mark : History → List Order
orders_since_mark empty = []
orders_since_mark (with_entry history entry) = orders_since_mark history ++ orders_behind history entry
orders_since_mark (with_mark history) = []

-- Whether a label's module is to be replaced, by the rows of an account.
abbrev pub is_replaced : List (Bytes × Module) → Bytes → Bool
is_replaced modules label = option_map_or (λ (m : Module). m.replace) (lookup (same_label label) modules) false

-- the order for the page of an item, by the rows of pages before it
abbrev pub page_order_in : List (ℕ × PageRow) → Sighting → Option Order
page_order_in pages s =
    option_and_then
    (λ (r : PageReport). order_between r.page (state_in pages r.page) (state_in (rows_after pages r) r.page))
    (report_of s)

-- the order for the module of an item, by the rows of modules before it
abbrev pub module_order_in : List (Bytes × Module) → Sighting → Option Order
module_order_in modules s =
    if not (is_replaced modules (label_of s)) && is_replaced (modules_after modules s) (label_of s)
    then Some (Ordered.TheVariants.Module (place_of (label_of s) (keys_of (modules_after modules s))))
    else None

-- the orders of items that continue an account, in order
abbrev pub orders_along : State → List Sighting → List Order
orders_along a [] = []
orders_along a (s ∷ ss) =
    option_to_list (page_order_in a.pages s) ++ (option_to_list (module_order_in a.modules s) ++ orders_along (account_after_item a s) ss)

-- the orders of an entry that continues an account
abbrev pub orders_at : State → Entry → List Order
orders_at a entry = if is_fresh_in a entry then orders_along a (sightings_in a.limit a.module_limit entry) else []
