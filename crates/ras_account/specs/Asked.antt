-- The orders for one page and the orders for one module, for the laws on orders.
use Rattle.std.specs.Prelude.{ℕ, Bool, false, not, ◌&&◌, nat_eq, List, filter, IsTrue}
use Rattle.std.specs.List.{list_any}
use Rattle.std.specs.Map.{keys_of}
use Rattle.dimm_topology.specs.Labels.{Bytes, same_label}
use Rattle.page_policy.specs.declared.rows.Order.{Order}
use Rattle.page_policy.specs.declared.rows.Order.TheVariants.{Soft, Hard, Module}
use Rattle.ras_facts.specs.declared.entry.Entry.{Entry}
use Rattle.ras_account.specs.History.{History, with_entry}
use Rattle.ras_account.specs.Modules.{has_tripped}
use Rattle.ras_account.specs.Account.{account_of, module_errors}
use Rattle.ras_account.specs.Orders.{place_of, orders_behind, orders_since_mark}

-- Whether an order is for a page.
abbrev pub is_for_page : ℕ → Order → Bool
is_for_page page (Soft other) = nat_eq page other
is_for_page page (Hard other) = nat_eq page other
is_for_page page (Module place) = false

-- Whether an order is for the module at an index.
abbrev pub is_for_module : ℕ → Order → Bool
is_for_module place (Soft page) = false
is_for_module place (Hard page) = false
is_for_module place (Module other) = nat_eq place other

-- the orders of a list for a page, in order
abbrev pub orders_for_page : ℕ → List Order → List Order
orders_for_page page orders = filter (is_for_page page) orders

-- the orders of a list for the module at an index, in order
abbrev pub orders_for_module : ℕ → List Order → List Order
orders_for_module place orders = filter (is_for_module place) orders

-- the index of a label's row in the account of a history
abbrev pub module_place : History → Bytes → ℕ
module_place history label = place_of label (keys_of (account_of history).modules)

-- A label has a row in the account of a history.
abbrev pub HasRow : History → Bytes → Type 0
HasRow history label =
    IsTrue (list_any (same_label label) (keys_of (account_of history).modules))

-- Whether an entry after a history makes a module's bucket trip for the first time since the last upgrade marker, by
-- the module's own corrected errors.
abbrev pub trips_with : History → Entry → Bytes → Bool
trips_with history entry label =
    not (has_tripped (module_errors history label))
    && has_tripped (module_errors (with_entry history entry) label)

-- the orders of an entry after a history to replace a label's module
abbrev pub replace_orders_at : History → Entry → Bytes → List Order
replace_orders_at history entry label =
    orders_for_module (module_place (with_entry history entry) label) (orders_behind history entry)

-- the order to replace a label's module, and such orders since the last upgrade marker
abbrev pub replace_order : History → Bytes → Order
replace_order history label = Module (module_place history label)

abbrev pub replace_orders : History → Bytes → List Order
replace_orders history label =
    orders_for_module (module_place history label) (orders_since_mark history)
