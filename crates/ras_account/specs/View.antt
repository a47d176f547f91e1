-- What contracts see of an account and of a list of orders.
use Rattle.std.specs.Prelude.{◌≡◌, ℕ, nat_eq, List, [], ◌++◌, map, filter_map}
use Rattle.std.specs.Map.{keys_of}
use Rattle.dimm_topology.specs.Labels.{Bytes, same_label}
use Rattle.page_policy.specs.declared.rows.Order.{Order}
use Rattle.row_tables.specs.Tables.{added_keys}
use Rattle.ras_facts.specs.declared.name.Name.{Name}
use Rattle.ras_facts.specs.declared.items.Item.{Item}
use Rattle.ras_facts.specs.declared.entry.Entry.{Entry}
use Rattle.ras_account.specs.Account.{State, names_of}
use Rattle.ras_account.specs.Numbers.{fresh_entries_in, items_of}

-- the names, labels and pages that are reserved: memory is allocated for them, and their entries aren't counted yet
pub record Waiting : Type 0 where
  pub names : List Name
  pub labels : List Bytes
  pub pages : List ℕ

-- Nothing is reserved.
abbrev pub nothing : Waiting
nothing = record { names = []; labels = []; pages = [] }

-- two reservations, one after the other
abbrev pub then_waits : Waiting → Waiting → Waiting
then_waits front rest = record {
  names = front.names ++ rest.names;
  labels = front.labels ++ rest.labels;
  pages = front.pages ++ rest.pages;
}

-- A reservation is a beginning of another, in each of the three lists.
abbrev pub WaitsFirst : Waiting → Waiting → Type 0
WaitsFirst front all = (rest : Waiting) × (then_waits front rest ≡ all)

-- the labels and the pages that items name, in order
abbrev pub labels_in : List Item → List Bytes
labels_in items = map (λ (item : Item). item.label) items

abbrev pub pages_in : List Item → List ℕ
pages_in items = filter_map (λ (item : Item). item.page) items

-- What a list of entries adds to an account: the names of the entries that are new at their place, and the labels and
-- pages of their items that have no row yet, in first-seen order.
abbrev pub added_by : State → List Entry → Waiting
added_by a entries = record {
  names = names_of (fresh_entries_in a entries);
  labels = added_keys same_label (keys_of a.modules) (labels_in (items_of (fresh_entries_in a entries)));
  pages = added_keys nat_eq (keys_of a.pages) (pages_in (items_of (fresh_entries_in a entries)));
}

-- what is counted, and what is reserved
pub record View : Type 0 where
  pub state : State
  pub waiting : Waiting

-- orders in the order in which they were given, and the room for more orders
pub record OrderList : Type 0 where
  pub orders : List Order
  pub room : ℕ

-- Exactly what a list of entries adds is reserved, so that the entries can be counted in turn.
abbrev pub IsReservedFor : View → List Entry → Type 0
IsReservedFor account entries = account.waiting ≡ added_by account.state entries
