-- How the items of a fact are counted, one after the other.
use Rattle.std.specs.Prelude.{◌≡◌, ℕ, ◌+◌, ◌*◌, ◌<◌, ◌≤◌, Bool, true, false, not, nat_eq, nat_lt, if◌then◌else◌, List, [], ◌∷◌, ◌++◌, length, take, drop, All, IfSome, IsTrue, option_to_list}
use Rattle.std.specs.List.{list_any, sum_by}
use Rattle.std.specs.Map.{keys_of}
use Rattle.std.specs.Option.{option_map_or}
use Rattle.dimm_topology.specs.Labels.{Bytes, same_label}
use Rattle.page_policy.specs.declared.buckets.Limit.{Limit}
use Rattle.page_policy.specs.Buckets.{IsLimit}
use Rattle.page_policy.specs.declared.rows.Order.{Order}
use Rattle.page_policy.specs.declared.rows.PageRow.{PageRow}
use Rattle.row_tables.specs.Tables.{added_keys}
use Rattle.row_tables.specs.Held.{Held, is_held, is_ready}
use Rattle.ras_facts.specs.declared.items.Item.{Item}
use Rattle.ras_facts.specs.declared.fact.Fact.{Fact}
use Rattle.ras_facts.specs.declared.entry.Entry.{Entry}
use Rattle.ras_facts.specs.declared.entry.Entry.TheVariants.{Fact as FactEntry, Limit as PageLimit, Retire, ModuleLimit}
use Rattle.ras_facts.specs.Valid.{IsValidName, IsValidItem, IsValidFact}
use Rattle.ras_facts.specs.declared.name.Name.{Name}
use Rattle.ras_account.specs.declared.limits.TheConstants.{MOST_NAMES, MOST_ENTRIES, MOST_TOTAL}
use Rattle.ras_account.specs.History.{is_retired}
use Rattle.ras_account.specs.Fresh.{same_limit, is_among}
use Rattle.ras_account.specs.Sightings.{Sighting, sightings_of}
use Rattle.ras_account.specs.Account.{State}
use Rattle.ras_account.specs.Continued.{knows, pages_after, account_after_item, account_after_items, account_after_fresh, account_with_count, account_after}
use Rattle.ras_account.specs.Orders.{page_order_in, module_order_in, orders_along, orders_at}
use Rattle.ras_account.specs.View.{View, Waiting, OrderList, labels_in, pages_in, then_waits, added_by}

-- Whether an entry is new with this floor and these limits in force, unless its name is counted already.
abbrev pub is_news : ℕ → Limit → Limit → Entry → Bool
is_news floor limit module_limit (FactEntry fact) = not (is_retired floor fact.name)
is_news floor limit module_limit (PageLimit other) = not (same_limit other limit)
is_news floor limit module_limit (Retire boot) = nat_lt floor boot
is_news floor limit module_limit (ModuleLimit other) = not (same_limit other module_limit)

-- Whether an entry is a fact whose name an account has.
abbrev pub holds_name : State → Entry → Bool
holds_name a (FactEntry fact) = is_among a.names fact.name
holds_name a (PageLimit limit) = false
holds_name a (Retire boot) = false
holds_name a (ModuleLimit limit) = false

-- Whether the name of an entry is the first reserved name; true for an entry without a name.
abbrev pub name_waits_first : List Name → Entry → Bool
name_waits_first names (FactEntry fact) = is_among (take 1 names) fact.name
name_waits_first names (PageLimit limit) = true
name_waits_first names (Retire boot) = true
name_waits_first names (ModuleLimit limit) = true

-- An entry sets a limit that is in its ranges.
abbrev pub SetsLimit : Entry → Type 0
SetsLimit (FactEntry fact) = ⊥
SetsLimit (PageLimit limit) = IsLimit limit
SetsLimit (Retire boot) = ⊥
SetsLimit (ModuleLimit limit) = IsLimit limit

abbrev pub weights_in : List Item → ℕ
weights_in items = sum_by (λ (item : Item). item.weight) items

-- The reserved keys after a key is counted. A key that has a row uses no reservation.
abbrev pub left_labels : List Bytes → List Bytes → Bytes → List Bytes
left_labels held waiting label = if list_any (same_label label) held then waiting else drop 1 waiting

abbrev pub left_pages : List (ℕ × PageRow) → List ℕ → ℕ → List ℕ
left_pages rows waiting page = if is_held nat_eq rows page then waiting else drop 1 waiting

-- an item with this time, and the limits that an account has in force
abbrev pub sighting_in : State → ℕ → Item → Sighting
sighting_in a seconds item = record { item = item; seconds = seconds; limit = a.limit; module_limit = a.module_limit }

-- the account after an item, and what is reserved then
abbrev pub view_after_item : View → Sighting → View
view_after_item v s = record {
  state = account_after_item v.state s;
  waiting = record {
    names = v.waiting.names;
    labels = left_labels (keys_of v.state.modules) v.waiting.labels s.item.label;
    pages = option_map_or (left_pages v.state.pages v.waiting.pages) s.item.page v.waiting.pages;
  };
}

-- the orders of an item that continues an account
abbrev pub item_orders_in : State → Sighting → List Order
item_orders_in a s = option_to_list (page_order_in a.pages s) ++ option_to_list (module_order_in a.modules s)

-- An item can be counted: its label and its page have rows or are the first reserved ones.
pub record IsNext (v : View) (item : Item) : Type 0 where
  pub valid : IsValidItem item
  pub label : IsTrue (list_any (same_label item.label) (keys_of v.state.modules ++ take 1 v.waiting.labels))
  pub page : IfSome item.page (λ page. IsTrue (is_ready nat_eq (record { rows = v.state.pages; waiting = v.waiting.pages }) page))
  pub total : v.state.total + item.weight ≤ MOST_TOTAL

-- Orders were appended, and the room is less by their number.
pub record GivesOrders (old new : OrderList) (more : List Order) : Type 0 where
  pub orders : new.orders ≡ old.orders ++ more
  pub room : new.room + length more ≡ old.room

-- These items can be counted, and after them these labels and pages are still reserved.
pub record AreNext (v : View) (items : List Item) (rest : Waiting) : Type 0 where
  pub valid : All IsValidItem items
  pub labels : v.waiting.labels ≡ added_keys same_label (keys_of v.state.modules) (labels_in items) ++ rest.labels
  pub pages : v.waiting.pages ≡ added_keys nat_eq (keys_of v.state.pages) (pages_in items) ++ rest.pages
  pub total : v.state.total + weights_in items ≤ MOST_TOTAL

-- the items of a fact with this time, and the limits that an account has in force
abbrev pub sightings_at : State → ℕ → List Item → List Sighting
sightings_at a seconds items = sightings_of a.limit a.module_limit seconds items

-- the orders of items with this time that continue an account
abbrev pub orders_of_items_at : State → ℕ → List Item → List Order
orders_of_items_at a seconds items = orders_along a (sightings_at a seconds items)

-- An account has counted these items, and is left with the reservations that they didn't use.
pub record TakesItems (old new : View) (seconds : ℕ) (items : List Item) : Type 0 where
  pub state : new.state ≡ account_after_items old.state (sightings_at old.state seconds items)
  pub names : new.waiting.names ≡ old.waiting.names
  pub labels : old.waiting.labels ≡ added_keys same_label (keys_of old.state.modules) (labels_in items) ++ new.waiting.labels
  pub pages : old.waiting.pages ≡ added_keys nat_eq (keys_of old.state.pages) (pages_in items) ++ new.waiting.pages

-- While items are counted: counting the items left gives the account and the orders that counting all of them gives.
pub record IsAmid (start now : View) (old new : OrderList) (seconds : ℕ) (items left : List Item) : Type 0 where
  pub rest : Waiting
  pub first : AreNext start items rest
  pub next : AreNext now left rest
  pub names : now.waiting.names ≡ start.waiting.names
  pub limit : now.state.limit ≡ start.state.limit
  pub module_limit : now.state.module_limit ≡ start.state.module_limit
  pub state : account_after_items now.state (sightings_at start.state seconds left) ≡ account_after_items start.state (sightings_at start.state seconds items)
  pub orders : new.orders ++ orders_along now.state (sightings_at start.state seconds left) ≡ old.orders ++ orders_along start.state (sightings_at start.state seconds items)
  pub given : new.room + length new.orders ≡ old.room + length old.orders
  pub room : 2 * length left ≤ new.room

-- what a new fact adds to an account
abbrev pub adds_fact : State → Fact → Waiting
adds_fact a fact = record {
  names = fact.name ∷ [];
  labels = added_keys same_label (keys_of a.modules) (labels_in fact.items);
  pages = added_keys nat_eq (keys_of a.pages) (pages_in fact.items);
}

-- A new fact can be counted: what it adds is the first reservation, and there is room for its orders.
pub record CanTakeFact (v : View) (fact : Fact) : Type 0 where
  pub rest : Waiting
  pub valid : IsValidFact fact
  pub unknown : knows v.state fact.name ≡ false
  pub name : v.waiting.names ≡ fact.name ∷ rest.names
  pub next : AreNext v fact.items rest
  pub names_room : length v.state.names < MOST_NAMES
  pub entries_room : v.state.entries < MOST_ENTRIES

-- the account after a new fact
pub record TakesFact (old new : View) (fact : Fact) : Type 0 where
  pub state : new.state ≡ account_after_fresh (account_with_count old.state) (FactEntry fact)
  pub waiting : old.waiting ≡ then_waits (adds_fact old.state fact) new.waiting

-- what counting an entry does
pub record Takes (old new : View) (before after : OrderList) (entry : Entry) : Type 0 where
  pub state : new.state ≡ account_after old.state entry
  pub waiting : old.waiting ≡ then_waits (added_by old.state (entry ∷ [])) new.waiting
  pub gives : GivesOrders before after (orders_at old.state entry)

-- The first reserved name can be counted: the account doesn't know it, and there is room for it.
pub record CanCountName (v : View) : Type 0 where
  pub name : Name
  pub rest : List Name
  pub valid : IsValidName name
  pub unknown : knows v.state name ≡ false
  pub waits : v.waiting.names ≡ name ∷ rest
  pub names_room : length v.state.names < MOST_NAMES
  pub entries_room : v.state.entries < MOST_ENTRIES

-- an account with the first reserved name counted, and one more entry
abbrev pub view_after_name : View → View
view_after_name v = record {
  state = record v.state { names = v.state.names ++ take 1 v.waiting.names; entries = v.state.entries + 1 };
  waiting = record v.waiting { names = drop 1 v.waiting.names };
}

-- the pages after an item, and those that then wait
abbrev pub pages_after_item : Held ℕ PageRow → Sighting → Held ℕ PageRow
pages_after_item held s = record {
  rows = pages_after held.rows s;
  waiting = option_map_or (left_pages held.rows held.waiting) s.item.page held.waiting;
}
