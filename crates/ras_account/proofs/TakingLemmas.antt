-- Counting the items of a fact: which reservations each item uses, and what all items lead to.
use Rattle.std.proofs.Common.{◌≡◌, ◌≤◌, ◌*◌, ℕ, Bool, true, false, nat_eq, if◌then◌else◌, ◌||◌, List, [], ◌∷◌, ◌++◌, length, take, drop, Option, None, Some, option_to_list, IfSome, IsTrue, refl, sym, ap, subst, ◌∙◌, arith, append_assoc, append-nil, length-append}
use Rattle.std.specs.List.{list_any, cons_option}
use Rattle.std.specs.Map.{keys_of}
use Rattle.std.specs.Option.{option_map_or}
use Rattle.std.proofs.lemmas.List.Elements.{All-head, All-tail}
use Rattle.std.proofs.lemmas.List.Folds.{list_any-append}
use Rattle.std.proofs.lemmas.List.Sums.{sum_by-cons}
use Rattle.dimm_topology.specs.Labels.{same_label}
use Rattle.page_policy.specs.declared.rows.PageRow.{PageRow}
use Rattle.page_policy.specs.Rows.{report}
use Rattle.row_tables.specs.Tables.{added_keys}
use Rattle.row_tables.specs.Held.{is_ready}
use Rattle.page_policy.proofs.HistoryLemmas.{keys-rows_after}
use Rattle.ras_base.specs.Steps.ExactLemmas.{nat_own}
use Rattle.ras_facts.specs.declared.items.Item.{Item}
use Rattle.ras_facts.specs.Valid.{IsValidItem}
use Rattle.ras_account.specs.Sightings.{Sighting}
use Rattle.ras_account.specs.Continued.{pages_after, account_after_item, account_after_items}
use Rattle.ras_account.specs.Orders.{page_order_in, module_order_in, orders_along}
use Rattle.ras_account.specs.View.{View, Waiting, OrderList, labels_in, pages_in}
use Rattle.ras_account.specs.Steps.Taking.{left_pages, sighting_in, view_after_item, item_orders_in, IsNext, GivesOrders, AreNext, sightings_at, TakesItems, IsAmid}
use Rattle.ras_account.proofs.KeyLemmas.{same_label-refl}
use Rattle.ras_account.proofs.AccountLemmas.{at_page}
use Rattle.ras_account.proofs.ItemLemmas.{with_key, labels-after}

-- Keys that are added one after the other.
module _ {K : Type 0} (same : K → K → Bool) (own : (x : K) → same x x ≡ true) where
  -- The first key is there already, or is the first reserved key.
  next-first : (held waiting rest ks : List K) (k : K) → waiting ≡ added_keys same held (k ∷ ks) ++ rest → list_any (same k) (held ++ take 1 waiting) ≡ true
  next-first held waiting rest ks k wait = list_any-append (same k) held (take 1 waiting) ∙ by (list_any (same k) held) wait
    where
      by : (b : Bool) → waiting ≡ (if b then added_keys same held ks else k ∷ added_keys same (held ++ k ∷ []) ks) ++ rest → (b || list_any (same k) (take 1 waiting)) ≡ true
      by true is = refl
      by false is = ap (λ ws. list_any (same k) (take 1 ws)) is ∙ ap (λ b. b || false) (own k)

  -- After it, the reservations are what the other keys add.
  next-left : (held waiting rest ks : List K) (k : K) → waiting ≡ added_keys same held (k ∷ ks) ++ rest
      → (if list_any (same k) held then waiting else drop 1 waiting) ≡ added_keys same (with_key same held k) ks ++ rest
  next-left held waiting rest ks k wait = by (list_any (same k) held) wait
    where
      by : (b : Bool) → waiting ≡ (if b then added_keys same held ks else k ∷ added_keys same (held ++ k ∷ []) ks) ++ rest
          → (if b then waiting else drop 1 waiting) ≡ added_keys same (if b then held else held ++ k ∷ []) ks ++ rest
      by true is = is
      by false is = ap (drop 1) is

-- An item's page: it is the first reserved page, it is counted, and its key is in the table then.
module _ (rows : List (ℕ × PageRow)) (waiting rest ps : List ℕ) (s : Sighting) (wait : waiting ≡ added_keys nat_eq (keys_of rows) (cons_option s.item.page ps) ++ rest) where
  page-first : IfSome s.item.page (λ page. IsTrue (is_ready nat_eq (record { rows = rows; waiting = waiting }) page))
  page-first = by s.item.page wait
    where
      by : (page : Option ℕ) → waiting ≡ added_keys nat_eq (keys_of rows) (cons_option page ps) ++ rest → IfSome page (λ page. IsTrue (is_ready nat_eq (record { rows = rows; waiting = waiting }) page))
      by None is = tt
      by (Some page) is = next-first nat_eq nat_own (keys_of rows) waiting rest ps page is

  page-left : option_map_or (left_pages rows waiting) s.item.page waiting ≡ added_keys nat_eq (keys_of (pages_after rows s)) ps ++ rest
  page-left = by s.item.page wait
    where
      by : (page : Option ℕ) → waiting ≡ added_keys nat_eq (keys_of rows) (cons_option page ps) ++ rest
          → option_map_or (left_pages rows waiting) page waiting ≡ added_keys nat_eq (keys_of (pages_after rows (at_page s page))) ps ++ rest
      by None is = is
      by (Some page) is =
          next-left nat_eq nat_own (keys_of rows) waiting rest ps page is
          ∙ ap (λ ks. added_keys nat_eq ks ps ++ rest) (sym (keys-rows_after rows (report page s.item.class s.seconds s.item.weight s.limit)))

-- The first of the items can be counted, and then the others.
first-is_next : (v : View) (item : Item) (items : List Item) (rest : Waiting) → AreNext v (item ∷ items) rest → IsNext v item
first-is_next v item items rest next = record {
  valid = All-head IsValidItem item items next.valid;
  label = next-first same_label same_label-refl (keys_of v.state.modules) v.waiting.labels rest.labels (labels_in items) item.label next.labels;
  page = page-first v.state.pages v.waiting.pages rest.pages (pages_in items) (sighting_in v.state 0 item) next.pages;
  total = omega (arith, next.total, sum_by-cons (λ (i : Item). i.weight) item items);
}

others-are_next : (v : View) (item : Item) (items : List Item) (rest : Waiting) (seconds : ℕ) → AreNext v (item ∷ items) rest → AreNext (view_after_item v (sighting_in v.state seconds item)) items rest
others-are_next v item items rest seconds next = record {
  valid = All-tail IsValidItem item items next.valid;
  labels =
      next-left same_label same_label-refl (keys_of v.state.modules) v.waiting.labels rest.labels (labels_in items) item.label next.labels
      ∙ ap (λ ks. added_keys same_label ks (labels_in items) ++ rest.labels) (sym (labels-after v.state.modules (sighting_in v.state seconds item)));
  pages = page-left v.state.pages v.waiting.pages rest.pages (pages_in items) (sighting_in v.state seconds item) next.pages;
  total = omega (arith, next.total, sum_by-cons (λ (i : Item). i.weight) item items);
}

few : {X : Type 0} (o p : Option X) → length (option_to_list o ++ option_to_list p) ≤ 2
few None None = omega arith
few None (Some x) = omega arith
few (Some x) None = omega arith
few (Some x) (Some y) = omega arith

-- before the first item
pub amid-start : (v : View) (old : OrderList) (seconds : ℕ) (items : List Item) → (rest : Waiting) × AreNext v items rest → 2 * length items ≤ old.room → IsAmid v v old old seconds items items
amid-start v old seconds items (waiting, next) room = record {
  rest = waiting;
  first = next;
  next = next;
  names = refl;
  limit = refl;
  module_limit = refl;
  state = refl;
  orders = refl;
  given = refl;
  room = room;
}

-- One more item.
module _ (start now : View) (old new : OrderList) (seconds : ℕ) (items left : List Item) (item : Item) (amid : IsAmid start now old new seconds items (item ∷ left)) where
  pub amid-is_next : IsNext now item
  amid-is_next = first-is_next now item left amid.rest amid.next

  -- The item, with the limits in force at the start and now.
  then_is : Sighting
  then_is = sighting_in start.state seconds item

  same_sighting : sighting_in now.state seconds item ≡ sighting_in start.state seconds item
  same_sighting = λ i. record { item = item; seconds = seconds; limit = amid.limit i; module_limit = amid.module_limit i }

  pub amid-more : (later : View) (given : OrderList) → later ≡ view_after_item now (sighting_in now.state seconds item)
      → GivesOrders new given (item_orders_in now.state (sighting_in now.state seconds item)) → IsAmid start later old given seconds items left
  amid-more later given is gives = subst (λ (v : View). IsAmid start v old given seconds items left) (sym is) (record {
    rest = amid.rest;
    first = amid.first;
    next = others-are_next now item left amid.rest seconds amid.next;
    names = amid.names;
    limit = amid.limit;
    module_limit = amid.module_limit;
    state = ap (λ s. account_after_items (account_after_item now.state s) (sightings_at start.state seconds left)) same_sighting ∙ amid.state;
    orders =
        ap (λ os. os ++ orders_along (account_after_item now.state (sighting_in now.state seconds item)) (sightings_at start.state seconds left)) gives.orders
        ∙ append_assoc new.orders (item_orders_in now.state (sighting_in now.state seconds item)) (orders_along (account_after_item now.state (sighting_in now.state seconds item)) (sightings_at start.state seconds left))
        ∙ ap (λ s. new.orders ++ (item_orders_in now.state s ++ orders_along (account_after_item now.state s) (sightings_at start.state seconds left))) same_sighting
        ∙ ap (λ os. new.orders ++ os) (append_assoc (option_to_list (page_order_in now.state.pages (sighting_in start.state seconds item))) (option_to_list (module_order_in now.state.modules (sighting_in start.state seconds item)))
        (orders_along (account_after_item now.state (sighting_in start.state seconds item)) (sightings_at start.state seconds left)))
        ∙ amid.orders;
    given = omega (arith, gives.room, ap length gives.orders, length-append new.orders (item_orders_in now.state (sighting_in now.state seconds item)), amid.given);
    room = omega (arith, gives.room, amid.room, few (page_order_in now.state.pages (sighting_in now.state seconds item)) (module_order_in now.state.modules (sighting_in now.state seconds item)));
  })

-- after the last item
pub amid-takes : (start now : View) (old new : OrderList) (seconds : ℕ) (items : List Item) → IsAmid start now old new seconds items [] → TakesItems start now seconds items
amid-takes start now old new seconds items amid = record {
  state = amid.state;
  names = amid.names;
  labels = amid.first.labels ∙ ap (λ ks. added_keys same_label (keys_of start.state.modules) (labels_in items) ++ ks) (sym amid.next.labels);
  pages = amid.first.pages ∙ ap (λ ks. added_keys nat_eq (keys_of start.state.pages) (pages_in items) ++ ks) (sym amid.next.pages);
}

pub amid-gives : (start now : View) (old new : OrderList) (seconds : ℕ) (items : List Item) → IsAmid start now old new seconds items []
    → GivesOrders old new (orders_along start.state (sightings_at start.state seconds items))
amid-gives start now old new seconds items amid = record {
  orders = sym (append-nil new.orders) ∙ amid.orders;
  room = omega (arith, amid.given, ap length (sym (append-nil new.orders) ∙ amid.orders), length-append old.orders (orders_along start.state (sightings_at start.state seconds items)));
}
