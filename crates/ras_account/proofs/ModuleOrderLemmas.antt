-- The orders of a history for one module: at most one since the last upgrade marker, given only by its own errors.
use Rattle.std.proofs.Common.{◌≡◌, ◌≤◌, ◌<◌, ℕ, suc, Bool, true, false, not, cond, ◌&&◌, ◌||◌, if◌then◌else◌, nat_eq, nat_lt, List, [], ◌∷◌, ◌++◌, length, map, drop, Option, Some, None, refl, sym, ap, subst, ◌∙◌, append_assoc, append-nil, true≢false, arith, length-append}
use Rattle.std.specs.Prelude.{option_to_list}
use Rattle.std.specs.List.{list_any}
use Rattle.std.specs.Map.{keys_of}
use Rattle.std.proofs.lemmas.Bool.Decides.{nat_tests}
use Rattle.std.proofs.lemmas.List.{map-append}
use Rattle.std.proofs.lemmas.List.Elements.{filter-append}
use Rattle.std.proofs.lemmas.List.Folds.{list_any-append}
use Rattle.dimm_topology.specs.Labels.{Bytes, same_label}
use Rattle.page_policy.specs.declared.rows.Order.{Order}
use Rattle.page_policy.specs.declared.rows.Order.TheVariants.{Module}
use Rattle.page_policy.specs.declared.rows.PageState.{PageState}
use Rattle.page_policy.specs.declared.rows.PageState.TheVariants.{Kept, Soft, Hard}
use Rattle.page_policy.specs.Rows.{report, height, order_to, order_between}
use Rattle.row_tables.specs.Tables.{added_keys, distinct_keys}
use Rattle.page_policy.specs.Histories.{page_history, page_row}
use Rattle.row_tables.proofs.TableLemmas.{added-append, distinct-known, distinct-new, any-distinct}
use Rattle.ras_base.specs.Steps.ExactLemmas.{nat_own}
use Rattle.ras_facts.specs.declared.entry.Entry.{Entry}
use Rattle.ras_account.specs.History.{History, empty, with_entry, with_mark}
use Rattle.ras_account.specs.Sightings.{Sighting, sightings, sightings_since_mark, sightings_behind, label_of, reports_of}
use Rattle.ras_account.specs.Modules.{is_labeled, fills_bucket, errors_of, bucket_over, trips_at, has_tripped}
use Rattle.ras_account.specs.Account.{account_of, module_errors}
use Rattle.ras_account.specs.Orders.{place_of, page_order, module_order, trips_first, item_orders, orders_behind, orders_since_mark}
use Rattle.ras_account.specs.Asked.{is_for_module, orders_for_module, module_place, trips_with}
use Rattle.ras_account.proofs.KeyLemmas.{same_label-exact, same_label-refl}
use Rattle.ras_account.proofs.AccountLemmas.{AreLast, at_page, errors-own, errors-other, errors-none, none-last, last-more, since-last, has_tripped-more}
use Rattle.ras_account.proofs.OrderLemmas.{orders_from, labels-modules}

-- places of labels

module _ (label : Bytes) where
  is_in : List Bytes → Bool
  is_in labels = list_any (same_label label) labels

  place-append : (labels more : List Bytes) → list_any (same_label label) labels ≡ true → place_of label (labels ++ more) ≡ place_of label labels
  place-append [] more there = absurd (true≢false (sym there))
  place-append (l ∷ ls) more there = by (same_label label l) there (place-append ls more)
    where
      by : (b : Bool) → (b || list_any (same_label label) ls) ≡ true → (list_any (same_label label) ls ≡ true → place_of label (ls ++ more) ≡ place_of label ls)
          → (if b then 0 else suc (place_of label (ls ++ more))) ≡ (if b then 0 else suc (place_of label ls))
      by true h ih = refl
      by false h ih = ap suc (ih h)

  place-new : (labels : List Bytes) → list_any (same_label label) labels ≡ false → place_of label (labels ++ label ∷ []) ≡ length labels
  place-new [] none = ap (λ b. if b then 0 else 1) (same_label-refl label)
  place-new (l ∷ ls) none = by (same_label label l) none (place-new ls)
    where
      by : (b : Bool) → (b || list_any (same_label label) ls) ≡ false → (list_any (same_label label) ls ≡ false → place_of label (ls ++ label ∷ []) ≡ length ls)
          → (if b then 0 else suc (place_of label (ls ++ label ∷ []))) ≡ suc (length ls)
      by true h ih = absurd (true≢false h)
      by false h ih = ap suc (ih h)

  place-behind : (labels more : List Bytes) → list_any (same_label label) labels ≡ false → length labels ≤ place_of label (labels ++ more)
  place-behind [] more none = omega arith
  place-behind (l ∷ ls) more none = by (same_label label l) none (place-behind ls more)
    where
      by : (b : Bool) → (b || list_any (same_label label) ls) ≡ false → (list_any (same_label label) ls ≡ false → length ls ≤ place_of label (ls ++ more))
          → length (l ∷ ls) ≤ (if b then 0 else suc (place_of label (ls ++ more)))
      by true h ih = absurd (true≢false h)
      by false h ih = let behind : length ls ≤ place_of label (ls ++ more) = ih h in omega arith

  place-below : (labels : List Bytes) → list_any (same_label label) labels ≡ true → place_of label labels < length labels
  place-below [] there = absurd (true≢false (sym there))
  place-below (l ∷ ls) there = by (same_label label l) there (place-below ls)
    where
      by : (b : Bool) → (b || list_any (same_label label) ls) ≡ true → (list_any (same_label label) ls ≡ true → place_of label ls < length ls)
          → (if b then 0 else suc (place_of label ls)) < length (l ∷ ls)
      by true h ih = omega arith
      by false h ih = let below : place_of label ls < length ls = ih h in omega arith

  -- Different labels have different indexes.
  place-apart : (other : Bytes) (labels : List Bytes) → list_any (same_label label) labels ≡ true → same_label label other ≡ false → nat_eq (place_of label labels) (place_of other labels) ≡ false
  place-apart other [] there apart = absurd (true≢false (sym there))
  place-apart other (l ∷ ls) there apart = by (same_label label l) refl (same_label other l) refl there (λ h. place-apart other ls h apart)
    where
      both : same_label label l ≡ true → same_label other l ≡ true → ⊥
      both one two = true≢false (sym (same_label-refl label) ∙ ap (same_label label) (same_label-exact label l one ∙ sym (same_label-exact other l two)) ∙ apart)

      by : (b : Bool) → same_label label l ≡ b → (c : Bool) → same_label other l ≡ c → (b || list_any (same_label label) ls) ≡ true
          → (list_any (same_label label) ls ≡ true → nat_eq (place_of label ls) (place_of other ls) ≡ false)
          → nat_eq (if b then 0 else suc (place_of label ls)) (if c then 0 else suc (place_of other ls)) ≡ false
      by true one true two h ih = absurd (both one two)
      by true one false two h ih = grind (arith, nat_tests)
      by false one true two h ih = grind (arith, nat_tests)
      by false one false two h ih = let differ : nat_eq (place_of label ls) (place_of other ls) ≡ false = ih h in grind (arith, nat_tests)

-- the labels of items, each once
abbrev labels : List Sighting → List Bytes
labels ss = distinct_keys same_label (map label_of ss)

labels-known : (ss : List Sighting) (s : Sighting) → list_any (same_label (label_of s)) (map label_of ss) ≡ true → labels (ss ++ s ∷ []) ≡ labels ss
labels-known ss s there =
    ap (distinct_keys same_label) (map-append label_of ss (s ∷ [])) ∙ distinct-known same_label same_label-exact same_label-refl (map label_of ss) (label_of s) there

labels-new : (ss : List Sighting) (s : Sighting) → list_any (same_label (label_of s)) (map label_of ss) ≡ false → labels (ss ++ s ∷ []) ≡ labels ss ++ label_of s ∷ []
labels-new ss s none =
    ap (distinct_keys same_label) (map-append label_of ss (s ∷ [])) ∙ distinct-new same_label same_label-exact same_label-refl (map label_of ss) (label_of s) none

in_labels : (ss : List Sighting) (label : Bytes) → list_any (same_label label) (map label_of ss) ≡ true → list_any (same_label label) (labels ss) ≡ true
in_labels ss label there = any-distinct same_label same_label-exact same_label-refl label (map label_of ss) ∙ there

-- no order for a page is for a module
no_page : (place page : ℕ) (before now : PageState) → orders_for_module place (option_to_list (order_between page before now)) ≡ []
no_page place page before now = by (nat_lt (height before) (height now)) now
  where
    by : (b : Bool) (now : PageState) → orders_for_module place (option_to_list (if b then order_to page now else None)) ≡ []
    by true Kept = refl
    by true Soft = refl
    by true Hard = refl
    by false now = refl

-- the orders of an item for the module at an index
abbrev asks : ℕ → ℕ → Bool → List Order
asks place own b = if b then cond (nat_eq place own) (Module own ∷ []) [] else []

item-module : (place : ℕ) (ss since : List Sighting) (s : Sighting)
    → orders_for_module place (item_orders ss since s) ≡ asks place (place_of (label_of s) (labels (ss ++ s ∷ []))) (trips_first since s)
item-module place ss since s =
    filter-append (is_for_module place) (option_to_list (page_order ss s)) (option_to_list (module_order ss since s))
    ∙ ap (λ os. os ++ orders_for_module place (option_to_list (module_order ss since s))) (paged s.item.page)
    ∙ by (trips_first since s)
  where
    paged : (page : Option ℕ) → orders_for_module place (option_to_list (page_order ss (at_page s page))) ≡ []
    paged None = refl
    paged (Some page) =
        no_page place page (page_row (page_history (reports_of ss) page)).state
        (page_row (page_history (reports_of ss) page ++ report page s.item.class s.seconds s.item.weight s.limit ∷ [])).state

    by : (b : Bool) → orders_for_module place (option_to_list (if b then Some (Module (place_of (label_of s) (labels (ss ++ s ∷ [])))) else None)) ≡ asks place (place_of (label_of s) (labels (ss ++ s ∷ []))) b
    by true = refl
    by false = refl

-- A bucket that has tripped stays tripped.
tripped-stays : (since : List Sighting) (s : Sighting) → has_tripped (errors_of (label_of s) since) ≡ true → has_tripped (errors_of (label_of s) (since ++ s ∷ [])) ≡ true
tripped-stays since s tripped = ap has_tripped (errors-own since s (label_of s) (same_label-refl (label_of s))) ∙ by (fills_bucket s)
  where
    by : (b : Bool) → has_tripped (errors_of (label_of s) since ++ (if b then s ∷ [] else [])) ≡ true
    by true = has_tripped-more (errors_of (label_of s) since) s ∙ ap (λ b. b || trips_at (bucket_over (errors_of (label_of s) since)) s) tripped
    by false = ap has_tripped (append-nil (errors_of (label_of s) since)) ∙ tripped

-- The orders that items give for modules: one for each module whose own errors made its bucket trip.
record AreAsked (ss since : List Sighting) (os : List Order) : Type 0 where
  known : (label : Bytes) → list_any (same_label label) (map label_of ss) ≡ true
      → orders_for_module (place_of label (labels ss)) os ≡ (if has_tripped (errors_of label since) then Module (place_of label (labels ss)) ∷ [] else [])
  above : (place : ℕ) → length (labels ss) ≤ place → orders_for_module place os ≡ []

-- t and t': whether the bucket has tripped before the item and with it.
joined : (t t' : Bool) (o : Order) → (t ≡ true → t' ≡ true) → (if t then o ∷ [] else []) ++ (if not t && t' then o ∷ [] else []) ≡ (if t' then o ∷ [] else [])
joined true true o stays = refl
joined true false o stays = absurd (true≢false (sym (stays refl)))
joined false t' o stays = refl

own-asked : (place : ℕ) (b : Bool) → asks place place b ≡ (if b then Module place ∷ [] else [])
own-asked place true = ap (λ c. cond c (Module place ∷ []) []) (nat_own place)
own-asked place false = refl

other-asked : (place own : ℕ) (b : Bool) → nat_eq place own ≡ false → asks place own b ≡ []
other-asked place own true apart = ap (λ c. cond c (Module own ∷ []) []) apart
other-asked place own false apart = refl

module _ (ss since : List Sighting) (s : Sighting) (os : List Order) (last : AreLast since ss) (asked : AreAsked ss since os) where
  after : List Order
  after = os ++ item_orders ss since s

  -- The item's own label.
  own : orders_for_module (place_of (label_of s) (labels (ss ++ s ∷ []))) (os ++ item_orders ss since s)
      ≡ (if has_tripped (errors_of (label_of s) (since ++ s ∷ [])) then Module (place_of (label_of s) (labels (ss ++ s ∷ []))) ∷ [] else [])
  own =
      filter-append (is_for_module place) os (item_orders ss since s)
      ∙ ap (λ more. orders_for_module place os ++ more) (item-module place ss since s ∙ own-asked place (trips_first since s))
      ∙ ap (λ front. front ++ (if trips_first since s then Module place ∷ [] else [])) (earlier (list_any (same_label (label_of s)) (map label_of ss)) refl)
      ∙ joined (has_tripped (errors_of (label_of s) since)) (has_tripped (errors_of (label_of s) (since ++ s ∷ []))) (Module place) (tripped-stays since s)
    where
      place : ℕ
      place = place_of (label_of s) (labels (ss ++ s ∷ []))

      earlier : (b : Bool) → list_any (same_label (label_of s)) (map label_of ss) ≡ b → orders_for_module place os ≡ (if has_tripped (errors_of (label_of s) since) then Module place ∷ [] else [])
      earlier true there =
          let same : place_of (label_of s) (labels ss) ≡ place = ap (place_of (label_of s)) (sym (labels-known ss s there)) in
          subst (λ p. orders_for_module p os ≡ (if has_tripped (errors_of (label_of s) since) then Module p ∷ [] else [])) same (asked.known (label_of s) there)
      earlier false none =
          let here : place ≡ length (labels ss) = ap (place_of (label_of s)) (labels-new ss s none) ∙ place-new (label_of s) (labels ss) (any-distinct same_label same_label-exact same_label-refl (label_of s) (map label_of ss) ∙ none) in
          asked.above place (omega (arith, here))
          ∙ sym (ap (λ b. if b then Module place ∷ [] else []) (ap has_tripped (errors-none since (label_of s) (none-last ss since (label_of s) last none))))

  -- Another label.
  other : (label : Bytes) → is_labeled label s ≡ false → list_any (same_label label) (map label_of ss) ≡ true
      → orders_for_module (place_of label (labels (ss ++ s ∷ []))) (os ++ item_orders ss since s)
      ≡ (if has_tripped (errors_of label (since ++ s ∷ [])) then Module (place_of label (labels (ss ++ s ∷ []))) ∷ [] else [])
  other label apart there =
      filter-append (is_for_module place) os (item_orders ss since s)
      ∙ ap (λ more. orders_for_module place os ++ more) (item-module place ss since s ∙ other-asked place (place_of (label_of s) (labels (ss ++ s ∷ []))) (trips_first since s) (place-apart label (label_of s) (labels (ss ++ s ∷ [])) inside apart))
      ∙ append-nil (orders_for_module place os)
      ∙ subst (λ p. orders_for_module p os ≡ (if has_tripped (errors_of label since) then Module p ∷ [] else [])) same (asked.known label there)
      ∙ ap (λ es. if has_tripped es then Module place ∷ [] else []) (sym (errors-other since s label apart))
    where
      place : ℕ
      place = place_of label (labels (ss ++ s ∷ []))

      inside : list_any (same_label label) (labels (ss ++ s ∷ [])) ≡ true
      inside = in_labels (ss ++ s ∷ []) label (ap (list_any (same_label label)) (map-append label_of ss (s ∷ [])) ∙ list_any-append (same_label label) (map label_of ss) (label_of s ∷ []) ∙ ap (λ b. b || (is_labeled label s || false)) there)

      same : place_of label (labels ss) ≡ place_of label (labels (ss ++ s ∷ []))
      same = by (list_any (same_label (label_of s)) (map label_of ss)) refl
        where
          by : (b : Bool) → list_any (same_label (label_of s)) (map label_of ss) ≡ b → place_of label (labels ss) ≡ place_of label (labels (ss ++ s ∷ []))
          by true known = ap (place_of label) (sym (labels-known ss s known))
          by false new = sym (ap (place_of label) (labels-new ss s new) ∙ place-append label (labels ss) (label_of s ∷ []) (in_labels ss label there))

  more : (place : ℕ) → length (labels (ss ++ s ∷ [])) ≤ place → orders_for_module place (os ++ item_orders ss since s) ≡ []
  more place above =
      filter-append (is_for_module place) os (item_orders ss since s)
      ∙ (λ i. asked.above place longer i ++ (item-module place ss since s ∙ other-asked place (place_of (label_of s) (labels (ss ++ s ∷ []))) (trips_first since s) apart) i)
    where
      inside : list_any (same_label (label_of s)) (labels (ss ++ s ∷ [])) ≡ true
      inside = in_labels (ss ++ s ∷ []) (label_of s) (ap (list_any (same_label (label_of s))) (map-append label_of ss (s ∷ [])) ∙ list_any-append (same_label (label_of s)) (map label_of ss) (label_of s ∷ [])
          ∙ ap (λ b. list_any (same_label (label_of s)) (map label_of ss) || (b || false)) (same_label-refl (label_of s)) ∙ last_true (list_any (same_label (label_of s)) (map label_of ss)))
        where
          last_true : (b : Bool) → (b || true) ≡ true
          last_true true = refl
          last_true false = refl

      apart : nat_eq place (place_of (label_of s) (labels (ss ++ s ∷ []))) ≡ false
      apart = let below : place_of (label_of s) (labels (ss ++ s ∷ [])) < length (labels (ss ++ s ∷ [])) = place-below (label_of s) (labels (ss ++ s ∷ [])) inside in grind (arith, nat_tests)

      longer : length (labels ss) ≤ place
      longer = by (list_any (same_label (label_of s)) (map label_of ss)) refl
        where
          by : (b : Bool) → list_any (same_label (label_of s)) (map label_of ss) ≡ b → length (labels ss) ≤ place
          by true known = omega (arith, ap length (labels-known ss s known), above)
          by false new = omega (arith, ap length (labels-new ss s new), length-append (labels ss) (label_of s ∷ []), above)

  asked-more : AreAsked (ss ++ s ∷ []) (since ++ s ∷ []) (os ++ item_orders ss since s)
  asked-more = record {
    known = λ label there. by label (is_labeled label s) refl there;
    above = more;
  }
    where
      by : (label : Bytes) (b : Bool) → is_labeled label s ≡ b → list_any (same_label label) (map label_of (ss ++ s ∷ [])) ≡ true
          → orders_for_module (place_of label (labels (ss ++ s ∷ []))) (os ++ item_orders ss since s)
          ≡ (if has_tripped (errors_of label (since ++ s ∷ [])) then Module (place_of label (labels (ss ++ s ∷ []))) ∷ [] else [])
      by label true is there =
          subst (λ l. orders_for_module (place_of l (labels (ss ++ s ∷ []))) (os ++ item_orders ss since s)
          ≡ (if has_tripped (errors_of l (since ++ s ∷ [])) then Module (place_of l (labels (ss ++ s ∷ []))) ∷ [] else []))
          (sym (same_label-exact label (label_of s) is)) own
      by label false is there = other label is (earlier (list_any (same_label label) (map label_of ss))
          (sym (ap (list_any (same_label label)) (map-append label_of ss (s ∷ [])) ∙ list_any-append (same_label label) (map label_of ss) (label_of s ∷ []) ∙ ap (λ b. list_any (same_label label) (map label_of ss) || (b || false)) is) ∙ there))
        where
          earlier : (b : Bool) → (b || false) ≡ true → b ≡ true
          earlier true h = refl
          earlier false h = h

-- More items.
asked-items : (ss since before more : List Sighting) (os : List Order) → AreLast (since ++ before) (ss ++ before) → AreAsked (ss ++ before) (since ++ before) os
    → AreAsked ((ss ++ before) ++ more) ((since ++ before) ++ more) (os ++ orders_from ss since before more)
asked-items ss since before [] os last asked =
    subst (λ (os : List Order). AreAsked ((ss ++ before) ++ []) ((since ++ before) ++ []) os) (sym (append-nil os))
    (subst (λ ts. AreAsked ((ss ++ before) ++ []) ts os) (sym (append-nil (since ++ before)))
    (subst (λ ts. AreAsked ts (since ++ before) os) (sym (append-nil (ss ++ before))) asked))
asked-items ss since before (s ∷ more) os last asked =
    let o : List Order = item_orders (ss ++ before) (since ++ before) s in
    let next : AreAsked ((ss ++ before) ++ s ∷ []) ((since ++ before) ++ s ∷ []) (os ++ o) = asked-more (ss ++ before) (since ++ before) s os last asked in
    let here : AreAsked (ss ++ (before ++ s ∷ [])) (since ++ (before ++ s ∷ [])) (os ++ o) =
    subst (λ ts. AreAsked (ss ++ (before ++ s ∷ [])) ts (os ++ o)) (append_assoc since before (s ∷ [])) (subst (λ ts. AreAsked ts ((since ++ before) ++ s ∷ []) (os ++ o)) (append_assoc ss before (s ∷ [])) next) in
    let still : AreLast (since ++ (before ++ s ∷ [])) (ss ++ (before ++ s ∷ [])) =
    subst (λ ts. AreLast ts (ss ++ (before ++ s ∷ []))) (append_assoc since before (s ∷ [])) (subst (λ ts. AreLast ((since ++ before) ++ s ∷ []) ts) (append_assoc ss before (s ∷ [])) (last-more (ss ++ before) (since ++ before) s last)) in
    let all : AreAsked ((ss ++ (before ++ s ∷ [])) ++ more) ((since ++ (before ++ s ∷ [])) ++ more) ((os ++ o) ++ orders_from ss since (before ++ s ∷ []) more) =
    asked-items ss since (before ++ s ∷ []) more (os ++ o) still here in
    subst (λ (os' : List Order). AreAsked ((ss ++ before) ++ s ∷ more) ((since ++ before) ++ s ∷ more) os') (append_assoc os o (orders_from ss since (before ++ s ∷ []) more))
    (subst (λ ts. AreAsked ((ss ++ before) ++ s ∷ more) ts ((os ++ o) ++ orders_from ss since (before ++ s ∷ []) more)) (moved since before s more)
    (subst (λ ts. AreAsked ts ((since ++ (before ++ s ∷ [])) ++ more) ((os ++ o) ++ orders_from ss since (before ++ s ∷ []) more)) (moved ss before s more) all))
  where
    moved : (xs ys : List Sighting) (z : Sighting) (zs : List Sighting) → (xs ++ (ys ++ z ∷ [])) ++ zs ≡ (xs ++ ys) ++ z ∷ zs
    moved xs ys z zs = ap (λ ts. ts ++ zs) (sym (append_assoc xs ys (z ∷ []))) ∙ append_assoc (xs ++ ys) (z ∷ []) zs

asked-history : (h : History) → AreAsked (sightings h) (sightings_since_mark h) (orders_since_mark h)
asked-history empty = record { known = λ label there. absurd (true≢false (sym there)); above = λ place above. refl }
asked-history (with_mark h) = record { known = λ label there. refl; above = λ place above. refl }
asked-history (with_entry h e) =
    let now : AreAsked (sightings h ++ []) (sightings_since_mark h ++ []) (orders_since_mark h) =
    subst (λ ts. AreAsked (sightings h ++ []) ts (orders_since_mark h)) (sym (append-nil (sightings_since_mark h))) (subst (λ ts. AreAsked ts (sightings_since_mark h) (orders_since_mark h)) (sym (append-nil (sightings h))) (asked-history h)) in
    let last : AreLast (sightings_since_mark h ++ []) (sightings h ++ []) =
    subst (λ ts. AreLast ts (sightings h ++ [])) (sym (append-nil (sightings_since_mark h))) (subst (λ ts. AreLast (sightings_since_mark h) ts) (sym (append-nil (sightings h))) (since-last h)) in
    let all : AreAsked ((sightings h ++ []) ++ sightings_behind h e) ((sightings_since_mark h ++ []) ++ sightings_behind h e) (orders_since_mark h ++ orders_behind h e) =
    asked-items (sightings h) (sightings_since_mark h) [] (sightings_behind h e) (orders_since_mark h) last now in
    subst (λ ts. AreAsked (sightings h ++ sightings_behind h e) (ts ++ sightings_behind h e) (orders_since_mark h ++ orders_behind h e)) (append-nil (sightings_since_mark h))
    (subst (λ ts. AreAsked (ts ++ sightings_behind h e) ((sightings_since_mark h ++ []) ++ sightings_behind h e) (orders_since_mark h ++ orders_behind h e)) (append-nil (sightings h)) all)

-- the law
pub module-orders : (h : History) (label : Bytes) → list_any (same_label label) (keys_of (account_of h).modules) ≡ true
    → orders_for_module (module_place h label) (orders_since_mark h) ≡ (if has_tripped (module_errors h label) then Module (module_place h label) ∷ [] else [])
module-orders h label there =
    subst (λ ls. orders_for_module (place_of label ls) (orders_since_mark h) ≡ (if has_tripped (module_errors h label) then Module (place_of label ls) ∷ [] else []))
    (sym (labels-modules (sightings h) (sightings_since_mark h)))
    ((asked-history h).known label
    (sym (any-distinct same_label same_label-exact same_label-refl label (map label_of (sightings h))) ∙ ap (list_any (same_label label)) (sym (labels-modules (sightings h) (sightings_since_mark h))) ∙ there))

-- The orders given after others, if both together are known.
front_gone : (t t' : Bool) (o : Order) (os : List Order) → (if t then o ∷ [] else []) ++ os ≡ (if t' then o ∷ [] else [])
    → os ≡ (if not t && t' then o ∷ [] else [])
front_gone true true o os is = ap (drop 1) is
front_gone true false o os is = absurd cc
front_gone false t' o os is = is

-- The law of one entry.
pub module-orders_at : (h : History) (e : Entry) (label : Bytes) → list_any (same_label label) (keys_of (account_of (with_entry h e)).modules) ≡ true
    → orders_for_module (module_place (with_entry h e) label) (orders_behind h e) ≡ (if trips_with h e label then Module (module_place (with_entry h e) label) ∷ [] else [])
module-orders_at h e label there =
    front_gone (has_tripped (module_errors h label)) (has_tripped (module_errors (with_entry h e) label)) (Module place) (orders_for_module place (orders_behind h e))
    (ap (λ os. os ++ orders_for_module place (orders_behind h e)) (sym (by (list_any (same_label label) (map label_of (sightings h))) refl))
    ∙ sym (filter-append (is_for_module place) (orders_since_mark h) (orders_behind h e))
    ∙ module-orders (with_entry h e) label there)
  where
    place : ℕ
    place = module_place (with_entry h e) label

    more : List Bytes
    more = added_keys same_label (labels (sightings h)) (map label_of (sightings_behind h e))

    places : place ≡ place_of label (labels (sightings h) ++ more)
    places =
        ap (place_of label) (labels-modules (sightings h ++ sightings_behind h e) (sightings_since_mark h ++ sightings_behind h e)
        ∙ ap (distinct_keys same_label) (map-append label_of (sightings h) (sightings_behind h e))
        ∙ added-append same_label same_label-exact same_label-refl [] (map label_of (sightings h)) (map label_of (sightings_behind h e)))

    by : (b : Bool) → list_any (same_label label) (map label_of (sightings h)) ≡ b
        → orders_for_module place (orders_since_mark h) ≡ (if has_tripped (module_errors h label) then Module place ∷ [] else [])
    by true known =
        subst (λ p. orders_for_module p (orders_since_mark h) ≡ (if has_tripped (module_errors h label) then Module p ∷ [] else []))
        (sym (places ∙ place-append label (labels (sightings h)) more (in_labels (sightings h) label known))) ((asked-history h).known label known)
    by false new =
        let behind : length (labels (sightings h)) ≤ place_of label (labels (sightings h) ++ more) = place-behind label (labels (sightings h)) more (any-distinct same_label same_label-exact same_label-refl label (map label_of (sightings h)) ∙ new) in
        (asked-history h).above place (omega (arith, places, behind))
        ∙ sym (ap (λ b. if b then Module place ∷ [] else []) (ap has_tripped (errors-none (sightings_since_mark h) label (none-last (sightings h) (sightings_since_mark h) label (since-last h) new))))
