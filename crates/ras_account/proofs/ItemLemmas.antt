-- What the items of a fact do to the keys and the numbers of an account.
use Rattle.std.proofs.Common.{◌≡◌, ◌+◌, ℕ, Bool, true, false, nat_eq, if◌then◌else◌, List, [], ◌∷◌, ◌++◌, Option, None, Some, refl, sym, ap, ◌∙◌, arith, append_assoc, append-nil}
use Rattle.std.specs.List.{list_any, cons_option, sum_by}
use Rattle.std.specs.Map.{keys_of}
use Rattle.std.proofs.lemmas.List.Sums.{sum_by-cons}
use Rattle.dimm_topology.specs.Labels.{Bytes, same_label}
use Rattle.page_policy.specs.declared.buckets.Limit.{Limit}
use Rattle.page_policy.specs.declared.rows.PageRow.{PageRow}
use Rattle.page_policy.specs.Rows.{report}
use Rattle.row_tables.specs.Tables.{added_keys}
use Rattle.row_tables.proofs.TableLemmas.{keys-updated}
use Rattle.page_policy.proofs.HistoryLemmas.{keys-rows_after}
use Rattle.ras_facts.specs.declared.items.Item.{Item}
use Rattle.ras_account.specs.Sightings.{Sighting, sightings_of, label_of}
use Rattle.ras_account.specs.Modules.{Module}
use Rattle.ras_account.specs.Account.{State}
use Rattle.ras_account.specs.Continued.{new_module, module_after, modules_after, pages_after, account_after_item, account_after_items}
use Rattle.ras_account.specs.View.{labels_in, pages_in}
use Rattle.ras_account.proofs.KeyLemmas.{same_label-exact, same_label-refl}
use Rattle.ras_account.proofs.AccountLemmas.{at_page}

-- Keys that are added one after the other.
module _ {K : Type 0} (same : K → K → Bool) where
  -- keys with one more, unless the key is there already
  abbrev pub with_key : List K → K → List K
  with_key held k = if list_any (same k) held then held else held ++ k ∷ []

  pub added-cons : (held ks : List K) (k : K) → with_key held k ++ added_keys same (with_key held k) ks ≡ held ++ added_keys same held (k ∷ ks)
  added-cons held ks k = by (list_any (same k) held)
    where
      by : (b : Bool) → (if b then held else held ++ k ∷ []) ++ added_keys same (if b then held else held ++ k ∷ []) ks ≡ held ++ (if b then added_keys same held ks else k ∷ added_keys same (held ++ k ∷ []) ks)
      by true = refl
      by false = append_assoc held (k ∷ []) (added_keys same (held ++ k ∷ []) ks)

-- The keys of the tables after an item.
pub labels-after : (modules : List (Bytes × Module)) (s : Sighting) → keys_of (modules_after modules s) ≡ with_key same_label (keys_of modules) (label_of s)
labels-after modules s =
    keys-updated same_label same_label-exact same_label-refl (label_of s) (module_after new_module s) (λ m. module_after m s) modules

keys-pages_after : (rows : List (ℕ × PageRow)) (s : Sighting) (ps : List ℕ)
    → keys_of (pages_after rows s) ++ added_keys nat_eq (keys_of (pages_after rows s)) ps ≡ keys_of rows ++ added_keys nat_eq (keys_of rows) (cons_option s.item.page ps)
keys-pages_after rows s ps = by s.item.page
  where
    by : (page : Option ℕ) → keys_of (pages_after rows (at_page s page)) ++ added_keys nat_eq (keys_of (pages_after rows (at_page s page))) ps ≡ keys_of rows ++ added_keys nat_eq (keys_of rows) (cons_option page ps)
    by None = refl
    by (Some page) =
        ap (λ ks. ks ++ added_keys nat_eq ks ps) (keys-rows_after rows (report page s.item.class s.seconds s.item.weight s.limit))
        ∙ added-cons nat_eq (keys_of rows) ps page

-- The account after all items of a fact.
pub names-items : (a : State) (ss : List Sighting) → (account_after_items a ss).names ≡ a.names
names-items a [] = refl
names-items a (s ∷ ss) = names-items (account_after_item a s) ss

pub entries-items : (a : State) (ss : List Sighting) → (account_after_items a ss).entries ≡ a.entries
entries-items a [] = refl
entries-items a (s ∷ ss) = entries-items (account_after_item a s) ss

pub floor-items : (a : State) (ss : List Sighting) → (account_after_items a ss).floor ≡ a.floor
floor-items a [] = refl
floor-items a (s ∷ ss) = floor-items (account_after_item a s) ss

pub limit-items : (a : State) (ss : List Sighting) → (account_after_items a ss).limit ≡ a.limit
limit-items a [] = refl
limit-items a (s ∷ ss) = limit-items (account_after_item a s) ss

pub module_limit-items : (a : State) (ss : List Sighting) → (account_after_items a ss).module_limit ≡ a.module_limit
module_limit-items a [] = refl
module_limit-items a (s ∷ ss) = module_limit-items (account_after_item a s) ss

module _ (limit module_limit : Limit) (seconds : ℕ) where
  abbrev sighting : Item → Sighting
  sighting item = record { item = item; seconds = seconds; limit = limit; module_limit = module_limit }

  pub keys-modules : (a : State) (items : List Item)
      → keys_of (account_after_items a (sightings_of limit module_limit seconds items)).modules ≡ keys_of a.modules ++ added_keys same_label (keys_of a.modules) (labels_in items)
  keys-modules a [] = sym (append-nil (keys_of a.modules))
  keys-modules a (item ∷ items) =
      keys-modules (account_after_item a (sighting item)) items
      ∙ ap (λ ks. ks ++ added_keys same_label ks (labels_in items)) (labels-after a.modules (sighting item))
      ∙ added-cons same_label (keys_of a.modules) (labels_in items) item.label

  pub keys-pages : (a : State) (items : List Item)
      → keys_of (account_after_items a (sightings_of limit module_limit seconds items)).pages ≡ keys_of a.pages ++ added_keys nat_eq (keys_of a.pages) (pages_in items)
  keys-pages a [] = sym (append-nil (keys_of a.pages))
  keys-pages a (item ∷ items) =
      keys-pages (account_after_item a (sighting item)) items ∙ keys-pages_after a.pages (sighting item) (pages_in items)

  pub total-items : (a : State) (items : List Item)
      → (account_after_items a (sightings_of limit module_limit seconds items)).total ≡ a.total + sum_by (λ (item : Item). item.weight) items
  total-items a [] = omega arith
  total-items a (item ∷ items) = omega (arith, total-items (account_after_item a (sighting item)) items, sum_by-cons (λ (i : Item). i.weight) item items)
