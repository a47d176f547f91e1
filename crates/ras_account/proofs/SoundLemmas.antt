-- A valid account stays valid after one more entry, upgrade marker or row.
use Rattle.std.proofs.Common.{◌≡◌, ◌≤◌, ◌<◌, ◌+◌, ◌-◌, ◌^◌, ℕ, Bool, true, false, ◌&&◌, ◌||◌, not, cond, if◌then◌else◌, nat_eq, nat_le, List, [], ◌∷◌, ◌++◌, length, map, filter, sum, Option, None, Some, All, IfSome, refl, sym, ap, subst, ◌∙◌, arith, true≢false, get_or, length-set}
use Rattle.std.specs.Cmp.{nat_eq_equiv, IsEquivalence}
use Rattle.std.specs.Cmp.Lexicographic.{nat_list_eq_equiv}
use Rattle.std.specs.List.{list_any, IsDistinct, AllByRecursion}
use Rattle.std.specs.Map.{keys_of}
use Rattle.std.proofs.lemmas.Bool.Decides.{nat_tests}
use Rattle.std.proofs.lemmas.List.Elements.{All-nil, All-cons, All-head, All-tail, All-push, All-weaker}
use Rattle.std.proofs.lemmas.List.Sums.{sum_by-cons, sum_by-set, sum_by_push}
use Rattle.std.proofs.lemmas.Map.Keys.{IsDistinct-push, IsDistinct-head, IsDistinct-tail, IsDistinct-cons}
use Rattle.mca_status.specs.declared.classes.ItemClass.{ItemClass}
use Rattle.mca_status.specs.declared.classes.ItemClass.TheVariants.{Ce, Ucna, Srao, Srar, Uc, Odd, Corrected, Recoverable, Fatal, Informational}
use Rattle.mca_status.specs.Classes.{class_number}
use Rattle.dimm_topology.specs.Labels.{Bytes, same_label}
use Rattle.page_policy.specs.declared.buckets.TheConstants.{MOST_COUNT}
use Rattle.page_policy.specs.declared.buckets.Bucket.{Bucket}
use Rattle.page_policy.specs.declared.buckets.Limit.{Limit}
use Rattle.page_policy.specs.declared.rows.PageRow.{PageRow}
use Rattle.page_policy.specs.Buckets.{IsLimit, leak, count_with, trips, bucket_after}
use Rattle.page_policy.specs.Rows.{PageReport, report, new_row, row_after, is_corrected}
use Rattle.row_tables.specs.Tables.{updated_rows}
use Rattle.page_policy.specs.Histories.{rows_after}
use Rattle.page_policy.proofs.HistoryLemmas.{keys-rows_after}
use Rattle.ras_facts.specs.declared.name.Name.{Name}
use Rattle.ras_facts.specs.declared.items.Item.{Item}
use Rattle.ras_facts.specs.declared.entry.Entry.{Entry}
use Rattle.ras_facts.specs.declared.entry.Entry.TheVariants.{Fact, Limit as PageLimit, Retire, ModuleLimit}
use Rattle.ras_facts.specs.Names.{same_name}
use Rattle.ras_facts.specs.Valid.{IsValidName, IsValidItem, IsPage}
use Rattle.ras_facts.specs.Entries.{IsValidEntry}
use Rattle.ras_facts.specs.Steps.NameLemmas.{same_name-laws}
use Rattle.ras_account.specs.declared.limits.TheConstants.{MOST_ENTRIES, MOST_TOTAL}
use Rattle.ras_account.specs.History.{empty, is_retired}
use Rattle.ras_account.specs.Fresh.{is_among}
use Rattle.ras_account.specs.Sightings.{Sighting, sightings_of, label_of}
use Rattle.ras_account.specs.Modules.{Module, is_labeled, fills_bucket, bucket_met, bucket_with, trips_at}
use Rattle.ras_account.specs.Account.{State, account_of, kept_names, weight_in}
use Rattle.ras_account.specs.Continued.{knows, is_fresh_in, no_sums, new_module, sums_after, module_after, modules_after, pages_after, account_after_item, account_after_items, account_after_fresh, account_with_count, account_after, without_bucket, account_after_mark}
use Rattle.ras_account.specs.Numbers.{IsWithin}
use Rattle.ras_account.specs.Rows.{has_retired, with_module, with_page}
use Rattle.ras_account.specs.Accounts.{IsKeptName, IsBucket, IsModuleRow, IsPageRow, IsAccount}
use Rattle.ras_account.proofs.KeyLemmas.{same_label-exact, same_label-refl}
use Rattle.ras_account.proofs.AccountLemmas.{at_page}
use Rattle.ras_account.proofs.ItemLemmas.{with_key, labels-after, names-items, entries-items}
use Rattle.ras_account.proofs.NumberLemmas.{fewer-kept}

-- tables in general
module _ {K R : Type 0} (same : K → K → Bool) (P : K × R → Type 0) where
  -- A property of each row holds after one row is changed or added.
  all-updated : (k : K) (new : R) (change : R → R) → P (k, new) → ((j : K) (row : R) → same k j ≡ true → P (j, row) → P (j, change row))
      → (es : List (K × R)) → All P es → All P (updated_rows same k new change es)
  all-updated k new change starts goes [] all = All-cons P (k, new) [] starts (All-nil P)
  all-updated k new change starts goes (e ∷ es) all = by (same k e.0) refl (all-updated k new change starts goes es (All-tail P e es all))
    where
      by : (b : Bool) → same k e.0 ≡ b → All P (updated_rows same k new change es) → All P (if b then (e.0, change e.1) ∷ es else e ∷ updated_rows same k new change es)
      by true is ih = All-cons P (e.0, change e.1) es (goes e.0 e.1 is (All-head P e es all)) (All-tail P e es all)
      by false is ih = All-cons P e (updated_rows same k new change es) (All-head P e es all) ih

module _ {K : Type 0} (same : K → K → Bool) where
  distinct-with : (held : List K) (k : K) → IsEquivalence same → IsDistinct same held → IsDistinct same (with_key same held k)
  distinct-with held k laws once = by (list_any (same k) held) refl
    where
      by : (b : Bool) → list_any (same k) held ≡ b → IsDistinct same (if b then held else held ++ k ∷ [])
      by true is = once
      by false is = IsDistinct-push laws held k once is

  none-filtered : (p : K → Bool) (k : K) (ks : List K) → AllByRecursion (λ j. same k j ≡ false) ks → AllByRecursion (λ j. same k j ≡ false) (filter p ks)
  none-filtered p k [] none = tt
  none-filtered p k (j ∷ js) none = by (p j) (none-filtered p k js none.1)
    where
      by : (b : Bool) → AllByRecursion (λ j. same k j ≡ false) (filter p js) → AllByRecursion (λ j. same k j ≡ false) (cond b (j ∷ filter p js) (filter p js))
      by true ih = (none.0, ih)
      by false ih = ih

  pub distinct-filtered : (p : K → Bool) (ks : List K) → IsDistinct same ks → IsDistinct same (filter p ks)
  distinct-filtered p [] once = once
  distinct-filtered p (k ∷ ks) once = by (p k) (distinct-filtered p ks (IsDistinct-tail same k ks once))
    where
      by : (b : Bool) → IsDistinct same (filter p ks) → IsDistinct same (cond b (k ∷ filter p ks) (filter p ks))
      by true ih = IsDistinct-cons same k (filter p ks) (none-filtered p k ks (IsDistinct-head same k ks once)) ih
      by false ih = ih

-- buckets

bucket-sound : (limit : Limit) (seconds weight : ℕ) (bucket : Bucket) → IsLimit limit → seconds < 2 ^ 64 → bucket.stamp < 2 ^ 64
    → IsBucket (bucket_after limit seconds weight bucket)
bucket-sound limit seconds weight bucket valid time stamp = record { count = count (trips limit seconds weight bucket) refl; stamp = stamped (nat_le limit.period (seconds - bucket.stamp)) }
  where
    count : (b : Bool) → trips limit seconds weight bucket ≡ b → (if b then 0 else count_with limit seconds weight bucket) ≤ MOST_COUNT
    count true is = omega arith
    count false is = let below : count_with limit seconds weight bucket < limit.capacity = grind (arith, nat_tests) in omega (arith, below, valid.capacity_to)

    stamped : (b : Bool) → (if b then record { count = bucket.count - leak limit (seconds - bucket.stamp); stamp = seconds } else bucket).stamp < 2 ^ 64
    stamped true = time
    stamped false = stamp

met-sound : (bucket : Option Bucket) (s : Sighting) → s.seconds < 2 ^ 64 → IfSome bucket IsBucket → (bucket_met bucket s).stamp < 2 ^ 64
met-sound None s time sound = time
met-sound (Some b) s time sound = sound.stamp

-- An item that an account can count.
pub record IsSighting (s : Sighting) : Type 0 where
  pub item : IsValidItem s.item
  pub seconds : s.seconds < 2 ^ 64
  pub limit : IsLimit s.limit
  pub module_limit : IsLimit s.module_limit

-- rows of modules

pub below_ten : (class : ItemClass) → class_number class < 10
below_ten Ce = omega arith
below_ten Ucna = omega arith
below_ten Srao = omega arith
below_ten Srar = omega arith
below_ten Uc = omega arith
below_ten Odd = omega arith
below_ten Corrected = omega arith
below_ten Recoverable = omega arith
below_ten Fatal = omega arith
below_ten Informational = omega arith

pub sum-sums_after : (sums : List ℕ) (item : Item) → length sums ≡ 10 → sum (sums_after sums item) ≡ sum sums + item.weight
sum-sums_after sums item ten =
    let below : class_number item.class < 10 = below_ten item.class in
    let within : class_number item.class < length sums = omega (arith, ten, below) in
    omega (arith, sum_by-set (λ x. x) sums (class_number item.class) (get_or sums (class_number item.class) 0 + item.weight) 0 within)

module _ (s : Sighting) (sound : IsSighting s) where
  row-sound : (label : Bytes) (m : Module) → same_label (label_of s) label ≡ true → IsModuleRow (label, m) → IsModuleRow (label, module_after m s)
  row-sound label m own row = record {
    label = row.label;
    ten = length-set m.sums (class_number s.item.class) _ ∙ row.ten;
    bucket = bucket (fills_bucket s);
    unlabeled = λ none. by none (fills_bucket s) refl;
    replace = λ none. replaced (fills_bucket s) none;
  }
    where
      bucket : (b : Bool) → IfSome (if b then Some (bucket_with m.bucket s) else m.bucket) IsBucket
      bucket true = bucket-sound s.module_limit s.seconds s.item.weight (bucket_met m.bucket s) sound.module_limit sound.seconds (met-sound m.bucket s sound.seconds row.bucket)
      bucket false = row.bucket

      fills_none : (b c : Bool) → (b && not c) ≡ true → c ≡ true → ⊥
      fills_none true true is here = true≢false (sym is)
      fills_none true false is here = true≢false (sym here)
      fills_none false c is here = true≢false (sym is)

      by : label ≡ [] → (b : Bool) → fills_bucket s ≡ b → (if b then Some (bucket_with m.bucket s) else m.bucket) ≡ None
      by none true is =
          let here : label_of s ≡ [] = same_label-exact (label_of s) label own ∙ none in
          absurd (fills_none (is_corrected s.item.class) (is_labeled [] s) is (ap (same_label []) here))
      by none false is = row.unlabeled none

      replaced : (b : Bool) → (if b then Some (bucket_with m.bucket s) else m.bucket) ≡ None → (m.replace || (b && trips_at m.bucket s)) ≡ false
      replaced true none = absurd cc
      replaced false none = ap (λ r. r || false) (row.replace none)

  new-sound : IsModuleRow (label_of s, module_after new_module s)
  new-sound = row-sound (label_of s) new_module (same_label-refl (label_of s)) (record {
    label = sound.item.label;
    ten = refl;
    bucket = tt;
    unlabeled = λ none. refl;
    replace = λ none. refl;
  })

  modules-sound : (rows : List (Bytes × Module)) → All IsModuleRow rows → All IsModuleRow (modules_after rows s)
  modules-sound rows all = all-updated same_label IsModuleRow (label_of s) (module_after new_module s) (λ m. module_after m s) new-sound row-sound rows all

-- Each row has a sum for each class.
abbrev pub HasTen : Bytes × Module → Type 0
HasTen row = length row.1.sums ≡ 10

ten-row : (s : Sighting) (label : Bytes) (m : Module) → HasTen (label, m) → HasTen (label, module_after m s)
ten-row s label m ten = length-set m.sums (class_number s.item.class) _ ∙ ten

pub ten-after : (rows : List (Bytes × Module)) (s : Sighting) → All HasTen rows → All HasTen (modules_after rows s)
ten-after rows s all =
    all-updated same_label HasTen (label_of s) (module_after new_module s) (λ m. module_after m s) (ten-row s (label_of s) new_module refl)
    (λ label m own ten. ten-row s label m ten) rows all

-- An item adds its weight.
pub weight-after : (rows : List (Bytes × Module)) (s : Sighting) → All HasTen rows → weight_in (modules_after rows s) ≡ weight_in rows + s.item.weight
weight-after [] s all = omega (arith, sum_by-cons (λ (row : Bytes × Module). sum row.1.sums) (label_of s, module_after new_module s) [], sum-sums_after no_sums s.item refl)
weight-after (row ∷ rows) s all = by (same_label (label_of s) row.0) (weight-after rows s (All-tail HasTen row rows all))
  where
    head : length row.1.sums ≡ 10
    head = All-head HasTen row rows all

    by : (b : Bool) → weight_in (modules_after rows s) ≡ weight_in rows + s.item.weight
        → weight_in (if b then (row.0, module_after row.1 s) ∷ rows else row ∷ modules_after rows s) ≡ weight_in (row ∷ rows) + s.item.weight
    by true ih = omega (arith, sum_by-cons (λ (r : Bytes × Module). sum r.1.sums) (row.0, module_after row.1 s) rows, sum_by-cons (λ (r : Bytes × Module). sum r.1.sums) row rows, sum-sums_after row.1.sums s.item head)
    by false ih = omega (arith, sum_by-cons (λ (r : Bytes × Module). sum r.1.sums) row (modules_after rows s), sum_by-cons (λ (r : Bytes × Module). sum r.1.sums) row rows, ih)

-- rows of pages
module _ (r : PageReport) (page : IsPage r.page) (time : r.seconds < 2 ^ 64) (limit : IsLimit r.limit) where
  report-sound : (key : ℕ) (row : PageRow) → nat_eq r.page key ≡ true → IsPageRow (key, row) → IsPageRow (key, row_after row r)
  report-sound key row own sound = record { page = sound.page; bucket = by (is_corrected r.class) }
    where
      by : (b : Bool) → IsBucket (if b then bucket_after r.limit r.seconds r.weight row.bucket else row.bucket)
      by true = bucket-sound r.limit r.seconds r.weight row.bucket limit time sound.bucket.stamp
      by false = sound.bucket

  rows-sound : (rows : List (ℕ × PageRow)) → All IsPageRow rows → All IsPageRow (rows_after rows r)
  rows-sound rows all =
      all-updated nat_eq IsPageRow r.page (row_after (new_row r.seconds) r) (λ row. row_after row r)
      (report-sound r.page (new_row r.seconds) (same r.page) (record { page = page; bucket = record { count = omega arith; stamp = time } }))
      report-sound rows all
    where
      same : (n : ℕ) → nat_eq n n ≡ true
      same n = grind (arith, nat_tests)

  rows-once : (rows : List (ℕ × PageRow)) → IsDistinct nat_eq (keys_of rows) → IsDistinct nat_eq (keys_of (rows_after rows r))
  rows-once rows once = subst (IsDistinct nat_eq) (sym (keys-rows_after rows r)) (distinct-with nat_eq (keys_of rows) r.page nat_eq_equiv once)

pages-sound : (rows : List (ℕ × PageRow)) (s : Sighting) → IsSighting s → All IsPageRow rows → All IsPageRow (pages_after rows s)
pages-sound rows s sound all = by s.item.page sound.item.page
  where
    by : (page : Option ℕ) → IfSome page IsPage → All IsPageRow (pages_after rows (at_page s page))
    by None valid = all
    by (Some page) valid = rows-sound (report page s.item.class s.seconds s.item.weight s.limit) valid sound.seconds sound.limit rows all

pages-once : (rows : List (ℕ × PageRow)) (s : Sighting) → IsSighting s → IsDistinct nat_eq (keys_of rows) → IsDistinct nat_eq (keys_of (pages_after rows s))
pages-once rows s sound once = by s.item.page sound.item.page
  where
    by : (page : Option ℕ) → IfSome page IsPage → IsDistinct nat_eq (keys_of (pages_after rows (at_page s page)))
    by None valid = once
    by (Some page) valid = rows-once (report page s.item.class s.seconds s.item.weight s.limit) valid sound.seconds sound.limit rows once

-- An account with one more item.
pub item-sound : (a : State) (s : Sighting) → IsAccount a → IsSighting s → IsWithin (account_after_item a s) → IsAccount (account_after_item a s)
item-sound a s account sound within = record {
  within = within;
  limit = account.limit;
  module_limit = account.module_limit;
  floor = account.floor;
  names = account.names;
  names_once = account.names_once;
  modules = modules-sound s sound a.modules account.modules;
  labels_once = subst (IsDistinct same_label) (sym (labels-after a.modules s)) (distinct-with same_label (keys_of a.modules) (label_of s) nat_list_eq_equiv account.labels_once);
  pages = pages-sound a.pages s sound account.pages;
  pages_once = pages-once a.pages s sound account.pages_once;
  total = weight-after a.modules s (All-weaker IsModuleRow HasTen (λ row sound. sound.ten) a.modules account.modules) ∙ ap (λ n. n + s.item.weight) account.total;
}

-- the names after a retire
kept-sound : (floor boot : ℕ) (names : List Name) → All (IsKeptName floor) names → All (IsKeptName boot) (kept_names boot names)
kept-sound floor boot [] all = All-nil (IsKeptName boot)
kept-sound floor boot (n ∷ ns) all = by (is_retired boot n) refl (kept-sound floor boot ns (All-tail (IsKeptName floor) n ns all))
  where
    by : (b : Bool) → is_retired boot n ≡ b → All (IsKeptName boot) (kept_names boot ns) → All (IsKeptName boot) (cond (not b) (n ∷ kept_names boot ns) (kept_names boot ns))
    by true gone ih = ih
    by false stays ih = All-cons (IsKeptName boot) n (kept_names boot ns) (record { valid = (All-head (IsKeptName floor) n ns all).valid; kept = stays }) ih

-- An account with one more name, which it doesn't know.
pub name-sound : (a : State) (name : Name) (entries : ℕ) → IsAccount a → IsValidName name → knows a name ≡ false
    → IsWithin (record a { names = a.names ++ name ∷ []; entries = entries }) → IsAccount (record a { names = a.names ++ name ∷ []; entries = entries })
name-sound a name entries account valid unknown within = record {
  within = within;
  limit = account.limit;
  module_limit = account.module_limit;
  floor = account.floor;
  names = All-push (IsKeptName a.floor) a.names name account.names (record { valid = valid; kept = right (is_among a.names name) (is_retired a.floor name) unknown });
  names_once = IsDistinct-push same_name-laws a.names name account.names_once (left (is_among a.names name) (is_retired a.floor name) unknown);
  modules = account.modules;
  labels_once = account.labels_once;
  pages = account.pages;
  pages_once = account.pages_once;
  total = account.total;
}
  where
    left : (b c : Bool) → (b || c) ≡ false → b ≡ false
    left true c h = h
    left false c h = refl

    right : (b c : Bool) → (b || c) ≡ false → c ≡ false
    right true c h = absurd (true≢false h)
    right false c h = h

pub retired-sound : (a : State) (boot entries : ℕ) → IsAccount a → boot < 2 ^ 64 → entries ≤ MOST_ENTRIES
    → IsAccount (record a { names = kept_names boot a.names; floor = boot; entries = entries })
retired-sound a boot entries account valid room = record {
  within = record { names = omega (arith, fewer-kept boot a.names, account.within.names); entries = room; total = account.within.total };
  limit = account.limit;
  module_limit = account.module_limit;
  floor = valid;
  names = kept-sound a.floor boot a.names account.names;
  names_once = distinct-filtered same_name (λ name. not (is_retired boot name)) a.names account.names_once;
  modules = account.modules;
  labels_once = account.labels_once;
  pages = account.pages;
  pages_once = account.pages_once;
  total = account.total;
}

-- An account with other limits and another number of entries.
pub limits-sound : (a : State) (limit module_limit : Limit) (entries : ℕ) → IsAccount a → IsLimit limit → IsLimit module_limit → entries ≤ MOST_ENTRIES
    → IsAccount (record a { limit = limit; module_limit = module_limit; entries = entries })
limits-sound a limit module_limit entries account one other room = record {
  within = record { names = account.within.names; entries = room; total = account.within.total };
  limit = one;
  module_limit = other;
  floor = account.floor;
  names = account.names;
  names_once = account.names_once;
  modules = account.modules;
  labels_once = account.labels_once;
  pages = account.pages;
  pages_once = account.pages_once;
  total = account.total;
}

-- If an account is within its bounds with more items, it is within them without.
grown-total : (a : State) (ss : List Sighting) → a.total ≤ (account_after_items a ss).total
grown-total a [] = omega arith
grown-total a (s ∷ ss) = let more : (account_after_item a s).total ≤ (account_after_items (account_after_item a s) ss).total = grown-total (account_after_item a s) ss in omega arith

within-before : (a : State) (ss : List Sighting) → IsWithin (account_after_items a ss) → IsWithin a
within-before a ss within = record {
  names = omega (arith, within.names, ap length (names-items a ss));
  entries = omega (arith, within.entries, entries-items a ss);
  total = omega (arith, within.total, grown-total a ss);
}

-- An account with all items of a fact.
pub items-sound : (limit module_limit : Limit) (seconds : ℕ) (a : State) (items : List Item) → IsAccount a → IsLimit limit → IsLimit module_limit → seconds < 2 ^ 64
    → All IsValidItem items → IsWithin (account_after_items a (sightings_of limit module_limit seconds items)) → IsAccount (account_after_items a (sightings_of limit module_limit seconds items))
items-sound limit module_limit seconds a [] account one other time all within = account
items-sound limit module_limit seconds a (item ∷ items) account one other time all within =
    items-sound limit module_limit seconds (account_after_item a s) items
    (item-sound a s account (record { item = All-head IsValidItem item items all; seconds = time; limit = one; module_limit = other }) (within-before (account_after_item a s) (sightings_of limit module_limit seconds items) within))
    one other time (All-tail IsValidItem item items all) within
  where
    s : Sighting
    s = record { item = item; seconds = seconds; limit = limit; module_limit = module_limit }

-- The law: a valid entry keeps an account valid, if the account stays within its bounds.
pub entry-sound : (a : State) (e : Entry) → IsAccount a → IsValidEntry e → is_fresh_in a e ≡ true → IsWithin (account_after_fresh (account_with_count a) e) → IsAccount (account_after_fresh (account_with_count a) e)
entry-sound a (Fact fact) account valid is within =
    items-sound a.limit a.module_limit fact.seconds b fact.items
    (name-sound a fact.name (a.entries + 1) account valid.name (known _ is) (within-before b (sightings_of a.limit a.module_limit fact.seconds fact.items) within))
    account.limit account.module_limit valid.seconds valid.items within
  where
    b : State
    b = record a { names = a.names ++ fact.name ∷ []; entries = a.entries + 1 }

    known : (k : Bool) → not k ≡ true → k ≡ false
    known true h = absurd (true≢false (sym h))
    known false h = refl
entry-sound a (PageLimit limit) account valid is within = limits-sound a limit a.module_limit (a.entries + 1) account valid account.module_limit within.entries
entry-sound a (Retire boot) account valid is within = retired-sound a boot (a.entries + 1) account valid within.entries
entry-sound a (ModuleLimit limit) account valid is within = limits-sound a a.limit limit (a.entries + 1) account account.limit valid within.entries

pub continued-sound : (a : State) (e : Entry) → IsAccount a → IsValidEntry e → IsWithin (account_after a e) → IsAccount (account_after a e)
continued-sound a e account valid within = by (is_fresh_in a e) refl within
  where
    by : (b : Bool) → is_fresh_in a e ≡ b → IsWithin (if b then account_after_fresh (account_with_count a) e else a) → IsAccount (if b then account_after_fresh (account_with_count a) e else a)
    by true is within = entry-sound a e account valid is within
    by false is within = account

-- An upgrade marker keeps an account valid.
module _ where
  keys-marked : (rows : List (Bytes × Module)) → keys_of (map {B = Bytes × Module} (λ row. (row.0, without_bucket row.1)) rows) ≡ keys_of rows
  keys-marked [] = refl
  keys-marked (row ∷ rows) = ap (λ ks. row.0 ∷ ks) (keys-marked rows)

  pub weight-marked : (rows : List (Bytes × Module)) → weight_in (map {B = Bytes × Module} (λ row. (row.0, without_bucket row.1)) rows) ≡ weight_in rows
  weight-marked [] = refl
  weight-marked (row ∷ rows) =
      omega (
        arith,
        weight-marked rows,
        sum_by-cons (λ (r : Bytes × Module). sum r.1.sums) row rows,
        sum_by-cons (λ (r : Bytes × Module). sum r.1.sums) (row.0, without_bucket row.1) (map {B = Bytes × Module} (λ r. (r.0, without_bucket r.1)) rows),
      )

  rows-marked : (rows : List (Bytes × Module)) → All IsModuleRow rows → All IsModuleRow (map {B = Bytes × Module} (λ row. (row.0, without_bucket row.1)) rows)
  rows-marked [] all = All-nil IsModuleRow
  rows-marked (row ∷ rows) all =
      let sound : IsModuleRow row = All-head IsModuleRow row rows all in
      All-cons IsModuleRow (row.0, without_bucket row.1) (map {B = Bytes × Module} (λ r. (r.0, without_bucket r.1)) rows)
      (record { label = sound.label; ten = sound.ten; bucket = tt; unlabeled = λ none. refl; replace = λ none. refl })
      (rows-marked rows (All-tail IsModuleRow row rows all))

  pub marked-sound : (a : State) → IsAccount a → IsAccount (account_after_mark a)
  marked-sound a account = record {
    within = record { names = account.within.names; entries = account.within.entries; total = account.within.total };
    limit = account.limit;
    module_limit = account.module_limit;
    floor = account.floor;
    names = account.names;
    names_once = account.names_once;
    modules = rows-marked a.modules account.modules;
    labels_once = subst (IsDistinct same_label) (sym (keys-marked a.modules)) account.labels_once;
    pages = account.pages;
    pages_once = account.pages_once;
    total = weight-marked a.modules ∙ account.total;
  }

-- The empty account is valid.
pub empty-sound : IsAccount (account_of empty)
unfolding IsDistinct
empty-sound = record {
  within = record { names = omega arith; entries = omega arith; total = omega arith };
  limit = record { capacity_from = omega arith; capacity_to = omega arith; period_from = omega arith; period_to = omega arith };
  module_limit = record { capacity_from = omega arith; capacity_to = omega arith; period_from = omega arith; period_to = omega arith };
  floor = omega arith;
  names = All-nil (IsKeptName 0);
  names_once = tt;
  modules = All-nil IsModuleRow;
  labels_once = tt;
  pages = All-nil IsPageRow;
  pages_once = tt;
  total = refl;
}

-- One more row.

left_none : (held : List Bytes) (label : Bytes) → list_any (same_label label) held ≡ false → IsDistinct same_label held → IsDistinct same_label (held ++ label ∷ [])
left_none held label none once = IsDistinct-push nat_list_eq_equiv held label once none

keys-push : {K R : Type 0} (es : List (K × R)) (e : K × R) → keys_of (es ++ e ∷ []) ≡ keys_of es ++ e.0 ∷ []
keys-push [] e = refl
keys-push (x ∷ es) e = ap (λ ks. x.0 ∷ ks) (keys-push es e)

weight-push : (rows : List (Bytes × Module)) (row : Bytes × Module) → weight_in (rows ++ row ∷ []) ≡ weight_in rows + sum row.1.sums
weight-push rows row = sum_by_push (λ (r : Bytes × Module). sum r.1.sums) rows row

pub module-pushed : (a : State) (row : Bytes × Module) → IsAccount a → IsModuleRow row → list_any (same_label row.0) (keys_of a.modules) ≡ false
    → a.total + sum row.1.sums ≤ MOST_TOTAL → IsAccount (with_module a row)
module-pushed a row account sound none within = record {
  within = record { names = account.within.names; entries = account.within.entries; total = within };
  limit = account.limit;
  module_limit = account.module_limit;
  floor = account.floor;
  names = account.names;
  names_once = account.names_once;
  modules = All-push IsModuleRow a.modules row account.modules sound;
  labels_once = subst (IsDistinct same_label) (sym (keys-push a.modules row)) (left_none (keys_of a.modules) row.0 none account.labels_once);
  pages = account.pages;
  pages_once = account.pages_once;
  total = weight-push a.modules row ∙ ap (λ n. n + sum row.1.sums) account.total;
}

pub page-pushed : (a : State) (row : ℕ × PageRow) → IsAccount a → IsPageRow row → list_any (nat_eq row.0) (keys_of a.pages) ≡ false → IsAccount (with_page a row)
page-pushed a row account sound none = record {
  within = account.within;
  limit = account.limit;
  module_limit = account.module_limit;
  floor = account.floor;
  names = account.names;
  names_once = account.names_once;
  modules = account.modules;
  labels_once = account.labels_once;
  pages = All-push IsPageRow a.pages row account.pages sound;
  pages_once = subst (IsDistinct nat_eq) (sym (keys-push a.pages row)) (IsDistinct-push nat_eq_equiv (keys_of a.pages) row.0 account.pages_once none);
  total = account.total;
}

-- A floor that retires no name.
kept-none : (floor boot : ℕ) (names : List Name) → All (IsKeptName floor) names → has_retired boot names ≡ false → All (IsKeptName boot) names
kept-none floor boot [] all none = All-nil (IsKeptName boot)
kept-none floor boot (n ∷ ns) all none = by (is_retired boot n) refl none (kept-none floor boot ns (All-tail (IsKeptName floor) n ns all))
  where
    by : (b : Bool) → is_retired boot n ≡ b → (b || has_retired boot ns) ≡ false → (has_retired boot ns ≡ false → All (IsKeptName boot) ns) → All (IsKeptName boot) (n ∷ ns)
    by true is h ih = absurd (true≢false h)
    by false is h ih = All-cons (IsKeptName boot) n ns (record { valid = (All-head (IsKeptName floor) n ns all).valid; kept = is }) (ih h)

pub floor-sound : (a : State) (boot : ℕ) → IsAccount a → boot < 2 ^ 64 → has_retired boot a.names ≡ false → IsAccount (record a { floor = boot })
floor-sound a boot account valid none = record {
  within = account.within;
  limit = account.limit;
  module_limit = account.module_limit;
  floor = valid;
  names = kept-none a.floor boot a.names account.names none;
  names_once = account.names_once;
  modules = account.modules;
  labels_once = account.labels_once;
  pages = account.pages;
  pages_once = account.pages_once;
  total = account.total;
}
