-- The law of the account: one more entry or upgrade marker continues the account of a history.
use Rattle.std.proofs.Common.{◌≡◌, ◌+◌, ◌≤◌, ◌<◌, ℕ, Bool, true, false, ◌&&◌, ◌||◌, not, cond, if◌then◌else◌, max, nat_eq, nat_lt, List, [], ◌∷◌, ◌++◌, length, filter, map, refl, sym, ap, ◌∙◌, length-append, append_assoc, append-nil, zero-add, add-zero, true≢false, Option, Some, None, arith}
use Rattle.std.specs.List.{sum_by, list_any}
use Rattle.std.proofs.lemmas.Bool.Decides.{nat_tests}
use Rattle.std.proofs.lemmas.List.{map-append}
use Rattle.std.proofs.lemmas.List.Elements.{filter-append, filter_map-append}
use Rattle.std.proofs.lemmas.List.Folds.{list_any-append}
use Rattle.std.proofs.lemmas.List.Sums.{sum_by-append, fold-append}
use Rattle.ras_base.specs.Places.{places}
use Rattle.ras_base.specs.Steps.PlacesLemmas.{places-snoc}
use Rattle.mca_status.specs.declared.classes.ItemClass.{ItemClass}
use Rattle.mca_status.specs.declared.classes.ItemClass.TheVariants.{Ce, Ucna, Srao, Srar, Uc, Odd, Corrected, Recoverable, Fatal, Informational}
use Rattle.mca_status.specs.Classes.{class_number, classes}
use Rattle.dimm_topology.specs.Labels.{Bytes, same_label}
use Rattle.page_policy.specs.declared.buckets.Limit.{Limit}
use Rattle.page_policy.specs.Histories.{page_rows_of}
use Rattle.row_tables.specs.Tables.{distinct_keys}
use Rattle.row_tables.proofs.TableLemmas.{keyed-more}
use Rattle.page_policy.proofs.HistoryLemmas.{page_rows_of-more}
use Rattle.ras_facts.specs.declared.name.Name.{Name}
use Rattle.ras_facts.specs.declared.entry.Entry.{Entry}
use Rattle.ras_facts.specs.declared.entry.Entry.TheVariants.{Fact, Limit as PageLimit, Retire, ModuleLimit}
use Rattle.ras_account.specs.History.{History, empty, with_entry, with_mark, with_entries, followed_by, limit_after, module_limit_after, floor_after, is_retired}
use Rattle.ras_account.specs.Fresh.{is_fresh_behind, fresh_entries}
use Rattle.ras_account.specs.Sightings.{Sighting, sightings, sightings_since_mark, sightings_behind, sightings_in, label_of, sighting_weight, report_of, reports_of}
use Rattle.ras_account.specs.Modules.{Module, class_weight, is_labeled, fills_bucket, errors_of, bucket_over, bucket_with, trips_at, has_tripped, module_by_items}
use Rattle.ras_account.specs.Account.{State, account_of, names_of, kept_names, modules_of}
use Rattle.ras_account.specs.Continued.{new_module, sums_after, module_after, modules_after, pages_after, account_after_item, account_after_items, account_after_fresh, account_with_count, account_after, account_after_all, account_after_history, without_bucket, account_after_mark}
use Rattle.ras_account.proofs.KeyLemmas.{same_label-exact, same_label-refl, same_limit-exact}
use Rattle.ras_account.proofs.FreshLemmas.{not_false, names_of-append, is_fresh_in-account_of, is_retired-max}

-- One more element.

-- The sum of a class, with one more item.
abbrev is_of : ItemClass → Sighting → Bool
is_of class s = nat_eq (class_number class) (class_number s.item.class)

class_weight-more : (ss : List Sighting) (s : Sighting) (class : ItemClass)
    → class_weight (ss ++ s ∷ []) class ≡ (if is_of class s then class_weight ss class + s.item.weight else class_weight ss class)
class_weight-more ss s class =
    ap (sum_by sighting_weight) (filter-append (is_of class) ss (s ∷ []))
    ∙ sum_by-append sighting_weight (filter (is_of class) ss) (filter (is_of class) (s ∷ []))
    ∙ by (is_of class s)
  where
    by : (b : Bool) → class_weight ss class + sum_by sighting_weight (cond b (s ∷ []) []) ≡ (if b then class_weight ss class + s.item.weight else class_weight ss class)
    by true = ap (λ n. class_weight ss class + n) (zero-add s.item.weight)
    by false = add-zero (class_weight ss class)

-- The ten sums, with one more item.
more_of : (class : ItemClass) (w : ℕ) (at : ItemClass → ℕ)
    → map (λ c. if nat_eq (class_number c) (class_number class) then at c + w else at c) classes
    ≡ sums_after (map at classes) (record { class = class; label = []; page = None; weight = w })
more_of Ce w at = refl
more_of Ucna w at = refl
more_of Srao w at = refl
more_of Srar w at = refl
more_of Uc w at = refl
more_of Odd w at = refl
more_of Corrected w at = refl
more_of Recoverable w at = refl
more_of Fatal w at = refl
more_of Informational w at = refl

sums-more : (ss : List Sighting) (s : Sighting) → map (class_weight (ss ++ s ∷ [])) classes ≡ sums_after (map (class_weight ss) classes) s.item
sums-more ss s =
    (λ i. map (λ c. class_weight-more ss s c i) classes) ∙ more_of s.item.class s.item.weight (class_weight ss)

pub bucket_over-more : (ss : List Sighting) (s : Sighting) → bucket_over (ss ++ s ∷ []) ≡ Some (bucket_with (bucket_over ss) s)
bucket_over-more ss s = fold-append (λ bucket t. Some (bucket_with bucket t)) None ss (s ∷ [])

abbrev trips : List Sighting × Sighting → Bool
trips p = trips_at (bucket_over p.0) p.1

pub has_tripped-more : (ss : List Sighting) (s : Sighting) → has_tripped (ss ++ s ∷ []) ≡ (has_tripped ss || trips_at (bucket_over ss) s)
has_tripped-more ss s =
    ap (list_any trips) (places-snoc ss s)
    ∙ list_any-append trips (places ss) ((ss, s) ∷ [])
    ∙ ap (λ b. has_tripped ss || b) (nothing (trips_at (bucket_over ss) s))
  where
    nothing : (b : Bool) → (b || false) ≡ b
    nothing true = refl
    nothing false = refl

-- The items of a label, with one more item.
module _ (ss : List Sighting) (s : Sighting) (label : Bytes) where
  abbrev is_error : Sighting → Bool
  is_error t = fills_bucket t && is_labeled label t

  labeled-own : is_labeled label s ≡ true → filter (is_labeled label) (ss ++ s ∷ []) ≡ filter (is_labeled label) ss ++ s ∷ []
  labeled-own is = filter-append (is_labeled label) ss (s ∷ []) ∙ ap (λ b. filter (is_labeled label) ss ++ cond b (s ∷ []) []) is

  labeled-other : is_labeled label s ≡ false → filter (is_labeled label) (ss ++ s ∷ []) ≡ filter (is_labeled label) ss
  labeled-other is =
      filter-append (is_labeled label) ss (s ∷ []) ∙ ap (λ b. filter (is_labeled label) ss ++ cond b (s ∷ []) []) is
      ∙ append-nil (filter (is_labeled label) ss)

  pub errors-own : is_labeled label s ≡ true → errors_of label (ss ++ s ∷ []) ≡ errors_of label ss ++ (if fills_bucket s then s ∷ [] else [])
  errors-own is = filter-append is_error ss (s ∷ []) ∙ ap (λ b. errors_of label ss ++ b) (by (fills_bucket s) (is_labeled label s) is)
    where
      by : (f l : Bool) → l ≡ true → cond (f && l) (s ∷ []) [] ≡ (if f then s ∷ [] else [])
      by true l is = ap (λ b. cond b (s ∷ []) []) is
      by false l is = refl

  pub errors-other : is_labeled label s ≡ false → errors_of label (ss ++ s ∷ []) ≡ errors_of label ss
  errors-other is =
      filter-append is_error ss (s ∷ []) ∙ ap (λ b. errors_of label ss ++ b) (by (fills_bucket s) (is_labeled label s) is)
      ∙ append-nil (errors_of label ss)
    where
      by : (f l : Bool) → l ≡ false → cond (f && l) (s ∷ []) [] ≡ []
      by true l is = ap (λ b. cond b (s ∷ []) []) is
      by false l is = refl

-- The module of an item's label, with this item.
module_by_items-own : (ss since : List Sighting) (s : Sighting) → module_by_items (ss ++ s ∷ []) (since ++ s ∷ []) (label_of s) ≡ module_after (module_by_items ss since (label_of s)) s
module_by_items-own ss since s = λ i. record { sums = sums i; bucket = bucket i; replace = replace i }
  where
    label : Bytes
    label = label_of s

    own : is_labeled label s ≡ true
    own = same_label-refl label

    sums : map (class_weight (filter (is_labeled label) (ss ++ s ∷ []))) classes ≡ sums_after (map (class_weight (filter (is_labeled label) ss)) classes) s.item
    sums = ap (λ ts. map (class_weight ts) classes) (labeled-own ss s label own) ∙ sums-more (filter (is_labeled label) ss) s

    bucket : bucket_over (errors_of label (since ++ s ∷ [])) ≡ (if fills_bucket s then Some (bucket_with (bucket_over (errors_of label since)) s) else bucket_over (errors_of label since))
    bucket = ap bucket_over (errors-own since s label own) ∙ by (fills_bucket s)
      where
        by : (f : Bool) → bucket_over (errors_of label since ++ (if f then s ∷ [] else [])) ≡ (if f then Some (bucket_with (bucket_over (errors_of label since)) s) else bucket_over (errors_of label since))
        by true = bucket_over-more (errors_of label since) s
        by false = ap bucket_over (append-nil (errors_of label since))

    replace : has_tripped (errors_of label (since ++ s ∷ [])) ≡ (has_tripped (errors_of label since) || (fills_bucket s && trips_at (bucket_over (errors_of label since)) s))
    replace = ap has_tripped (errors-own since s label own) ∙ by (fills_bucket s)
      where
        no_more : (b : Bool) → b ≡ (b || false)
        no_more true = refl
        no_more false = refl

        by : (f : Bool) → has_tripped (errors_of label since ++ (if f then s ∷ [] else [])) ≡ (has_tripped (errors_of label since) || (f && trips_at (bucket_over (errors_of label since)) s))
        by true = has_tripped-more (errors_of label since) s
        by false = ap has_tripped (append-nil (errors_of label since)) ∙ no_more (has_tripped (errors_of label since))

-- The module of another label is unchanged.
module_by_items-other : (ss since : List Sighting) (s : Sighting) (label : Bytes) → is_labeled label s ≡ false
    → module_by_items (ss ++ s ∷ []) (since ++ s ∷ []) label ≡ module_by_items ss since label
module_by_items-other ss since s label is =
    λ i. record {
      sums = map (class_weight (labeled-other ss s label is i)) classes;
      bucket = bucket_over (errors-other since s label is i);
      replace = has_tripped (errors-other since s label is i);
    }

-- No item has this label.
labeled-none : (ss : List Sighting) (label : Bytes) → list_any (same_label label) (map label_of ss) ≡ false → filter (is_labeled label) ss ≡ []
labeled-none [] label none = refl
labeled-none (s ∷ ss) label none = by (is_labeled label s) refl none (labeled-none ss label)
  where
    by : (b : Bool) → is_labeled label s ≡ b → (b || list_any (same_label label) (map label_of ss)) ≡ false
        → (list_any (same_label label) (map label_of ss) ≡ false → filter (is_labeled label) ss ≡ []) → cond b (s ∷ filter (is_labeled label) ss) (filter (is_labeled label) ss) ≡ []
    by true is h ih = absurd (true≢false h)
    by false is h ih = ih h

pub errors-none : (ss : List Sighting) (label : Bytes) → list_any (same_label label) (map label_of ss) ≡ false → errors_of label ss ≡ []
errors-none [] label none = refl
errors-none (s ∷ ss) label none = by (fills_bucket s) (is_labeled label s) refl none (errors-none ss label)
  where
    by : (f b : Bool) → is_labeled label s ≡ b → (b || list_any (same_label label) (map label_of ss)) ≡ false
        → (list_any (same_label label) (map label_of ss) ≡ false → errors_of label ss ≡ []) → cond (f && b) (s ∷ errors_of label ss) (errors_of label ss) ≡ []
    by f true is h ih = absurd (true≢false h)
    by true false is h ih = ih h
    by false false is h ih = ih h

-- Some items are the last of all items.
abbrev pub AreLast : List Sighting → List Sighting → Type 0
AreLast since ss = (front : List Sighting) × (front ++ since ≡ ss)

pub none-last : (ss since : List Sighting) (label : Bytes) → AreLast since ss → list_any (same_label label) (map label_of ss) ≡ false
    → list_any (same_label label) (map label_of since) ≡ false
none-last ss since label (front, is) none =
    by (list_any (same_label label) (map label_of front)) (list_any (same_label label) (map label_of since))
    (sym (ap (list_any (same_label label)) (map-append label_of front since) ∙ list_any-append (same_label label) (map label_of front) (map label_of since)) ∙ ap (λ ts. list_any (same_label label) (map label_of ts)) is ∙ none)
  where
    by : (b c : Bool) → (b || c) ≡ false → c ≡ false
    by true c h = absurd (true≢false h)
    by false c h = h

pub last-more : (ss since : List Sighting) (s : Sighting) → AreLast since ss → AreLast (since ++ s ∷ []) (ss ++ s ∷ [])
last-more ss since s (front, is) = (front, sym (append_assoc front since (s ∷ [])) ∙ ap (λ ts. ts ++ s ∷ []) is)

-- The modules, with one more item.
pub modules-more : (ss since : List Sighting) (s : Sighting) → AreLast since ss
    → modules_of (ss ++ s ∷ []) (since ++ s ∷ []) ≡ modules_after (modules_of ss since) s
modules-more ss since s last =
    ap (λ labels. map {B = Bytes × Module} (λ label. (label, after label)) (distinct_keys same_label labels)) (map-append label_of ss (s ∷ []))
    ∙ keyed-more same_label same_label-exact same_label-refl before after (label_of s) (module_after new_module s) (λ m. module_after m s) (map label_of ss)
    (λ label apart. module_by_items-other ss since s label (turned label apart))
    (λ there. module_by_items-own ss since s)
    (λ none. module_by_items-own ss since s ∙ ap (λ m. module_after m s) (unseen none))
  where
    before : Bytes → Module
    before label = module_by_items ss since label

    after : Bytes → Module
    after label = module_by_items (ss ++ s ∷ []) (since ++ s ∷ []) label

    turned : (label : Bytes) → same_label (label_of s) label ≡ false → is_labeled label s ≡ false
    turned label apart = by (is_labeled label s) refl
      where
        by : (b : Bool) → is_labeled label s ≡ b → b ≡ false
        by true is = absurd (true≢false (sym (same_label-refl (label_of s)) ∙ ap (same_label (label_of s)) (sym (same_label-exact label (label_of s) is)) ∙ apart))
        by false is = refl

    unseen : list_any (same_label (label_of s)) (map label_of ss) ≡ false → before (label_of s) ≡ new_module
    unseen none =
        λ i. record {
          sums = map (class_weight (labeled-none ss (label_of s) none i)) classes;
          bucket = bucket_over (errors-none since (label_of s) (none-last ss since (label_of s) last none) i);
          replace = has_tripped (errors-none since (label_of s) (none-last ss since (label_of s) last none) i);
        }

-- The rows of pages, with one more item.
abbrev pub at_page : Sighting → Option ℕ → Sighting
at_page s page = record s { item = record s.item { page = page } }

pub pages-more : (ss : List Sighting) (s : Sighting) → page_rows_of (reports_of (ss ++ s ∷ [])) ≡ pages_after (page_rows_of (reports_of ss)) s
pages-more ss s = ap page_rows_of (filter_map-append report_of ss (s ∷ [])) ∙ by s.item.page
  where
    by : (page : Option ℕ) → page_rows_of (reports_of ss ++ reports_of (at_page s page ∷ [])) ≡ pages_after (page_rows_of (reports_of ss)) (at_page s page)
    by None = ap page_rows_of (append-nil (reports_of ss))
    by (Some page) = page_rows_of-more (reports_of ss) _

-- the account with these parts
abbrev pub counted : List Name → ℕ → Limit → Limit → ℕ → List Sighting → List Sighting → State
counted names floor limit module_limit entries ss since = record {
  names = names;
  floor = floor;
  limit = limit;
  module_limit = module_limit;
  entries = entries;
  total = sum_by sighting_weight ss;
  modules = modules_of ss since;
  pages = page_rows_of (reports_of ss);
}

module _ (names : List Name) (floor : ℕ) (limit module_limit : Limit) (entries : ℕ) where
  pub counted-more : (ss since : List Sighting) (s : Sighting) → AreLast since ss
      → counted names floor limit module_limit entries (ss ++ s ∷ []) (since ++ s ∷ []) ≡ account_after_item (counted names floor limit module_limit entries ss since) s
  counted-more ss since s last =
      λ i. record {
        names = names;
        floor = floor;
        limit = limit;
        module_limit = module_limit;
        entries = entries;
        total = (sum_by-append sighting_weight ss (s ∷ []) ∙ ap (λ n. sum_by sighting_weight ss + n) (zero-add s.item.weight)) i;
        modules = modules-more ss since s last i;
        pages = pages-more ss s i;
      }

  pub counted-append : (ss since more : List Sighting) → AreLast since ss
      → counted names floor limit module_limit entries (ss ++ more) (since ++ more) ≡ account_after_items (counted names floor limit module_limit entries ss since) more
  counted-append ss since [] last = λ i. counted names floor limit module_limit entries (append-nil ss i) (append-nil since i)
  counted-append ss since (s ∷ more) last =
      (λ i. counted names floor limit module_limit entries (sym (append_assoc ss (s ∷ []) more) i) (sym (append_assoc since (s ∷ []) more) i))
      ∙ counted-append (ss ++ s ∷ []) (since ++ s ∷ []) more (last-more ss since s last)
      ∙ ap (λ a. account_after_items a more) (counted-more ss since s last)

-- The items since the last upgrade marker are the last of all items.
pub since-last : (h : History) → AreLast (sightings_since_mark h) (sightings h)
since-last empty = ([], refl)
since-last (with_entry h e) = by (since-last h)
  where
    by : AreLast (sightings_since_mark h) (sightings h) → AreLast (sightings_since_mark h ++ sightings_behind h e) (sightings h ++ sightings_behind h e)
    by (front, is) = (front, sym (append_assoc front (sightings_since_mark h) (sightings_behind h e)) ∙ ap (λ ss. ss ++ sightings_behind h e) is)
since-last (with_mark h) = (sightings h, append-nil (sightings h))

-- An entry that isn't new changes nothing.

-- what is in force after a history
limit-stale : (h : History) (e : Entry) → is_fresh_behind h e ≡ false → limit_after (with_entry h e) ≡ limit_after h
limit-stale h (Fact fact) stale = refl
limit-stale h (PageLimit limit) stale = same_limit-exact limit (limit_after h) (not_false _ stale)
limit-stale h (Retire boot) stale = refl
limit-stale h (ModuleLimit limit) stale = refl

module_limit-stale : (h : History) (e : Entry) → is_fresh_behind h e ≡ false → module_limit_after (with_entry h e) ≡ module_limit_after h
module_limit-stale h (Fact fact) stale = refl
module_limit-stale h (PageLimit limit) stale = refl
module_limit-stale h (Retire boot) stale = refl
module_limit-stale h (ModuleLimit limit) stale = same_limit-exact limit (module_limit_after h) (not_false _ stale)

max-least : (a b : ℕ) → nat_lt a b ≡ false → max a b ≡ a
max-least a b is = let below : b ≤ a = grind (arith, nat_tests) in omega arith

floor-stale : (h : History) (e : Entry) → is_fresh_behind h e ≡ false → floor_after (with_entry h e) ≡ floor_after h
floor-stale h (Fact fact) stale = refl
floor-stale h (PageLimit limit) stale = refl
floor-stale h (Retire boot) stale = max-least (floor_after h) boot stale
floor-stale h (ModuleLimit limit) stale = refl

max-greater : (a b : ℕ) → nat_lt a b ≡ true → max a b ≡ b
max-greater a b is = let below : a < b = grind (arith, nat_tests) in omega arith

-- An account with one more entry, whether it is new or not.
abbrev grown : Bool → History → Entry → State
grown b h e = counted
    (kept_names (floor_after (with_entry h e)) (names_of (if b then fresh_entries h ++ e ∷ [] else fresh_entries h)))
    (floor_after (with_entry h e))
    (limit_after (with_entry h e))
    (module_limit_after (with_entry h e))
    (length (if b then fresh_entries h ++ e ∷ [] else fresh_entries h))
    (sightings h ++ (if b then sightings_in (limit_after h) (module_limit_after h) e else []))
    (sightings_since_mark h ++ (if b then sightings_in (limit_after h) (module_limit_after h) e else []))

grown-stale : (h : History) (e : Entry) → is_fresh_behind h e ≡ false → grown false h e ≡ account_of h
grown-stale h e stale =
    λ i. counted (kept_names (floor-stale h e stale i) (names_of (fresh_entries h))) (floor-stale h e stale i) (limit-stale h e stale i) (module_limit-stale h e stale i) (length (fresh_entries h)) (append-nil (sightings h) i) (append-nil (sightings_since_mark h) i)

-- The names of boots that aren't retired, with one more such name.
kept-more : (floor : ℕ) (names : List Name) (name : Name) → is_retired floor name ≡ false → kept_names floor (names ++ name ∷ []) ≡ kept_names floor names ++ name ∷ []
kept-more floor names name stays =
    filter-append (λ n. not (is_retired floor n)) names (name ∷ []) ∙ ap (λ b. kept_names floor names ++ cond (not b) (name ∷ []) []) stays

-- The names left after the floor has risen.
kept-again : (floor boot : ℕ) (names : List Name) → nat_lt floor boot ≡ true → kept_names boot names ≡ kept_names boot (kept_names floor names)
kept-again floor boot [] higher = refl
kept-again floor boot (n ∷ ns) higher = by (is_retired floor n) refl (kept-again floor boot ns higher)
  where
    by : (r : Bool) → is_retired floor n ≡ r → kept_names boot ns ≡ kept_names boot (kept_names floor ns)
        → kept_names boot (n ∷ ns) ≡ kept_names boot (cond (not r) (n ∷ kept_names floor ns) (kept_names floor ns))
    by true gone ih =
        let too : is_retired boot n ≡ true = ap (λ f. is_retired f n) (sym (max-greater floor boot higher)) ∙ is_retired-max floor boot n ∙ ap (λ b. b || is_retired boot n) gone in
        ap (λ b. cond (not b) (n ∷ kept_names boot ns) (kept_names boot ns)) too ∙ ih
    by false stays ih = ap (λ rest. cond (not (is_retired boot n)) (n ∷ rest) rest) ih

one_more : (h : History) (e : Entry) → length (fresh_entries h ++ e ∷ []) ≡ length (fresh_entries h) + 1
one_more h e = length-append (fresh_entries h) (e ∷ [])

no_names : (h : History) (e : Entry) → names_of (e ∷ []) ≡ [] → names_of (fresh_entries h ++ e ∷ []) ≡ names_of (fresh_entries h)
no_names h e none = names_of-append (fresh_entries h) (e ∷ []) ∙ ap (λ ns. names_of (fresh_entries h) ++ ns) none ∙ append-nil (names_of (fresh_entries h))

not_both : (b c : Bool) → (not b && not c) ≡ true → c ≡ false
not_both true c h = absurd (true≢false (sym h))
not_both false true h = absurd (true≢false (sym h))
not_both false false h = refl

grown-fresh : (h : History) (e : Entry) → is_fresh_behind h e ≡ true → grown true h e ≡ account_after_fresh (account_with_count (account_of h)) e
grown-fresh h (Fact fact) is =
    (λ i. counted (names i) (floor_after h) (limit_after h) (module_limit_after h) (one_more h (Fact fact) i) (sightings h ++ more) (sightings_since_mark h ++ more))
    ∙ counted-append (kept_names (floor_after h) (names_of (fresh_entries h)) ++ fact.name ∷ []) (floor_after h) (limit_after h) (module_limit_after h) (length (fresh_entries h) + 1) (sightings h) (sightings_since_mark h) more (since-last h)
  where
    more : List Sighting
    more = sightings_in (limit_after h) (module_limit_after h) (Fact fact)

    names : kept_names (floor_after h) (names_of (fresh_entries h ++ Fact fact ∷ [])) ≡ kept_names (floor_after h) (names_of (fresh_entries h)) ++ fact.name ∷ []
    names = ap (kept_names (floor_after h)) (names_of-append (fresh_entries h) (Fact fact ∷ [])) ∙ kept-more (floor_after h) (names_of (fresh_entries h)) fact.name (not_both _ (is_retired (floor_after h) fact.name) is)
grown-fresh h (PageLimit limit) is =
    λ i. counted (kept_names (floor_after h) (no_names h (PageLimit limit) refl i)) (floor_after h) limit (module_limit_after h) (one_more h (PageLimit limit) i) (append-nil (sightings h) i) (append-nil (sightings_since_mark h) i)
grown-fresh h (ModuleLimit limit) is =
    λ i. counted (kept_names (floor_after h) (no_names h (ModuleLimit limit) refl i)) (floor_after h) (limit_after h) limit (one_more h (ModuleLimit limit) i) (append-nil (sightings h) i) (append-nil (sightings_since_mark h) i)
grown-fresh h (Retire boot) is =
    (λ i. counted (names i) (max-greater (floor_after h) boot is i) (limit_after h) (module_limit_after h) (one_more h (Retire boot) i) (append-nil (sightings h) i) (append-nil (sightings_since_mark h) i))
  where
    names : kept_names (max (floor_after h) boot) (names_of (fresh_entries h ++ Retire boot ∷ [])) ≡ kept_names boot (kept_names (floor_after h) (names_of (fresh_entries h)))
    names =
        (λ i. kept_names (max-greater (floor_after h) boot is i) (no_names h (Retire boot) refl i))
        ∙ kept-again (floor_after h) boot (names_of (fresh_entries h)) is

-- The law: one more entry continues the account.
pub account_of-entry : (h : History) (e : Entry) → account_of (with_entry h e) ≡ account_after (account_of h) e
account_of-entry h e = by (is_fresh_behind h e) refl
  where
    goes_on : (b : Bool) → is_fresh_behind h e ≡ b → account_after (account_of h) e ≡ (if b then account_after_fresh (account_with_count (account_of h)) e else account_of h)
    goes_on b is = ap (λ c. if c then account_after_fresh (account_with_count (account_of h)) e else account_of h) (is_fresh_in-account_of h e ∙ is)

    by : (b : Bool) → is_fresh_behind h e ≡ b → account_of (with_entry h e) ≡ account_after (account_of h) e
    by true is = ap (λ b. grown b h e) is ∙ grown-fresh h e is ∙ sym (goes_on true is)
    by false is = ap (λ b. grown b h e) is ∙ grown-stale h e is ∙ sym (goes_on false is)

-- One more upgrade marker continues the account.
modules-marked : (labels : List Bytes) (ss since : List Sighting)
    → map {B = Bytes × Module} (λ label. (label, module_by_items ss [] label)) labels
    ≡ map {B = Bytes × Module} (λ row. (row.0, without_bucket row.1)) (map {B = Bytes × Module} (λ label. (label, module_by_items ss since label)) labels)
modules-marked [] ss since = refl
modules-marked (label ∷ labels) ss since = ap (λ rows. (label, without_bucket (module_by_items ss since label)) ∷ rows) (modules-marked labels ss since)

pub account_of-mark : (h : History) → account_of (with_mark h) ≡ account_after_mark (account_of h)
account_of-mark h =
    λ i. record (account_of h) { modules = modules-marked (distinct_keys same_label (map label_of (sightings h))) (sightings h) (sightings_since_mark h) i }

-- A whole history, or a list of entries, continues the account.
pub account_of-followed : (h more : History) → account_of (followed_by h more) ≡ account_after_history (account_of h) more
account_of-followed h empty = refl
account_of-followed h (with_entry more e) = account_of-entry (followed_by h more) e ∙ ap (λ a. account_after a e) (account_of-followed h more)
account_of-followed h (with_mark more) = account_of-mark (followed_by h more) ∙ ap account_after_mark (account_of-followed h more)

pub account_of-entries : (h : History) (es : List Entry) → account_of (with_entries h es) ≡ account_after_all (account_of h) es
account_of-entries h [] = refl
account_of-entries h (e ∷ es) = account_of-entries (with_entry h e) es ∙ ap (λ a. account_after_all a es) (account_of-entry h e)

-- An entry that isn't new leaves the account unchanged.
pub account_of-stale : (h : History) (e : Entry) → is_fresh_behind h e ≡ false → account_of (with_entry h e) ≡ account_of h
account_of-stale h e stale = ap (λ b. grown b h e) stale ∙ grown-stale h e stale
