-- Laws of the account of a history: what it contains, each key once, and what retires leave.
use Rattle.std.proofs.Common.{◌≡◌, ◌≤◌, ◌+◌, ℕ, Bool, true, false, not, cond, ◌&&◌, ◌||◌, if◌then◌else◌, max, nat_eq, List, [], ◌∷◌, ◌++◌, fold, map, sum, Some, None, All, Contains, ◌↔◌, refl, sym, ap, subst, ◌∙◌, append_assoc, append-nil, arith, zero-add}
use Rattle.std.specs.Bool.{IsFalse}
use Rattle.std.specs.List.{list_any, sum_by, IsDistinct}
use Rattle.std.specs.Map.{keys_of, lookup}
use Rattle.std.proofs.lemmas.List.Elements.{All-nil, All-cons, All-head, All-tail, All-contains}
use Rattle.std.proofs.lemmas.List.Sums.{fold-append, sum_by-cons}
use Rattle.std.proofs.lemmas.Map.Keys.{IsDistinct-push}
use Rattle.std.proofs.lemmas.Map.Views.{list_any-from_Contains}
use Rattle.indexmap.proofs.CallerLemmas.{Contains-list_any}
use Rattle.dimm_topology.specs.Labels.{Bytes, same_label}
use Rattle.page_policy.specs.declared.rows.PageRow.{PageRow}
use Rattle.row_tables.specs.Tables.{distinct_keys}
use Rattle.page_policy.specs.Histories.{page_rows_of}
use Rattle.row_tables.proofs.TableLemmas.{distinct-once, lookup-keyed, any-distinct}
use Rattle.page_policy.proofs.HistoryLemmas.{page_rows_of-once}
use Rattle.ras_facts.specs.declared.fact.Fact.{Fact as Told}
use Rattle.ras_facts.specs.declared.name.Name.{Name}
use Rattle.ras_facts.specs.declared.entry.Entry.{Entry}
use Rattle.ras_facts.specs.declared.entry.Entry.TheVariants.{Fact, Limit as PageLimit, Retire, ModuleLimit}
use Rattle.ras_facts.specs.Names.{same_name}
use Rattle.ras_facts.specs.Entries.{IsValidEntry}
use Rattle.ras_facts.specs.Steps.NameLemmas.{same_name-exact, same_name-laws}
use Rattle.ras_account.specs.History.{History, empty, with_entry, with_mark, with_entries, history_of, followed_by, IsUnmarked, names_in, floor_after, limit_after, module_limit_after, is_retired}
use Rattle.ras_account.specs.Fresh.{is_among, is_fresh_behind, fresh_entries}
use Rattle.ras_account.specs.Sightings.{Sighting, sightings, sightings_since_mark, sightings_behind, sightings_in, label_of, sighting_weight, reports_of}
use Rattle.ras_account.specs.Modules.{Module, module_by_items}
use Rattle.ras_account.specs.Account.{State, account_of, names_of, kept_names, modules_of, weight_in}
use Rattle.ras_account.specs.Continued.{is_fresh_in, account_after_fresh, account_with_count, account_after, account_after_all, account_after_item, account_after_items, without_bucket}
use Rattle.ras_account.specs.Orders.{orders_of_items, orders_behind}
use Rattle.ras_account.specs.Numbers.{StaysWithin}
use Rattle.ras_account.specs.Rows.{with_name, with_module, with_page, base_of, account_from_rows}
use Rattle.ras_account.specs.Accounts.{IsAccount}
use Rattle.ras_account.proofs.KeyLemmas.{same_label-exact, same_label-refl}
use Rattle.ras_account.proofs.FreshLemmas.{is_retired-max, among_kept, among_fresh}
use Rattle.ras_account.proofs.AccountLemmas.{account_of-entry, account_of-mark, account_of-stale}
use Rattle.ras_account.proofs.ItemLemmas.{names-items}
use Rattle.ras_account.proofs.OrderLemmas.{labels-modules}
use Rattle.ras_account.proofs.SoundLemmas.{HasTen, ten-after, weight-after, weight-marked, distinct-filtered, continued-sound}

-- No key is there twice.

once-continued : (a : State) (e : Entry) → IsDistinct same_name a.names → IsDistinct same_name (account_after a e).names
once-continued a (PageLimit limit) once = by (is_fresh_in a (PageLimit limit))
  where
    by : (b : Bool) → IsDistinct same_name (if b then account_after_fresh (account_with_count a) (PageLimit limit) else a).names
    by true = once
    by false = once
once-continued a (ModuleLimit limit) once = by (is_fresh_in a (ModuleLimit limit))
  where
    by : (b : Bool) → IsDistinct same_name (if b then account_after_fresh (account_with_count a) (ModuleLimit limit) else a).names
    by true = once
    by false = once
once-continued a (Retire boot) once = by (is_fresh_in a (Retire boot))
  where
    by : (b : Bool) → IsDistinct same_name (if b then account_after_fresh (account_with_count a) (Retire boot) else a).names
    by true = distinct-filtered same_name (λ name. not (is_retired boot name)) a.names once
    by false = once
once-continued a (Fact fact) once = by (is_among a.names fact.name) refl (is_retired a.floor fact.name)
  where
    by : (b : Bool) → is_among a.names fact.name ≡ b → (r : Bool) → IsDistinct same_name (if not (b || r) then account_after_fresh (account_with_count a) (Fact fact) else a).names
    by true is r = once
    by false is true = once
    by false is false =
        subst (IsDistinct same_name) (sym (names-items (record a { names = a.names ++ fact.name ∷ []; entries = a.entries + 1 }) (sightings_in a.limit a.module_limit (Fact fact))))
        (IsDistinct-push same_name-laws a.names fact.name once is)

none_once : IsDistinct same_name []
unfolding IsDistinct
none_once = tt

pub names-once : (h : History) → IsDistinct same_name (account_of h).names
names-once empty = none_once
names-once (with_entry h e) = subst (λ (a : State). IsDistinct same_name a.names) (sym (account_of-entry h e)) (once-continued (account_of h) e (names-once h))
names-once (with_mark h) = names-once h

pub labels-once : (h : History) → IsDistinct same_label (keys_of (account_of h).modules)
labels-once h =
    subst (IsDistinct same_label) (sym (labels-modules (sightings h) (sightings_since_mark h)))
    (distinct-once same_label same_label-exact same_label-refl (map label_of (sightings h)))

pub pages-once : (h : History) → IsDistinct nat_eq (keys_of (account_of h).pages)
pages-once h = page_rows_of-once (reports_of (sightings h))

-- What the account contains.

pub module-row : (h : History) (label : Bytes) → lookup (same_label label) (account_of h).modules
    ≡ (if list_any (same_label label) (map label_of (sightings h)) then Some (module_by_items (sightings h) (sightings_since_mark h) label) else None)
module-row h label =
    lookup-keyed same_label same_label-exact same_label-refl (λ l. module_by_items (sightings h) (sightings_since_mark h) l) label (distinct_keys same_label (map label_of (sightings h)))
    ∙ ap (λ b. cond b (Some (module_by_items (sightings h) (sightings_since_mark h) label)) None) (any-distinct same_label same_label-exact same_label-refl label (map label_of (sightings h)))

-- A name is in a list if and only if the test finds it.
found : (names : List Name) (name : Name) → Contains names name ↔ (is_among names name ≡ true)
found names name = (list_any-from_Contains same_name-laws name names, Contains-list_any same_name same_name-exact names name)

unretired : (floor : ℕ) (names : List Name) → All (λ name. IsFalse (is_retired floor name)) (kept_names floor names)
unretired floor [] = All-nil (λ name. IsFalse (is_retired floor name))
unretired floor (n ∷ ns) = by (is_retired floor n) refl (unretired floor ns)
  where
    by : (b : Bool) → is_retired floor n ≡ b → All (λ name. IsFalse (is_retired floor name)) (kept_names floor ns) → All (λ name. IsFalse (is_retired floor name)) (cond (not b) (n ∷ kept_names floor ns) (kept_names floor ns))
    by true is ih = ih
    by false is ih = All-cons (λ name. IsFalse (is_retired floor name)) n (kept_names floor ns) is ih

pub none-retired : (h : History) → All (λ name. IsFalse (is_retired (floor_after h) name)) (account_of h).names
none-retired h = unretired (floor_after h) (names_of (fresh_entries h))

pub held-names : (h : History) (name : Name) → Contains (account_of h).names name ↔ (Contains (names_in h) name × IsFalse (is_retired (floor_after h) name))
held-names h name = (there, back)
  where
    same : is_retired (floor_after h) name ≡ false → is_among (account_of h).names name ≡ is_among (names_in h) name
    same stays =
        unsaid (is_among (account_of h).names name) ∙ ap (λ r. is_among (account_of h).names name || r) (sym stays)
        ∙ among_kept (floor_after h) (names_of (fresh_entries h)) name ∙ among_fresh h name
        ∙ ap (λ r. is_among (names_in h) name || r) stays ∙ sym (unsaid (is_among (names_in h) name))
      where
        unsaid : (b : Bool) → b ≡ (b || false)
        unsaid true = refl
        unsaid false = refl

    there : Contains (account_of h).names name → Contains (names_in h) name × IsFalse (is_retired (floor_after h) name)
    there inside =
        let stays : IsFalse (is_retired (floor_after h) name) = All-contains (λ n. IsFalse (is_retired (floor_after h) n)) (account_of h).names name (none-retired h) inside in
        ((found (names_in h) name).1 (sym (same stays) ∙ (found (account_of h).names name).0 inside), stays)

    back : Contains (names_in h) name × IsFalse (is_retired (floor_after h) name) → Contains (account_of h).names name
    back (inside, stays) = (found (account_of h).names name).1 (same stays ∙ (found (names_in h) name).0 inside)

-- retired boots

pub retired-stays : (h more : History) (name : Name) → is_retired (floor_after h) name ≡ true → is_retired (floor_after (followed_by h more)) name ≡ true
retired-stays h empty name gone = gone
retired-stays h (with_mark more) name gone = retired-stays h more name gone
retired-stays h (with_entry more (Fact fact)) name gone = retired-stays h more name gone
retired-stays h (with_entry more (PageLimit limit)) name gone = retired-stays h more name gone
retired-stays h (with_entry more (ModuleLimit limit)) name gone = retired-stays h more name gone
retired-stays h (with_entry more (Retire boot)) name gone =
    is_retired-max (floor_after (followed_by h more)) boot name ∙ ap (λ b. b || is_retired boot name) (retired-stays h more name gone)

pub floor-rises : (h more : History) → floor_after h ≤ floor_after (followed_by h more)
floor-rises h empty = omega arith
floor-rises h (with_mark more) = floor-rises h more
floor-rises h (with_entry more (Fact fact)) = floor-rises h more
floor-rises h (with_entry more (PageLimit limit)) = floor-rises h more
floor-rises h (with_entry more (ModuleLimit limit)) = floor-rises h more
floor-rises h (with_entry more (Retire boot)) = let rises : floor_after h ≤ floor_after (followed_by h more) = floor-rises h more in omega arith

stale-fact : (h : History) (fact : Told) → is_retired (floor_after h) fact.name ≡ true → is_fresh_behind h (Fact fact) ≡ false
stale-fact h fact gone = ap (λ b. not (is_among (names_in h) fact.name) && not b) gone ∙ no (not (is_among (names_in h) fact.name))
  where
    no : (b : Bool) → (b && false) ≡ false
    no true = refl
    no false = refl

pub retired-unchanged : (h more : History) (fact : Told) → is_retired (floor_after h) fact.name ≡ true
    → account_of (with_entry (followed_by h more) (Fact fact)) ≡ account_of (followed_by h more)
retired-unchanged h more fact gone = account_of-stale (followed_by h more) (Fact fact) (stale-fact (followed_by h more) fact (retired-stays h more fact.name gone))

pub stale-unordered : (h : History) (e : Entry) → is_fresh_behind h e ≡ false → orders_behind h e ≡ []
stale-unordered h e stale =
    ap (λ b. orders_of_items (sightings h) (sightings_since_mark h) (if b then sightings_in (limit_after h) (module_limit_after h) e else [])) stale

pub retired-unordered : (h more : History) (fact : Told) → is_retired (floor_after h) fact.name ≡ true → orders_behind (followed_by h more) (Fact fact) ≡ []
retired-unordered h more fact gone = stale-unordered (followed_by h more) (Fact fact) (stale-fact (followed_by h more) fact (retired-stays h more fact.name gone))

-- A retire adds no name.
retire-names : (h : History) (boot : ℕ) → names_of (fresh_entries (with_entry h (Retire boot))) ≡ names_of (fresh_entries h)
retire-names h boot = by (is_fresh_behind h (Retire boot))
  where
    none : (es : List Entry) → names_of (es ++ Retire boot ∷ []) ≡ names_of es
    none [] = refl
    none (Fact fact ∷ es) = ap (λ ns. fact.name ∷ ns) (none es)
    none (PageLimit limit ∷ es) = none es
    none (Retire other ∷ es) = none es
    none (ModuleLimit limit ∷ es) = none es

    by : (b : Bool) → names_of (if b then fresh_entries h ++ Retire boot ∷ [] else fresh_entries h) ≡ names_of (fresh_entries h)
    by true = none (fresh_entries h)
    by false = refl

pub retired-twice : (h : History) (one other : ℕ)
    → (account_of (with_entry (with_entry h (Retire one)) (Retire other))).names ≡ (account_of (with_entry h (Retire (max one other)))).names
retired-twice h one other =
    (λ i. kept_names (floors i) ((retire-names (with_entry h (Retire one)) other ∙ retire-names h one ∙ sym (retire-names h (max one other))) i))
  where
    floors : max (max (floor_after h) one) other ≡ max (floor_after h) (max one other)
    floors = omega arith

retire-sightings : (h : History) (boot : ℕ) → sightings_behind h (Retire boot) ≡ []
retire-sightings h boot = by (is_fresh_behind h (Retire boot))
  where
    by : (b : Bool) → (if b then sightings_in (limit_after h) (module_limit_after h) (Retire boot) else []) ≡ []
    by true = refl
    by false = refl

-- a retire changes nothing but the names and the floor
pub retired-keeps : (h : History) (boot : ℕ) → record (account_of (with_entry h (Retire boot))) {
  names = (account_of h).names;
  floor = (account_of h).floor;
  entries = (account_of h).entries;
} ≡ account_of h
retired-keeps h boot =
    λ i. record (account_of h) {
      total = sum_by sighting_weight (all i);
      modules = modules_of (all i) (since i);
      pages = page_rows_of (reports_of (all i));
    }
  where
    all : sightings (with_entry h (Retire boot)) ≡ sightings h
    all = ap (λ ss. sightings h ++ ss) (retire-sightings h boot) ∙ append-nil (sightings h)

    since : sightings_since_mark (with_entry h (Retire boot)) ≡ sightings_since_mark h
    since = ap (λ ss. sightings_since_mark h ++ ss) (retire-sightings h boot) ∙ append-nil (sightings_since_mark h)

-- The new entries alone.

with_entries-snoc : (h : History) (es : List Entry) (e : Entry) → with_entries h (es ++ e ∷ []) ≡ with_entry (with_entries h es) e
with_entries-snoc h es e = fold-append with_entry h es (e ∷ [])

pub refreshed : (h : History) → IsUnmarked h → account_of (history_of (fresh_entries h)) ≡ account_of h
refreshed empty unmarked = refl
refreshed (with_mark h) unmarked = absurd unmarked
refreshed (with_entry h e) unmarked = by (is_fresh_behind h e) refl (refreshed h unmarked)
  where
    by : (b : Bool) → is_fresh_behind h e ≡ b → account_of (history_of (fresh_entries h)) ≡ account_of h
        → account_of (history_of (if b then fresh_entries h ++ e ∷ [] else fresh_entries h)) ≡ account_of (with_entry h e)
    by true is ih =
        ap account_of (with_entries-snoc empty (fresh_entries h) e) ∙ account_of-entry (history_of (fresh_entries h)) e
        ∙ ap (λ a. account_after a e) ih ∙ sym (account_of-entry h e)
    by false is ih = ih ∙ sym (account_of-stale h e is)

pub unmarked-entries : (h : History) (es : List Entry) → IsUnmarked h → IsUnmarked (with_entries h es)
unmarked-entries h [] unmarked = unmarked
unmarked-entries h (e ∷ es) unmarked = unmarked-entries (with_entry h e) es unmarked

-- The sums of all rows of modules are the total weight.
record IsBalanced (a : State) : Type 0 where
  ten : All HasTen a.modules
  total : weight_in a.modules ≡ a.total

balanced-items : (a : State) (ss : List Sighting) → IsBalanced a → IsBalanced (account_after_items a ss)
balanced-items a [] balanced = balanced
balanced-items a (s ∷ ss) balanced =
    balanced-items (account_after_item a s) ss
    (record { ten = ten-after a.modules s balanced.ten; total = weight-after a.modules s balanced.ten ∙ ap (λ n. n + s.item.weight) balanced.total })

balanced-fresh : (a : State) (e : Entry) → IsBalanced a → IsBalanced (account_after_fresh (account_with_count a) e)
balanced-fresh a (Fact fact) balanced =
    balanced-items (record a { names = a.names ++ fact.name ∷ []; entries = a.entries + 1 }) (sightings_in a.limit a.module_limit (Fact fact))
    (record { ten = balanced.ten; total = balanced.total })
balanced-fresh a (PageLimit limit) balanced = record { ten = balanced.ten; total = balanced.total }
balanced-fresh a (Retire boot) balanced = record { ten = balanced.ten; total = balanced.total }
balanced-fresh a (ModuleLimit limit) balanced = record { ten = balanced.ten; total = balanced.total }

balanced-after : (a : State) (e : Entry) → IsBalanced a → IsBalanced (account_after a e)
balanced-after a e balanced = by (is_fresh_in a e)
  where
    by : (b : Bool) → IsBalanced (if b then account_after_fresh (account_with_count a) e else a)
    by true = balanced-fresh a e balanced
    by false = balanced

ten-marked : (rows : List (Bytes × Module)) → All HasTen rows → All HasTen (map {B = Bytes × Module} (λ row. (row.0, without_bucket row.1)) rows)
ten-marked [] all = All-nil HasTen
ten-marked (row ∷ rows) all =
    All-cons HasTen (row.0, without_bucket row.1) (map {B = Bytes × Module} (λ r. (r.0, without_bucket r.1)) rows) (All-head HasTen row rows all) (ten-marked rows (All-tail HasTen row rows all))

balanced-history : (h : History) → IsBalanced (account_of h)
balanced-history empty = record { ten = All-nil HasTen; total = refl }
balanced-history (with_entry h e) = subst IsBalanced (sym (account_of-entry h e)) (balanced-after (account_of h) e (balanced-history h))
balanced-history (with_mark h) =
    let before : IsBalanced (account_of h) = balanced-history h in
    subst IsBalanced (sym (account_of-mark h))
    (record { ten = ten-marked (account_of h).modules before.ten; total = weight-marked (account_of h).modules ∙ before.total })

pub history-total : (h : History) → weight_in (account_of h).modules ≡ (account_of h).total
history-total h = (balanced-history h).total

-- Valid entries that stay within the bounds keep an account valid.
pub entries-sound : (a : State) (es : List Entry) → IsAccount a → All IsValidEntry es → StaysWithin a es → IsAccount (account_after_all a es)
entries-sound a [] account valid within = account
entries-sound a (e ∷ es) account valid within =
    entries-sound (account_after a e) es (continued-sound a e account (All-head IsValidEntry e es valid) within.0) (All-tail IsValidEntry e es valid) within.1

-- An account is rebuilt from its rows.

names-rebuilt : (a : State) (names : List Name) → fold with_name a names ≡ record a { names = a.names ++ names }
names-rebuilt a [] = λ i. record a { names = sym (append-nil a.names) i }
names-rebuilt a (n ∷ ns) = names-rebuilt (with_name a n) ns ∙ (λ i. record a { names = append_assoc a.names (n ∷ []) ns i })

modules-rebuilt : (a : State) (rows : List (Bytes × Module)) → fold with_module a rows ≡ record a { modules = a.modules ++ rows; total = a.total + weight_in rows }
modules-rebuilt a [] = λ i. record a { modules = sym (append-nil a.modules) i; total = none i }
  where
    none : a.total ≡ a.total + weight_in []
    none = omega arith
modules-rebuilt a (row ∷ rows) =
    modules-rebuilt (with_module a row) rows
    ∙ (λ i. record a { modules = append_assoc a.modules (row ∷ []) rows i; total = more i })
  where
    more : (a.total + sum row.1.sums) + weight_in rows ≡ a.total + weight_in (row ∷ rows)
    more = omega (arith, sum_by-cons (λ (r : Bytes × Module). sum r.1.sums) row rows)

pages-rebuilt : (a : State) (rows : List (ℕ × PageRow)) → fold with_page a rows ≡ record a { pages = a.pages ++ rows }
pages-rebuilt a [] = λ i. record a { pages = sym (append-nil a.pages) i }
pages-rebuilt a (row ∷ rows) = pages-rebuilt (with_page a row) rows ∙ (λ i. record a { pages = append_assoc a.pages (row ∷ []) rows i })

pub rebuilt-same : (a : State) → IsAccount a → account_from_rows a ≡ a
rebuilt-same a account =
    ap (λ b. fold with_page (fold with_module b a.modules) a.pages) (names-rebuilt (base_of a) a.names)
    ∙ ap (λ b. fold with_page b a.pages) (modules-rebuilt (record (base_of a) { names = a.names }) a.modules)
    ∙ pages-rebuilt (record (base_of a) { names = a.names; modules = a.modules; total = 0 + weight_in a.modules }) a.pages
    ∙ (λ i. record a { total = weight i })
  where
    weight : 0 + weight_in a.modules ≡ a.total
    weight = zero-add (weight_in a.modules) ∙ account.total
