-- What a list of entries adds, and the numbers of the account after it.
use Rattle.std.proofs.Common.{◌≡◌, ◌≤◌, ◌+◌, ℕ, Bool, true, false, not, cond, nat_eq, if◌then◌else◌, List, [], ◌∷◌, ◌++◌, length, refl, sym, ap, ◌∙◌, arith, append-nil, length-append, ◌↔◌}
use Rattle.std.specs.List.{sum_by}
use Rattle.std.specs.Map.{keys_of}
use Rattle.std.proofs.lemmas.Bool.Decides.{nat_tests}
use Rattle.std.proofs.lemmas.List.{map-append}
use Rattle.std.proofs.lemmas.List.Elements.{filter_map-append}
use Rattle.std.proofs.lemmas.List.Sums.{sum_by-append}
use Rattle.dimm_topology.specs.Labels.{same_label}
use Rattle.row_tables.specs.Tables.{added_keys}
use Rattle.row_tables.proofs.TableLemmas.{added-append}
use Rattle.ras_base.specs.Steps.ExactLemmas.{nat_exact, nat_own}
use Rattle.ras_facts.specs.declared.name.Name.{Name}
use Rattle.ras_facts.specs.declared.items.Item.{Item}
use Rattle.ras_facts.specs.declared.entry.Entry.{Entry}
use Rattle.ras_facts.specs.declared.entry.Entry.TheVariants.{Fact, Limit as PageLimit, Retire, ModuleLimit}
use Rattle.ras_facts.specs.Entries.{items_in}
use Rattle.ras_account.specs.History.{is_retired}
use Rattle.ras_account.specs.Sightings.{sightings_in}
use Rattle.ras_account.specs.Account.{State, names_of, kept_names}
use Rattle.ras_account.specs.Continued.{is_fresh_in, account_after_fresh, account_with_count, account_after, account_after_all}
use Rattle.ras_account.specs.Numbers.{Numbers, AreWithin, are_past, IsWithin, StaysWithin, fresh_entries_in, items_of, numbers_with}
use Rattle.ras_account.specs.View.{Waiting, then_waits, labels_in, pages_in, added_by}
use Rattle.ras_account.proofs.KeyLemmas.{same_label-exact, same_label-refl}
use Rattle.ras_account.proofs.ItemLemmas.{names-items, entries-items, keys-modules, keys-pages, total-items}

-- Numbers are past their bounds if and only if they aren't within them.
pub past-within : (n : Numbers) → are_past n ≡ false ↔ AreWithin n
past-within n = (λ past. record { names = grind (arith, nat_tests); entries = grind (arith, nat_tests); total = grind (arith, nat_tests) }, λ within. grind (arith, nat_tests))

pub fewer-kept : (floor : ℕ) (names : List Name) → length (kept_names floor names) ≤ length names
fewer-kept floor [] = omega arith
fewer-kept floor (n ∷ ns) = by (is_retired floor n) (fewer-kept floor ns)
  where
    by : (b : Bool) → length (kept_names floor ns) ≤ length ns → length (cond (not b) (n ∷ kept_names floor ns) (kept_names floor ns)) ≤ length (n ∷ ns)
    by true ih = omega arith
    by false ih = omega arith

-- An account with one more new entry, by its keys and numbers.
pub record Grows (a b : State) (e : Entry) : Type 0 where
  pub labels : keys_of b.modules ≡ keys_of a.modules ++ added_keys same_label (keys_of a.modules) (labels_in (items_in e))
  pub pages : keys_of b.pages ≡ keys_of a.pages ++ added_keys nat_eq (keys_of a.pages) (pages_in (items_in e))
  pub names : length b.names ≤ length a.names + length (names_of (e ∷ []))
  pub entries : b.entries ≡ a.entries + 1
  pub total : b.total ≡ a.total + sum_by (λ (item : Item). item.weight) (items_in e)

pub grows : (a : State) (e : Entry) → Grows a (account_after_fresh (account_with_count a) e) e
grows a (Fact fact) = record {
  labels = keys-modules a.limit a.module_limit fact.seconds b fact.items;
  pages = keys-pages a.limit a.module_limit fact.seconds b fact.items;
  names = omega (arith, ap length (names-items b (sightings_in a.limit a.module_limit (Fact fact))), length-append a.names (fact.name ∷ []));
  entries = entries-items b (sightings_in a.limit a.module_limit (Fact fact));
  total = total-items a.limit a.module_limit fact.seconds b fact.items;
}
  where
    b : State
    b = record a { names = a.names ++ fact.name ∷ []; entries = a.entries + 1 }
grows a (PageLimit limit) = record { labels = sym (append-nil (keys_of a.modules)); pages = sym (append-nil (keys_of a.pages)); names = omega arith; entries = refl; total = omega arith }
grows a (Retire boot) = record { labels = sym (append-nil (keys_of a.modules)); pages = sym (append-nil (keys_of a.pages)); names = omega (arith, fewer-kept boot a.names); entries = refl; total = omega arith }
grows a (ModuleLimit limit) = record { labels = sym (append-nil (keys_of a.modules)); pages = sym (append-nil (keys_of a.pages)); names = omega arith; entries = refl; total = omega arith }

names_of-cons : (e : Entry) (es : List Entry) → names_of (e ∷ es) ≡ names_of (e ∷ []) ++ names_of es
names_of-cons (Fact fact) es = refl
names_of-cons (PageLimit limit) es = refl
names_of-cons (Retire boot) es = refl
names_of-cons (ModuleLimit limit) es = refl

-- What a list adds after one new entry.
added_behind : (a b : State) (e : Entry) (later : List Entry) → Grows a b e
    → (record {
      names = names_of (e ∷ later);
      labels = added_keys same_label (keys_of a.modules) (labels_in (items_in e ++ items_of later));
      pages = added_keys nat_eq (keys_of a.pages) (pages_in (items_in e ++ items_of later));
    })
    ≡ then_waits
    (record {
      names = names_of (e ∷ []);
      labels = added_keys same_label (keys_of a.modules) (labels_in (items_in e ++ []));
      pages = added_keys nat_eq (keys_of a.pages) (pages_in (items_in e ++ []));
    })
    (record {
      names = names_of later;
      labels = added_keys same_label (keys_of b.modules) (labels_in (items_of later));
      pages = added_keys nat_eq (keys_of b.pages) (pages_in (items_of later));
    })
added_behind a b e later grown =
    λ i. record {
      names = names_of-cons e later i;
      labels = (ap (added_keys same_label (keys_of a.modules)) (map-append (λ (item : Item). item.label) (items_in e) (items_of later))
          ∙ added-append same_label same_label-exact same_label-refl (keys_of a.modules) (labels_in (items_in e)) (labels_in (items_of later))
          ∙ (λ j. added_keys same_label (keys_of a.modules) (labels_in (sym (append-nil (items_in e)) j)) ++ added_keys same_label (sym grown.labels j) (labels_in (items_of later)))) i;
      pages = (ap (added_keys nat_eq (keys_of a.pages)) (filter_map-append (λ (item : Item). item.page) (items_in e) (items_of later))
          ∙ added-append nat_eq nat_exact nat_own (keys_of a.pages) (pages_in (items_in e)) (pages_in (items_of later))
          ∙ (λ j. added_keys nat_eq (keys_of a.pages) (pages_in (sym (append-nil (items_in e)) j)) ++ added_keys nat_eq (sym grown.pages j) (pages_in (items_of later)))) i;
    }

-- what the new entries of a list add
abbrev pub adds : State → List Entry → Waiting
adds a entries = record {
  names = names_of entries;
  labels = added_keys same_label (keys_of a.modules) (labels_in (items_of entries));
  pages = added_keys nat_eq (keys_of a.pages) (pages_in (items_of entries));
}

pub added_by-cons : (a : State) (e : Entry) (es : List Entry) → added_by a (e ∷ es) ≡ then_waits (added_by a (e ∷ [])) (added_by (account_after a e) es)
added_by-cons a e es = by (is_fresh_in a e)
  where
    by : (b : Bool)
        → adds a (if b then e ∷ fresh_entries_in (if b then account_after_fresh (account_with_count a) e else a) es else fresh_entries_in a es)
        ≡ then_waits (adds a (if b then e ∷ [] else [])) (added_by (if b then account_after_fresh (account_with_count a) e else a) es)
    by true = added_behind a (account_after_fresh (account_with_count a) e) e (fresh_entries_in (account_after_fresh (account_with_count a) e) es) (grows a e)
    by false = refl

-- The numbers with a list of entries are at least the numbers after its first entry with the other entries.
pub record AreAtMost (one other : Numbers) : Type 0 where
  pub names : one.names ≤ other.names
  pub entries : one.entries ≤ other.entries
  pub total : one.total ≤ other.total

abbrev pub with_fresh_ones : State → List Entry → Numbers
with_fresh_ones a entries = record {
  names = length a.names + length (names_of entries);
  entries = a.entries + length entries;
  total = a.total + sum_by (λ (item : Item). item.weight) (items_of entries);
}

pub numbers-cons : (a : State) (e : Entry) (es : List Entry) → AreAtMost (numbers_with (account_after a e) es) (numbers_with a (e ∷ es))
numbers-cons a e es = by (is_fresh_in a e)
  where
    by : (b : Bool)
        → AreAtMost (numbers_with (if b then account_after_fresh (account_with_count a) e else a) es) (with_fresh_ones a (if b then e ∷ fresh_entries_in (if b then account_after_fresh (account_with_count a) e else a) es else fresh_entries_in a es))
    by true =
        let b : State = account_after_fresh (account_with_count a) e in
        let grown : Grows a b e = grows a e in
        record {
          names = omega (arith, grown.names, ap length (names_of-cons e (fresh_entries_in b es)), length-append (names_of (e ∷ [])) (names_of (fresh_entries_in b es)));
          entries = omega (arith, grown.entries);
          total = omega (arith, grown.total, sum_by-append (λ (item : Item). item.weight) (items_in e) (items_of (fresh_entries_in b es)));
        }
    by false = record { names = omega arith; entries = omega arith; total = omega arith }

pub now-within : (a : State) (es : List Entry) → AreWithin (numbers_with a es) → IsWithin a
now-within a es within = record { names = omega (arith, within.names); entries = omega (arith, within.entries); total = omega (arith, within.total) }

pub within-cons : (a : State) (e : Entry) (es : List Entry) → AreWithin (numbers_with a (e ∷ es)) → AreWithin (numbers_with (account_after a e) es)
within-cons a e es within =
    let less : AreAtMost (numbers_with (account_after a e) es) (numbers_with a (e ∷ es)) = numbers-cons a e es in
    record { names = omega (arith, less.names, within.names); entries = omega (arith, less.entries, within.entries); total = omega (arith, less.total, within.total) }

-- There is room after each entry of a list that was reserved.
pub stays-within : (a : State) (es : List Entry) → AreWithin (numbers_with a es) → StaysWithin a es
stays-within a [] within = tt
stays-within a (e ∷ es) within =
    let later : AreWithin (numbers_with (account_after a e) es) = within-cons a e es within in
    (now-within (account_after a e) es later, stays-within (account_after a e) es later)

pub front-within : (a : State) (es more : List Entry) → AreWithin (numbers_with a (es ++ more)) → IsWithin (account_after_all a es)
front-within a [] more within = now-within a more within
front-within a (e ∷ es) more within = front-within (account_after a e) es more (within-cons a e (es ++ more) within)
