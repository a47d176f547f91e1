-- Recording entries: what one more item and one more entry changes.
use Rattle.std.proofs.Common.{◌≡◌, ◌<◌, ◌+◌, ℕ, Bool, true, false, not, ◌||◌, min, max, nat_lt, if◌then◌else◌, List, [], ◌∷◌, ◌++◌, refl, sym, ap, subst, ◌∙◌, arith, append_assoc, append-nil, length-append, true≢false}
use Rattle.std.specs.List.{list_any}
use Rattle.std.specs.Map.{keys_of}
use Rattle.std.proofs.lemmas.Bool.Decides.{nat_tests}
use Rattle.std.proofs.lemmas.List.{map-append}
use Rattle.std.proofs.lemmas.List.Concat.{flat_map-append}
use Rattle.std.proofs.lemmas.List.Elements.{filter_map-append}
use Rattle.std.proofs.lemmas.List.Folds.{list_any-append}
use Rattle.std.proofs.lemmas.List.Sums.{sum_by-append, fold-append}
use Rattle.dimm_topology.specs.Labels.{same_label}
use Rattle.row_tables.specs.Tables.{added_keys}
use Rattle.row_tables.proofs.TableLemmas.{added-append}
use Rattle.ras_facts.specs.declared.name.Name.{Name}
use Rattle.ras_facts.specs.declared.items.Item.{Item}
use Rattle.ras_facts.specs.declared.fact.Fact.{Fact as Told}
use Rattle.ras_facts.specs.declared.entry.Entry.{Entry}
use Rattle.ras_facts.specs.declared.entry.Entry.TheVariants.{Fact, Limit as PageLimit, Retire, ModuleLimit}
use Rattle.ras_facts.specs.Names.{same_name}
use Rattle.ras_facts.specs.Entries.{items_in}
use Rattle.ras_account.specs.declared.in_force.InForce.{InForce}
use Rattle.ras_account.specs.declared.reserve.Tally.{Tally}
use Rattle.ras_account.specs.History.{is_retired}
use Rattle.ras_account.specs.Fresh.{is_among}
use Rattle.ras_account.specs.Sightings.{sightings_in}
use Rattle.ras_account.specs.Account.{State, names_of, kept_names}
use Rattle.ras_account.specs.Continued.{knows, is_fresh_in, account_after_fresh, account_with_count, account_after, account_after_all}
use Rattle.ras_account.specs.Numbers.{fresh_entries_in, items_of}
use Rattle.ras_account.specs.View.{View, labels_in, pages_in}
use Rattle.ras_account.specs.Steps.Parts.{ModuleList, all_labels}
use Rattle.ras_account.specs.Steps.Taking.{is_news, weights_in}
use Rattle.ras_account.specs.Tallies.{greatest, Tallies}
use Rattle.ras_account.specs.Steps.Reserving.{in_force_after, NotesItems, with_fresh}
use Rattle.ras_account.proofs.KeyLemmas.{same_label-exact, same_label-refl}
use Rattle.ras_account.proofs.FreshLemmas.{is_retired-max, among_kept, names_of-append}
use Rattle.ras_account.proofs.ItemLemmas.{names-items, floor-items, limit-items, module_limit-items}

-- No items, and one more item.
pub notes-none : (modules : ModuleList) (tally : Tally) → NotesItems modules modules tally tally []
notes-none modules tally = record {
  rows = refl;
  labels = sym (append-nil modules.waiting);
  pages = sym (append-nil tally.pages.items);
  in_force = refl;
  entries = refl;
  total = omega arith;
}

pub notes-more : (modules modules' modules'' : ModuleList) (tally tally' tally'' : Tally) (done : List Item) (item : Item)
    → NotesItems modules modules' tally tally' done → NotesItems modules' modules'' tally' tally'' (item ∷ []) → NotesItems modules modules'' tally tally'' (done ++ item ∷ [])
notes-more modules modules' modules'' tally tally' tally'' done item one other = record {
  rows = other.rows ∙ one.rows;
  labels =
      other.labels
      ∙ (λ i. one.labels i ++ added_keys same_label (keys i) (item.label ∷ []))
      ∙ append_assoc modules.waiting (added_keys same_label (all_labels modules) (labels_in done)) (added_keys same_label (all_labels modules ++ added_keys same_label (all_labels modules) (labels_in done)) (item.label ∷ []))
      ∙ ap (λ ls. modules.waiting ++ ls) (sym (added-append same_label same_label-exact same_label-refl (all_labels modules) (labels_in done) (item.label ∷ [])))
      ∙ ap (λ ls. modules.waiting ++ added_keys same_label (all_labels modules) ls) (sym (map-append (λ (i : Item). i.label) done (item ∷ [])));
  pages =
      other.pages
      ∙ ap (λ ps. ps ++ pages_in (item ∷ [])) one.pages
      ∙ append_assoc tally.pages.items (pages_in done) (pages_in (item ∷ []))
      ∙ ap (λ ps. tally.pages.items ++ ps) (sym (filter_map-append (λ (i : Item). i.page) done (item ∷ [])));
  in_force = other.in_force ∙ one.in_force;
  entries = other.entries ∙ one.entries;
  total = omega (arith, one.total, other.total, sum_by-append (λ (i : Item). i.weight) done (item ∷ []));
}
  where
    keys : all_labels modules' ≡ all_labels modules ++ added_keys same_label (all_labels modules) (labels_in done)
    keys = (λ i. keys_of (one.rows i) ++ one.labels i) ∙ sym (append_assoc (keys_of modules.rows) modules.waiting (added_keys same_label (all_labels modules) (labels_in done)))

-- The items, the labels and the pages of entries with one more entry.
items-more : (fresh : List Entry) (e : Entry) → items_of (fresh ++ e ∷ []) ≡ items_of fresh ++ items_in e
items-more fresh e = flat_map-append items_in fresh (e ∷ []) ∙ ap (λ is. items_of fresh ++ is) (append-nil (items_in e))

module _ (a : State) (fresh : List Entry) (e : Entry) where
  labels-more : added_keys same_label (keys_of a.modules) (labels_in (items_of (fresh ++ e ∷ [])))
      ≡ added_keys same_label (keys_of a.modules) (labels_in (items_of fresh))
      ++ added_keys same_label (keys_of a.modules ++ added_keys same_label (keys_of a.modules) (labels_in (items_of fresh))) (labels_in (items_in e))
  labels-more =
      ap (added_keys same_label (keys_of a.modules)) (ap labels_in (items-more fresh e) ∙ map-append (λ (i : Item). i.label) (items_of fresh) (items_in e))
      ∙ added-append same_label same_label-exact same_label-refl (keys_of a.modules) (labels_in (items_of fresh)) (labels_in (items_in e))

  pages-are : pages_in (items_of (fresh ++ e ∷ [])) ≡ pages_in (items_of fresh) ++ pages_in (items_in e)
  pages-are = ap pages_in (items-more fresh e) ∙ filter_map-append (λ (i : Item). i.page) (items_of fresh) (items_in e)

  weights-are : weights_in (items_of (fresh ++ e ∷ [])) ≡ weights_in (items_of fresh) + weights_in (items_in e)
  weights-are = ap weights_in (items-more fresh e) ∙ sum_by-append (λ (i : Item). i.weight) (items_of fresh) (items_in e)

-- f and g: whether a name is among two lists; r: whether it is retired; s: whether it is the last;
-- q: whether it is retired by a higher floor
either-more : (f g s r : Bool) → (f || r) ≡ (g || r) → ((f || (s || false)) || r) ≡ ((g || (s || false)) || r)
either-more true true s r ih = refl
either-more false false s r ih = refl
either-more true false true r ih = refl
either-more true false false true ih = refl
either-more true false false false ih = absurd (true≢false ih)
either-more false true true r ih = refl
either-more false true false true ih = refl
either-more false true false false ih = absurd (true≢false (sym ih))

either-lower : (f g r q : Bool) → (f || r) ≡ (g || r) → (f || (r || q)) ≡ (g || (r || q))
either-lower true true r q ih = refl
either-lower false false r q ih = refl
either-lower true false true q ih = refl
either-lower true false false q ih = absurd (true≢false ih)
either-lower false true true q ih = refl
either-lower false true false q ih = absurd (true≢false (sym ih))

-- Whether an entry is new after others, and the tally with it.
pub record Tells (v : View) (b : State) (fresh : List Entry) (tally : Tally) (news : Bool) (e : Entry) : Type 0 where
  pub judged : news ≡ is_fresh_in b e
  pub noted : Tallies v (account_after b e) (with_fresh b fresh e) tally

absent : (c : Bool) → true ≡ not c → c ≡ false
absent true h = absurd (true≢false h)
absent false h = refl

max-of : (floor boot : ℕ) → nat_lt floor boot ≡ true → max floor boot ≡ boot
max-of floor boot is = let below : floor < boot = grind (arith, nat_tests) in omega arith

module _ (v : View) (b : State) (fresh : List Entry) (tally : Tally) (so_far : Tallies v b fresh tally) where
  abbrev pub all : List Name
  all = v.state.names ++ v.waiting.names

  -- An entry that isn't new, and an entry that is.
  goes_on : (e : Entry) (news : Bool) (v' : View) (tally' : Tally) → news ≡ is_fresh_in b e
      → Tallies v' (if news then account_after_fresh (account_with_count b) e else b) (if news then fresh ++ e ∷ [] else fresh) tally' → Tells v' b fresh tally' news e
  goes_on e news v' tally' is later = record {
    judged = is;
    noted = subst (λ f. Tallies v' (if f then account_after_fresh (account_with_count b) e else b) (if f then fresh ++ e ∷ [] else fresh) tally') is later;
  }

  -- Whether an entry is new, by what is recorded.
  news-is : (e : Entry) → is_news tally.in_force.floor tally.in_force.limit tally.in_force.module_limit e ≡ is_news b.floor b.limit b.module_limit e
  news-is e = λ i. is_news (so_far.floor i) (so_far.limit i) (so_far.module_limit i) e

  fresh-fact : (fact : Told) → true ≡ is_news tally.in_force.floor tally.in_force.limit tally.in_force.module_limit (Fact fact) → is_fresh_in b (Fact fact) ≡ not (list_any (same_name fact.name) all)
  fresh-fact fact kept =
      ap not (so_far.known fact.name ∙ ap (λ r. is_among all fact.name || r) (absent _ kept) ∙ unsaid (is_among all fact.name))
    where
      unsaid : (b : Bool) → (b || false) ≡ b
      unsaid true = refl
      unsaid false = refl

  -- A fact whose name is known.
  pub tells-known : (fact : Told) (names : List Name) → true ≡ is_news tally.in_force.floor tally.in_force.limit tally.in_force.module_limit (Fact fact)
      → names ≡ v.waiting.names ++ added_keys same_name all (fact.name ∷ []) → false ≡ not (list_any (same_name fact.name) all)
      → Tells (record v { waiting = record v.waiting { names = names } }) b fresh tally false (Fact fact)
  tells-known fact names kept waiting known =
      subst (λ (ns : List Name). Tells (record v { waiting = record v.waiting { names = ns } }) b fresh tally false (Fact fact))
      (sym (waiting ∙ ap (λ c. v.waiting.names ++ (if c then [] else fact.name ∷ [])) (there _ known) ∙ append-nil v.waiting.names))
      (goes_on (Fact fact) false v tally (known ∙ sym (fresh-fact fact kept)) so_far)
    where
      there : (c : Bool) → false ≡ not c → c ≡ true
      there true h = refl
      there false h = absurd (true≢false (sym h))

  -- A fact whose name is new.
  pub tells-fact : (fact : Told) (names : List Name) (modules : ModuleList) (noted : Tally) (n : ℕ) (now : InForce) → true ≡ is_news tally.in_force.floor tally.in_force.limit tally.in_force.module_limit (Fact fact)
      → names ≡ v.waiting.names ++ added_keys same_name all (fact.name ∷ []) → true ≡ not (list_any (same_name fact.name) all)
      → NotesItems (record { rows = v.state.modules; waiting = v.waiting.labels }) modules tally noted fact.items
      → min n greatest ≡ min (noted.entries + 1) greatest → now ≡ noted.in_force
      → Tells (record v { waiting = record v.waiting { names = names; labels = modules.waiting } }) b fresh (record noted { entries = n; in_force = now }) true (Fact fact)
  tells-fact fact names modules noted n now kept waiting new items count force =
      goes_on (Fact fact) true _ (record noted { entries = n; in_force = now }) (new ∙ sym (fresh-fact fact kept)) (record {
        names = more ∙ ap (λ ns. ns ++ fact.name ∷ []) so_far.names ∙ sym (names_of-append fresh (Fact fact ∷ []));
        labels =
            items.labels
            ∙ (λ i. so_far.labels i ++ added_keys same_label (keys_of v.state.modules ++ so_far.labels i) (labels_in fact.items))
            ∙ sym (labels-more v.state fresh (Fact fact));
        none = so_far.none;
        pages = items.pages ∙ ap (λ ps. ps ++ pages_in fact.items) so_far.pages ∙ sym (pages-are v.state fresh (Fact fact));
        known = knows_more;
        floor = floors ∙ so_far.floor ∙ sym (floor-items later (sightings_in b.limit b.module_limit (Fact fact)));
        limit = ap (λ (f : InForce). f.limit) in_force ∙ so_far.limit ∙ sym (limit-items later (sightings_in b.limit b.module_limit (Fact fact)));
        module_limit = ap (λ (f : InForce). f.module_limit) in_force ∙ so_far.module_limit ∙ sym (module_limit-items later (sightings_in b.limit b.module_limit (Fact fact)));
        entries = omega (arith, items.entries, count, so_far.entries, length-append fresh (Fact fact ∷ []));
        total = omega (arith, items.total, so_far.total, weights-are v.state fresh (Fact fact));
      })
    where
      later : State
      later = record b { names = b.names ++ fact.name ∷ []; entries = b.entries + 1 }

      more : names ≡ v.waiting.names ++ fact.name ∷ []
      more = waiting ∙ ap (λ c. v.waiting.names ++ (if c then [] else fact.name ∷ [])) (absent _ new)

      in_force : now ≡ tally.in_force
      in_force = force ∙ items.in_force

      floors : now.floor ≡ tally.in_force.floor
      floors = ap (λ (f : InForce). f.floor) in_force

      all-more : v.state.names ++ names ≡ all ++ fact.name ∷ []
      all-more = ap (λ ns. v.state.names ++ ns) more ∙ sym (append_assoc v.state.names v.waiting.names (fact.name ∷ []))

      knows_more : (name : Name) → knows (account_after_fresh (account_with_count b) (Fact fact)) name ≡ (is_among (v.state.names ++ names) name || is_retired now.floor name)
      knows_more name =
          (λ i. is_among (names-items later (sightings_in b.limit b.module_limit (Fact fact)) i) name || is_retired (floor-items later (sightings_in b.limit b.module_limit (Fact fact)) i) name)
          ∙ ap (λ c. c || is_retired b.floor name) (list_any-append (same_name name) b.names (fact.name ∷ []))
          ∙ either-more (is_among b.names name) (is_among all name) (same_name name fact.name) (is_retired b.floor name) (so_far.known name ∙ ap (λ f. is_among all name || is_retired f name) so_far.floor)
          ∙ ap (λ c. c || is_retired b.floor name) (sym (list_any-append (same_name name) all (fact.name ∷ [])))
          ∙ (λ i. is_among (sym all-more i) name || is_retired ((sym so_far.floor ∙ sym floors) i) name)

  -- An entry that sets a limit or the floor.
  module _ (n : ℕ) (count : min n greatest ≡ min (tally.entries + 1) greatest) where
    -- The lists and the numbers stay unchanged.
    stays : (e : Entry) (now : InForce) → true ≡ is_fresh_in b e → items_in e ≡ [] → names_of (e ∷ []) ≡ []
        → ((name : Name) → knows (account_after_fresh (account_with_count b) e) name ≡ (is_among all name || is_retired now.floor name))
        → now.floor ≡ (account_after_fresh (account_with_count b) e).floor → now.limit ≡ (account_after_fresh (account_with_count b) e).limit → now.module_limit ≡ (account_after_fresh (account_with_count b) e).module_limit
        → Tells v b fresh (record tally { entries = n; in_force = now }) true e
    stays e now is none unnamed known floor limit module_limit = goes_on e true v _ is (record {
      names = so_far.names ∙ sym (names_of-append fresh (e ∷ []) ∙ ap (λ ns. names_of fresh ++ ns) unnamed ∙ append-nil (names_of fresh));
      labels = so_far.labels ∙ ap (λ is. added_keys same_label (keys_of v.state.modules) (labels_in is)) (sym same);
      none = so_far.none;
      pages = so_far.pages ∙ ap pages_in (sym same);
      known = known;
      floor = floor;
      limit = limit;
      module_limit = module_limit;
      entries = omega (arith, count, so_far.entries, length-append fresh (e ∷ []));
      total = so_far.total ∙ ap (λ is. min (v.state.total + weights_in is) greatest) (sym same);
    })
      where
        same : items_of (fresh ++ e ∷ []) ≡ items_of fresh
        same = items-more fresh e ∙ ap (λ is. items_of fresh ++ is) none ∙ append-nil (items_of fresh)

    pub tells-setting : (e : Entry) (now : InForce) → ((fact : Told) → e ≡ Fact fact → ⊥)
        → true ≡ is_news tally.in_force.floor tally.in_force.limit tally.in_force.module_limit e → now ≡ in_force_after tally.in_force e
        → Tells v b fresh (record tally { entries = n; in_force = now }) true e
    tells-setting e now other news is =
        subst (λ f. Tells v b fresh (record tally { entries = n; in_force = f }) true e) (sym is) (by e other (news ∙ news-is e))
      where
        by : (e : Entry) → ((fact : Told) → e ≡ Fact fact → ⊥) → true ≡ is_news b.floor b.limit b.module_limit e
            → Tells v b fresh (record tally { entries = n; in_force = in_force_after tally.in_force e }) true e
        by (Fact fact) other fresh_now = absurd (other fact refl)
        by (PageLimit limit) other fresh_now = stays (PageLimit limit) _ fresh_now refl refl so_far.known so_far.floor refl so_far.module_limit
        by (ModuleLimit limit) other fresh_now = stays (ModuleLimit limit) _ fresh_now refl refl so_far.known so_far.floor so_far.limit refl
        by (Retire boot) other fresh_now = stays (Retire boot) _ fresh_now refl refl known refl so_far.limit so_far.module_limit
          where
            known : (name : Name) → (is_among (kept_names boot b.names) name || is_retired boot name) ≡ (is_among all name || is_retired boot name)
            known name =
                among_kept boot b.names name
                ∙ ap (λ f. is_among b.names name || is_retired f name) (sym (max-of b.floor boot (sym fresh_now)))
                ∙ ap (λ r. is_among b.names name || r) (is_retired-max b.floor boot name)
                ∙ either-lower (is_among b.names name) (is_among all name) (is_retired b.floor name) (is_retired boot name) (so_far.known name ∙ ap (λ f. is_among all name || is_retired f name) so_far.floor)
                ∙ ap (λ r. is_among all name || r) (sym (is_retired-max b.floor boot name))
                ∙ ap (λ f. is_among all name || is_retired f name) (max-of b.floor boot (sym fresh_now))

  -- An entry that is_news rejects isn't new.
  pub tells-old : (e : Entry) → false ≡ is_news tally.in_force.floor tally.in_force.limit tally.in_force.module_limit e → Tells v b fresh tally false e
  tells-old e old = goes_on e false v tally (stale e (old ∙ news-is e)) so_far
    where
      stale : (e : Entry) → false ≡ is_news b.floor b.limit b.module_limit e → false ≡ is_fresh_in b e
      stale (Fact fact) is = by (is_among b.names fact.name) (is_retired b.floor fact.name) is
        where
          by : (m r : Bool) → false ≡ not r → false ≡ not (m || r)
          by true r h = refl
          by false r h = h
      stale (PageLimit limit) is = is
      stale (Retire boot) is = is
      stale (ModuleLimit limit) is = is

-- A list with one more entry.
pub fresh-snoc : (a : State) (done : List Entry) (e : Entry) → fresh_entries_in a (done ++ e ∷ []) ≡ with_fresh (account_after_all a done) (fresh_entries_in a done) e
fresh-snoc a [] e = by (is_fresh_in a e)
  where
    by : (b : Bool) → (if b then e ∷ [] else []) ≡ (if b then [] ++ e ∷ [] else [])
    by true = refl
    by false = refl
fresh-snoc a (d ∷ done) e = by (is_fresh_in a d) (fresh-snoc (account_after_fresh (account_with_count a) d) done e) (fresh-snoc a done e)
  where
    pushed : (c : Bool) (fs : List Entry) → d ∷ (if c then fs ++ e ∷ [] else fs) ≡ (if c then (d ∷ fs) ++ e ∷ [] else d ∷ fs)
    pushed true fs = refl
    pushed false fs = refl

    by : (b : Bool)
        → fresh_entries_in (account_after_fresh (account_with_count a) d) (done ++ e ∷ []) ≡ with_fresh (account_after_all (account_after_fresh (account_with_count a) d) done) (fresh_entries_in (account_after_fresh (account_with_count a) d) done) e
        → fresh_entries_in a (done ++ e ∷ []) ≡ with_fresh (account_after_all a done) (fresh_entries_in a done) e
        → (if b then d ∷ fresh_entries_in (if b then account_after_fresh (account_with_count a) d else a) (done ++ e ∷ []) else fresh_entries_in a (done ++ e ∷ []))
        ≡ with_fresh (account_after_all (if b then account_after_fresh (account_with_count a) d else a) done) (if b then d ∷ fresh_entries_in (if b then account_after_fresh (account_with_count a) d else a) done else fresh_entries_in a done) e
    by true one other =
        ap (λ fs. d ∷ fs) one
        ∙ pushed (is_fresh_in (account_after_all (account_after_fresh (account_with_count a) d) done) e) (fresh_entries_in (account_after_fresh (account_with_count a) d) done)
    by false one other = other

pub after-snoc : (a : State) (done : List Entry) (e : Entry) → account_after_all a (done ++ e ∷ []) ≡ account_after (account_after_all a done) e
after-snoc a done e = fold-append account_after a done (e ∷ [])
