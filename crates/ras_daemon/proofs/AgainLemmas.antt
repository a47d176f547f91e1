-- Entries that come again change nothing in an account except the number of its entries.
use Rattle.std.proofs.Common.{◌≡◌, ℕ, ◌≤◌, max, nat_lt, Bool, true, false, not, ◌||◌, ◌&&◌, List, [], ◌∷◌, ◌++◌, refl, sym, ap, ◌∙◌, subst, append-nil, inl, inr, arith, map}
use Rattle.std.specs.Prelude.{◌⊎◌, if◌then◌else◌}
use Rattle.std.specs.List.{AllByRecursion, sum_by}
use Rattle.std.proofs.lemmas.List.Folds.{list_any-append}
use Rattle.page_policy.specs.declared.buckets.Limit.{Limit}
use Rattle.page_policy.specs.Histories.{page_rows_of}
use Rattle.ras_facts.specs.declared.entry.Entry.{Entry}
use Rattle.ras_facts.specs.declared.entry.Entry.TheVariants.{Fact, Limit as PageLimit, Retire, ModuleLimit}
use Rattle.ras_facts.specs.declared.fact.Fact.{Fact as FactOf}
use Rattle.ras_facts.specs.declared.name.Name.{Name}
use Rattle.ras_facts.specs.Steps.NameLemmas.{same_name-exact, same_name-refl}
use Rattle.ras_facts.specs.Names.{same_name}
use Rattle.ras_account.specs.Account.{account_of, kept_names, modules_of, names_of}
use Rattle.ras_account.specs.Fresh.{fresh_entries, is_among, is_fresh_behind, same_limit}
use Rattle.ras_account.specs.History.{History, floor_after, is_retired, limit_after, module_limit_after, names_in, with_entries, with_entry}
use Rattle.ras_account.specs.Sightings.{Sighting, reports_of, sighting_weight, sightings, sightings_in, sightings_since_mark}
use Rattle.ras_daemon.specs.Runs.{CountTheSame, facts_of}
use Rattle.ras_daemon.proofs.HistoryLemmas.{or-true, with_entries-append}

-- ---- histories that are alike

-- two histories are alike, apart from the limits in force
pub record IsLike (one other : History) : Type 0 where
  pub among : (name : Name) → is_among (names_in one) name ≡ is_among (names_in other) name
  pub floor : floor_after one ≡ floor_after other
  pub facts : facts_of (fresh_entries one) ≡ facts_of (fresh_entries other)
  pub items : sightings one ≡ sightings other
  pub since : sightings_since_mark one ≡ sightings_since_mark other

-- two histories are alike, and have the same limits in force
pub record IsSame (one other : History) : Type 0 where
  pub like : IsLike one other
  pub limit : limit_after one ≡ limit_after other
  pub module_limit : module_limit_after one ≡ module_limit_after other

-- the names of entries are the names of their facts
pub names-facts : (es : List Entry) → names_of es ≡ map (λ (fact : FactOf). fact.name) (facts_of es)
names-facts [] = refl
names-facts (Fact fact ∷ es) = ap (λ (ns : List Name). fact.name ∷ ns) (names-facts es)
names-facts (PageLimit limit ∷ es) = names-facts es
names-facts (Retire boot ∷ es) = names-facts es
names-facts (ModuleLimit limit ∷ es) = names-facts es

like-names : (one other : History) → IsLike one other → names_of (fresh_entries one) ≡ names_of (fresh_entries other)
like-names one other like =
    names-facts (fresh_entries one) ∙ ap (map (λ (fact : FactOf). fact.name)) like.facts ∙ sym (names-facts (fresh_entries other))

pub same-counts : (one other : History) → IsSame one other → CountTheSame (account_of one) (account_of other)
same-counts one other same = λ i. record {
  names = kept_names (same.like.floor i) (like-names one other same.like i);
  floor = same.like.floor i;
  limit = same.limit i;
  module_limit = same.module_limit i;
  entries = 0;
  total = sum_by sighting_weight (same.like.items i);
  modules = modules_of (same.like.items i) (same.like.since i);
  pages = page_rows_of (reports_of (same.like.items i));
}

-- ---- one entry more

pub facts_of-append : (xs ys : List Entry) → facts_of (xs ++ ys) ≡ facts_of xs ++ facts_of ys
facts_of-append [] ys = refl
facts_of-append (Fact fact ∷ xs) ys = ap (λ (facts : List FactOf). fact ∷ facts) (facts_of-append xs ys)
facts_of-append (PageLimit limit ∷ xs) ys = facts_of-append xs ys
facts_of-append (Retire boot ∷ xs) ys = facts_of-append xs ys
facts_of-append (ModuleLimit limit ∷ xs) ys = facts_of-append xs ys

facts-one : (b : Bool) (es : List Entry) (e : Entry) → facts_of (if b then es ++ e ∷ [] else es) ≡ facts_of es ++ (if b then facts_of (e ∷ []) else [])
facts-one true es e = facts_of-append es (e ∷ [])
facts-one false es e = sym (append-nil (facts_of es))

facts-more : (h : History) (e : Entry) → facts_of (fresh_entries (with_entry h e)) ≡ facts_of (fresh_entries h) ++ (if is_fresh_behind h e then facts_of (e ∷ []) else [])
facts-more h e = facts-one (is_fresh_behind h e) (fresh_entries h) e

among-more : (names : List Name) (last name : Name) → is_among (names ++ last ∷ []) name ≡ (is_among names name || (same_name name last || false))
among-more names last name = list_any-append (same_name name) names (last ∷ [])

module _ (one other : History) (same : IsSame one other) where
  fresh-same : (e : Entry) → is_fresh_behind one e ≡ is_fresh_behind other e
  fresh-same (Fact fact) = λ i. not (same.like.among fact.name i) && not (is_retired (same.like.floor i) fact.name)
  fresh-same (PageLimit limit) = λ i. not (same_limit limit (same.limit i))
  fresh-same (Retire boot) = λ i. nat_lt (same.like.floor i) boot
  fresh-same (ModuleLimit limit) = λ i. not (same_limit limit (same.module_limit i))

  among-same : (e : Entry) (name : Name) → is_among (names_in (with_entry one e)) name ≡ is_among (names_in (with_entry other e)) name
  among-same (Fact fact) name =
      among-more (names_in one) fact.name name ∙ ap (λ b. b || (same_name name fact.name || false)) (same.like.among name) ∙ sym (among-more (names_in other) fact.name name)
  among-same (PageLimit limit) name = same.like.among name
  among-same (Retire boot) name = same.like.among name
  among-same (ModuleLimit limit) name = same.like.among name

  floor-same : (e : Entry) → floor_after (with_entry one e) ≡ floor_after (with_entry other e)
  floor-same (Fact fact) = same.like.floor
  floor-same (PageLimit limit) = same.like.floor
  floor-same (Retire boot) = ap (λ (floor : ℕ). max floor boot) same.like.floor
  floor-same (ModuleLimit limit) = same.like.floor

  limit-same : (e : Entry) → limit_after (with_entry one e) ≡ limit_after (with_entry other e)
  limit-same (Fact fact) = same.limit
  limit-same (PageLimit limit) = refl
  limit-same (Retire boot) = same.limit
  limit-same (ModuleLimit limit) = same.limit

  module_limit-same : (e : Entry) → module_limit_after (with_entry one e) ≡ module_limit_after (with_entry other e)
  module_limit-same (Fact fact) = same.module_limit
  module_limit-same (PageLimit limit) = same.module_limit
  module_limit-same (Retire boot) = same.module_limit
  module_limit-same (ModuleLimit limit) = refl

  same-entry : (e : Entry) → IsSame (with_entry one e) (with_entry other e)
  same-entry e =
      let fresh : is_fresh_behind one e ≡ is_fresh_behind other e = fresh-same e in record {
        like = record {
          among = among-same e;
          floor = floor-same e;
          facts = facts-more one e ∙ (λ i. same.like.facts i ++ (if fresh i then facts_of (e ∷ []) else [])) ∙ sym (facts-more other e);
          items = λ i. same.like.items i ++ (if fresh i then sightings_in (same.limit i) (same.module_limit i) e else []);
          since = λ i. same.like.since i ++ (if fresh i then sightings_in (same.limit i) (same.module_limit i) e else []);
        };
        limit = limit-same e;
        module_limit = module_limit-same e;
      }

same-entries : (es : List Entry) (one other : History) → IsSame one other → IsSame (with_entries one es) (with_entries other es)
same-entries [] one other same = same
same-entries (e ∷ es) one other same = same-entries es (with_entry one e) (with_entry other e) (same-entry one other same e)

-- ---- entries that a history knows

abbrev IsOld : History → Entry → Type 0
IsOld h (Fact fact) = is_among (names_in h) fact.name ≡ true
IsOld h (PageLimit limit) = Unit {0}
IsOld h (Retire boot) = boot ≤ floor_after h
IsOld h (ModuleLimit limit) = Unit {0}

or-false : (b : Bool) → (b || false) ≡ b
or-false true = refl
or-false false = refl

old-self : (h : History) (e : Entry) → IsOld (with_entry h e) e
old-self h (Fact fact) =
    among-more (names_in h) fact.name fact.name ∙ ap (λ b. is_among (names_in h) fact.name || (b || false)) (same_name-refl fact.name) ∙ or-true (is_among (names_in h) fact.name)
old-self h (PageLimit limit) = tt
old-self h (Retire boot) = omega arith
old-self h (ModuleLimit limit) = tt

old-name : (h : History) (name : Name) (e : Entry) → is_among (names_in h) name ≡ true → is_among (names_in (with_entry h e)) name ≡ true
old-name h name (Fact fact) is = among-more (names_in h) fact.name name ∙ ap (λ b. b || (same_name name fact.name || false)) is
old-name h name (PageLimit limit) is = is
old-name h name (Retire boot) is = is
old-name h name (ModuleLimit limit) is = is

old-boot : (h : History) (boot : ℕ) (e : Entry) → boot ≤ floor_after h → boot ≤ floor_after (with_entry h e)
old-boot h boot (Fact fact) below = below
old-boot h boot (PageLimit limit) below = below
old-boot h boot (Retire other) below = omega arith
old-boot h boot (ModuleLimit limit) below = below

old-entry : (h : History) (e more : Entry) → IsOld h e → IsOld (with_entry h more) e
old-entry h (Fact fact) more old = old-name h fact.name more old
old-entry h (PageLimit limit) more old = tt
old-entry h (Retire boot) more old = old-boot h boot more old
old-entry h (ModuleLimit limit) more old = tt

old-entries : (es : List Entry) (h : History) (e : Entry) → IsOld h e → IsOld (with_entries h es) e
old-entries [] h e old = old
old-entries (more ∷ es) h e old = old-entries es (with_entry h more) e (old-entry h e more old)

old-all : (h : History) (es : List Entry) → AllByRecursion (IsOld (with_entries h es)) es
old-all h [] = tt
old-all h (e ∷ es) = (old-entries es (with_entry h e) e (old-self h e), old-all (with_entry h e) es)

-- ---- entries that keep two histories alike

either-same : {A : Type 0} (b : Bool) (x : A) → (if b then x else x) ≡ x
either-same true x = refl
either-same false x = refl

-- `g` and `h`: whether a name is in one history and in the other; `s`: whether it is the last name
name-known : (g s h : Bool) → g ≡ h → (s ≡ true → h ≡ true) → (g || (s || false)) ≡ h
name-known g true h same known = or-true g ∙ sym (known refl)
name-known g false h same known = or-false g ∙ same

module _ (one other : History) (like : IsLike one other) where
  like-fact : (fact : FactOf) → is_among (names_in other) fact.name ≡ true → IsLike (with_entry one (Fact fact)) other
  like-fact fact old =
      let stale : is_fresh_behind one (Fact fact) ≡ false = ap (λ b. not b && not (is_retired (floor_after one) fact.name)) (like.among fact.name ∙ old) in record {
        among = λ name.
            among-more (names_in one) fact.name name
            ∙ name-known (is_among (names_in one) name) (same_name name fact.name) (is_among (names_in other) name) (like.among name)
            (λ is. subst (λ n. is_among (names_in other) n ≡ true) (sym (same_name-exact name fact.name is)) old);
        floor = like.floor;
        facts = facts-more one (Fact fact)
            ∙ ap (λ b. facts_of (fresh_entries one) ++ (if b then fact ∷ [] else [])) stale
            ∙ append-nil (facts_of (fresh_entries one)) ∙ like.facts;
        items = ap (λ b. sightings one ++ (if b then sightings_in (limit_after one) (module_limit_after one) (Fact fact) else [])) stale ∙ append-nil (sightings one) ∙ like.items;
        since = ap (λ b. sightings_since_mark one ++ (if b then sightings_in (limit_after one) (module_limit_after one) (Fact fact) else [])) stale
            ∙ append-nil (sightings_since_mark one) ∙ like.since;
      }

  -- an entry that brings no name and no item keeps two histories alike
  like-quiet : (e : Entry) → facts_of (e ∷ []) ≡ [] → sightings_in (limit_after one) (module_limit_after one) e ≡ [] → names_in (with_entry one e) ≡ names_in one
      → floor_after (with_entry one e) ≡ floor_after other → IsLike (with_entry one e) other
  like-quiet e factless itemless names floor =
      let none : (if is_fresh_behind one e then sightings_in (limit_after one) (module_limit_after one) e else []) ≡ [] =
      ap (λ (ss : List Sighting). if is_fresh_behind one e then ss else []) itemless ∙ either-same (is_fresh_behind one e) [] in record {
        among = λ name. ap (λ (ns : List Name). is_among ns name) names ∙ like.among name;
        floor = floor;
        facts = facts-more one e
            ∙ ap (λ (facts : List FactOf). facts_of (fresh_entries one) ++ facts) (ap (λ (facts : List FactOf). if is_fresh_behind one e then facts else []) factless ∙ either-same (is_fresh_behind one e) [])
            ∙ append-nil (facts_of (fresh_entries one)) ∙ like.facts;
        items = ap (λ (ss : List Sighting). sightings one ++ ss) none ∙ append-nil (sightings one) ∙ like.items;
        since = ap (λ (ss : List Sighting). sightings_since_mark one ++ ss) none ∙ append-nil (sightings_since_mark one) ∙ like.since;
      }

  like-old : (e : Entry) → IsOld other e → IsLike (with_entry one e) other
  like-old (Fact fact) old = like-fact fact old
  like-old (PageLimit limit) old = like-quiet (PageLimit limit) refl refl refl like.floor
  like-old (Retire boot) old = like-quiet (Retire boot) refl refl refl (let floor : floor_after one ≡ floor_after other = like.floor in omega arith)
  like-old (ModuleLimit limit) old = like-quiet (ModuleLimit limit) refl refl refl like.floor

like-olds : (es : List Entry) (one other : History) → IsLike one other → AllByRecursion (IsOld other) es → IsLike (with_entries one es) other
like-olds [] one other like old = like
like-olds (e ∷ es) one other like old = like-olds es (with_entry one e) other (like-old one other like e old.0) old.1

-- ---- the limits in force after entries: the entries' last ones, or else the earlier ones

module _ (limit_of : History → Limit) (step : (e : Entry) → ((g h : History) → limit_of (with_entry g e) ≡ limit_of (with_entry h e)) ⊎ ((g : History) → limit_of (with_entry g e) ≡ limit_of g)) where
  settled : (es : List Entry) → ((g h : History) → limit_of (with_entries g es) ≡ limit_of (with_entries h es)) ⊎ ((g : History) → limit_of (with_entries g es) ≡ limit_of g)
  settled [] = inr (λ g. refl)
  settled (e ∷ es) = by (settled es) (step e)
    where
      by : ((g h : History) → limit_of (with_entries g es) ≡ limit_of (with_entries h es)) ⊎ ((g : History) → limit_of (with_entries g es) ≡ limit_of g)
          → ((g h : History) → limit_of (with_entry g e) ≡ limit_of (with_entry h e)) ⊎ ((g : History) → limit_of (with_entry g e) ≡ limit_of g)
          → ((g h : History) → limit_of (with_entries g (e ∷ es)) ≡ limit_of (with_entries h (e ∷ es))) ⊎ ((g : History) → limit_of (with_entries g (e ∷ es)) ≡ limit_of g)
      by (inl sets) first = inl (λ g h. sets (with_entry g e) (with_entry h e))
      by (inr keeps) (inl sets) = inl (λ g h. keeps (with_entry g e) ∙ sets g h ∙ sym (keeps (with_entry h e)))
      by (inr keeps) (inr stays) = inr (λ g. keeps (with_entry g e) ∙ stays g)

  settled-again : (h : History) (es : List Entry) → limit_of (with_entries (with_entries h es) es) ≡ limit_of (with_entries h es)
  settled-again h es = by (settled es)
    where
      by : ((g k : History) → limit_of (with_entries g es) ≡ limit_of (with_entries k es)) ⊎ ((g : History) → limit_of (with_entries g es) ≡ limit_of g)
          → limit_of (with_entries (with_entries h es) es) ≡ limit_of (with_entries h es)
      by (inl sets) = sets (with_entries h es) h
      by (inr keeps) = keeps (with_entries h es)

limit-step : (e : Entry) → ((g h : History) → limit_after (with_entry g e) ≡ limit_after (with_entry h e)) ⊎ ((g : History) → limit_after (with_entry g e) ≡ limit_after g)
limit-step (Fact fact) = inr (λ g. refl)
limit-step (PageLimit limit) = inl (λ g h. refl)
limit-step (Retire boot) = inr (λ g. refl)
limit-step (ModuleLimit limit) = inr (λ g. refl)

module_limit-step : (e : Entry) → ((g h : History) → module_limit_after (with_entry g e) ≡ module_limit_after (with_entry h e)) ⊎ ((g : History) → module_limit_after (with_entry g e) ≡ module_limit_after g)
module_limit-step (Fact fact) = inr (λ g. refl)
module_limit-step (PageLimit limit) = inr (λ g. refl)
module_limit-step (Retire boot) = inr (λ g. refl)
module_limit-step (ModuleLimit limit) = inl (λ g h. refl)

-- ---- entries that come again, and others after them

same-again : (h : History) (es : List Entry) → IsSame (with_entries (with_entries h es) es) (with_entries h es)
same-again h es = record {
  like = like-olds es (with_entries h es) (with_entries h es)
      (record { among = λ name. refl; floor = refl; facts = refl; items = refl; since = refl }) (old-all h es);
  limit = settled-again limit_after limit-step h es;
  module_limit = settled-again module_limit_after module_limit-step h es;
}

pub counts-again : (h : History) (xs ys : List Entry) → CountTheSame (account_of (with_entries (with_entries h xs) (xs ++ ys))) (account_of (with_entries h (xs ++ ys)))
counts-again h xs ys =
    subst (λ (g : History). CountTheSame (account_of g) (account_of (with_entries h (xs ++ ys)))) (sym (with_entries-append (with_entries h xs) xs ys))
    (subst (λ (g : History). CountTheSame (account_of (with_entries (with_entries (with_entries h xs) xs) ys)) (account_of g)) (sym (with_entries-append h xs ys))
    (same-counts (with_entries (with_entries (with_entries h xs) xs) ys) (with_entries (with_entries h xs) ys)
    (same-entries ys (with_entries (with_entries h xs) xs) (with_entries h xs) (same-again h xs))))

-- if some entries come, and then all entries, the new facts are the new facts of all entries
pub facts-again : (h : History) (xs ys : List Entry) → facts_of (fresh_entries (with_entries (with_entries h xs) (xs ++ ys))) ≡ facts_of (fresh_entries (with_entries h (xs ++ ys)))
facts-again h xs ys =
    ap (λ (g : History). facts_of (fresh_entries g)) (with_entries-append (with_entries h xs) xs ys)
    ∙ (same-entries ys (with_entries (with_entries h xs) xs) (with_entries h xs) (same-again h xs)).like.facts
    ∙ ap (λ (g : History). facts_of (fresh_entries g)) (sym (with_entries-append h xs ys))
