-- The whole pass over the entries of a tally: at its beginning, after one more entry, and at its end.
use Rattle.std.proofs.Common.{◌≡◌, ◌<◌, ◌≤◌, ◌+◌, ℕ, Bool, true, false, not, ◌||◌, min, List, [], ◌∷◌, ◌++◌, length, refl, sym, ap, subst, ◌∙◌, arith, append-nil, length-append}
use Rattle.std.specs.List.{list_any}
use Rattle.std.proofs.lemmas.Bool.Decides.{nat_tests}
use Rattle.dimm_topology.specs.Labels.{Bytes}
use Rattle.row_tables.specs.Tables.{added_keys}
use Rattle.ras_facts.specs.declared.name.Name.{Name}
use Rattle.ras_facts.specs.declared.fact.Fact.{Fact as Told}
use Rattle.ras_facts.specs.declared.entry.Entry.{Entry}
use Rattle.ras_facts.specs.declared.entry.Entry.TheVariants.{Fact}
use Rattle.ras_facts.specs.Names.{same_name}
use Rattle.ras_account.specs.declared.limits.TheConstants.{MOST_NAMES, MOST_ENTRIES, MOST_TOTAL}
use Rattle.ras_account.specs.declared.in_force.InForce.{InForce}
use Rattle.ras_account.specs.declared.reserve.Tally.{Tally}
use Rattle.ras_account.specs.Fresh.{is_among}
use Rattle.ras_account.specs.History.{is_retired}
use Rattle.ras_account.specs.Account.{State, names_of}
use Rattle.ras_account.specs.Modules.{Module}
use Rattle.ras_account.specs.Continued.{is_fresh_in, account_after, account_after_all}
use Rattle.ras_account.specs.Numbers.{fresh_entries_in, numbers_with, AreWithin, are_past}
use Rattle.ras_account.specs.View.{View, Waiting, nothing}
use Rattle.ras_account.specs.Tallies.{greatest, Tallies, IsTallyOf}
use Rattle.ras_account.specs.Steps.Parts.{NameList, ModuleList}
use Rattle.ras_account.specs.Steps.Taking.{is_news}
use Rattle.ras_account.specs.Steps.Reserving.{in_force_after, NotesItems}
use Rattle.ras_account.proofs.ReserveLemmas.{Tells, tells-old, tells-known, tells-fact, tells-setting, fresh-snoc, after-snoc}

-- Nothing is reserved, and a tally has what is in force and the numbers of the account.
pub tally-none : (a : State) (tally : Tally) → tally.in_force ≡ record { floor = a.floor; limit = a.limit; module_limit = a.module_limit }
    → tally.entries ≡ a.entries → tally.total ≡ a.total → tally.pages.items ≡ [] → IsTallyOf (record { state = a; waiting = nothing }) tally []
tally-none a tally force entries total none = record {
  names = refl;
  labels = refl;
  none = refl;
  pages = none;
  known = λ name. (λ i. is_among (sym (append-nil a.names) i) name || is_retired (sym force i).floor name);
  floor = ap (λ (f : InForce). f.floor) force;
  limit = ap (λ (f : InForce). f.limit) force;
  module_limit = ap (λ (f : InForce). f.module_limit) force;
  entries = omega (arith, entries);
  total = omega (arith, total);
}

-- One more entry after the entries of a tally: whether it is new, and the tally with it.
module _ (a : State) (w : Waiting) (v : View) (same : record { state = a; waiting = w } ≡ v) (tally : Tally) (before : List Entry) (so_far : IsTallyOf v tally before) (e : Entry) where
  abbrev here : View
  here = record { state = a; waiting = w }

  abbrev pub Judged : View → Tally → Bool → Type 0
  Judged v' tally' news = (news ≡ is_fresh_in (account_after_all v.state before) e) × IsTallyOf v' tally' (before ++ e ∷ [])

  from_here : IsTallyOf here tally before
  from_here = subst (λ x. IsTallyOf x tally before) (sym same) so_far

  more : (w' : Waiting) (tally' : Tally) (news : Bool) (names : List Name) (modules : List (Bytes × Module)) → names ≡ a.names → modules ≡ a.modules
      → Tells (record { state = a; waiting = w' }) (account_after_all a before) (fresh_entries_in a before) tally' news e
      → Judged (record { state = record a { names = names; modules = modules }; waiting = w' }) tally' news
  more w' tally' news names modules held rows told = (
    told.judged ∙ ap (λ (x : View). is_fresh_in (account_after_all x.state before) e) same,
    subst (λ s. IsTallyOf (record { state = s; waiting = w' }) tally' (before ++ e ∷ [])) (λ i. record a { names = sym held i; modules = sym rows i })
        (subst (λ b. Tallies (record { state = a; waiting = w' }) b (fresh_entries_in a (before ++ e ∷ [])) tally') (sym (after-snoc a before e))
        (subst (λ fresh. Tallies (record { state = a; waiting = w' }) (account_after (account_after_all a before) e) fresh tally') (sym (fresh-snoc a before e)) told.noted)),
  )

  pub judged-old : false ≡ is_news tally.in_force.floor tally.in_force.limit tally.in_force.module_limit e → Judged here tally false
  judged-old old = more w tally false a.names a.modules refl refl (tells-old here (account_after_all a before) (fresh_entries_in a before) tally from_here e old)

  module _ (news : true ≡ is_news tally.in_force.floor tally.in_force.limit tally.in_force.module_limit e) where
    pub judged-setting : (n : ℕ) (now : InForce) → ((fact : Told) → e ≡ Fact fact → ⊥) → min n greatest ≡ min (tally.entries + 1) greatest → now ≡ in_force_after tally.in_force e
        → Judged here (record tally { entries = n; in_force = now }) true
    judged-setting n now other count force =
        more w _ true a.names a.modules refl refl (tells-setting here (account_after_all a before) (fresh_entries_in a before) tally from_here n count e now other news force)

    module _ (fact : Told) (is : e ≡ Fact fact) (names : NameList) (held : names.held ≡ a.names) (waits : names.waiting ≡ w.names ++ added_keys same_name (a.names ++ w.names) (fact.name ∷ [])) where
      news-fact : true ≡ is_news tally.in_force.floor tally.in_force.limit tally.in_force.module_limit (Fact fact)
      news-fact = news ∙ ap (is_news tally.in_force.floor tally.in_force.limit tally.in_force.module_limit) is

      pub judged-known : false ≡ not (list_any (same_name fact.name) (a.names ++ w.names))
          → Judged (record { state = record a { names = names.held }; waiting = record w { names = names.waiting } }) tally false
      judged-known known =
          more _ tally false names.held a.modules held refl
          (subst (λ x. Tells (record { state = a; waiting = record w { names = names.waiting } }) (account_after_all a before) (fresh_entries_in a before) tally false x) (sym is)
          (tells-known here (account_after_all a before) (fresh_entries_in a before) tally from_here fact names.waiting news-fact waits known))

      pub judged-fact : (modules : ModuleList) (noted : Tally) (n : ℕ) (now : InForce) → true ≡ not (list_any (same_name fact.name) (a.names ++ w.names))
          → NotesItems (record { rows = a.modules; waiting = w.labels }) modules tally noted fact.items → min n greatest ≡ min (noted.entries + 1) greatest → now ≡ in_force_after noted.in_force e
          → Judged (record { state = record a { names = names.held; modules = modules.rows }; waiting = record w { names = names.waiting; labels = modules.waiting } }) (record noted { entries = n; in_force = now }) true
      judged-fact modules noted n now new items count force =
          more _ _ true names.held modules.rows held items.rows
          (subst (λ x. Tells (record { state = a; waiting = record w { names = names.waiting; labels = modules.waiting } }) (account_after_all a before) (fresh_entries_in a before) (record noted { entries = n; in_force = now }) true x) (sym is)
          (tells-fact here (account_after_all a before) (fresh_entries_in a before) tally from_here fact names.waiting modules noted n now news-fact waits new items count (force ∙ ap (in_force_after noted.in_force) is)))

-- Whether the numbers are past their bounds is what the tally says.
module _ (v : View) (tally : Tally) (all : List Entry) (is : IsTallyOf v tally all) where
  names-length : length (v.state.names ++ v.waiting.names) ≡ length v.state.names + length (names_of (fresh_entries_in v.state all))
  names-length = length-append v.state.names v.waiting.names ∙ ap (λ ns. length v.state.names + length ns) is.names

  pub tally-within : (n : ℕ) → n ≡ length (v.state.names ++ v.waiting.names) → n ≤ MOST_NAMES → tally.entries ≤ MOST_ENTRIES → tally.total ≤ MOST_TOTAL → AreWithin (numbers_with v.state all)
  tally-within n count few some light = record {
    names = omega (arith, count, names-length, few);
    entries = omega (arith, is.entries, some);
    total = omega (arith, is.total, light);
  }

  past-names : MOST_NAMES < length (v.state.names ++ v.waiting.names) → are_past (numbers_with v.state all) ≡ true
  past-names many = let count : MOST_NAMES < length v.state.names + length (names_of (fresh_entries_in v.state all)) = omega (arith, names-length) in grind (arith, nat_tests)
