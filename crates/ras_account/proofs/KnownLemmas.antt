-- A name that an account knows stays known.
use Rattle.std.proofs.Common.{◌≡◌, ◌+◌, ℕ, Bool, true, false, nat_lt, if◌then◌else◌, ◌||◌, Option, Some, None, List, [], ◌∷◌, ◌++◌, All, Contains, refl, ap, ◌∙◌, arith}
use Rattle.std.specs.Option.{option_map_or}
use Rattle.std.proofs.lemmas.Bool.Decides.{nat_tests}
use Rattle.std.proofs.lemmas.List.Elements.{All-nil, All-cons, All-contains}
use Rattle.std.proofs.lemmas.List.Folds.{list_any-append}
use Rattle.ras_facts.specs.declared.fact.Fact.{Fact as Told}
use Rattle.ras_facts.specs.declared.name.Name.{Name}
use Rattle.ras_facts.specs.declared.entry.Entry.{Entry}
use Rattle.ras_facts.specs.declared.entry.Entry.TheVariants.{Fact, Limit as PageLimit, Retire, ModuleLimit}
use Rattle.ras_facts.specs.Names.{same_name, boot_of}
use Rattle.ras_facts.specs.Steps.NameLemmas.{same_name-refl}
use Rattle.ras_account.specs.History.{History, empty, with_entry, with_mark, followed_by, names_in, floor_after, is_retired}
use Rattle.ras_account.specs.Fresh.{is_among, fresh_entries}
use Rattle.ras_account.specs.Sightings.{sightings_in}
use Rattle.ras_account.specs.Account.{State, account_of, names_of}
use Rattle.ras_account.specs.Continued.{knows, is_fresh_in, account_after_fresh, account_with_count, account_after, account_after_all, account_after_history}
use Rattle.ras_account.proofs.FreshLemmas.{among_kept, among_fresh, not_false}
use Rattle.ras_account.proofs.AccountLemmas.{account_of-followed}
use Rattle.ras_account.proofs.ItemLemmas.{names-items, floor-items}

-- The account of a history knows the names of its facts, and the names of retired boots.
pub knows-history : (h : History) (name : Name) → knows (account_of h) name ≡ (is_among (names_in h) name || is_retired (floor_after h) name)
knows-history h name = among_kept (floor_after h) (names_of (fresh_entries h)) name ∙ among_fresh h name

-- A retired boot is below each greater floor.
retired-above : (floor boot : ℕ) (name : Name) → nat_lt floor boot ≡ true → is_retired floor name ≡ true → is_retired boot name ≡ true
retired-above floor boot name above = by (boot_of name)
  where
    by : (o : Option ℕ) → option_map_or (λ b. nat_lt b floor) o false ≡ true → option_map_or (λ b. nat_lt b boot) o false ≡ true
    by None is = is
    by (Some own) is = grind (arith, nat_tests)

or_right : (b c : Bool) → c ≡ true → (b || c) ≡ true
or_right true c is = refl
or_right false c is = is

or_more : (b c : Bool) (d : Bool) → (b || d) ≡ true → ((b || c) || d) ≡ true
or_more true c d is = refl
or_more false true d is = refl
or_more false false d is = is

or_raised : (b c d : Bool) → (c ≡ true → d ≡ true) → (b || c) ≡ true → (b || d) ≡ true
or_raised true c d more is = refl
or_raised false c d more is = more is

-- The names after a fact are the names before it and the fact's own.
fact_names : (a : State) (fact : Told) → (account_after_fresh (account_with_count a) (Fact fact)).names ≡ a.names ++ fact.name ∷ []
fact_names a fact =
    names-items (record a { names = a.names ++ fact.name ∷ []; entries = a.entries + 1 }) (sightings_in a.limit a.module_limit (Fact fact))

fact_floor : (a : State) (fact : Told) → (account_after_fresh (account_with_count a) (Fact fact)).floor ≡ a.floor
fact_floor a fact =
    floor-items (record a { names = a.names ++ fact.name ∷ []; entries = a.entries + 1 }) (sightings_in a.limit a.module_limit (Fact fact))

knows-fact : (a : State) (fact : Told) (name : Name)
    → knows (account_after_fresh (account_with_count a) (Fact fact)) name ≡ ((is_among a.names name || (same_name name fact.name || false)) || is_retired a.floor name)
knows-fact a fact name =
    (λ i. is_among (fact_names a fact i) name || is_retired (fact_floor a fact i) name)
    ∙ ap (λ b. b || is_retired a.floor name) (list_any-append (same_name name) a.names (fact.name ∷ []))

-- One more entry.
knows-fresh : (a : State) (e : Entry) (name : Name) → is_fresh_in a e ≡ true → knows a name ≡ true → knows (account_after_fresh (account_with_count a) e) name ≡ true
knows-fresh a (Fact fact) name is known =
    knows-fact a fact name ∙ or_more (is_among a.names name) (same_name name fact.name || false) (is_retired a.floor name) known
knows-fresh a (PageLimit limit) name is known = known
knows-fresh a (Retire boot) name is known =
    among_kept boot a.names name ∙ or_raised (is_among a.names name) (is_retired a.floor name) (is_retired boot name) (retired-above a.floor boot name is) known
knows-fresh a (ModuleLimit limit) name is known = known

pub knows-after : (a : State) (e : Entry) (name : Name) → knows a name ≡ true → knows (account_after a e) name ≡ true
knows-after a e name known = by (is_fresh_in a e) refl
  where
    by : (b : Bool) → is_fresh_in a e ≡ b → knows (if b then account_after_fresh (account_with_count a) e else a) name ≡ true
    by true is = knows-fresh a e name is known
    by false is = known

pub knows-after_all : (a : State) (es : List Entry) (name : Name) → knows a name ≡ true → knows (account_after_all a es) name ≡ true
knows-after_all a [] name known = known
knows-after_all a (e ∷ es) name known = knows-after_all (account_after a e) es name (knows-after a e name known)

knows-after_history : (a : State) (more : History) (name : Name) → knows a name ≡ true → knows (account_after_history a more) name ≡ true
knows-after_history a empty name known = known
knows-after_history a (with_entry more e) name known = knows-after (account_after_history a more) e name (knows-after_history a more name known)
knows-after_history a (with_mark more) name known = knows-after_history a more name known

pub knows-followed : (h more : History) (name : Name) → knows (account_of h) name ≡ true → knows (account_of (followed_by h more)) name ≡ true
knows-followed h more name known =
    ap (λ a. knows a name) (account_of-followed h more) ∙ knows-after_history (account_of h) more name known

-- The fact's own name is known after it.
pub knows-own : (a : State) (fact : Told) → knows (account_after a (Fact fact)) fact.name ≡ true
knows-own a fact = by (is_fresh_in a (Fact fact)) refl
  where
    own : (is_among a.names fact.name || (same_name fact.name fact.name || false)) ≡ true
    own = or_right (is_among a.names fact.name) (same_name fact.name fact.name || false) (ap (λ b. b || false) (same_name-refl fact.name))

    by : (b : Bool) → is_fresh_in a (Fact fact) ≡ b → knows (if b then account_after_fresh (account_with_count a) (Fact fact) else a) fact.name ≡ true
    by true is = knows-fact a fact fact.name ∙ ap (λ b. b || is_retired a.floor fact.name) own
    by false is = not_false (knows a fact.name) is

-- The name of each fact of a list is known after the list.
abbrev IsKnown : State → Entry → Type 0
IsKnown a (Fact fact) = knows a fact.name ≡ true
IsKnown a (PageLimit limit) = Unit {0}
IsKnown a (Retire boot) = Unit {0}
IsKnown a (ModuleLimit limit) = Unit {0}

known_at : (a : State) (e : Entry) (es : List Entry) → IsKnown (account_after_all (account_after a e) es) e
known_at a (Fact fact) es = knows-after_all (account_after a (Fact fact)) es fact.name (knows-own a fact)
known_at a (PageLimit limit) es = tt
known_at a (Retire boot) es = tt
known_at a (ModuleLimit limit) es = tt

all_known : (a : State) (es : List Entry) → All (IsKnown (account_after_all a es)) es
all_known a [] = All-nil (IsKnown a)
all_known a (e ∷ es) = All-cons (IsKnown (account_after_all (account_after a e) es)) e es (known_at a e es) (all_known (account_after a e) es)

pub knows-each : (a : State) (es : List Entry) (fact : Told) → Contains es (Fact fact) → knows (account_after_all a es) fact.name ≡ true
knows-each a es fact inside = All-contains (IsKnown (account_after_all a es)) es (Fact fact) (all_known a es) inside
