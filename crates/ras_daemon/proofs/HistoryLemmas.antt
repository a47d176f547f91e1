-- What runs log and order, one run after another.
use Rattle.std.proofs.Common.{◌≡◌, Bool, true, false, not, ◌||◌, ◌&&◌, List, [], ◌∷◌, ◌++◌, refl, sym, ap, ◌∙◌, subst, append_assoc, append-nil}
use Rattle.std.specs.Prelude.{if◌then◌else◌}
use Rattle.std.specs.List.{AllByRecursion, IsDistinct, list_any}
use Rattle.std.proofs.lemmas.List.Folds.{list_any-append}
use Rattle.std.proofs.lemmas.List.Sums.{fold-append}
use Rattle.std.proofs.lemmas.Map.Keys.{IsDistinct-push}
use Rattle.page_policy.specs.declared.rows.Order.{Order}
use Rattle.ras_facts.specs.declared.entry.Entry.{Entry}
use Rattle.ras_facts.specs.declared.entry.Entry.TheVariants.{Fact, Limit as PageLimit, Retire, ModuleLimit}
use Rattle.ras_facts.specs.declared.fact.Fact.{Fact as FactOf}
use Rattle.ras_facts.specs.declared.name.Name.{Name}
use Rattle.ras_facts.specs.Steps.NameLemmas.{same_name-laws, same_name-refl}
use Rattle.ras_facts.specs.Names.{same_name}
use Rattle.ras_account.specs.Account.{State, account_of, names_of}
use Rattle.ras_account.specs.Continued.{account_after, account_after_all, is_fresh_in}
use Rattle.ras_account.specs.Fresh.{fresh_entries, is_among, is_fresh_behind}
use Rattle.ras_account.specs.History.{History, empty, floor_after, is_retired, names_in, with_entries, with_entry, with_mark}
use Rattle.ras_account.specs.Numbers.{fresh_entries_in}
use Rattle.ras_account.specs.Orders.{orders_behind}
use Rattle.ras_account.proofs.AccountLemmas.{account_of-entries, account_of-entry, account_of-stale}
use Rattle.ras_account.proofs.FreshLemmas.{among_fresh, is_fresh_in-account_of, names_of-append}
use Rattle.ras_account.proofs.OrderLemmas.{orders_at-account_of}
use Rattle.ras_events.specs.Sizes.{IsFact}
use Rattle.ras_events.specs.Preparing.{orders_along_entries}
use Rattle.ras_daemon.proofs.ListLemmas.{all-weaker}

-- ---- names of entries

-- an entry that brings no name adds none
no-name : (es : List Entry) (e : Entry) (b : Bool) → names_of (e ∷ []) ≡ [] → names_of (if b then es ++ e ∷ [] else es) ≡ names_of es
no-name es e true none = names_of-append es (e ∷ []) ∙ ap (λ (ns : List Name). names_of es ++ ns) none ∙ append-nil (names_of es)
no-name es e false none = refl

-- `f` and `g`: whether a name is among the new facts' names and among all facts' names; `r`: whether it is retired
not-among : (f g r : Bool) → (f || r) ≡ (g || r) → (not g && not r) ≡ true → f ≡ false
not-among true true r same fresh = cc
not-among true false true same fresh = cc
not-among true false false same fresh = cc
not-among false g r same fresh = refl

once-none : IsDistinct same_name []
unfolding IsDistinct
once-none = tt

-- the new facts of a history have distinct names
pub fresh-once : (h : History) → IsDistinct same_name (names_of (fresh_entries h))
fresh-once empty = once-none
fresh-once (with_mark h) = fresh-once h
fresh-once (with_entry h (Fact fact)) = by (is_fresh_behind h (Fact fact)) refl (fresh-once h)
  where
    by : (b : Bool) → is_fresh_behind h (Fact fact) ≡ b → IsDistinct same_name (names_of (fresh_entries h))
        → IsDistinct same_name (names_of (if b then fresh_entries h ++ Fact fact ∷ [] else fresh_entries h))
    by true fresh once =
        subst (IsDistinct same_name) (sym (names_of-append (fresh_entries h) (Fact fact ∷ [])))
        (IsDistinct-push same_name-laws (names_of (fresh_entries h)) fact.name once
        (not-among (is_among (names_of (fresh_entries h)) fact.name) (is_among (names_in h) fact.name) (is_retired (floor_after h) fact.name) (among_fresh h fact.name) fresh))
    by false stale once = once
fresh-once (with_entry h (PageLimit limit)) = subst (IsDistinct same_name) (sym (no-name (fresh_entries h) (PageLimit limit) (is_fresh_behind h (PageLimit limit)) refl)) (fresh-once h)
fresh-once (with_entry h (Retire boot)) = subst (IsDistinct same_name) (sym (no-name (fresh_entries h) (Retire boot) (is_fresh_behind h (Retire boot)) refl)) (fresh-once h)
fresh-once (with_entry h (ModuleLimit limit)) = subst (IsDistinct same_name) (sym (no-name (fresh_entries h) (ModuleLimit limit) (is_fresh_behind h (ModuleLimit limit)) refl)) (fresh-once h)

names_in-entries : (h : History) (es : List Entry) → names_in (with_entries h es) ≡ names_in h ++ names_of es
names_in-entries h [] = sym (append-nil (names_in h))
names_in-entries h (Fact fact ∷ es) = names_in-entries (with_entry h (Fact fact)) es ∙ append_assoc (names_in h) (fact.name ∷ []) (names_of es)
names_in-entries h (PageLimit limit ∷ es) = names_in-entries (with_entry h (PageLimit limit)) es
names_in-entries h (Retire boot ∷ es) = names_in-entries (with_entry h (Retire boot)) es
names_in-entries h (ModuleLimit limit ∷ es) = names_in-entries (with_entry h (ModuleLimit limit)) es

-- ---- entries whose names a history has already

abbrev AreAmong : List Name → List Name → Type 0
AreAmong names others = AllByRecursion (λ name. is_among names name ≡ true) others

pub or-true : (b : Bool) → (b || true) ≡ true
or-true true = refl
or-true false = refl

among-behind : (front names : List Name) → AreAmong (front ++ names) names
among-behind front [] = tt
among-behind front (name ∷ names) = (
  list_any-append (same_name name) front (name ∷ names)
      ∙ ap (λ b. list_any (same_name name) front || (b || list_any (same_name name) names)) (same_name-refl name)
      ∙ or-true (list_any (same_name name) front),
  subst (λ (ns : List Name). AreAmong ns names) (append_assoc front (name ∷ []) names) (among-behind (front ++ name ∷ []) names),
)

-- a history contains the names of its own entries
pub among-own : (h : History) (es : List Entry) → AreAmong (names_in (with_entries h es)) (names_of es)
among-own h es = subst (λ (ns : List Name). AreAmong ns (names_of es)) (sym (names_in-entries h es)) (among-behind (names_in h) (names_of es))

and-false : (b r : Bool) → b ≡ true → (not b && r) ≡ false
and-false true r is = refl
and-false false r is = cc

fresh-stale : (a : State) (e : Entry) (es : List Entry) → is_fresh_in a e ≡ false → fresh_entries_in a (e ∷ es) ≡ fresh_entries_in a es
fresh-stale a e es is = rw is refl

fresh-news : (a : State) (e : Entry) (es : List Entry) → is_fresh_in a e ≡ true → fresh_entries_in a (e ∷ es) ≡ e ∷ fresh_entries_in (account_after a e) es
fresh-news a e es is = rw is refl

-- an entry that isn't a fact, whether it is new or not
other-logged : (h : History) (e : Entry) (es : List Entry) (b : Bool) → is_fresh_in (account_of h) e ≡ b → ((rest : List Entry) → names_of (e ∷ rest) ≡ names_of rest)
    → names_of (fresh_entries_in (account_of (with_entry h e)) es) ≡ [] → names_of (fresh_entries_in (account_of h) es) ≡ []
    → names_of (fresh_entries_in (account_of h) (e ∷ es)) ≡ []
other-logged h e es true is none with-it without =
    ap names_of (fresh-news (account_of h) e es is) ∙ none (fresh_entries_in (account_after (account_of h) e) es)
    ∙ ap (λ (a : State). names_of (fresh_entries_in a es)) (sym (account_of-entry h e)) ∙ with-it
other-logged h e es false is none with-it without = ap names_of (fresh-stale (account_of h) e es is) ∙ without

stale-fact : (h : History) (fact : FactOf) → is_among (names_in h) fact.name ≡ true → is_fresh_behind h (Fact fact) ≡ false
stale-fact h fact among = and-false (is_among (names_in h) fact.name) (not (is_retired (floor_after h) fact.name)) among

-- if the history has all names of these entries, none of their facts is new
pub none-logged : (h : History) (es : List Entry) → AreAmong (names_in h) (names_of es) → names_of (fresh_entries_in (account_of h) es) ≡ []
none-logged h [] all = refl
none-logged h (Fact fact ∷ es) all =
    ap names_of (fresh-stale (account_of h) (Fact fact) es (is_fresh_in-account_of h (Fact fact) ∙ stale-fact h fact all.0)) ∙ none-logged h es all.1
none-logged h (PageLimit limit ∷ es) all =
    other-logged h (PageLimit limit) es (is_fresh_in (account_of h) (PageLimit limit)) refl (λ rest. refl) (none-logged (with_entry h (PageLimit limit)) es all) (none-logged h es all)
none-logged h (Retire boot ∷ es) all =
    other-logged h (Retire boot) es (is_fresh_in (account_of h) (Retire boot)) refl (λ rest. refl) (none-logged (with_entry h (Retire boot)) es all) (none-logged h es all)
none-logged h (ModuleLimit limit ∷ es) all =
    other-logged h (ModuleLimit limit) es (is_fresh_in (account_of h) (ModuleLimit limit)) refl (λ rest. refl) (none-logged (with_entry h (ModuleLimit limit)) es all) (none-logged h es all)

-- facts whose names the history has change nothing
none-counted : (h : History) (es : List Entry) → AllByRecursion IsFact es → AreAmong (names_in h) (names_of es) → account_of (with_entries h es) ≡ account_of h
none-counted h [] facts all = refl
none-counted h (Fact fact ∷ es) facts all =
    none-counted (with_entry h (Fact fact)) es facts.1 (all-weaker (λ name. is_among (names_in h) name ≡ true) (λ name. is_among (names_in h ++ fact.name ∷ []) name ≡ true)
    (λ name among. list_any-append (same_name name) (names_in h) (fact.name ∷ []) ∙ ap (λ b. b || list_any (same_name name) (fact.name ∷ [])) among) (names_of es) all.1)
    ∙ account_of-stale h (Fact fact) (stale-fact h fact all.0)
none-counted h (PageLimit limit ∷ es) facts all = absurd facts.0
none-counted h (Retire boot ∷ es) facts all = absurd facts.0
none-counted h (ModuleLimit limit ∷ es) facts all = absurd facts.0

pub with_entries-append : (h : History) (xs ys : List Entry) → with_entries h (xs ++ ys) ≡ with_entries (with_entries h xs) ys
with_entries-append h xs ys = fold-append with_entry h xs ys

-- facts that come again, and other entries after them
pub again-counted : (h : History) (xs ys : List Entry) → AllByRecursion IsFact xs → account_of (with_entries (with_entries h xs) (xs ++ ys)) ≡ account_of (with_entries h (xs ++ ys))
again-counted h xs ys facts =
    let once : History = with_entries h xs in
    ap account_of (with_entries-append once xs ys)
    ∙ account_of-entries (with_entries once xs) ys
    ∙ ap (λ (a : State). account_after_all a ys) (none-counted once xs facts (among-own h xs))
    ∙ sym (account_of-entries once ys)
    ∙ ap account_of (sym (with_entries-append h xs ys))

-- ---- orders of entries

-- a list of orders that grows by the orders of each entry
module _ (given : History → List Order) (grows : (h : History) (e : Entry) → given (with_entry h e) ≡ given h ++ orders_behind h e) where
  -- the orders of entries follow the orders of the history before them
  pub orders-entries : (h : History) (es : List Entry) → given (with_entries h es) ≡ given h ++ orders_along_entries (account_of h) es
  orders-entries h [] = sym (append-nil (given h))
  orders-entries h (e ∷ es) =
      let rest : List Order = orders_along_entries (account_of (with_entry h e)) es in
      orders-entries (with_entry h e) es
      ∙ ap (λ (os : List Order). os ++ rest) (grows h e)
      ∙ append_assoc (given h) (orders_behind h e) rest
      ∙ (λ i. given h ++ (sym (orders_at-account_of h e) i ++ orders_along_entries (account_of-entry h e i) es))
