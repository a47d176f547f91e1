-- An account made from its parts, and what is unchanged if one part changes.
use Rattle.std.proofs.Common.{◌≡◌, ◌<◌, ◌≤◌, ◌+◌, ℕ, Bool, true, false, not, ◌&&◌, ◌||◌, if◌then◌else◌, List, [], ◌∷◌, ◌++◌, length, take, drop, Option, Some, None, option_to_list, refl, sym, ap, subst, ◌∙◌, arith, append_assoc, length-append, suc, add-one, get_or, zero, slice_get}
use Rattle.std.specs.List.{list_any}
use Rattle.std.proofs.lemmas.List.Folds.{list_any-append}
use Rattle.std.proofs.Math.Seq.{drop-cons}
use Rattle.std.specs.Bool.{IsFalse}
use Rattle.dimm_topology.specs.Labels.{Bytes}
use Rattle.page_policy.specs.declared.buckets.Limit.{Limit}
use Rattle.page_policy.specs.declared.rows.PageRow.{PageRow}
use Rattle.ras_facts.specs.declared.name.Name.{Name}
use Rattle.ras_facts.specs.declared.entry.Entry.{Entry}
use Rattle.ras_facts.specs.declared.entry.Entry.TheVariants.{Fact, Limit as PageLimit, Retire, ModuleLimit}
use Rattle.ras_account.specs.History.{History, with_entry, is_retired}
use Rattle.ras_account.specs.Fresh.{is_among, is_fresh_behind}
use Rattle.ras_account.specs.Sightings.{Sighting}
use Rattle.ras_account.specs.Modules.{Module}
use Rattle.ras_account.specs.Account.{State, account_of}
use Rattle.ras_account.specs.Continued.{knows, is_fresh_in, account_after, account_after_fresh, account_with_count, account_after_item}
use Rattle.ras_account.specs.Orders.{page_order_in, module_order_in, orders_along}
use Rattle.ras_account.specs.View.{View, OrderList}
use Rattle.page_policy.specs.declared.rows.Order.{Order}
use Rattle.ras_account.specs.Accounts.{IsAccount}
use Rattle.ras_account.specs.Steps.Taking.{is_news, holds_name, CanCountName, GivesOrders}
use Rattle.ras_account.proofs.AccountLemmas.{account_of-entry}
use Rattle.ras_account.proofs.FreshLemmas.{is_fresh_in-account_of}
use Rattle.ras_account.proofs.SoundLemmas.{name-sound}

-- the account with these parts
abbrev pub of_parts : List Name → ℕ → Limit → Limit → ℕ → ℕ → List (Bytes × Module) → List (ℕ × PageRow) → State
of_parts names floor limit module_limit entries total modules pages = record {
  names = names;
  floor = floor;
  limit = limit;
  module_limit = module_limit;
  entries = entries;
  total = total;
  modules = modules;
  pages = pages;
}

-- An entry is new if and only if is_news accepts it and it isn't a fact with a counted name.
pub fresh-news : (a : State) (e : Entry) → is_fresh_in a e ≡ (is_news a.floor a.limit a.module_limit e && not (holds_name a e))
fresh-news a (Fact fact) = turned (is_among a.names fact.name) (is_retired a.floor fact.name)
  where
    turned : (b c : Bool) → not (b || c) ≡ (not c && not b)
    turned true true = refl
    turned true false = refl
    turned false true = refl
    turned false false = refl
fresh-news a (PageLimit limit) = kept _
  where
    kept : (b : Bool) → b ≡ (b && true)
    kept true = refl
    kept false = refl
fresh-news a (Retire boot) = kept _
  where
    kept : (b : Bool) → b ≡ (b && true)
    kept true = refl
    kept false = refl
fresh-news a (ModuleLimit limit) = kept _
  where
    kept : (b : Bool) → b ≡ (b && true)
    kept true = refl
    kept false = refl

-- Whether an entry is new, if the account is the account of a history.
pub fresh-history : (a : State) (e : Entry) (b : Bool) → b ≡ is_fresh_in a e → (h : History) → a ≡ account_of h → b ≡ is_fresh_behind h e
fresh-history a e b is h of = is ∙ ap (λ s. is_fresh_in s e) of ∙ is_fresh_in-account_of h e

pub stale-history : (a : State) (e : Entry) (b : Bool) → b ≡ is_fresh_in a e → (h : History) → a ≡ account_of h → IsFalse b → a ≡ account_of (with_entry h e)
stale-history a e b is h of stale =
    sym (ap (λ c. if c then account_after_fresh (account_with_count a) e else a) (sym is ∙ stale)) ∙ ap (λ s. account_after s e) of ∙ sym (account_of-entry h e)

-- a list that begins with one element
first_of_one : {X : Type 0} (xs rest : List X) (x : X) → xs ≡ x ∷ rest → take 1 xs ≡ x ∷ []
first_of_one xs rest x is = ap (take 1) is

-- The account with the first reserved name counted.
pub named-sound : (a : State) (v : View) → a ≡ v.state → IsAccount a → CanCountName v
    → IsAccount (record a { names = a.names ++ take 1 v.waiting.names; entries = a.entries + 1 })
named-sound a v same account next =
    subst (λ ns. IsAccount (record a { names = a.names ++ ns; entries = a.entries + 1 })) (sym (first_of_one v.waiting.names next.rest next.name next.waits))
    (name-sound a next.name (a.entries + 1) account next.valid (ap (λ s. knows s next.name) same ∙ next.unknown) (record {
      names = omega (arith, next.names_room, length-append a.names (next.name ∷ []), ap (λ (s : State). length s.names) same);
      entries = omega (arith, next.entries_room, ap (λ (s : State). s.entries) same);
      total = account.within.total;
    }))

-- an account and what is reserved
abbrev pub view_of_parts : State → List Name → List Bytes → List ℕ → View
view_of_parts a names labels pages = record { state = a; waiting = record { names = names; labels = labels; pages = pages } }

few : {X : Type 0} (o : Option X) → length (option_to_list o) ≤ 1
few None = omega arith
few (Some x) = omega arith

-- At most two orders are given, one after the other.
pub two-given : (old mid new : OrderList) (one other : Option Order) → GivesOrders old mid (option_to_list one) → GivesOrders mid new (option_to_list other)
    → GivesOrders old new (option_to_list one ++ option_to_list other)
two-given old mid new one other first second = record {
  orders = second.orders ∙ ap (λ os. os ++ option_to_list other) first.orders ∙ append_assoc old.orders (option_to_list one) (option_to_list other);
  room = omega (arith, first.room, second.room, length-append (option_to_list one) (option_to_list other));
}

-- What is left of a list from an index on.
pub drop-at : {X : Type 0} (xs : List X) (i : ℕ) (x : X) → i < length xs → x ≡ get_or xs i x → drop i xs ≡ x ∷ drop (i + 1) xs
drop-at {X} xs i x within is =
    drop-cons xs i x within ∙ ap (λ (y : X). y ∷ drop (suc i) xs) (sym is) ∙ ap (λ n. x ∷ drop n xs) (sym (add-one i))

-- The orders of items depend only on the modules and the pages.
pub orders-named : (a : State) (names : List Name) (entries : ℕ) (ss : List Sighting) → orders_along (record a { names = names; entries = entries }) ss ≡ orders_along a ss
orders-named a names entries [] = refl
orders-named a names entries (s ∷ ss) =
    ap (λ os. option_to_list (page_order_in a.pages s) ++ (option_to_list (module_order_in a.modules s) ++ os)) (orders-named (account_after_item a s) names entries ss)

-- The elements up to an index.
take-at : {X : Type 0} (xs : List X) (i : ℕ) (x : X) → slice_get xs i ≡ Some x → take (suc i) xs ≡ take i xs ++ x ∷ []
take-at [] i x is = absurd cc
take-at (y ∷ ys) zero x is = ap (λ (z : _). z ∷ []) (let same : y ≡ x = cc in same)
take-at (y ∷ ys) (suc i) x is = ap (λ zs. y ∷ zs) (take-at ys i x is)

pub any-at : {X : Type 0} (p : X → Bool) (xs : List X) (i : ℕ) (x : X) → slice_get xs i ≡ Some x → p x ≡ true → list_any p xs ≡ true
any-at p [] i x is here = absurd cc
any-at p (y ∷ ys) zero x is here = let same : y ≡ x = cc in ap (λ b. b || list_any p ys) (ap p same ∙ here)
any-at p (y ∷ ys) (suc i) x is here = ap (λ b. p y || b) (any-at p ys i x is here) ∙ or_true (p y)
  where
    or_true : (b : Bool) → (b || true) ≡ true
    or_true true = refl
    or_true false = refl

pub none-more : {X : Type 0} (p : X → Bool) (xs : List X) (i : ℕ) (x : X) → slice_get xs i ≡ Some x → list_any p (take i xs) ≡ false → p x ≡ false → list_any p (take (i + 1) xs) ≡ false
none-more p xs i x is none here =
    ap (λ n. list_any p (take n xs)) (add-one i) ∙ ap (list_any p) (take-at xs i x is) ∙ list_any-append p (take i xs) (x ∷ []) ∙ (λ j. none j || (here j || false))
