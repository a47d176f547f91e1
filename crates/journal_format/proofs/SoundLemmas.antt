-- What the test of an account that was read means.
use Rattle.std.proofs.Common.{◌≡◌, ℕ, ◌^◌, ◌<◌, ◌≤◌, Bool, true, false, not, ◌&&◌, leb, nat_eq, List, [], ◌∷◌, length, sum, refl, ap, arith}
use Rattle.std.specs.List.{list_all, IsDistinct, AllByRecursion}
use Rattle.std.specs.Map.{keys_of}
use Rattle.std.proofs.lemmas.Bool.{leb-true, le-leb, and_parts, and_from}
use Rattle.std.proofs.lemmas.List.Elements.{recursion_from_All}
use Rattle.std.proofs.lemmas.List.Sums.{sum_by-cons}
use Rattle.dimm_topology.specs.Labels.{Bytes, same_label}
use Rattle.ras_facts.specs.declared.name.Name.{Name}
use Rattle.ras_facts.specs.Names.{same_name}
use Rattle.ras_account.specs.declared.limits.TheConstants.{MOST_NAMES, MOST_TOTAL}
use Rattle.ras_account.specs.History.{is_retired}
use Rattle.ras_account.specs.Modules.{Module}
use Rattle.ras_account.specs.Account.{State, weight_in}
use Rattle.ras_account.specs.Accounts.{IsKeptName, IsAccount}
use Rattle.journal_format.specs.CheckpointReading.{are_once, is_sound}

-- ---- of each element

pub each_passes : {X : Type 0} (p : X → Bool) (P : X → Type 0) → ((x : X) → p x ≡ true → P x) → (xs : List X) → list_all p xs ≡ true → AllByRecursion P xs
each_passes p P from [] is = tt
each_passes p P from (x ∷ xs) is = let h = and_parts (p x) (list_all p xs) is in (from x h.0, each_passes p P from xs h.1)

pub all_pass : {X : Type 0} (p : X → Bool) (P : X → Type 0) → ((x : X) → P x → p x ≡ true) → (xs : List X) → AllByRecursion P xs → list_all p xs ≡ true
all_pass p P from [] v = refl
all_pass p P from (x ∷ xs) v = and_from (p x) (list_all p xs) (from x v.0) (all_pass p P from xs v.1)

pub each_both : {X : Type 0} (P Q R : X → Type 0) → ((x : X) → P x → Q x → R x) → (xs : List X) → AllByRecursion P xs → AllByRecursion Q xs → AllByRecursion R xs
each_both P Q R from [] v w = tt
each_both P Q R from (x ∷ xs) v w = (from x v.0 w.0, each_both P Q R from xs v.1 w.1)

pub each_one : {X : Type 0} (P R : X → Type 0) → ((x : X) → P x → R x) → (xs : List X) → AllByRecursion P xs → AllByRecursion R xs
each_one P R from [] v = tt
each_one P R from (x ∷ xs) v = (from x v.0, each_one P R from xs v.1)

-- ---- keys that stand once

pub is_not : (b : Bool) → not b ≡ true → b ≡ false
is_not true e = absurd cc
is_not false e = refl

once_from : {K : Type 0} (same : K → K → Bool) (xs : List K) → are_once same xs ≡ true → IsDistinct same xs
unfolding IsDistinct
once_from same [] is = tt
once_from {K} same (x ∷ xs) is =
    let h = and_parts (list_all (λ y. not (same x y)) xs) (are_once same xs) is in
    (each_passes (λ y. not (same x y)) (λ y. same x y ≡ false) (λ y passed. is_not (same x y) passed) xs h.0, once_from same xs h.1)

once_passes : {K : Type 0} (same : K → K → Bool) (xs : List K) → IsDistinct same xs → are_once same xs ≡ true
unfolding IsDistinct
once_passes same [] v = refl
once_passes same (x ∷ xs) v =
    and_from (list_all (λ y. not (same x y)) xs) (are_once same xs)
    (all_pass (λ y. not (same x y)) (λ y. same x y ≡ false) (λ y apart. ap not apart) xs v.0) (once_passes same xs v.1)

-- ---- the whole test

abbrev pub IsKept : ℕ → Name → Type 0
IsKept floor name = is_retired floor name ≡ false

pub record Sound (a : State) : Type 0 where
  pub names : length a.names ≤ MOST_NAMES
  pub total : a.total ≤ MOST_TOTAL
  pub kept : AllByRecursion (IsKept a.floor) a.names
  pub names_once : IsDistinct same_name a.names
  pub labels_once : IsDistinct same_label (keys_of a.modules)
  pub pages_once : IsDistinct nat_eq (keys_of a.pages)

pub sound_parts : (a : State) → is_sound a ≡ true → Sound a
sound_parts a is =
    let kept = list_all (λ name. not (is_retired a.floor name)) a.names in
    let names = are_once same_name a.names in
    let labels = are_once same_label (keys_of a.modules) in
    let pages = are_once nat_eq (keys_of a.pages) in
    let one = and_parts (leb (length a.names) MOST_NAMES && leb a.total MOST_TOTAL) (kept && (names && (labels && pages))) is in
    let few = and_parts (leb (length a.names) MOST_NAMES) (leb a.total MOST_TOTAL) one.0 in
    let two = and_parts kept (names && (labels && pages)) one.1 in
    let three = and_parts names (labels && pages) two.1 in
    let four = and_parts labels pages three.1 in
    record {
      names = leb-true (length a.names) MOST_NAMES few.0;
      total = leb-true a.total MOST_TOTAL few.1;
      kept = each_passes (λ name. not (is_retired a.floor name)) (IsKept a.floor) (λ name passed. is_not (is_retired a.floor name) passed) a.names two.0;
      names_once = once_from same_name a.names three.0;
      labels_once = once_from same_label (keys_of a.modules) four.0;
      pages_once = once_from nat_eq (keys_of a.pages) four.1;
    }

pub account_is_sound : (a : State) → IsAccount a → is_sound a ≡ true
account_is_sound a is =
    let kept = list_all (λ name. not (is_retired a.floor name)) a.names in
    let names = are_once same_name a.names in
    let labels = are_once same_label (keys_of a.modules) in
    let pages = are_once nat_eq (keys_of a.pages) in
    let each : AllByRecursion (IsKeptName a.floor) a.names = recursion_from_All (IsKeptName a.floor) a.names is.names in
    and_from (leb (length a.names) MOST_NAMES && leb a.total MOST_TOTAL) (kept && (names && (labels && pages)))
    (and_from (leb (length a.names) MOST_NAMES) (leb a.total MOST_TOTAL) (le-leb (length a.names) MOST_NAMES is.within.names) (le-leb a.total MOST_TOTAL is.within.total))
    (and_from kept (names && (labels && pages))
    (all_pass (λ name. not (is_retired a.floor name)) (IsKeptName a.floor) (λ name v. ap not v.kept) a.names each)
    (and_from names (labels && pages) (once_passes same_name a.names is.names_once)
    (and_from labels pages (once_passes same_label (keys_of a.modules) is.labels_once) (once_passes nat_eq (keys_of a.pages) is.pages_once))))

-- ---- sums within the total weight fit their fields

small_sum : (ns : List ℕ) → sum ns ≤ MOST_TOTAL → AllByRecursion (λ n. n < 2 ^ 64) ns
small_sum [] few = tt
small_sum (n ∷ ns) few =
    let all = sum_by-cons (λ m. m) n ns in
    (omega (arith, all, few), small_sum ns (omega (arith, all, few)))

pub small_sums : (rows : List (Bytes × Module)) → weight_in rows ≤ MOST_TOTAL → AllByRecursion (λ row. AllByRecursion (λ n. n < 2 ^ 64) row.1.sums) rows
small_sums [] few = tt
small_sums (row ∷ rows) few =
    let all = sum_by-cons (λ (r : Bytes × Module). sum r.1.sums) row rows in
    (small_sum row.1.sums (omega (arith, all, few)), small_sums rows (omega (arith, all, few)))
