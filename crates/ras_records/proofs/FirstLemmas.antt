-- A store without its first readable record, and without several.
use Rattle.std.proofs.Common.{◌≡◌, ◌∙◌, ℕ, zero, suc, Bool, true, false, not, nat_eq, cond, if◌then◌else◌, ◌||◌, List, [], ◌∷◌, length, refl, sym, ap, subst, arith}
use Rattle.std.specs.List.{IsDistinct, AllByRecursion}
use Rattle.std.proofs.lemmas.Bool.Decides.{nat_tests}
use Rattle.std.proofs.lemmas.Map.Keys.{IsDistinct-head, IsDistinct-tail}
use Rattle.erst_store.specs.Store.{Stored, ids, without, holds}
use Rattle.ras_records.specs.Polls.{readable_ids}
use Rattle.ras_events.specs.Stores.{is_readable, readable, unreadable, without_first}

-- A record that can be read is the first of them, or it stays at the front.
abbrev with_front : Bool → Stored → List Stored → List Stored
with_front b r rs = cond b (r ∷ readable rs) (readable rs)

-- ---- tests of identifiers

flip_of : (a b : ℕ) → nat_eq a b ≡ false → nat_eq b a ≡ false
flip_of a b is = grind (arith, nat_tests)

own_of : (a : ℕ) → nat_eq a a ≡ true
own_of a = grind (arith, nat_tests)

same_of : (a b : ℕ) → a ≡ b → nat_eq b a ≡ true
same_of a b is = grind (arith, nat_tests)

head_of : (x y : ℕ) (xs ys : List ℕ) → (x ∷ xs) ≡ (y ∷ ys) → x ≡ y
head_of x y xs ys is = cc

tail_of : (x y : ℕ) (xs ys : List ℕ) → (x ∷ xs) ≡ (y ∷ ys) → xs ≡ ys
tail_of x y xs ys is = cc

no_cons : {P : Type 0} (x : ℕ) (xs : List ℕ) → [] ≡ (x ∷ xs) → P
no_cons x xs is = absurd (omega (arith, ap (λ (l : List ℕ). length l) is))

-- All numbers of a list differ from a number.
abbrev pub Apart : ℕ → List ℕ → Type 0
Apart k xs = AllByRecursion (λ y. nat_eq k y ≡ false) xs

without_apart : (k : ℕ) (rs : List Stored) → Apart k (ids rs) → without k rs ≡ rs
without_apart k [] all = refl
without_apart k (r ∷ rs) all =
    ap (λ b. cond (not b) (r ∷ without k rs) (without k rs)) (flip_of k r.id all.0)
    ∙ ap (λ (qs : List Stored). r ∷ qs) (without_apart k rs all.1)

apart_readable : (k : ℕ) (rs : List Stored) → Apart k (ids rs) → Apart k (readable_ids rs)
apart_readable k [] all = tt
apart_readable k (r ∷ rs) all = by (is_readable r) (apart_readable k rs all.1)
  where
    by : (b : Bool) → Apart k (readable_ids rs) → Apart k (ids (with_front b r rs))
    by true later = (all.0, later)
    by false later = later

-- ---- the first one

-- A store whose first readable record has this identifier.
pub record First (id : ℕ) (later : List ℕ) (rs : List Stored) : Type 0 where
  pub holds_it : holds id rs ≡ true
  pub without_is : without id rs ≡ without_first 1 rs
  pub later_is : readable_ids (without_first 1 rs) ≡ later

pub first : (id : ℕ) (later : List ℕ) (rs : List Stored) → IsDistinct nat_eq (ids rs) → readable_ids rs ≡ id ∷ later → First id later rs
first id later [] distinct is = no_cons id later is
first id later (r ∷ rs) distinct is = by (is_readable r) refl is (first id later rs (IsDistinct-tail nat_eq r.id (ids rs) distinct))
  where
    head : Apart r.id (ids rs)
    head = IsDistinct-head nat_eq r.id (ids rs) distinct

    by : (b : Bool) → is_readable r ≡ b → ids (with_front b r rs) ≡ id ∷ later → (readable_ids rs ≡ id ∷ later → First id later rs) → First id later (r ∷ rs)
    by true can here up =
        let own : r.id ≡ id = head_of r.id id (readable_ids rs) later here in
        let gone : without_first 1 (r ∷ rs) ≡ rs = ap (λ b. if b then rs else r ∷ without_first 1 rs) can in
        record {
          holds_it = ap (λ b. b || holds id rs) (same_of r.id id own);
          without_is =
              ap (λ b. cond (not b) (r ∷ without id rs) (without id rs)) (subst (λ k. nat_eq r.id k ≡ true) own (own_of r.id))
              ∙ (without_apart id rs (subst (λ k. Apart k (ids rs)) own head) ∙ sym gone);
          later_is = ap (λ (qs : List Stored). readable_ids qs) gone ∙ tail_of r.id id (readable_ids rs) later here;
        }
    by false can here up =
        let rest = up here in
        let other : nat_eq r.id id ≡ false = (subst (Apart r.id) here (apart_readable r.id rs head)).0 in
        let stays : without_first 1 (r ∷ rs) ≡ r ∷ without_first 1 rs = ap (λ b. if b then rs else r ∷ without_first 1 rs) can in
        record {
          holds_it = ap (λ b. b || holds id rs) (flip_of r.id id other) ∙ rest.holds_it;
          without_is = ap (λ b. cond (not b) (r ∷ without id rs) (without id rs)) other ∙ (ap (λ (qs : List Stored). r ∷ qs) rest.without_is ∙ sym stays);
          later_is = ap (λ (qs : List Stored). readable_ids qs) stays ∙ (ap (λ b. ids (cond b (r ∷ readable (without_first 1 rs)) (readable (without_first 1 rs)))) can ∙ rest.later_is);
        }

-- ---- several

pub unreadable_behind : (rs : List Stored) → unreadable (without_first 1 rs) ≡ unreadable rs
unreadable_behind [] = refl
unreadable_behind (r ∷ rs) = by (is_readable r) refl (unreadable_behind rs)
  where
    by : (b : Bool) → is_readable r ≡ b → unreadable (without_first 1 rs) ≡ unreadable rs → unreadable (if b then rs else r ∷ without_first 1 rs) ≡ cond (not b) (r ∷ unreadable rs) (unreadable rs)
    by true can later = refl
    by false can later = ap (λ b. cond (not b) (r ∷ unreadable (without_first 1 rs)) (unreadable (without_first 1 rs))) can ∙ ap (λ (qs : List Stored). r ∷ qs) later

pub first_more : (n : ℕ) (rs : List Stored) → without_first n (without_first 1 rs) ≡ without_first (suc n) rs
first_more zero rs = refl
first_more (suc n) [] = refl
first_more (suc n) (r ∷ rs) = by (is_readable r) refl (first_more (suc n) rs)
  where
    by : (b : Bool) → is_readable r ≡ b → without_first (suc n) (without_first 1 rs) ≡ without_first (suc (suc n)) rs
        → without_first (suc n) (if b then rs else r ∷ without_first 1 rs) ≡ (if b then without_first (suc n) rs else r ∷ without_first (suc (suc n)) rs)
    by true can later = refl
    by false can later = ap (λ b. if b then without_first n (without_first 1 rs) else r ∷ without_first (suc n) (without_first 1 rs)) can ∙ ap (λ (qs : List Stored). r ∷ qs) later

pub none_readable : (rs : List Stored) → readable_ids rs ≡ [] → unreadable rs ≡ rs
none_readable [] is = refl
none_readable (r ∷ rs) is = by (is_readable r) is (none_readable rs)
  where
    by : (b : Bool) → ids (with_front b r rs) ≡ [] → (readable_ids rs ≡ [] → unreadable rs ≡ rs) → cond (not b) (r ∷ unreadable rs) (unreadable rs) ≡ r ∷ rs
    by true never up = no_cons r.id (readable_ids rs) (sym never)
    by false later up = ap (λ (qs : List Stored). r ∷ qs) (up later)
