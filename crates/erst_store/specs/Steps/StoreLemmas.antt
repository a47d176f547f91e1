-- Records that are found, replaced and removed by their identifiers.
use Rattle.std.proofs.Common.{◌≡◌, ℕ, zero, suc, ◌+◌, ◌<◌, ◌≤◌, Bool, true, false, cond, not, nat_eq, nat_lt, if◌then◌else◌, List, [], ◌∷◌, ◌++◌, length, map, set, get_or, Option, None, Some, ◌||◌, refl, sym, ap, subst, ◌∙◌, arith, true≢false, length-append, slice_get}
use Rattle.std.specs.List.{AllByRecursion, IsDistinct, list_any, position, position_or_len, remove}
use Rattle.std.proofs.lemmas.Bool.{eqb-true}
use Rattle.std.proofs.lemmas.Bool.Decides.{nat_tests}
use Rattle.std.proofs.lemmas.Cmp.{nat_eq_equiv}
use Rattle.std.proofs.lemmas.List.{get_or-map, map-append, map-set}
use Rattle.std.proofs.lemmas.List.Quantifiers.{position-Some}
use Rattle.std.proofs.lemmas.Map.Keys.{IsDistinct-push, IsDistinct-head, IsDistinct-tail, IsDistinct-cons}
use Rattle.ras_base.specs.LittleEndian.{AreBytes}
use Rattle.erst_store.specs.declared.store.Record.{Record}
use Rattle.erst_store.specs.Store.{Stored, Fits, IsStore, most_records, most_bytes, ids, contents, holds, bytes_under, is_full_for, record_after_put, with_record, without}
use Rattle.erst_store.specs.Steps.View.{view, views, StandsAt, Places, Finds}

pub same_test : (a b : ℕ) → a ≡ b → nat_eq a b ≡ true
same_test a b is = grind (arith, nat_tests)

other_test : (a b c : ℕ) → a ≡ c → nat_eq a b ≡ false → nat_eq b c ≡ false
other_test a b c is apart = grind (arith, nat_tests)

flip_test : (a b : ℕ) → nat_eq a b ≡ nat_eq b a
flip_test a b = grind (arith, nat_tests)

-- ---- where an identifier stands

any_place : {X : Type 0} (t : X → Bool) (xs : List X) → list_any t xs ≡ nat_lt (position_or_len t xs) (length xs)
any_place t [] = refl
any_place t (x ∷ xs) = by (t x) (any_place t xs)
  where
    by : (b : Bool) → list_any t xs ≡ nat_lt (position_or_len t xs) (length xs)
        → (b || list_any t xs) ≡ nat_lt (cond (not b) (1 + position_or_len t xs) 0) (suc (length xs))
    by true ih = grind (arith, nat_tests)
    by false ih = ih ∙ grind (arith, nat_tests)

any_view : (id : ℕ) (records : List Record) → holds id (views records) ≡ list_any (λ r. nat_eq r.id id) records
any_view id [] = refl
any_view id (r ∷ rs) = λ i. flip_test id r.id i || any_view id rs i

pub length-views : (records : List Record) → length (views records) ≡ length records
length-views [] = refl
length-views (r ∷ rs) = ap suc (length-views rs)

length-record_after_put : (id : ℕ) (bytes : List ℕ) (rs : List Stored) → length (map (record_after_put id bytes) rs) ≡ length rs
length-record_after_put id bytes [] = refl
length-record_after_put id bytes (r ∷ rs) = ap suc (length-record_after_put id bytes rs)

pub placed : (id : ℕ) (records : List Record) (o : Option ℕ) → o ≡ position (λ r. nat_eq r.id id) records → Places id (views records) o
placed id [] None is = refl
placed id [] (Some place) is = absurd cc
placed id (r ∷ rs) None is = any_view id (r ∷ rs) ∙ any_place (λ (q : Record). nat_eq q.id id) (r ∷ rs) ∙ by _ is
  where
    by : (b : Bool) → None ≡ cond b (Some (position_or_len (λ (q : Record). nat_eq q.id id) (r ∷ rs))) None → b ≡ false
    by true there = absurd cc
    by false there = refl
placed id (r ∷ rs) (Some place) is =
    let found = position-Some (λ (q : Record). nat_eq q.id id) (r ∷ rs) place r (sym is) in
    let within : place < length (views (r ∷ rs)) = omega (arith, found.0, length-views (r ∷ rs)) in
    record {
      within = within;
      same =
          get_or-map (λ (q : Stored). q.id) (views (r ∷ rs)) place (view r) 0 within
          ∙ ap (λ (q : Stored). q.id) (get_or-map view (r ∷ rs) place r (view r) found.0)
          ∙ eqb-true _ _ found.1;
    }

-- An identifier that differs from all differs from one of them.
apart_at : (k id : ℕ) (rs : List Stored) (place : ℕ) → AllByRecursion (λ y. nat_eq k y ≡ false) (ids rs) → StandsAt id rs place → nat_eq k id ≡ false
apart_at k id [] place apart there = absurd (omega (arith, there.within))
apart_at k id (r ∷ rs) zero apart there = ap (nat_eq k) (sym there.same) ∙ apart.0
apart_at k id (r ∷ rs) (suc place) apart there = apart_at k id rs place apart.1 (record { within = omega (arith, there.within); same = there.same })

pub stands-holds : (id : ℕ) (rs : List Stored) (place : ℕ) → StandsAt id rs place → holds id rs ≡ true
stands-holds id [] place there = absurd (omega (arith, there.within))
stands-holds id (r ∷ rs) zero there = ap (λ b. b || holds id rs) (same_test id r.id (sym there.same))
stands-holds id (r ∷ rs) (suc place) there = by (nat_eq id r.id) (stands-holds id rs place (record { within = omega (arith, there.within); same = there.same }))
  where
    by : (b : Bool) → holds id rs ≡ true → (b || holds id rs) ≡ true
    by true ih = refl
    by false ih = ih

-- ---- replaced

module _ (id : ℕ) (bytes : List ℕ) where
  record_after_put-same : (r : Stored) → r.id ≡ id → record_after_put id bytes r ≡ record { id = id; bytes = bytes }
  record_after_put-same r same = ap (λ b. if b then record { id = r.id; bytes = bytes } else r) (same_test r.id id same) ∙ ap (λ (k : ℕ). record { id = k; bytes = bytes }) same

  record_after_put-other : (r : Stored) → nat_eq r.id id ≡ false → record_after_put id bytes r ≡ r
  record_after_put-other r other = ap (λ b. if b then record { id = r.id; bytes = bytes } else r) other

  record_after_put-none : (k : ℕ) (rs : List Stored) → k ≡ id → AllByRecursion (λ y. nat_eq k y ≡ false) (ids rs) → map (record_after_put id bytes) rs ≡ rs
  record_after_put-none k [] is apart = refl
  record_after_put-none k (r ∷ rs) is apart = λ i. record_after_put-other r (other_test k r.id id is apart.0) i ∷ record_after_put-none k rs is apart.1 i

  pub record_after_put-at : (rs : List Stored) (place : ℕ) → IsDistinct nat_eq (ids rs) → StandsAt id rs place → set rs place (record { id = id; bytes = bytes }) ≡ map (record_after_put id bytes) rs
  record_after_put-at [] place distinct there = absurd (omega (arith, there.within))
  record_after_put-at (r ∷ rs) zero distinct there =
      λ i. sym (record_after_put-same r there.same) i ∷ sym (record_after_put-none r.id rs there.same (IsDistinct-head nat_eq r.id (ids rs) distinct)) i
  record_after_put-at (r ∷ rs) (suc place) distinct there =
      let later : StandsAt id rs place = record { within = omega (arith, there.within); same = there.same } in
      let other = apart_at r.id id rs place (IsDistinct-head nat_eq r.id (ids rs) distinct) later in
      λ i. sym (record_after_put-other r other) i ∷ record_after_put-at rs place (IsDistinct-tail nat_eq r.id (ids rs) distinct) later i

  record_after_put-id : (r : Stored) → (record_after_put id bytes r).id ≡ r.id
  record_after_put-id r = by (nat_eq r.id id)
    where
      by : (b : Bool) → (if b then record { id = r.id; bytes = bytes } else r).id ≡ r.id
      by true = refl
      by false = refl

  record_after_put-ids : (rs : List Stored) → ids (map (record_after_put id bytes) rs) ≡ ids rs
  record_after_put-ids [] = refl
  record_after_put-ids (r ∷ rs) = λ i. record_after_put-id r i ∷ record_after_put-ids rs i

  record_after_put-fits : (r : Stored) → length bytes ≤ most_bytes → AreBytes bytes → Fits r → Fits (record_after_put id bytes r)
  record_after_put-fits r short are fits = by (nat_eq r.id id)
    where
      by : (b : Bool) → Fits (if b then record { id = r.id; bytes = bytes } else r)
      by true = record { above = fits.above; below = fits.below; size = short; bytes = are }
      by false = fits

  record_after_put-each : (rs : List Stored) → length bytes ≤ most_bytes → AreBytes bytes → AllByRecursion Fits rs → AllByRecursion Fits (map (record_after_put id bytes) rs)
  record_after_put-each [] short are each = tt
  record_after_put-each (r ∷ rs) short are each = (record_after_put-fits r short are each.0, record_after_put-each rs short are each.1)

  pub IsStore-record_after_put : (rs : List Stored) → length bytes ≤ most_bytes → AreBytes bytes → IsStore rs → IsStore (map (record_after_put id bytes) rs)
  IsStore-record_after_put rs short are kept = record {
    count = omega (arith, kept.count, length-record_after_put id bytes rs);
    each = record_after_put-each rs short are kept.each;
    distinct = subst (IsDistinct nat_eq) (sym (record_after_put-ids rs)) kept.distinct;
  }

  pub with_record-there : (rs : List Stored) → holds id rs ≡ true → with_record id bytes rs ≡ map (record_after_put id bytes) rs
  with_record-there rs there = ap (λ b. if b then map (record_after_put id bytes) rs else rs ++ record { id = id; bytes = bytes } ∷ []) there

  pub with_record-new : (rs : List Stored) → holds id rs ≡ false → with_record id bytes rs ≡ rs ++ record { id = id; bytes = bytes } ∷ []
  with_record-new rs new = ap (λ b. if b then map (record_after_put id bytes) rs else rs ++ record { id = id; bytes = bytes } ∷ []) new

-- ---- one record more

each-push : (rs : List Stored) (r : Stored) → AllByRecursion Fits rs → Fits r → AllByRecursion Fits (rs ++ r ∷ [])
each-push [] r each fits = (fits, tt)
each-push (q ∷ rs) r each fits = (each.0, each-push rs r each.1 fits)

pub IsStore-push : (rs : List Stored) (r : Stored) → IsStore rs → Fits r → length rs < most_records → holds r.id rs ≡ false → IsStore (rs ++ r ∷ [])
IsStore-push rs r kept fits room new = record {
  count = omega (arith, room, length-append rs (r ∷ []));
  each = each-push rs r kept.each fits;
  distinct = subst (IsDistinct nat_eq) (sym (map-append (λ (q : Stored). q.id) rs (r ∷ []))) (IsDistinct-push nat_eq_equiv (ids rs) r.id kept.distinct new);
}

-- ---- removed

module _ (id : ℕ) where
  abbrev is_other : Stored → Bool
  is_other r = not (nat_eq r.id id)

  abbrev picked : Bool → Stored → List Stored → List Stored
  picked b r rs = cond (not b) (r ∷ rs) rs

  without-none : (k : ℕ) (rs : List Stored) → k ≡ id → AllByRecursion (λ y. nat_eq k y ≡ false) (ids rs) → without id rs ≡ rs
  without-none k [] is apart = refl
  without-none k (r ∷ rs) is apart =
      ap (λ b. picked b r (without id rs)) (other_test k r.id id is apart.0) ∙ ap (λ (qs : List Stored). r ∷ qs) (without-none k rs is apart.1)

  pub without-at : (rs : List Stored) (place : ℕ) → IsDistinct nat_eq (ids rs) → StandsAt id rs place → remove rs place ≡ without id rs
  without-at [] place distinct there = absurd (omega (arith, there.within))
  without-at (r ∷ rs) zero distinct there =
      sym (ap (λ b. picked b r (without id rs)) (same_test r.id id there.same) ∙ without-none r.id rs there.same (IsDistinct-head nat_eq r.id (ids rs) distinct))
  without-at (r ∷ rs) (suc place) distinct there =
      let later : StandsAt id rs place = record { within = omega (arith, there.within); same = there.same } in
      let other = apart_at r.id id rs place (IsDistinct-head nat_eq r.id (ids rs) distinct) later in
      ap (λ (qs : List Stored). r ∷ qs) (without-at rs place (IsDistinct-tail nat_eq r.id (ids rs) distinct) later)
      ∙ sym (ap (λ b. picked b r (without id rs)) other)

  without-length : (rs : List Stored) → length (without id rs) ≤ length rs
  without-length [] = omega arith
  without-length (r ∷ rs) = by (nat_eq r.id id) (without-length rs)
    where
      by : (b : Bool) → length (without id rs) ≤ length rs → length (picked b r (without id rs)) ≤ suc (length rs)
      by true ih = omega (arith, ih)
      by false ih = omega (arith, ih)

  without-each : (rs : List Stored) → AllByRecursion Fits rs → AllByRecursion Fits (without id rs)
  without-each [] each = tt
  without-each (r ∷ rs) each = by (nat_eq r.id id) (without-each rs each.1)
    where
      by : (b : Bool) → AllByRecursion Fits (without id rs) → AllByRecursion Fits (picked b r (without id rs))
      by true ih = ih
      by false ih = (each.0, ih)

  without-apart : (k : ℕ) (rs : List Stored) → AllByRecursion (λ y. nat_eq k y ≡ false) (ids rs) → AllByRecursion (λ y. nat_eq k y ≡ false) (ids (without id rs))
  without-apart k [] apart = tt
  without-apart k (r ∷ rs) apart = by (nat_eq r.id id) (without-apart k rs apart.1)
    where
      by : (b : Bool) → AllByRecursion (λ y. nat_eq k y ≡ false) (ids (without id rs)) → AllByRecursion (λ y. nat_eq k y ≡ false) (ids (picked b r (without id rs)))
      by true ih = ih
      by false ih = (apart.0, ih)

  without-distinct : (rs : List Stored) → IsDistinct nat_eq (ids rs) → IsDistinct nat_eq (ids (without id rs))
  without-distinct [] distinct = distinct
  without-distinct (r ∷ rs) distinct = by (nat_eq r.id id) (without-distinct rs (IsDistinct-tail nat_eq r.id (ids rs) distinct))
    where
      by : (b : Bool) → IsDistinct nat_eq (ids (without id rs)) → IsDistinct nat_eq (ids (picked b r (without id rs)))
      by true later = later
      by false later = IsDistinct-cons nat_eq r.id (ids (without id rs)) (without-apart r.id rs (IsDistinct-head nat_eq r.id (ids rs) distinct)) later

  pub IsStore-without : (rs : List Stored) → IsStore rs → IsStore (without id rs)
  IsStore-without rs kept = record {
    count = omega (arith, kept.count, without-length rs);
    each = without-each rs kept.each;
    distinct = without-distinct rs kept.distinct;
  }

pub without-twice : (id : ℕ) (rs : List Stored) → without id (without id rs) ≡ without id rs
without-twice id [] = refl
without-twice id (r ∷ rs) = by (nat_eq r.id id) refl (without-twice id rs)
  where
    by : (b : Bool) → nat_eq r.id id ≡ b → without id (without id rs) ≡ without id rs → without id (picked id b r (without id rs)) ≡ picked id b r (without id rs)
    by true is ih = ih
    by false is ih = ap (λ c. picked id c r (without id (without id rs))) is ∙ ap (λ (qs : List Stored). r ∷ qs) ih

-- ---- what a put leaves

module _ (id : ℕ) (bytes : List ℕ) where
  found-record_after_put : (rs : List Stored) → holds id rs ≡ true → bytes_under id (map (record_after_put id bytes) rs) ≡ Some bytes
  found-record_after_put [] there = absurd (true≢false (sym there))
  found-record_after_put (r ∷ rs) there = by (nat_eq r.id id) refl (found-record_after_put rs)
    where
      later : nat_eq r.id id ≡ false → holds id rs ≡ true
      later other = sym (ap (λ b. b || holds id rs) (flip_test id r.id ∙ other)) ∙ there

      by : (b : Bool) → nat_eq r.id id ≡ b → (holds id rs ≡ true → bytes_under id (map (record_after_put id bytes) rs) ≡ Some bytes)
          → bytes_under id ((if b then record { id = r.id; bytes = bytes } else r) ∷ map (record_after_put id bytes) rs) ≡ Some bytes
      by true is ih = ap (λ c. if c then Some bytes else bytes_under id (map (record_after_put id bytes) rs)) is
      by false is ih = ap (λ c. if c then Some r.bytes else bytes_under id (map (record_after_put id bytes) rs)) is ∙ ih (later is)

  found-pushed : (rs : List Stored) → holds id rs ≡ false → bytes_under id (rs ++ record { id = id; bytes = bytes } ∷ []) ≡ Some bytes
  found-pushed [] new = ap (λ c. if c then Some bytes else None) (same_test id id refl)
  found-pushed (r ∷ rs) new = by (nat_eq id r.id) refl new (found-pushed rs)
    where
      by : (b : Bool) → nat_eq id r.id ≡ b → (b || holds id rs) ≡ false
          → (holds id rs ≡ false → bytes_under id (rs ++ record { id = id; bytes = bytes } ∷ []) ≡ Some bytes) → bytes_under id ((r ∷ rs) ++ record { id = id; bytes = bytes } ∷ []) ≡ Some bytes
      by true is not_there ih = absurd (true≢false not_there)
      by false is not_there ih =
          ap (λ c. if c then Some r.bytes else bytes_under id (rs ++ record { id = id; bytes = bytes } ∷ [])) (flip_test r.id id ∙ is) ∙ ih not_there

  pub found-with_record : (rs : List Stored) → bytes_under id (with_record id bytes rs) ≡ Some bytes
  found-with_record rs = by (holds id rs) refl
    where
      by : (b : Bool) → holds id rs ≡ b → bytes_under id (if b then map (record_after_put id bytes) rs else rs ++ record { id = id; bytes = bytes } ∷ []) ≡ Some bytes
      by true is = found-record_after_put rs is
      by false is = found-pushed rs is

  others-record_after_put : (rs : List Stored) → without id (map (record_after_put id bytes) rs) ≡ without id rs
  others-record_after_put [] = refl
  others-record_after_put (r ∷ rs) = by (nat_eq r.id id) refl (others-record_after_put rs)
    where
      by : (b : Bool) → nat_eq r.id id ≡ b → without id (map (record_after_put id bytes) rs) ≡ without id rs → without id ((if b then record { id = r.id; bytes = bytes } else r) ∷ map (record_after_put id bytes) rs) ≡ picked id b r (without id rs)
      by true is ih = ap (λ c. picked id c (record { id = r.id; bytes = bytes }) (without id (map (record_after_put id bytes) rs))) is ∙ ih
      by false is ih = ap (λ c. picked id c r (without id (map (record_after_put id bytes) rs))) is ∙ ap (λ (qs : List Stored). r ∷ qs) ih

  others-pushed : (rs : List Stored) → without id (rs ++ record { id = id; bytes = bytes } ∷ []) ≡ without id rs
  others-pushed [] = ap (λ c. picked id c (record { id = id; bytes = bytes }) []) (same_test id id refl)
  others-pushed (r ∷ rs) = ap (picked id (nat_eq r.id id) r) (others-pushed rs)

  pub others-with_record : (rs : List Stored) → without id (with_record id bytes rs) ≡ without id rs
  others-with_record rs = by (holds id rs)
    where
      by : (b : Bool) → without id (if b then map (record_after_put id bytes) rs else rs ++ record { id = id; bytes = bytes } ∷ []) ≡ without id rs
      by true = others-record_after_put rs
      by false = others-pushed rs

-- ---- the fields of a store

pub IsStore-nil : IsStore []
unfolding IsDistinct
IsStore-nil = record { count = omega arith; each = tt; distinct = tt }

views-remove : (records : List Record) (place : ℕ) → views (remove records place) ≡ remove (views records) place
views-remove [] zero = refl
views-remove [] (suc place) = refl
views-remove (r ∷ rs) zero = refl
views-remove (r ∷ rs) (suc place) = ap (λ (qs : List Stored). view r ∷ qs) (views-remove rs place)

pub got_id : (records : List Record) (i : ℕ) (r : Record) → i < length records → r ≡ get_or records i r → slice_get (ids (views records)) i ≡ Some r.id
got_id [] i r within is = absurd (omega (arith, within))
got_id (q ∷ rs) zero r within is = ap (λ (x : Record). Some x.id) (sym is)
got_id (q ∷ rs) (suc i) r within is = got_id rs i r (omega (arith, within)) is

pub got_bytes : (records : List Record) (i : ℕ) (r : Record) → i < length records → r ≡ get_or records i r → slice_get (contents (views records)) i ≡ Some r.bytes.items
got_bytes [] i r within is = absurd (omega (arith, within))
got_bytes (q ∷ rs) zero r within is = ap (λ (x : Record). Some x.bytes.items) (sym is)
got_bytes (q ∷ rs) (suc i) r within is = got_bytes rs i r (omega (arith, within)) is

module _ (records : List Record) (now : List Stored) (is : views records ≡ now) (kept : IsStore (views records)) where
  now_kept : IsStore now
  now_kept = subst IsStore is kept

  set_is : (r : Record) (place : ℕ) → StandsAt r.id now place → views (set records place r) ≡ map (record_after_put r.id r.bytes.items) now
  set_is r place there =
      map-set view records place r ∙ ap (λ (rs : List Stored). set rs place (view r)) is ∙ record_after_put-at r.id r.bytes.items now place now_kept.distinct there

  pub views-set : (r : Record) (place : ℕ) → StandsAt r.id now place → views (set records place r) ≡ with_record r.id r.bytes.items now
  views-set r place there = set_is r place there ∙ sym (with_record-there r.id r.bytes.items now (stands-holds r.id now place there))

  pub IsStore-set : (r : Record) (place : ℕ) → StandsAt r.id now place → length r.bytes.items ≤ most_bytes → AreBytes r.bytes.items → IsStore (views (set records place r))
  IsStore-set r place there short are = subst IsStore (sym (set_is r place there)) (IsStore-record_after_put r.id r.bytes.items now short are now_kept)

  push_is : (r : Record) → views (records ++ r ∷ []) ≡ now ++ view r ∷ []
  push_is r = map-append view records (r ∷ []) ∙ ap (λ (rs : List Stored). rs ++ view r ∷ []) is

  pub views-push : (r : Record) → holds r.id now ≡ false → views (records ++ r ∷ []) ≡ with_record r.id r.bytes.items now
  views-push r new = push_is r ∙ sym (with_record-new r.id r.bytes.items now new)

  pub IsStore-pushed : (r : Record) → holds r.id now ≡ false → Fits (view r) → length now < most_records → IsStore (views (records ++ r ∷ []))
  IsStore-pushed r new fits room = subst IsStore (sym (push_is r)) (IsStore-push now (view r) now_kept fits room new)

  pub removed_is : (id place : ℕ) → StandsAt id now place → views (remove records place) ≡ without id now
  removed_is id place there = views-remove records place ∙ ap (λ (rs : List Stored). remove rs place) is ∙ without-at id now place now_kept.distinct there

  pub IsStore-removed : (id place : ℕ) → StandsAt id now place → IsStore (views (remove records place))
  IsStore-removed id place there = subst IsStore (sym (removed_is id place there)) (IsStore-without id now now_kept)

-- ---- what a search by identifier gives

under-none : (id : ℕ) (rs : List Stored) → holds id rs ≡ false → bytes_under id rs ≡ None
under-none id [] new = refl
under-none id (r ∷ rs) new = by (nat_eq id r.id) refl new (under-none id rs)
  where
    by : (b : Bool) → nat_eq id r.id ≡ b → (b || holds id rs) ≡ false → (holds id rs ≡ false → bytes_under id rs ≡ None) → bytes_under id (r ∷ rs) ≡ None
    by true is not_there ih = absurd (true≢false not_there)
    by false is not_there ih = ap (λ c. if c then Some r.bytes else bytes_under id rs) (flip_test r.id id ∙ is) ∙ ih not_there

under-at : (id : ℕ) (rs : List Stored) (place : ℕ) (bytes : List ℕ) → IsDistinct nat_eq (ids rs) → StandsAt id rs place → slice_get (contents rs) place ≡ Some bytes → bytes_under id rs ≡ Some bytes
under-at id [] place bytes distinct there is = absurd (omega (arith, there.within))
under-at id (r ∷ rs) zero bytes distinct there is = ap (λ c. if c then Some r.bytes else bytes_under id rs) (same_test r.id id there.same) ∙ is
under-at id (r ∷ rs) (suc place) bytes distinct there is =
    let later : StandsAt id rs place = record { within = omega (arith, there.within); same = there.same } in
    ap (λ c. if c then Some r.bytes else bytes_under id rs) (apart_at r.id id rs place (IsDistinct-head nat_eq r.id (ids rs) distinct) later)
    ∙ under-at id rs place bytes (IsDistinct-tail nat_eq r.id (ids rs) distinct) later is

pub short-at : (rs : List Stored) (place : ℕ) (bytes : List ℕ) → AllByRecursion Fits rs → slice_get (contents rs) place ≡ Some bytes → length bytes ≤ most_bytes
short-at [] place bytes each is = absurd cc
short-at (r ∷ rs) zero bytes each is = let same : r.bytes ≡ bytes = cc in subst (λ (bs : List ℕ). length bs ≤ most_bytes) same each.0.size
short-at (r ∷ rs) (suc place) bytes each is = short-at rs place bytes each.1 is

-- The bytes found under an identifier are a record's.
pub bytes_at : (id : ℕ) (rs : List Stored) (bytes : List ℕ) → AllByRecursion Fits rs → bytes_under id rs ≡ Some bytes → AreBytes bytes
bytes_at id [] bytes each is = absurd cc
bytes_at id (r ∷ rs) bytes each is = by (nat_eq r.id id) is (bytes_at id rs bytes each.1)
  where
    by : (b : Bool) → (if b then Some r.bytes else bytes_under id rs) ≡ Some bytes → (bytes_under id rs ≡ Some bytes → AreBytes bytes) → AreBytes bytes
    by true here ih = let same : r.bytes ≡ bytes = cc in subst AreBytes same each.0.bytes
    by false later ih = ih later

-- A put leaves a store.
pub IsStore-put : (id : ℕ) (bytes : List ℕ) (rs : List Stored) → IsStore rs → Fits (record { id = id; bytes = bytes }) → is_full_for id rs ≡ false → IsStore (with_record id bytes rs)
IsStore-put id bytes rs kept fits room = by (holds id rs) refl
  where
    free : holds id rs ≡ false → length rs < most_records
    free new = with_test (nat_eq (length rs) most_records) refl
      where
        with_test : (b : Bool) → nat_eq (length rs) most_records ≡ b → length rs < most_records
        with_test true is = absurd (true≢false (sym (rw (is, new) refl) ∙ room))
        with_test false is = let other : nat_eq (length rs) most_records ≡ false = is in grind (arith, nat_tests, kept.count)

    by : (b : Bool) → holds id rs ≡ b → IsStore (if b then map (record_after_put id bytes) rs else rs ++ record { id = id; bytes = bytes } ∷ [])
    by true there = IsStore-record_after_put id bytes rs fits.size fits.bytes kept
    by false new = IsStore-push rs (record { id = id; bytes = bytes }) kept fits (free new) new

pub found-at : (id : ℕ) (rs : List Stored) (place : ℕ) (bytes : List ℕ) → IsStore rs → StandsAt id rs place → slice_get (contents rs) place ≡ Some bytes → Finds id rs (Some bytes)
found-at id rs place bytes kept there is = (under-at id rs place bytes kept.distinct there is, short-at rs place bytes kept.each is)

pub found-none : (id : ℕ) (rs : List Stored) → holds id rs ≡ false → Finds id rs None
found-none id rs new = under-none id rs new

pub without-absent : (id : ℕ) (rs : List Stored) → holds id rs ≡ false → rs ≡ without id rs
without-absent id [] new = refl
without-absent id (r ∷ rs) new = by (nat_eq id r.id) refl new (without-absent id rs)
  where
    by : (b : Bool) → nat_eq id r.id ≡ b → (b || holds id rs) ≡ false → (holds id rs ≡ false → rs ≡ without id rs) → r ∷ rs ≡ picked id (nat_eq r.id id) r (without id rs)
    by true is not_there ih = absurd (true≢false not_there)
    by false is not_there ih = ap (λ (qs : List Stored). r ∷ qs) (ih not_there) ∙ sym (ap (λ c. picked id c r (without id rs)) (flip_test r.id id ∙ is))

-- ---- a put leaves what stands under other identifiers

module _ (id k : ℕ) (bytes : List ℕ) (apart : nat_eq id k ≡ false) where
  under_map : (rs : List Stored) → bytes_under k (map (record_after_put id bytes) rs) ≡ bytes_under k rs
  under_map [] = refl
  under_map (r ∷ rs) = by (nat_eq r.id id) refl (under_map rs)
    where
      by : (b : Bool) → nat_eq r.id id ≡ b → bytes_under k (map (record_after_put id bytes) rs) ≡ bytes_under k rs
          → bytes_under k ((if b then record { id = r.id; bytes = bytes } else r) ∷ map (record_after_put id bytes) rs) ≡ bytes_under k (r ∷ rs)
      by true is ih =
          let other : nat_eq r.id k ≡ false = grind (arith, nat_tests) in
          ap (λ c. if c then Some bytes else bytes_under k (map (record_after_put id bytes) rs)) other
          ∙ (ih ∙ sym (ap (λ c. if c then Some r.bytes else bytes_under k rs) other))
      by false is ih = ap (λ o. if nat_eq r.id k then Some r.bytes else o) ih

  under_push : (rs : List Stored) → bytes_under k (rs ++ record { id = id; bytes = bytes } ∷ []) ≡ bytes_under k rs
  under_push [] = ap (λ c. if c then Some bytes else None) apart
  under_push (r ∷ rs) = ap (λ o. if nat_eq r.id k then Some r.bytes else o) (under_push rs)

  pub under-with_record : (rs : List Stored) → bytes_under k (with_record id bytes rs) ≡ bytes_under k rs
  under-with_record rs = by (holds id rs)
    where
      by : (b : Bool) → bytes_under k (if b then map (record_after_put id bytes) rs else rs ++ record { id = id; bytes = bytes } ∷ []) ≡ bytes_under k rs
      by true = under_map rs
      by false = under_push rs
