-- What the device's commands do, by their statuses.
use Rattle.std.proofs.Common.{◌≡◌, ℕ, ◌+◌, ◌<◌, ◌≤◌, Bool, true, false, nat_eq, nat_lt, if◌then◌else◌, List, [], ◌∷◌, length, take, drop, None, Some, ◌||◌, refl, sym, ap, subst, ◌∙◌, arith, true≢false}
use Rattle.std.proofs.lemmas.Bool.{eqb-true, lt-ltb, le-ltb}
use Rattle.std.proofs.lemmas.List.{length-take-le, length-drop}
use Rattle.ras_base.specs.LittleEndian.{number_at}
use Rattle.ras_base.specs.Steps.LittleEndianLemmas.{number_at-drop}
use Rattle.erst_store.specs.declared.store.PutRefused.{PutRefused}
use Rattle.erst_store.specs.declared.store.PutRefused.TheVariants.{ReservedId, TooLong, StoreFull}
use Rattle.erst_store.specs.declared.device.CommandStatus.TheVariants.{Success, NotEnoughSpace, StoreEmpty, NotFound}
use Rattle.erst_store.specs.Store.{Stored, most_bytes, is_reserved, is_full_for, refusal_of, with_record, without, holds}
use Rattle.erst_store.specs.Actions.{range_length}
use Rattle.erst_store.specs.Device.{Device, length_at, id_at, record_at, is_record_out, is_write_refused, after_write_command, after_clear}
use Rattle.erst_store.specs.Steps.DeviceView.{FoundRecord}
use Rattle.erst_store.specs.Steps.StoreLemmas.{without-absent}

without-nil : (id : ℕ) (rs : List Stored) → length rs ≡ 0 → rs ≡ without id rs
without-nil id [] is = refl
without-nil id (r ∷ rs) is = absurd cc

-- ---- the record in the range

length_there : (range : List ℕ) (offset : ℕ) → number_at 20 4 (drop offset range) ≡ length_at range offset
length_there range offset = number_at-drop offset 20 4 range

id_there : (range : List ℕ) (offset : ℕ) → number_at 96 8 (drop offset range) ≡ id_at range offset
id_there range offset = number_at-drop offset 96 8 range

pub out_far : (range : List ℕ) (offset : ℕ) → 16256 < offset → is_record_out range offset ≡ true
out_far range offset far =
    ap (λ b. b || (nat_lt (length_at range offset) 128 || nat_lt range_length (offset + length_at range offset))) (lt-ltb range_length (offset + 128) (omega (arith, far)))

out_last : (a b c : Bool) → c ≡ true → (a || (b || c)) ≡ true
out_last true b c is = refl
out_last false true c is = refl
out_last false false c is = is

out_middle : (a b c : Bool) → b ≡ true → (a || (b || c)) ≡ true
out_middle true b c is = refl
out_middle false b c is = ap (λ x. x || c) is

pub out_short : (range : List ℕ) (offset n : ℕ) → n ≡ number_at 20 4 (drop offset range) → n < 128 → is_record_out range offset ≡ true
out_short range offset n is short =
    out_middle _ _ _ (lt-ltb (length_at range offset) 128 (omega (arith, short, is ∙ length_there range offset)))

pub out_long : (range : List ℕ) (offset n : ℕ) → length range ≡ 16384 → offset ≤ 16256 → n ≡ number_at 20 4 (drop offset range) → length (drop offset range) < n → is_record_out range offset ≡ true
out_long range offset n whole near is long =
    out_last _ _ _ (lt-ltb range_length (offset + length_at range offset) (omega (arith, whole, near, long, length-drop offset range, is ∙ length_there range offset)))

pub found_record : (range : List ℕ) (offset n id : ℕ) (bytes : List ℕ) → length range ≡ 16384 → offset ≤ 16256 → n ≡ number_at 20 4 (drop offset range)
    → 128 ≤ n → n ≤ length (drop offset range) → id ≡ number_at 96 8 (drop offset range) → bytes ≡ take n (drop offset range) → FoundRecord range offset id bytes
found_record range offset n id bytes whole near is long room id_is bytes_are =
    let length_is : n ≡ length_at range offset = is ∙ length_there range offset in
    let first : nat_lt range_length (offset + 128) ≡ false = le-ltb _ _ (omega (arith, near)) in
    let second : nat_lt (length_at range offset) 128 ≡ false = le-ltb _ _ (omega (arith, long, length_is)) in
    let third : nat_lt range_length (offset + length_at range offset) ≡ false = le-ltb _ _ (omega (arith, whole, near, room, length-drop offset range, length_is)) in
    record {
      inside = rw (first, second, third) refl;
      id_is = sym (id_is ∙ id_there range offset);
      bytes_are = ap (λ (k : ℕ). take k (drop offset range)) (sym length_is) ∙ sym bytes_are;
      short = subst (λ (bs : List ℕ). length bs ≤ most_bytes) (sym bytes_are) (omega (arith, whole, room, length-take-le n (drop offset range) room, length-drop offset range));
    }

-- ---- a write

unrefused : (out res long full : Bool) → out ≡ false → (if res then Some ReservedId else (if long then Some TooLong else (if full then Some StoreFull else None))) ≡ None → (out || (res || full)) ≡ false
unrefused true res long full out_is is = absurd (true≢false out_is)
unrefused false true long full out_is is = absurd cc
unrefused false false true full out_is is = absurd cc
unrefused false false false true out_is is = absurd cc
unrefused false false false false out_is is = refl

refused : (out res long full : Bool) (e : PutRefused) → long ≡ false → (if res then Some ReservedId else (if long then Some TooLong else (if full then Some StoreFull else None))) ≡ Some e → (out || (res || full)) ≡ true
refused true res long full e long_is is = refl
refused false true long full e long_is is = refl
refused false false true full e long_is is = absurd (true≢false long_is)
refused false false false true e long_is is = refl
refused false false false false e long_is is = absurd cc

module _ (d : Device) (id : ℕ) (bytes : List ℕ) (there : FoundRecord d.range d.offset id bytes) where
  long_is : nat_lt most_bytes (length bytes) ≡ false
  long_is = le-ltb _ _ there.short

  at_id : is_write_refused d ≡ (is_record_out d.range d.offset || (is_reserved id || is_full_for id d.store))
  at_id = ap (λ (k : ℕ). is_record_out d.range d.offset || (is_reserved k || is_full_for k d.store)) there.id_is

  pub written_put : (store : List Stored) → refusal_of id bytes d.store ≡ None → store ≡ with_record id bytes d.store → record d { store = store; cursor = 0; status = Success } ≡ after_write_command d
  written_put store free is =
      let no : is_write_refused d ≡ false = at_id ∙ unrefused _ (is_reserved id) (nat_lt most_bytes (length bytes)) (is_full_for id d.store) there.inside free in
      ap (λ (s : List Stored). record d { store = s; cursor = 0; status = Success })
      (is ∙ ap (λ (k : ℕ). with_record k bytes d.store) (sym there.id_is) ∙ ap (λ (bs : List ℕ). with_record (id_at d.range d.offset) bs d.store) (sym there.bytes_are))
      ∙ sym (ap (λ b. if b then record d { status = NotEnoughSpace } else record d { store = with_record (id_at d.range d.offset) (record_at d.range d.offset) d.store; cursor = 0; status = Success }) no)

  pub not_written : (store : List Stored) (e : PutRefused) → refusal_of id bytes d.store ≡ Some e → store ≡ d.store → record d { store = store; status = NotEnoughSpace } ≡ after_write_command d
  not_written store e cause is =
      let yes_so : is_write_refused d ≡ true = at_id ∙ refused _ (is_reserved id) (nat_lt most_bytes (length bytes)) (is_full_for id d.store) e long_is cause in
      ap (λ (s : List Stored). record d { store = s; status = NotEnoughSpace }) is
      ∙ sym (ap (λ b. if b then record d { status = NotEnoughSpace } else record d { store = with_record (id_at d.range d.offset) (record_at d.range d.offset) d.store; cursor = 0; status = Success }) yes_so)

pub out_written : (d : Device) → is_record_out d.range d.offset ≡ true → record d { status = NotEnoughSpace } ≡ after_write_command d
out_written d out =
    sym (ap (λ b. if (b || (is_reserved (id_at d.range d.offset) || is_full_for (id_at d.range d.offset) d.store)) then record d { status = NotEnoughSpace } else record d { store = with_record (id_at d.range d.offset) (record_at d.range d.offset) d.store; cursor = 0; status = Success }) out)

-- ---- a clear

pub not_cleared : (d : Device) (store : List Stored) → nat_eq (length d.store) 0 ≡ false → holds d.id d.store ≡ false → store ≡ d.store → record d { store = store; status = NotFound } ≡ after_clear d
not_cleared d store some other is = ap (λ (s : List Stored). record d { store = s; status = NotFound }) is ∙ sym (rw (some, other) refl)

-- A clear leaves all records except the one under the identifier.
pub cleared-store : (d : Device) → (after_clear d).store ≡ without d.id d.store
cleared-store d = by (nat_eq (length d.store) 0) (holds d.id d.store) refl refl
  where
    by : (b c : Bool) → nat_eq (length d.store) 0 ≡ b → holds d.id d.store ≡ c
        → (if b then record d { status = StoreEmpty } else (if c then record d { store = without d.id d.store; cursor = 0; status = Success } else record d { status = NotFound })).store ≡ without d.id d.store
    by true c empty there = without-nil d.id d.store (eqb-true _ _ empty)
    by false true some there = refl
    by false false some new = without-absent d.id d.store new
