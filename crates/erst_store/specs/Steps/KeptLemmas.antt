-- Every action on a device leaves a device.
use Rattle.std.proofs.Common.{◌≡◌, ℕ, ◌+◌, ◌-◌, ◌^◌, ◌<◌, ◌≤◌, Bool, true, false, nat_eq, nat_lt, if◌then◌else◌, List, ◌++◌, length, take, drop, replicate, slice_get, Option, None, Some, refl, sym, ◌∙◌, arith, inl, inr, length-append, length-take, length-drop}
use Rattle.std.proofs.lemmas.Bool.{cases_lt, ltb-false, le-ltb}
use Rattle.std.proofs.lemmas.Bool.Decides.{nat_tests}
use Rattle.std.proofs.lemmas.List.{get_or_append_left, get_or-append_right, get_or-replicate, get_or_past, length-replicate, take_at}
use Rattle.std.proofs.lemmas.Option.{slice_get_within}
use Rattle.ras_base.specs.LittleEndian.{AreBytes}
use Rattle.ras_base.specs.Steps.LittleEndianLemmas.{AreBytes-drop, AreBytes-take, number_at-lt}
use Rattle.erst_store.specs.declared.device.Command.{Command}
use Rattle.erst_store.specs.declared.device.Command.TheVariants.{Write, Read, Clear, Dummy}
use Rattle.erst_store.specs.declared.device.CommandStatus.{CommandStatus}
use Rattle.erst_store.specs.declared.device.CommandStatus.TheVariants.{Success, NotEnoughSpace, StoreEmpty, NotFound}
use Rattle.erst_store.specs.declared.store.PutRefused.TheVariants.{ReservedId, TooLong, StoreFull}
use Rattle.erst_store.specs.Actions.{range_length}
use Rattle.erst_store.specs.Store.{Stored, IsStore, most_bytes, is_reserved, is_full_for, refusal_of, ids, all_ones, without, with_record, holds, bytes_under}
use Rattle.erst_store.specs.Device.{Device, zeros, new_device, effects, effect_in, act, after_check, after_id, after_write_command, after_read, after_read_of, after_clear, after_command, busy_device, is_write_refused, length_at, id_at, record_at, range_with_record, range_with, with_put, status_number}
use Rattle.erst_store.specs.DeviceLaws.{IsDevice}
use Rattle.erst_store.specs.Steps.StoreLemmas.{IsStore-without, IsStore-put, bytes_at}
use Rattle.erst_store.specs.Steps.ActionLemmas.{effect_does, either_false, in_range, status_small, listed_small, length-ids}

pub AreBytes-append : (xs ys : List ℕ) → AreBytes xs → AreBytes ys → AreBytes (xs ++ ys)
AreBytes-append xs ys first second i =
    elim (cases_lt i (length xs)) [
      | inl below ↦ rw (get_or_append_left xs ys 0 i below) (first i)
      | inr past ↦ rw (get_or-append_right xs ys (length xs) i 0 refl past) (second (i - length xs))
    ]

pub AreBytes-zeros : (n : ℕ) → AreBytes (replicate n 0)
AreBytes-zeros n i =
    elim (cases_lt i n) [
      | inl below ↦ rw (get_or-replicate {A = ℕ} n i 0 0 below) (omega arith)
      | inr past ↦ rw (get_or_past {X = ℕ} (replicate n 0) i 0 (omega (arith, past, length-replicate {A = ℕ} n 0))) (omega arith)
    ]

pub length-range_with : (place : ℕ) (bytes range : List ℕ) → length range ≡ range_length → place + length bytes ≤ range_length → length (range_with place bytes range) ≡ range_length
unfolding range_with
length-range_with place bytes range size room =
    omega (arith, size, room, length-append (take place range ++ bytes) (drop (place + length bytes) range), length-append (take place range) bytes, length-take place range, length-drop (place + length bytes) range)

pub AreBytes-range_with : (place : ℕ) (bytes range : List ℕ) → AreBytes bytes → AreBytes range → AreBytes (range_with place bytes range)
unfolding range_with
AreBytes-range_with place bytes range new old =
    AreBytes-append (take place range ++ bytes) (drop (place + length bytes) range)
    (AreBytes-append (take place range) bytes (AreBytes-take place range old) new) (AreBytes-drop (place + length bytes) range old)

pub length-range_with_record : (range : List ℕ) (offset : ℕ) (bytes : List ℕ) → length range ≡ range_length → offset + length bytes ≤ range_length → length (range_with_record range offset bytes) ≡ range_length
length-range_with_record range offset bytes size room =
    omega (arith, size, room, length-append (take offset range ++ bytes) (replicate (range_length - (offset + length bytes)) 0), length-append (take offset range) bytes, length-take offset range, length-replicate {A = ℕ} (range_length - (offset + length bytes)) 0)

pub AreBytes-range_with_record : (range : List ℕ) (offset : ℕ) (bytes : List ℕ) → AreBytes range → AreBytes bytes → AreBytes (range_with_record range offset bytes)
AreBytes-range_with_record range offset bytes old new =
    AreBytes-append (take offset range ++ bytes) (replicate (range_length - (offset + length bytes)) 0)
    (AreBytes-append (take offset range) bytes (AreBytes-take offset range old) new) (AreBytes-zeros (range_length - (offset + length bytes)))

pub IsDevice-new : (store : List Stored) (slow : ℕ) → IsStore store → slow < 2 ^ 64 → IsDevice (new_device store slow)
unfolding zeros
IsDevice-new store slow is fits = record {
  store = is;
  length = length-replicate {A = ℕ} range_length 0;
  bytes = AreBytes-zeros range_length;
  action = omega arith;
  value = omega arith;
  id = omega arith;
  offset = omega arith;
  busy = omega arith;
  cursor = omega arith;
  slow = fits;
}

-- a device with another store, cursor and status
device_stored : (d : Device) (store : List Stored) (status : CommandStatus) → IsDevice d → IsStore store → IsDevice (record d { store = store; cursor = 0; status = status })
device_stored d store status kept is = record {
  store = is;
  length = kept.length;
  bytes = kept.bytes;
  action = kept.action;
  value = kept.value;
  id = kept.id;
  offset = kept.offset;
  busy = kept.busy;
  cursor = omega arith;
  slow = kept.slow;
}

device_ranged : (d : Device) (range : List ℕ) (status : CommandStatus) → IsDevice d → length range ≡ range_length → AreBytes range → IsDevice (record d { range = range; status = status })
device_ranged d range status kept size are = record {
  store = kept.store;
  length = size;
  bytes = are;
  action = kept.action;
  value = kept.value;
  id = kept.id;
  offset = kept.offset;
  busy = kept.busy;
  cursor = kept.cursor;
  slow = kept.slow;
}

device_counted : (d : Device) (value busy cursor : ℕ) → IsDevice d → value < 2 ^ 64 → busy < 2 ^ 64 → cursor < 2 ^ 64 → IsDevice (record d { value = value; busy = busy; cursor = cursor })
device_counted d value busy cursor kept one two three = record {
  store = kept.store;
  length = kept.length;
  bytes = kept.bytes;
  action = kept.action;
  value = one;
  id = kept.id;
  offset = kept.offset;
  busy = two;
  cursor = three;
  slow = kept.slow;
}

device_set : (d : Device) (command : Option Command) (id offset : ℕ) → IsDevice d → id < 2 ^ 64 → offset < 2 ^ 64 → IsDevice (record d { command = command; id = id; offset = offset })
device_set d command id offset kept one two = record {
  store = kept.store;
  length = kept.length;
  bytes = kept.bytes;
  action = kept.action;
  value = kept.value;
  id = one;
  offset = two;
  busy = kept.busy;
  cursor = kept.cursor;
  slow = kept.slow;
}

pub IsDevice-value : (value : ℕ) (d : Device) → IsDevice d → value < 2 ^ 64 → IsDevice (record d { value = value })
IsDevice-value value d kept fits = device_counted d value d.busy d.cursor kept fits kept.busy kept.cursor

pub IsDevice-range : (place : ℕ) (bytes : List ℕ) (d : Device) → IsDevice d → AreBytes bytes → place + length bytes ≤ range_length → IsDevice (record d { range = range_with place bytes d.range })
IsDevice-range place bytes d kept are room =
    device_ranged d (range_with place bytes d.range) d.status kept (length-range_with place bytes d.range kept.length room) (AreBytes-range_with place bytes d.range are kept.bytes)

-- A device whose range was changed in place.
pub IsDevice-filled : (d : Device) (n : ℕ) (new rest : List ℕ) → IsDevice d → n ≡ range_length → length new ≡ range_length → AreBytes new → IsDevice (record d { range = take n (new ++ rest) })
IsDevice-filled d n new rest kept size whole are =
    let is : take n (new ++ rest) ≡ new = take_at new rest n (whole ∙ sym size) in
    rw is (device_ranged d new d.status kept whole are)

-- A put refuses no such record.
pub record Unrefused (id : ℕ) (bytes : List ℕ) (store : List Stored) : Type 0 where
  pub named : is_reserved id ≡ false
  pub short : nat_lt most_bytes (length bytes) ≡ false
  pub room : is_full_for id store ≡ false

pub unrefused : (id : ℕ) (bytes : List ℕ) (store : List Stored) → refusal_of id bytes store ≡ None → Unrefused id bytes store
unrefused id bytes store free = by (is_reserved id) (nat_lt most_bytes (length bytes)) (is_full_for id store) refl refl refl free
  where
    by : (a b c : Bool) → is_reserved id ≡ a → nat_lt most_bytes (length bytes) ≡ b → is_full_for id store ≡ c
        → (if a then Some ReservedId else (if b then Some TooLong else (if c then Some StoreFull else None))) ≡ None → Unrefused id bytes store
    by true b c one two three is = absurd cc
    by false true c one two three is = absurd cc
    by false false true one two three is = absurd cc
    by false false false one two three is = record { named = one; short = two; room = three }

named_fits : (id : ℕ) → is_reserved id ≡ false → id < 2 ^ 64 → (0 < id) × (id < all_ones)
named_fits id named fits =
    let first = either_false _ _ named in
    let apart_zero : nat_eq id 0 ≡ false = first.0 in
    let apart_ones : nat_eq id all_ones ≡ false = first.1 in
    (grind (arith, nat_tests), grind (arith, nat_tests))

pub IsStore-unrefused : (id : ℕ) (bytes : List ℕ) (store : List Stored) → IsStore store → id < 2 ^ 64 → AreBytes bytes → Unrefused id bytes store → IsStore (with_record id bytes store)
IsStore-unrefused id bytes store kept fits are free =
    let named = named_fits id free.named fits in
    IsStore-put id bytes store kept (record { above = named.0; below = named.1; size = ltb-false _ _ free.short; bytes = are }) free.room

pub IsDevice-put : (id : ℕ) (bytes : List ℕ) (d : Device) → IsDevice d → id < 2 ^ 64 → AreBytes bytes → refusal_of id bytes d.store ≡ None → IsDevice (with_put id bytes d)
unfolding with_put
IsDevice-put id bytes d kept fits are free =
    device_stored d (with_record id bytes d.store) d.status kept (IsStore-unrefused id bytes d.store kept.store fits are (unrefused id bytes d.store free))

device_status : (d : Device) (status : CommandStatus) → IsDevice d → IsDevice (record d { status = status })
device_status d status kept = device_ranged d d.range status kept kept.length kept.bytes

IsDevice-write : (d : Device) → IsDevice d → IsDevice (after_write_command d)
IsDevice-write d kept = by (is_write_refused d) refl
  where
    bytes : List ℕ
    bytes = record_at d.range d.offset

    free : is_write_refused d ≡ false → Unrefused (id_at d.range d.offset) (record_at d.range d.offset) d.store
    free is =
        let first = either_false _ _ is in
        let second = either_false _ _ first.1 in
        let there = in_range d.range d.offset first.0 in
        record {
          named = second.0;
          short = le-ltb _ _ (omega (arith, there.whole, length-take (length_at d.range d.offset) (drop d.offset d.range)));
          room = second.1;
        }

    by : (b : Bool) → is_write_refused d ≡ b → IsDevice (if b then record d { status = NotEnoughSpace } else record d { store = with_record (id_at d.range d.offset) (record_at d.range d.offset) d.store; cursor = 0; status = Success })
    by true is = device_status d NotEnoughSpace kept
    by false is =
        device_stored d (with_record (id_at d.range d.offset) (record_at d.range d.offset) d.store) Success kept
        (IsStore-unrefused (id_at d.range d.offset) (record_at d.range d.offset) d.store kept.store
        (number_at-lt (d.offset + 96) 8 d.range kept.bytes)
        (AreBytes-take (length_at d.range d.offset) (drop d.offset d.range) (AreBytes-drop d.offset d.range kept.bytes)) (free is))

IsDevice-clear : (d : Device) → IsDevice d → IsDevice (after_clear d)
IsDevice-clear d kept = by (nat_eq (length d.store) 0) (holds d.id d.store)
  where
    by : (b c : Bool) → IsDevice (if b then record d { status = StoreEmpty } else (if c then record d { store = without d.id d.store; cursor = 0; status = Success } else record d { status = NotFound }))
    by true c = device_status d StoreEmpty kept
    by false true = device_stored d (without d.id d.store) Success kept (IsStore-without d.id d.store kept.store)
    by false false = device_status d NotFound kept

IsDevice-read_of : (d : Device) (o : Option (List ℕ)) → IsDevice d → o ≡ bytes_under d.id d.store → IsDevice (after_read_of d o)
IsDevice-read_of d None kept is = device_status d NotFound kept
IsDevice-read_of d (Some bytes) kept is = by (nat_lt range_length (d.offset + length bytes)) refl
  where
    by : (b : Bool) → nat_lt range_length (d.offset + length bytes) ≡ b → IsDevice (if b then record d { status = NotEnoughSpace } else record d { range = range_with_record d.range d.offset bytes; status = Success })
    by true out = device_status d NotEnoughSpace kept
    by false room =
        device_ranged d (range_with_record d.range d.offset bytes) Success kept
        (length-range_with_record d.range d.offset bytes kept.length (ltb-false _ _ room))
        (AreBytes-range_with_record d.range d.offset bytes kept.bytes (bytes_at d.id d.store bytes kept.store.each (sym is)))

IsDevice-read : (d : Device) → IsDevice d → IsDevice (after_read d)
IsDevice-read d kept = by (nat_eq (length d.store) 0)
  where
    by : (b : Bool) → IsDevice (if b then record d { status = StoreEmpty } else after_read_of d (bytes_under d.id d.store))
    by true = device_status d StoreEmpty kept
    by false = IsDevice-read_of d (bytes_under d.id d.store) kept refl

IsDevice-command : (command : Option Command) (d : Device) → IsDevice d → IsDevice (after_command command d)
IsDevice-command (Some Write) d kept = IsDevice-write d kept
IsDevice-command (Some Read) d kept = IsDevice-read d kept
IsDevice-command (Some Clear) d kept = IsDevice-clear d kept
IsDevice-command (Some Dummy) d kept = device_status d Success kept
IsDevice-command None d kept = device_status d NotFound kept

after_command-slow : (command : Option Command) (d : Device) → IsDevice d → IsDevice (busy_device (after_command command d))
after_command-slow command d kept =
    let after = IsDevice-command command d kept in
    device_counted (after_command command d) 0 (after_command command d).slow (after_command command d).cursor after (omega arith) after.slow after.cursor

IsDevice-id : (d : Device) (o : Option ℕ) → IsDevice d → o ≡ slice_get (ids d.store) d.cursor → IsDevice (after_id d o)
IsDevice-id d (Some id) kept is =
    device_counted d id d.busy (d.cursor + 1) kept (listed_small d (Some id) kept is) kept.busy
    (omega (arith, kept.store.count, length-ids d.store, slice_get_within (ids d.store) d.cursor id (sym is)))
IsDevice-id d None kept is = device_counted d all_ones d.busy 0 kept (omega arith) kept.busy (omega arith)

IsDevice-check : (d : Device) → IsDevice d → IsDevice (after_check d)
IsDevice-check d kept = by (nat_lt 0 d.busy)
  where
    by : (b : Bool) → IsDevice (if b then record d { value = 1; busy = d.busy - 1 } else record d { value = 0 })
    by true = device_counted d 1 (d.busy - 1) d.cursor kept (omega arith) (omega (arith, kept.busy)) kept.cursor
    by false = IsDevice-value 0 d kept (omega arith)

with_action : (action : ℕ) (d : Device) → IsDevice d → action < 2 ^ 64 → IsDevice (record d { action = action })
with_action action d kept fits = record {
  store = kept.store;
  length = kept.length;
  bytes = kept.bytes;
  action = fits;
  value = kept.value;
  id = kept.id;
  offset = kept.offset;
  busy = kept.busy;
  cursor = kept.cursor;
  slow = kept.slow;
}

pub IsDevice-act : (action : ℕ) (d : Device) → IsDevice d → action < 2 ^ 64 → IsDevice (act action d)
unfolding act
IsDevice-act action d kept fits = with_action action (effect_in effects action d) (effect_does IsDevice effects action d kept (begins (Some Write), (begins (Some Read), (begins (Some Clear), (begins None, ((λ _. device_set d d.command d.id d.value kept kept.id kept.value), ((λ _. after_command-slow d.command d kept), ((λ _. IsDevice-check d kept), ((λ _. IsDevice-value (status_number d.status) d kept (omega (arith, status_small d.status))), ((λ _. IsDevice-id d (slice_get (ids d.store) d.cursor) kept refl), ((λ _. device_set d d.command d.value d.offset kept kept.value kept.offset), ((λ _. IsDevice-value (length d.store) d kept (omega (arith, kept.store.count))), (begins (Some Dummy), ((λ _. IsDevice-value _ d kept (omega arith)), ((λ _. IsDevice-value _ d kept (omega arith)), ((λ _. IsDevice-value _ d kept (omega arith)), tt)))))))))))))))) fits
  where
    begins : (command : Option Command) {b : Bool} → b ≡ true → IsDevice (record d { command = command })
    begins command is = device_set d command d.id d.offset kept kept.id kept.offset
