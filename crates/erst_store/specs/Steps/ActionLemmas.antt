-- Properties that each action of the device keeps, and what a listing returns.
use Rattle.std.proofs.Common.{◌≡◌, ℕ, zero, suc, ◌+◌, ◌-◌, ◌^◌, ◌<◌, ◌≤◌, Bool, true, false, nat_eq, nat_lt, if◌then◌else◌, List, [], ◌∷◌, ◌++◌, length, drop, slice_get, Option, None, Some, ◌||◌, refl, sym, ap, ◌∙◌, arith, add-one, inl, inr, true≢false}
use Rattle.std.specs.Prelude.{◌⊎◌}
use Rattle.std.specs.List.{AllByRecursion}
use Rattle.std.proofs.lemmas.Bool.{eqb-true, ltb-false}
use Rattle.std.proofs.lemmas.Option.{slice_get_past}
use Rattle.ras_base.specs.LittleEndian.{number_at}
use Rattle.ras_base.specs.Steps.LittleEndianLemmas.{number_at-drop, number_at-take}
use Rattle.erst_store.specs.declared.device.Command.{Command}
use Rattle.erst_store.specs.declared.device.Command.TheVariants.{Write, Read, Clear, Dummy}
use Rattle.erst_store.specs.declared.device.CommandStatus.{CommandStatus}
use Rattle.erst_store.specs.declared.device.CommandStatus.TheVariants.{Success, NotEnoughSpace, StoreEmpty, NotFound}
use Rattle.erst_store.specs.Actions.{execute_operation, check_busy_status, get_command_status, get_record_identifier, get_record_count, range_length}
use Rattle.erst_store.specs.Store.{Stored, Fits, ids, all_ones, without, with_record, holds, bytes_under, SameBut}
use Rattle.erst_store.specs.Device.{Device, effects, effect_in, act, after_check, after_id, after_write_command, after_read, after_read_of, after_clear, after_command, busy_device, is_write_refused, is_record_out, length_at, id_at, record_at, range_with_record, status_number}
use Rattle.erst_store.specs.DeviceLaws.{IsDevice, MayChange, id_changed, listing, after_listings, left_to_list, listed_to_end}
use Rattle.erst_store.specs.Steps.StoreLemmas.{others-with_record, without-twice}

-- A property of the effect of each row is a property of the effect of the action.
pub effect_does : (P : Device → Type 0) (rows : List (ℕ × (Device → Device))) (action : ℕ) (d : Device) → P d → AllByRecursion (λ row. nat_eq action row.0 ≡ true → P (row.1 d)) rows → P (effect_in rows action d)
effect_does P [] action d start each = start
effect_does P (row ∷ rows) action d start each = by (nat_eq action row.0) refl (effect_does P rows action d start each.1)
  where
    by : (b : Bool) → nat_eq action row.0 ≡ b → P (effect_in rows action d) → P (if b then row.1 d else effect_in rows action d)
    by true is later = each.0 is
    by false is later = later

after_check-store : (d : Device) → (after_check d).store ≡ d.store
after_check-store d = by (nat_lt 0 d.busy)
  where
    by : (b : Bool) → (if b then record d { value = 1; busy = d.busy - 1 } else record d { value = 0 }).store ≡ d.store
    by true = refl
    by false = refl

after_id-store : (d : Device) (o : Option ℕ) → (after_id d o).store ≡ d.store
after_id-store d (Some id) = refl
after_id-store d None = refl

after_read_of-store : (d : Device) (o : Option (List ℕ)) → (after_read_of d o).store ≡ d.store
after_read_of-store d None = refl
after_read_of-store d (Some bytes) = by (nat_lt range_length (d.offset + length bytes))
  where
    by : (b : Bool) → (if b then record d { status = NotEnoughSpace } else record d { range = range_with_record d.range d.offset bytes; status = Success }).store ≡ d.store
    by true = refl
    by false = refl

after_read-store : (d : Device) → (after_read d).store ≡ d.store
after_read-store d = by (nat_eq (length d.store) 0)
  where
    by : (b : Bool) → (if b then record d { status = StoreEmpty } else after_read_of d (bytes_under d.id d.store)).store ≡ d.store
    by true = refl
    by false = after_read_of-store d (bytes_under d.id d.store)

after_command-kept : (command : Option Command) (d : Device) → ¬ ((command ≡ Some Write) ⊎ (command ≡ Some Clear)) → (after_command command d).store ≡ d.store
after_command-kept (Some Write) d other = absurd (other (inl refl))
after_command-kept (Some Clear) d other = absurd (other (inr refl))
after_command-kept (Some Read) d other = after_read-store d
after_command-kept (Some Dummy) d other = refl
after_command-kept None d other = refl

pub kept : (action : ℕ) (d : Device) → ¬ MayChange action d → (act action d).store ≡ d.store
unfolding act
kept action d other = effect_does (λ e. e.store ≡ d.store) effects action d refl (same, (same, (same, (same, (same, ((λ is. after_command-kept d.command d (λ which. other (eqb-true _ _ is, which))), ((λ _. after_check-store d), (same, ((λ _. after_id-store d (slice_get (ids d.store) d.cursor)), (same, (same, (same, (same, (same, (same, tt)))))))))))))))
  where
    same : {b : Bool} → b ≡ true → d.store ≡ d.store
    same is = refl

written-one : (d : Device) → SameBut (id_at d.range d.offset) d.store (after_write_command d).store
written-one d = by (is_write_refused d)
  where
    by : (b : Bool) → SameBut (id_at d.range d.offset) d.store (if b then record d { status = NotEnoughSpace } else record d { store = with_record (id_at d.range d.offset) (record_at d.range d.offset) d.store; cursor = 0; status = Success }).store
    by true = refl
    by false = others-with_record (id_at d.range d.offset) (record_at d.range d.offset) d.store

cleared-one : (d : Device) → SameBut d.id d.store (after_clear d).store
cleared-one d = by (nat_eq (length d.store) 0) (holds d.id d.store)
  where
    by : (b c : Bool) → SameBut d.id d.store (if b then record d { status = StoreEmpty } else (if c then record d { store = without d.id d.store; cursor = 0; status = Success } else record d { status = NotFound })).store
    by true c = refl
    by false true = without-twice d.id d.store
    by false false = refl

after_command-one : (command : Option Command) (d : Device) → SameBut (id_changed command d) d.store (after_command command d).store
after_command-one (Some Write) d = written-one d
after_command-one (Some Clear) d = cleared-one d
after_command-one (Some Read) d = ap (without d.id) (after_read-store d)
after_command-one (Some Dummy) d = refl
after_command-one None d = refl

pub one : (action : ℕ) (d : Device) → SameBut (id_changed d.command d) d.store (act action d).store
unfolding act
one action d = effect_does (λ e. SameBut (id_changed d.command d) d.store e.store) effects action d refl (same, (same, (same, (same, (same, ((λ _. after_command-one d.command d), ((λ _. ap (without (id_changed d.command d)) (after_check-store d)), (same, ((λ _. ap (without (id_changed d.command d)) (after_id-store d (slice_get (ids d.store) d.cursor))), (same, (same, (same, (same, (same, (same, tt)))))))))))))))
  where
    same : {b : Bool} → b ≡ true → SameBut (id_changed d.command d) d.store d.store
    same is = refl

-- ---- what EXECUTE forgets, and what the answering actions answer

module _ (value : ℕ) (d : Device) where
  abbrev other : Device
  other = record d { value = value }

  written-forgets : busy_device (after_write_command other) ≡ busy_device (after_write_command d)
  written-forgets = by (is_write_refused d)
    where
      by : (b : Bool) → busy_device (if b then record other { status = NotEnoughSpace } else record other { store = with_record (id_at d.range d.offset) (record_at d.range d.offset) d.store; cursor = 0; status = Success })
          ≡ busy_device (if b then record d { status = NotEnoughSpace } else record d { store = with_record (id_at d.range d.offset) (record_at d.range d.offset) d.store; cursor = 0; status = Success })
      by true = refl
      by false = refl

  cleared-forgets : busy_device (after_clear other) ≡ busy_device (after_clear d)
  cleared-forgets = by (nat_eq (length d.store) 0) (holds d.id d.store)
    where
      by : (b c : Bool) → busy_device (if b then record other { status = StoreEmpty } else (if c then record other { store = without d.id d.store; cursor = 0; status = Success } else record other { status = NotFound }))
          ≡ busy_device (if b then record d { status = StoreEmpty } else (if c then record d { store = without d.id d.store; cursor = 0; status = Success } else record d { status = NotFound }))
      by true c = refl
      by false true = refl
      by false false = refl

  read_of-forgets : (o : Option (List ℕ)) → busy_device (after_read_of other o) ≡ busy_device (after_read_of d o)
  read_of-forgets None = refl
  read_of-forgets (Some bytes) = by (nat_lt range_length (d.offset + length bytes))
    where
      by : (b : Bool) → busy_device (if b then record other { status = NotEnoughSpace } else record other { range = range_with_record d.range d.offset bytes; status = Success })
          ≡ busy_device (if b then record d { status = NotEnoughSpace } else record d { range = range_with_record d.range d.offset bytes; status = Success })
      by true = refl
      by false = refl

  read-forgets : busy_device (after_read other) ≡ busy_device (after_read d)
  read-forgets = by (nat_eq (length d.store) 0)
    where
      by : (b : Bool) → busy_device (if b then record other { status = StoreEmpty } else after_read_of other (bytes_under d.id d.store))
          ≡ busy_device (if b then record d { status = StoreEmpty } else after_read_of d (bytes_under d.id d.store))
      by true = refl
      by false = read_of-forgets (bytes_under d.id d.store)

  command-forgets : (command : Option Command) → busy_device (after_command command other) ≡ busy_device (after_command command d)
  command-forgets (Some Write) = written-forgets
  command-forgets (Some Read) = read-forgets
  command-forgets (Some Clear) = cleared-forgets
  command-forgets (Some Dummy) = refl
  command-forgets None = refl

  pub forgets : act execute_operation (record d { value = value }) ≡ act execute_operation d
  unfolding act
  forgets = ap (λ (e : Device). record e { action = execute_operation }) (command-forgets d.command)

pub busy_answer : (d : Device) → (act check_busy_status d).value < 2
unfolding act
busy_answer d = by (nat_lt 0 d.busy)
  where
    by : (b : Bool) → (if b then record d { value = 1; busy = d.busy - 1 } else record d { value = 0 }).value < 2
    by true = omega arith
    by false = omega arith

pub status_small : (status : CommandStatus) → status_number status < 2 ^ 8
status_small Success = omega arith
status_small NotEnoughSpace = omega arith
status_small StoreEmpty = omega arith
status_small NotFound = omega arith

pub status_answer : (d : Device) → (act get_command_status d).value < 2 ^ 8
unfolding act
status_answer d = status_small d.status

id_small : (rs : List Stored) (i id : ℕ) → AllByRecursion Fits rs → slice_get (ids rs) i ≡ Some id → id < 2 ^ 64
id_small [] i id each is = absurd cc
id_small (r ∷ rs) zero id each is = let same : r.id ≡ id = cc in omega (arith, each.0.below)
id_small (r ∷ rs) (suc i) id each is = id_small rs i id each.1 is

-- A listing step keeps the numbers small.
pub listed_small : (d : Device) (o : Option ℕ) → IsDevice d → o ≡ slice_get (ids d.store) d.cursor → (after_id d o).value < 2 ^ 64
listed_small d (Some id) kept is = id_small d.store d.cursor id kept.store.each (sym is)
listed_small d None kept is = omega arith

pub id_answer : (d : Device) → IsDevice d → (act get_record_identifier d).value < 2 ^ 64
unfolding act
id_answer d kept = listed_small d (slice_get (ids d.store) d.cursor) kept refl

pub count_answer : (d : Device) → IsDevice d → (act get_record_count d).value < 2 ^ 32
unfolding act
count_answer d kept = omega (arith, kept.store.count)

-- ---- a listing

-- The numbers from an index on, one by one.
got_first : (ks : List ℕ) (i : ℕ) → i < length ks → (k : ℕ) × (slice_get ks i ≡ Some k) × (drop i ks ≡ k ∷ drop (suc i) ks)
got_first [] i within = absurd (omega (arith, within))
got_first (k ∷ ks) zero within = (k, refl, refl)
got_first (k ∷ ks) (suc i) within = got_first ks i (omega (arith, within))

nothing_left : (ks : List ℕ) (i : ℕ) → length ks ≤ i → drop i ks ≡ []
nothing_left [] zero past = refl
nothing_left [] (suc i) past = refl
nothing_left (k ∷ ks) zero past = absurd (omega (arith, past))
nothing_left (k ∷ ks) (suc i) past = nothing_left ks i (omega (arith, past))

pub length-ids : (rs : List Stored) → length (ids rs) ≡ length rs
length-ids [] = refl
length-ids (r ∷ rs) = ap suc (length-ids rs)

-- the device after one identifier, and after the last
next_device : Device → ℕ → Device
next_device d id = record d { action = get_record_identifier; value = id; cursor = d.cursor + 1 }

act-there : (d : Device) (id : ℕ) → slice_get (ids d.store) d.cursor ≡ Some id → act get_record_identifier d ≡ next_device d id
unfolding act next_device
act-there d id is = ap (λ (o : Option ℕ). record (after_id d o) { action = get_record_identifier }) is

act-end : (d : Device) → length (ids d.store) ≤ d.cursor → act get_record_identifier d ≡ listed_to_end d
unfolding act
act-end d past = ap (λ (o : Option ℕ). record (after_id d o) { action = get_record_identifier }) (slice_get_past (ids d.store) d.cursor past)

listing-from : (count : ℕ) (d : Device) → count ≡ length (ids d.store) - d.cursor → listing (suc count) d ≡ drop d.cursor (ids d.store) ++ all_ones ∷ []
unfolding next_device
listing-from zero d is =
    ap (λ (e : Device). e.value ∷ []) (act-end d (omega (arith, is)))
    ∙ ap (λ (ks : List ℕ). ks ++ all_ones ∷ []) (sym (nothing_left (ids d.store) d.cursor (omega (arith, is))))
listing-from (suc count) d is =
    let g = got_first (ids d.store) d.cursor (omega (arith, is)) in
    ap (λ (e : Device). e.value ∷ listing (suc count) e) (act-there d g.0 g.1)
    ∙ ap (λ (ks : List ℕ). g.0 ∷ ks) (listing-from count (next_device d g.0) (omega (arith, is)))
    ∙ ap (λ (n : ℕ). g.0 ∷ (drop n (ids d.store) ++ all_ones ∷ [])) (add-one d.cursor)
    ∙ ap (λ (ks : List ℕ). ks ++ all_ones ∷ []) (sym g.2)

after_listings-from : (count : ℕ) (d : Device) → count ≡ length (ids d.store) - d.cursor → after_listings (suc count) d ≡ listed_to_end d
unfolding next_device
after_listings-from zero d is = act-end d (omega (arith, is))
after_listings-from (suc count) d is =
    let g = got_first (ids d.store) d.cursor (omega (arith, is)) in
    ap (after_listings (suc count)) (act-there d g.0 g.1)
    ∙ after_listings-from count (next_device d g.0) (omega (arith, is))

pub listed : (d : Device) → listing (left_to_list d) d ≡ drop d.cursor (ids d.store) ++ all_ones ∷ []
listed d =
    ap (λ (n : ℕ). listing n d) (add-one (length d.store - d.cursor))
    ∙ listing-from (length d.store - d.cursor) d (ap (λ (n : ℕ). n - d.cursor) (sym (length-ids d.store)))

pub anew : (d : Device) → after_listings (left_to_list d) d ≡ listed_to_end d
anew d =
    ap (λ (n : ℕ). after_listings n d) (add-one (length d.store - d.cursor))
    ∙ after_listings-from (length d.store - d.cursor) d (ap (λ (n : ℕ). n - d.cursor) (sym (length-ids d.store)))

-- ---- the record in the range

pub either_false : (a b : Bool) → (a || b) ≡ false → (a ≡ false) × (b ≡ false)
either_false false b is = (refl, is)
either_false true b is = absurd (true≢false is)

pub record InRange (range : List ℕ) (offset : ℕ) : Type 0 where
  pub header : offset + 128 ≤ range_length
  pub long : 128 ≤ length_at range offset
  pub whole : offset + length_at range offset ≤ range_length

pub in_range : (range : List ℕ) (offset : ℕ) → is_record_out range offset ≡ false → InRange range offset
in_range range offset inside =
    let first = either_false _ _ inside in
    let second = either_false _ _ first.1 in
    record { header = ltb-false _ _ first.0; long = ltb-false _ _ second.0; whole = ltb-false _ _ second.1 }

pub identifier_there : (range : List ℕ) (offset : ℕ) → is_record_out range offset ≡ false → number_at 96 8 (record_at range offset) ≡ id_at range offset
identifier_there range offset inside =
    number_at-take (length_at range offset) 96 8 (drop offset range) (omega (arith, (in_range range offset inside).long))
    ∙ number_at-drop offset 96 8 range

pub size_there : (range : List ℕ) (offset : ℕ) → is_record_out range offset ≡ false → number_at 20 4 (record_at range offset) ≡ length_at range offset
size_there range offset inside =
    number_at-take (length_at range offset) 20 4 (drop offset range) (omega (arith, (in_range range offset inside).long))
    ∙ number_at-drop offset 20 4 range
