-- Reading the records of a store, one after another.
use Rattle.std.proofs.Common.{◌≡◌, ◌∙◌, ◌⊎◌, ◌≤◌, ◌<◌, ◌^◌, ℕ, zero, suc, ◌+◌, ◌&&◌, ◌||◌, Bool, true, false, not, cond, nat_eq, List, [], ◌∷◌, ◌++◌, length, drop, get_or, Some, Ok, Err, IsTrue, append_assoc, append-nil, inl, inr, refl, sym, ap, subst, arith, if◌then◌else◌}
use Rattle.std.specs.Prelude.{IfSome}
use Rattle.std.specs.List.{AllByRecursion, IsDistinct}
use Rattle.std.specs.Option.{option_map}
use Rattle.std.specs.Result.{is_ok}
use Rattle.std.proofs.lemmas.Bool.Decides.{nat_tests}
use Rattle.std.proofs.lemmas.List.{drop_all, drop_more, get_or-map, length-map}
use Rattle.std.proofs.lemmas.Map.Keys.{IsDistinct-head, IsDistinct-tail}
use Rattle.cper_records.specs.Readable.{filled, read_under}
use Rattle.dimm_topology.specs.declared.row.Row.{Row}
use Rattle.erst_store.specs.DeviceLaws.{IsDevice}
use Rattle.erst_store.specs.Store.{Fits, Stored, all_ones, bytes_under, holds}
use Rattle.erst_store.specs.Store.{ids as ids_in}
use Rattle.board_core.specs.Doing.{DeviceCall, Does, Seen, went_well}
use Rattle.board_core.specs.Stop.{Left}
use Rattle.board_core.specs.Told.{Told, device_of}
use Rattle.erst_interp.specs.declared.entries.InstructionEntry.{InstructionEntry}
use Rattle.erst_interp.specs.Admission.{IsAdmittedTable}
use Rattle.erst_interp.specs.Run.{acts_of}
use Rattle.erst_driver.specs.declared.refusals.DriverRefused.{DriverRefused}
use Rattle.erst_driver.specs.declared.refusals.DriverRefused.TheVariants.{Busy, NoMemory, Register, Status as EndedWith}
use Rattle.erst_driver.specs.Answers.{Answer, DoesListing, DoesSome, AnswersAs, HoldsRecord, IsAnswered, answer_on_found, by_status, found_status, read_calls, driver_end}
use Rattle.erst_driver.specs.Operations.{is_free_in_time}
use Rattle.erst_driver.proofs.DoesLemmas.{at_told, over_each}
use Rattle.erst_driver.proofs.MomentLemmas.{read_here}
use Rattle.ras_records.specs.declared.looking.Looked.{Looked}
use Rattle.ras_events.specs.declared.made.Piece.{Piece}
use Rattle.ras_records.specs.Each.{after_calls, each_calls}
use Rattle.ras_events.specs.Making.{piece_of, polled}
use Rattle.ras_records.specs.Polls.{HasLooked, Looks, is_busy_for_reads, readable_ids}
use Rattle.ras_events.specs.Stores.{is_readable, read_stored, readable}
use Rattle.ras_records.proofs.ClearingLemmas.{calls_keep, held_answer}
use Rattle.ras_records.proofs.EachLemmas.{DoneTo, done_more, done_none, each_more, each_refused, told_now}
use Rattle.ras_records.proofs.FirstLemmas.{Apart}

-- ---- a record of the store at its place

own_test : (a : ℕ) → nat_eq a a ≡ true
own_test a = grind (arith, nat_tests)

head_is : (x y : Stored) (xs ys : List Stored) → (x ∷ xs) ≡ (y ∷ ys) → x ≡ y
head_is x y xs ys is = cc

no_front : {P : Type 0} (x : Stored) (xs : List Stored) → [] ≡ (x ∷ xs) → P
no_front x xs is = absurd (omega (arith, ap (λ (l : List Stored). length l) is))

apart_at : (k i : ℕ) (rs : List Stored) (r : Stored) (later : List Stored) → Apart k (ids_in rs) → drop i rs ≡ r ∷ later → nat_eq k r.id ≡ false
apart_at k zero [] r later all is = no_front r later is
apart_at k (suc i) [] r later all is = no_front r later is
apart_at k zero (q ∷ qs) r later all is = subst (λ (s : Stored). nat_eq k s.id ≡ false) (head_is q r qs later is) all.0
apart_at k (suc i) (q ∷ qs) r later all is = apart_at k i qs r later all.1 is

under_place : (i : ℕ) (rs : List Stored) (r : Stored) (later : List Stored) → IsDistinct nat_eq (ids_in rs) → drop i rs ≡ r ∷ later → bytes_under r.id rs ≡ Some r.bytes
under_place zero [] r later distinct is = no_front r later is
under_place (suc i) [] r later distinct is = no_front r later is
under_place zero (q ∷ qs) r later distinct is =
    subst (λ (s : Stored). bytes_under s.id (q ∷ qs) ≡ Some s.bytes) (head_is q r qs later is) (ap (λ b. if b then Some q.bytes else bytes_under q.id qs) (own_test q.id))
under_place (suc i) (q ∷ qs) r later distinct is =
    ap (λ b. if b then Some q.bytes else bytes_under r.id qs) (apart_at q.id i qs r later (IsDistinct-head nat_eq q.id (ids_in qs) distinct) is)
    ∙ under_place i qs r later (IsDistinct-tail nat_eq q.id (ids_in qs) distinct) is

fits_place : (i : ℕ) (rs : List Stored) (r : Stored) (later : List Stored) → AllByRecursion Fits rs → drop i rs ≡ r ∷ later → r.id < all_ones
fits_place zero [] r later all is = no_front r later is
fits_place (suc i) [] r later all is = no_front r later is
fits_place zero (q ∷ qs) r later all is = subst (λ (s : Stored). s.id < all_ones) (head_is q r qs later is) all.0.below
fits_place (suc i) (q ∷ qs) r later all is = fits_place i qs r later all.1 is

found_holds : (id : ℕ) (rs : List Stored) (bytes : List ℕ) → bytes_under id rs ≡ Some bytes → holds id rs ≡ true
found_holds id [] bytes is = cc
found_holds id (r ∷ rs) bytes is = by (nat_eq r.id id) refl is (found_holds id rs bytes)
  where
    turned : (b : Bool) → nat_eq r.id id ≡ b → nat_eq id r.id ≡ b
    turned true is = grind (arith, nat_tests)
    turned false is = grind (arith, nat_tests)

    over : (b : Bool) → holds id rs ≡ true → (b || holds id rs) ≡ true
    over true there = refl
    over false there = there

    by : (b : Bool) → nat_eq r.id id ≡ b → (if b then Some r.bytes else bytes_under id rs) ≡ Some bytes → (bytes_under id rs ≡ Some bytes → holds id rs ≡ true) → holds id (r ∷ rs) ≡ true
    by true same here up = ap (λ b. b || holds id rs) (turned true same)
    by false other here up = over (nat_eq id r.id) (up here)

-- The record at an index whose identifier was listed.
record AtPlace (ids : List ℕ) (store : List Stored) (count : ℕ) : Type 0 where
  found : Stored
  front : drop count store ≡ found ∷ drop (count + 1) store
  id : get_or ids count 0 ≡ found.id

no_record : Stored
no_record = record { id = 0; bytes = [] }

at_place : (ids : List ℕ) (store : List Stored) (count : ℕ) → ids ≡ ids_in store → count < length ids → AtPlace ids store count
at_place ids store count listed within =
    let inside : count < length store = omega (arith, within, ap (λ (xs : List ℕ). length xs) listed, length-map store (λ (r : Stored). r.id)) in
    record {
      found = get_or store count no_record;
      front = drop_more store count no_record inside;
      id = ap (λ (xs : List ℕ). get_or xs count 0) listed ∙ get_or-map (λ (r : Stored). r.id) store count no_record 0 inside;
    }

-- The result of reading a record that is there, or isn't.
abbrev answered_if : Bool → Answer
answered_if free = if free then Ok tt else Err Busy

-- ---- the records so far

-- What a modelled board has to have.
pub record IsListed (lists : List (List InstructionEntry)) (ids : List ℕ) (u : Told) : Type 0 where
  pub admitted : IsAdmittedTable lists
  pub device : IsDevice (device_of u)
  pub listed : ids ≡ ids_in u.here.store

-- The pieces of this many of a store's records are made.
pub record HeldTo (rows : List Row) (seconds count : ℕ) (u now : Told) (looked : Looked) : Type 0 where
  pub here : now.here ≡ u.here
  pub made : looked.made ++ polled rows seconds (drop count u.here.store) ≡ polled rows seconds u.here.store
  pub readable : looked.readable.items ++ readable_ids (drop count u.here.store) ≡ readable_ids u.here.store
  pub free : (count ≡ 0) ⊎ (is_free_in_time u.volatile.slow ≡ true)

pub record ReadTo {X : Type 0} (see : X → Seen) (lists : List (List InstructionEntry)) (rows : List Row) (seconds : ℕ) (ids : List ℕ) (count : ℕ) (u : Told) (looked : Looked) (a b : X) : Type 0 where
  pub done : DoneTo see (read_calls lists) ids count u a b
  pub held : IsListed lists ids u → (n : Told) → (see b).told ≡ Some n → HeldTo rows seconds count u n looked

some_told : (x y : Told) → Some x ≡ Some y → x ≡ y
some_told x y is = cc

some_bytes : (x y : List ℕ) → Some x ≡ Some y → x ≡ y
some_bytes x y is = cc

is_free : (id : ℕ) (t : Told) → AnswersAs (Ok tt) (answer_on_found id (device_of t)) → is_free_in_time t.volatile.slow ≡ true
is_free id t gives = by (is_free_in_time t.volatile.slow) refl gives
  where
    by : (b : Bool) → is_free_in_time t.volatile.slow ≡ b → Ok tt ≡ (if b then by_status (found_status id t.here.store) else Err Busy) → is_free_in_time t.volatile.slow ≡ true
    by true is given = is
    by false is given = cc

ids_front : (b : Bool) (r : Stored) (qs : List Stored) → (if b then r.id ∷ [] else []) ++ ids_in qs ≡ ids_in (cond b (r ∷ qs) qs)
ids_front true r qs = refl
ids_front false r qs = refl

module _ (rows : List Row) (seconds : ℕ) where
  pub held_none : (u : Told) (looked : Looked) → looked.made ≡ [] → looked.readable.items ≡ [] → HeldTo rows seconds 0 u u looked
  held_none u looked made readable = record {
    here = refl;
    made = ap (λ (l : List Piece). l ++ polled rows seconds u.here.store) made;
    readable = ap (λ (l : List ℕ). l ++ readable_ids u.here.store) readable;
    free = inl refl;
  }

  -- The piece of one more record is made.
  module _ (lists : List (List InstructionEntry)) (ids : List ℕ) (count : ℕ) (u n m : Told) (old new : Looked) (buffer : List ℕ) (is : IsListed lists ids u) (within : count < length ids) (device : IsDevice (device_of n))
      (found : HoldsRecord (get_or ids count 0) n.here.store buffer)
      (made : new.made ≡ old.made ++ piece_of rows seconds (get_or ids count 0) (read_under (get_or ids count 0) buffer) ∷ [])
      (more : new.readable.items ≡ old.readable.items ++ (if is_ok (read_under (get_or ids count 0) buffer) then get_or ids count 0 ∷ [] else []))
      (after : m ≡ after_calls (read_calls lists (get_or ids count 0) (device_of n)) n)
      (free : is_free_in_time n.volatile.slow ≡ true) (slow : n.volatile.slow ≡ u.volatile.slow) (held : HeldTo rows seconds count u n old) where
    abbrev place : AtPlace ids u.here.store count
    place = at_place ids u.here.store count is.listed within

    abbrev r : Stored
    r = place.found

    abbrev later : List Stored
    later = drop (count + 1) u.here.store

    abbrev id : ℕ
    id = get_or ids count 0

    same_store : n.here.store ≡ u.here.store
    same_store = ap (λ (l : Left). l.store) held.here

    distinct : IsDistinct nat_eq (ids_in u.here.store)
    distinct = subst (λ (s : List Stored). IsDistinct nat_eq (ids_in s)) same_store device.store.distinct

    fits : id < 2 ^ 64
    fits =
        let below = fits_place count u.here.store r later (subst (AllByRecursion Fits) same_store device.store.each) place.front in
        let is_id = place.id in
        omega (arith, below, is_id)

    bytes_are : found.bytes ≡ r.bytes
    bytes_are = some_bytes found.bytes r.bytes
        (sym found.found ∙ (ap (λ (s : List Stored). bytes_under id s) same_store ∙ (ap (λ k. bytes_under k u.here.store) place.id ∙ under_place count u.here.store r later distinct place.front)))

    read_is : read_under id buffer ≡ read_stored r
    read_is = ap (λ k. read_under k buffer) place.id ∙ ap (read_under r.id) (found.is ∙ ap filled bytes_are)

    pub held_more : HeldTo rows seconds (count + 1) u m new
    held_more = record {
      here = ap (λ (t : Told). t.here) after ∙ (read_here lists n is.admitted device id fits ∙ held.here);
      made = ap (λ (l : List Piece). l ++ polled rows seconds later) made
          ∙ (append_assoc old.made (piece_of rows seconds id (read_under id buffer) ∷ []) (polled rows seconds later)
          ∙ (ap (λ k. old.made ++ (piece_of rows seconds k (read_under id buffer) ∷ polled rows seconds later)) place.id
          ∙ (ap (λ read. old.made ++ (piece_of rows seconds r.id read ∷ polled rows seconds later)) read_is
          ∙ (ap (λ (s : List Stored). old.made ++ polled rows seconds s) (sym place.front) ∙ held.made))));
      readable = ap (λ (l : List ℕ). l ++ readable_ids later) more
          ∙ (append_assoc old.readable.items (if is_ok (read_under id buffer) then id ∷ [] else []) (readable_ids later)
          ∙ (ap (λ k. old.readable.items ++ ((if is_ok (read_under id buffer) then k ∷ [] else []) ++ readable_ids later)) place.id
          ∙ (ap (λ read. old.readable.items ++ ((if is_ok read then r.id ∷ [] else []) ++ readable_ids later)) read_is
          ∙ (ap (λ (l : List ℕ). old.readable.items ++ l) (ids_front (is_readable r) r (readable later))
          ∙ (ap (λ (s : List Stored). old.readable.items ++ readable_ids s) (sym place.front) ∙ held.readable)))));
      free = inr (ap is_free_in_time (sym slow) ∙ free);
    }

  -- ---- how the reading ends

  -- A listed record is there.
  module _ (lists : List (List InstructionEntry)) (ids : List ℕ) (count : ℕ) (u n : Told) (looked : Looked) (is : IsListed lists ids u) (within : count < length ids) (slow : n.volatile.slow ≡ u.volatile.slow) (held : HeldTo rows seconds count u n looked) where
    listed_there : holds (get_or ids count 0) n.here.store ≡ true
    listed_there =
        let place = at_place ids u.here.store count is.listed within in
        ap (λ (l : Left). holds (get_or ids count 0) l.store) held.here ∙ (ap (λ k. holds k u.here.store) place.id
        ∙ found_holds place.found.id u.here.store place.found.bytes (under_place count u.here.store place.found (drop (count + 1) u.here.store) is.device.store.distinct place.front))

    some_there : nat_eq (length u.here.store) 0 ≡ false
    some_there =
        let inside : count < length u.here.store = omega (arith, within, ap (λ (xs : List ℕ). length xs) is.listed, length-map u.here.store (λ (r : Stored). r.id)) in
        grind (arith, nat_tests)

    answer_there : answer_on_found (get_or ids count 0) (device_of n) ≡ answered_if (is_free_in_time u.volatile.slow)
    answer_there = by (is_free_in_time u.volatile.slow) refl
      where
        by : (b : Bool) → is_free_in_time u.volatile.slow ≡ b → answer_on_found (get_or ids count 0) (device_of n) ≡ answered_if b
        by true free = held_answer (get_or ids count 0) n (ap is_free_in_time slow ∙ free) listed_there
        by false free = ap (λ b. if b then by_status (found_status (get_or ids count 0) n.here.store) else Err Busy) (ap is_free_in_time slow ∙ free)

    pub looks_refused : (why : DriverRefused) → AnswersAs (Err why) (answer_on_found (get_or ids count 0) (device_of n)) → IsAnswered {T = Unit {0}} (Err why) → Looks rows seconds (Err why) u
    looks_refused Register gives answered = tt
    looks_refused NoMemory gives answered = absurd answered
    looks_refused Busy gives answered = by (is_free_in_time u.volatile.slow) refl (gives ∙ answer_there)
      where
        by : (b : Bool) → is_free_in_time u.volatile.slow ≡ b → Err Busy ≡ answered_if b → IsTrue (is_busy_for_reads u.volatile.slow u.here.store)
        by true free never = cc
        by false free given = ap (λ b. not b && not (nat_eq (length u.here.store) 0)) free ∙ ap not some_there
    looks_refused (EndedWith code) gives answered = by (is_free_in_time u.volatile.slow) (gives ∙ answer_there)
      where
        by : (b : Bool) → Err (EndedWith code) ≡ answered_if b → ⊥
        by true never = cc
        by false never = cc

  pub looks_done : (lists : List (List InstructionEntry)) (ids : List ℕ) (count : ℕ) (u n : Told) (looked : Looked) → IsListed lists ids u → length ids ≤ count → HeldTo rows seconds count u n looked → HasLooked rows seconds u looked
  looks_done lists ids count u n looked is past held =
      let long : length u.here.store ≤ count = omega (arith, past, ap (λ (xs : List ℕ). length xs) is.listed, length-map u.here.store (λ (r : Stored). r.id)) in
      let none : drop count u.here.store ≡ [] = drop_all count u.here.store long in
      record {
        made = sym (append-nil looked.made) ∙ (ap (λ (s : List Stored). looked.made ++ polled rows seconds s) (sym none) ∙ held.made);
        readable = sym (append-nil looked.readable.items) ∙ (ap (λ (s : List Stored). looked.readable.items ++ readable_ids s) (sym none) ∙ held.readable);
        free = elim held.free [
          | inl zero_is ↦ (let empty : nat_eq (length u.here.store) 0 ≡ true = grind (arith, nat_tests) in ap (λ b. not (is_free_in_time u.volatile.slow) && not b) empty ∙ none_or (not (is_free_in_time u.volatile.slow)))
          | inr free ↦ ap (λ b. not b && not (nat_eq (length u.here.store) 0)) free
        ];
      }
    where
      none_or : (b : Bool) → b && false ≡ false
      none_or true = refl
      none_or false = refl

-- ---- over a board

pub listing_of : {X : Type 0} (see : X → Seen) (calls : List DeviceCall) (why : DriverRefused) (a b : X) → IsAnswered {T = Unit {0}} (Err why) → Does see (acts_of calls) (driver_end why) a b → DoesListing {T = Looked} see calls (Err why) a b
listing_of see calls Register a b answered does = does
listing_of see calls Busy a b answered does = does
listing_of see calls (EndedWith code) a b answered does = does
listing_of see calls NoMemory a b answered does = absurd answered

module _ {X : Type 0} (see : X → Seen) (lists : List (List InstructionEntry)) (rows : List Row) (seconds : ℕ) (ids : List ℕ) (count : ℕ) where
  pub read_none : (looked : Looked) (a : X) → looked.made ≡ [] → looked.readable.items ≡ [] → IfSome (see a).told (λ t. ReadTo see lists rows seconds ids 0 t looked a a)
  read_none looked a made readable = over_each _ (see a).told (λ t is. record {
    done = done_none see (read_calls lists) ids t a;
    held = λ p n now. subst (λ (m : Told). HeldTo rows seconds 0 t m looked) (some_told t n (sym is ∙ now)) (held_none rows seconds t looked made readable);
  })

  module _ (within : count < length ids) (a b c : X) (old : Looked) (so_far : IfSome (see a).told (λ t. ReadTo see lists rows seconds ids count t old a b)) where
    abbrev asked : ℕ
    asked = get_or ids count 0

    done_far : IfSome (see a).told (λ t. DoneTo see (read_calls lists) ids count t a b)
    done_far = over_each _ (see a).told (λ t is. (at_told (λ u. ReadTo see lists rows seconds ids count u old a b) (see a).told t so_far is).done)

    pub read_more : (new : Looked) (buffer : List ℕ) → IfSome (see b).told (λ n. Does see (acts_of (read_calls lists asked (device_of n))) went_well b c) → IfSome (see b).told (λ n. AnswersAs (Ok tt) (answer_on_found asked (device_of n)))
        → IfSome (see b).told (λ n. HoldsRecord asked n.here.store buffer) → IfSome (see b).told (λ n. IsDevice (device_of n))
        → new.made ≡ old.made ++ piece_of rows seconds asked (read_under asked buffer) ∷ [] → new.readable.items ≡ old.readable.items ++ (if is_ok (read_under asked buffer) then asked ∷ [] else [])
        → IfSome (see a).told (λ t. ReadTo see lists rows seconds ids (count + 1) t new a c)
    read_more new buffer does answers held device made more = over_each _ (see a).told (λ t is.
        (let so = at_told (λ u. ReadTo see lists rows seconds ids count u old a b) (see a).told t so_far is in
        let n = after_calls so.done.done t in
        let now = told_now see (read_calls lists) ids t count a b is so.done in
        let own = read_calls lists asked (device_of n) in
        let reads = at_told (λ u. Does see (acts_of (read_calls lists asked (device_of u))) went_well b c) (see b).told n does now in
        let gives = at_told (λ u. AnswersAs (Ok tt) (answer_on_found asked (device_of u))) (see b).told n answers now in
        let next : (see c).told ≡ Some (after_calls own n) = reads.told ∙ ap (option_map (after_calls own)) now in
        record {
          done = done_more see (read_calls lists) ids t count a b c is within 0 so.done reads (sym gives);
          held = λ p m told. held_more rows seconds lists ids count t n m old new buffer p within (at_told (λ u. IsDevice (device_of u)) (see b).told n device now)
              (at_told (λ u. HoldsRecord asked u.here.store buffer) (see b).told n held now) made more (some_told m (after_calls own n) (sym told ∙ next)) (is_free asked n gives) (calls_keep so.done.done t).slow (so.held p n now);
        }))

    pub read_starved : IfSome (see b).told (λ n. Does see (acts_of (read_calls lists asked (device_of n))) went_well b c) → IfSome (see b).told (λ n. AnswersAs (Ok tt) (answer_on_found asked (device_of n)))
        → IfSome (see a).told (λ t. DoesSome see (each_calls (read_calls lists) ids t) a c)
    read_starved does answers = over_each _ (see a).told (λ t is.
        (let more = at_told (λ u. DoneTo see (read_calls lists) ids (count + 1) u a c) (see a).told t (each_more see (read_calls lists) ids count a b c within 0 done_far does answers) is in
        record {
          done = more.done;
          later = each_calls (read_calls lists) (drop (count + 1) ids) (after_calls more.done t);
          splits = sym more.calls;
          does = more.does;
        }))

    pub read_refused : (why : DriverRefused) → IfSome (see b).told (λ n. Does see (acts_of (read_calls lists asked (device_of n))) (driver_end why) b c) → IfSome (see b).told (λ n. AnswersAs (Err why) (answer_on_found asked (device_of n)))
        → IsAnswered {T = Unit {0}} (Err why) → IfSome (see a).told (λ t. DoesListing {T = Looked} see (each_calls (read_calls lists) ids t) (Err why) a c)
    read_refused why does answers answered = over_each _ (see a).told (λ t is.
        listing_of see (each_calls (read_calls lists) ids t) why a c answered
        (at_told (λ u. Does see (acts_of (each_calls (read_calls lists) ids u)) (driver_end why) a c) (see a).told t (each_refused see (read_calls lists) ids count a b c within 0 done_far why does answers answered) is))

    pub refused_looks : (why : DriverRefused) → IfSome (see b).told (λ n. AnswersAs (Err why) (answer_on_found asked (device_of n))) → IsAnswered {T = Unit {0}} (Err why)
        → IsAdmittedTable lists → IfSome (see a).told (λ t. IsDevice (device_of t) → ids ≡ ids_in t.here.store → Looks rows seconds (Err why) t)
    refused_looks why answers answered admitted = over_each _ (see a).told (λ t is device listed.
        (let so = at_told (λ u. ReadTo see lists rows seconds ids count u old a b) (see a).told t so_far is in
        let n = after_calls so.done.done t in
        let now = told_now see (read_calls lists) ids t count a b is so.done in
        let p : IsListed lists ids t = record { admitted = admitted; device = device; listed = listed } in
        looks_refused rows seconds lists ids count t n old p within (calls_keep so.done.done t).slow (so.held p n now) why (at_told (λ u. AnswersAs (Err why) (answer_on_found asked (device_of u))) (see b).told n answers now) answered))

  pub done_looks : (a b : X) (looked : Looked) → length ids ≤ count → IfSome (see a).told (λ t. ReadTo see lists rows seconds ids count t looked a b)
      → IsAdmittedTable lists → IfSome (see a).told (λ t. IsDevice (device_of t) → ids ≡ ids_in t.here.store → HasLooked rows seconds t looked)
  done_looks a b looked past so_far admitted = over_each _ (see a).told (λ t is device listed.
      (let so = at_told (λ u. ReadTo see lists rows seconds ids count u looked a b) (see a).told t so_far is in
      let n = after_calls so.done.done t in
      let p : IsListed lists ids t = record { admitted = admitted; device = device; listed = listed } in
      looks_done rows seconds lists ids count t n looked p past (so.held p n (told_now see (read_calls lists) ids t count a b is so.done))))
