-- Listing the records, and then reading the listed ones.
use Rattle.std.proofs.Common.{◌≡◌, ◌∙◌, ℕ, ◌&&◌, not, nat_eq, List, ◌++◌, length, min, ◌+◌, Some, Result, Ok, Err, IsTrue, append_assoc, sym, ap, subst}
use Rattle.std.specs.Prelude.{IfSome}
use Rattle.std.specs.Option.{option_map}
use Rattle.dimm_topology.specs.declared.row.Row.{Row}
use Rattle.erst_store.specs.DeviceLaws.{IsDevice, left_to_list}
use Rattle.erst_store.specs.Store.{Stored, most_records}
use Rattle.erst_store.specs.Store.{ids as ids_in}
use Rattle.board_core.specs.Cause.{device_call}
use Rattle.board_core.specs.Doing.{Act, DeviceCall, Does, Ended, IsMade, Seen, broke, went_well}
use Rattle.board_core.specs.Stop.{Left}
use Rattle.board_core.specs.Told.{Told, device_of}
use Rattle.board_core.proofs.DoingLemmas.{does_first, does_then}
use Rattle.erst_interp.specs.declared.entries.InstructionEntry.{InstructionEntry}
use Rattle.erst_interp.specs.Admission.{IsAdmittedTable}
use Rattle.erst_interp.specs.Run.{acts_of}
use Rattle.erst_interp.proofs.BreakLemmas.{acts_both}
use Rattle.erst_driver.specs.declared.refusals.DriverRefused.{DriverRefused}
use Rattle.erst_driver.specs.declared.refusals.DriverRefused.TheVariants.{Busy, NoMemory, Register, Status as EndedWith}
use Rattle.erst_driver.specs.Answers.{DoesListing, IsMemoryOnly, read_calls}
use Rattle.erst_driver.specs.Operations.{AreInside, ids_steps, is_free_in_time, list_calls, listings}
use Rattle.erst_driver.proofs.DoesLemmas.{at_told, inside_both, over_each}
use Rattle.erst_driver.proofs.MomentLemmas.{list_here}
use Rattle.erst_driver.proofs.ToldLemmas.{listings_inside}
use Rattle.ras_records.specs.declared.looking.Looked.{Looked}
use Rattle.ras_records.specs.Each.{after_calls, each_calls}
use Rattle.ras_events.specs.Making.{polled}
use Rattle.ras_records.specs.Polls.{Looks, is_busy_for_reads, look_calls, readable_ids}
use Rattle.ras_records.proofs.ClearingLemmas.{calls_keep, is_device_told}

-- ---- calls that went well, and then others

module _ {X : Type 0} (see : X → Seen) (xs ys : List DeviceCall) where
  then_as : (ended : Ended) (a b c : X) → Does see (acts_of xs) went_well a b → IsMade ended → Does see (acts_of ys) ended b c → Does see (acts_of (xs ++ ys)) ended a c
  then_as ended a b c first made second =
      subst (λ (acts : List Act). Does see acts ended a c) (sym (acts_both xs ys)) (does_then see (acts_of xs) (acts_of ys) ended a b c first made second)

  listing_then : (result : Result Looked DriverRefused) (a b c : X) → Does see (acts_of xs) went_well a b → DoesListing see ys result b c → DoesListing see (xs ++ ys) result a c
  listing_then (Ok looked) a b c first second = then_as went_well a b c first tt second
  listing_then (Err Register) a b c first second = then_as (broke device_call) a b c first tt second
  listing_then (Err Busy) a b c first second = then_as went_well a b c first tt second
  listing_then (Err (EndedWith code)) a b c first second = then_as went_well a b c first tt second
  listing_then (Err NoMemory) a b c first second = record {
    done = xs ++ second.done;
    later = second.later;
    splits = append_assoc xs second.done second.later ∙ ap (λ (l : List DeviceCall). xs ++ l) second.splits;
    does = subst (λ (acts : List Act). Does see acts went_well a c) (sym (acts_both xs second.done)) (does_then see (acts_of xs) (acts_of second.done) went_well a b c first tt second.does);
  }

  listing_first : (why : DriverRefused) (a b : X) → IsMemoryOnly {T = Unit {0}} (Err why) → DoesListing {T = Unit {0}} see xs (Err why) a b → DoesListing {T = Looked} see (xs ++ ys) (Err why) a b
  listing_first Busy a b only first = absurd only
  listing_first (EndedWith code) a b only first = absurd only
  listing_first Register a b only first =
      subst (λ (acts : List Act). Does see acts (broke device_call) a b) (sym (acts_both xs ys)) (does_first see (acts_of xs) (acts_of ys) (broke device_call) a b tt first)
  listing_first NoMemory a b only first = record {
    done = first.done;
    later = first.later ++ ys;
    splits = sym (append_assoc first.done first.later ys) ∙ ap (λ (l : List DeviceCall). l ++ ys) first.splits;
    does = first.does;
  }

-- ---- a look

list_inside : (t : Told) → AreInside (ids_steps (device_of t))
list_inside t = inside_both (listings (left_to_list (device_of t))) (listings (min (length t.here.store + 1) most_records)) (listings_inside _) (listings_inside _)

pub is_device_listed : (lists : List (List InstructionEntry)) (t : Told) → IsAdmittedTable lists → IsDevice (device_of t) → IsDevice (device_of (after_calls (list_calls lists (device_of t)) t))
is_device_listed lists t admitted device = is_device_told lists (ids_steps (device_of t)) t admitted (list_inside t) device

module _ (rows : List Row) (seconds : ℕ) (u t : Told) (store : u.here.store ≡ t.here.store) (slow : u.volatile.slow ≡ t.volatile.slow) where
  same_busy : is_busy_for_reads u.volatile.slow u.here.store ≡ is_busy_for_reads t.volatile.slow t.here.store
  same_busy = ap (λ (s : List Stored). not (is_free_in_time u.volatile.slow) && not (nat_eq (length s) 0)) store
      ∙ ap (λ n. not (is_free_in_time n) && not (nat_eq (length t.here.store) 0)) slow

  looks_as : (result : Result Looked DriverRefused) → Looks rows seconds result u → Looks rows seconds result t
  looks_as (Ok looked) looks = record {
    made = looks.made ∙ ap (λ (s : List Stored). polled rows seconds s) store;
    readable = looks.readable ∙ ap (λ (s : List Stored). readable_ids s) store;
    free = sym same_busy ∙ looks.free;
  }
  looks_as (Err Register) looks = tt
  looks_as (Err Busy) looks = subst IsTrue same_busy looks
  looks_as (Err (EndedWith code)) looks = absurd looks
  looks_as (Err NoMemory) looks = tt

module _ {X : Type 0} (see : X → Seen) (lists : List (List InstructionEntry)) (a b : X) where
  pub list_refused : (why : DriverRefused) → IsMemoryOnly {T = Unit {0}} (Err why) → IfSome (see a).told (λ t. DoesListing {T = Unit {0}} see (list_calls lists (device_of t)) (Err why) a b)
      → IfSome (see a).told (λ t. DoesListing {T = Looked} see (look_calls lists t) (Err why) a b)
  list_refused why only does = over_each _ (see a).told (λ t is.
      listing_first see (list_calls lists (device_of t)) (each_calls (read_calls lists) (ids_in t.here.store) (after_calls (list_calls lists (device_of t)) t)) why a b only
      (at_told (λ u. DoesListing {T = Unit {0}} see (list_calls lists (device_of u)) (Err why) a b) (see a).told t does is))

  module _ (c : X) (found : List ℕ) (listed : IfSome (see a).told (λ t. Does see (acts_of (list_calls lists (device_of t))) went_well a b)) (ids : IfSome (see a).told (λ t. found ≡ ids_in t.here.store)) (result : Result Looked DriverRefused) where
    module _ (t : Told) (is : (see a).told ≡ Some t) where
      lists_at : Does see (acts_of (list_calls lists (device_of t))) went_well a b
      lists_at = at_told (λ u. Does see (acts_of (list_calls lists (device_of u))) went_well a b) (see a).told t listed is

      told_then : (see b).told ≡ Some (after_calls (list_calls lists (device_of t)) t)
      told_then = lists_at.told ∙ ap (option_map (after_calls (list_calls lists (device_of t)))) is

      ids_at : found ≡ ids_in t.here.store
      ids_at = at_told (λ u. found ≡ ids_in u.here.store) (see a).told t ids is

    pub look_does : IfSome (see b).told (λ u. DoesListing see (each_calls (read_calls lists) found u) result b c) → IfSome (see a).told (λ t. DoesListing see (look_calls lists t) result a c)
    look_does does = over_each _ (see a).told (λ t is.
        (let u = after_calls (list_calls lists (device_of t)) t in
        listing_then see (list_calls lists (device_of t)) (each_calls (read_calls lists) (ids_in t.here.store) u) result a b c (lists_at t is)
        (subst (λ (ids : List ℕ). DoesListing see (each_calls (read_calls lists) ids u) result b c) (ids_at t is)
        (at_told (λ v. DoesListing see (each_calls (read_calls lists) found v) result b c) (see b).told u does (told_then t is)))))

    pub look_looks : (rows : List Row) (seconds : ℕ) → IfSome (see a).told (λ t. IsDevice (device_of t))
        → (IsAdmittedTable lists → IfSome (see b).told (λ u. IsDevice (device_of u) → found ≡ ids_in u.here.store → Looks rows seconds result u))
        → IsAdmittedTable lists → IfSome (see a).told (λ t. Looks rows seconds result t)
    look_looks rows seconds device looks admitted = over_each _ (see a).told (λ t is.
        (let own = list_calls lists (device_of t) in
        let u = after_calls own t in
        let here : IsDevice (device_of t) = at_told (λ v. IsDevice (device_of v)) (see a).told t device is in
        let store : u.here.store ≡ t.here.store = ap (λ (l : Left). l.store) (list_here lists t admitted here) in
        looks_as rows seconds u t store (calls_keep own t).slow result
        (at_told (λ v. IsDevice (device_of v) → found ≡ ids_in v.here.store → Looks rows seconds result v) (see b).told u (looks admitted) (told_then t is)
        (is_device_listed lists t admitted here) (ids_at t is ∙ ap (λ (s : List Stored). ids_in s) (sym store)))))
