-- A poll clears the readable records, once its new entries are appended and its text is printed.
use Rattle.std.proofs.Common.{◌≡◌, ◌∙◌, ℕ, ◌&&◌, Bool, true, false, not, nat_eq, List, [], ◌∷◌, ◌++◌, length, Some, IfSome, Result, Ok, Err, OnErr, arith, refl, sym, ap, subst}
use Rattle.std.specs.Option.{option_map}
use Rattle.std.proofs.lemmas.Bool.Decides.{nat_tests}
use Rattle.board_core.specs.Cause.{device_call, print_call}
use Rattle.board_core.specs.Device.{KeepsDevice}
use Rattle.board_core.specs.Doing.{Act, Does, GoesWell, Seen, after_acts, broke, one_end, went_well}
use Rattle.board_core.specs.Told.{Told, device_of}
use Rattle.board_core.proofs.DoingLemmas.{does_first, does_then, made_one}
use Rattle.erst_store.specs.Device.{Device, device_with}
use Rattle.erst_store.specs.DeviceLaws.{IsDevice}
use Rattle.erst_store.specs.Store.{Stored}
use Rattle.erst_interp.specs.Admission.{IsAdmittedTable}
use Rattle.erst_interp.specs.Run.{acts_of}
use Rattle.erst_driver.specs.declared.refusals.DriverRefused.{DriverRefused}
use Rattle.erst_driver.specs.declared.refusals.DriverRefused.TheVariants.{Busy, NoMemory, Register, Status as EndedWith}
use Rattle.erst_driver.specs.Answers.{AnswersAs, IsAnswered, driver_end}
use Rattle.erst_driver.specs.Operations.{clear_calls, is_free_in_time}
use Rattle.erst_driver.proofs.DoesLemmas.{at_told}
use Rattle.ras_events.specs.Events.{Lists}
use Rattle.ras_exit.specs.declared.exit.Exit.{Exit}
use Rattle.ras_exit.specs.declared.exit.Exit.TheVariants.{PrintFault}
use Rattle.ras_exit.specs.Acts.{part_end}
use Rattle.ras_exit.proofs.PrintLemmas.{as_part}
use Rattle.ras_records.specs.Each.{each_answer, each_calls}
use Rattle.ras_records.specs.Polls.{is_busy_for_reads, readable_ids}
use Rattle.ras_records.proofs.ClearingLemmas.{clears_answer}
use Rattle.ras_run.specs.Status.{driver_exit}
use Rattle.ras_run.proofs.CountLemmas.{IsCutShort}

-- The identifiers are those of the readable records of a device that was fast enough to be read. Then all of them can
-- be cleared.
pub record CanClear (lists : Lists) (ids : List ℕ) (t : Told) : Type 0 where
  pub admitted : IsAdmittedTable lists
  pub device : IsDevice (device_of t)
  pub free : is_busy_for_reads t.volatile.slow t.here.store ≡ false
  pub found : ids ≡ readable_ids t.here.store

none_readable : (store : List Stored) → nat_eq (length store) 0 ≡ true → readable_ids store ≡ []
none_readable [] is = refl
none_readable (r ∷ rs) is = absurd (grind (arith, nat_tests))

is_true : (b : Bool) → not b ≡ false → b ≡ true
is_true true is = refl
is_true false is = cc

module _ (lists : Lists) (ids : List ℕ) where
  -- Acts that leave the device alone don't change which records can be cleared.
  pub clear_kept : (t u : Told) → KeepsDevice t u → CanClear lists ids t → CanClear lists ids u
  clear_kept t u keeps can = record {
    admitted = can.admitted;
    device = subst (λ (d : Device). IsDevice d) (λ i. device_with (sym keeps.store i) (sym keeps.volatile i)) can.device;
    free = (λ i. is_busy_for_reads (keeps.volatile i).slow (keeps.store i)) ∙ can.free;
    found = can.found ∙ ap (λ (store : List Stored). readable_ids store) (sym keeps.store);
  }

  pub clear_answer : (t : Told) → CanClear lists ids t → each_answer (clear_calls lists) ids t ≡ Ok tt
  clear_answer t can = by (is_free_in_time t.volatile.slow) refl
    where
      by : (b : Bool) → is_free_in_time t.volatile.slow ≡ b → each_answer (clear_calls lists) ids t ≡ Ok tt
      by true is = clears_answer lists can.admitted ids t can.device is (sym can.found)
      by false is =
          let busy : not (nat_eq (length t.here.store) 0) ≡ false = subst (λ b. (not b && not (nat_eq (length t.here.store) 0)) ≡ false) is can.free in
          ap (λ (some : List ℕ). each_answer (clear_calls lists) some t) (can.found ∙ none_readable t.here.store (is_true (nat_eq (length t.here.store) 0) busy))

module _ {X : Type 0} (see : X → Seen) (lists : Lists) (told done : List Act) (ids : List ℕ) (t : Told) (x y : X) (at : (see x).told ≡ Some t) (can : CanClear lists ids (after_acts told t)) (first : GoesWell told (see x) (see y)) where
  abbrev u : Told
  u = after_acts told t

  abbrev clears : List Act
  clears = acts_of (each_calls (clear_calls lists) ids u)

  told_then : (see y).told ≡ Some u
  told_then = first.told ∙ ap (option_map (after_acts told)) at

  answer_then : each_answer (clear_calls lists) ids u ≡ Ok tt
  answer_then = clear_answer lists ids u can

  pub cleared_does : (result : Result (Unit {0}) Exit) (z w : X) → IfSome (see y).told (λ v. Does see (acts_of (each_calls (clear_calls lists) ids v)) went_well y z)
      → OnErr result (result ≡ Err PrintFault) → Does see done (one_end print_call result) z w → Does see (told ++ (clears ++ done)) (part_end result) x w
  cleared_does result z w cleared fault last =
      as_part see (told ++ (clears ++ done)) result x w fault
      (does_then see told (clears ++ done) (one_end print_call result) x y w first (made_one print_call result)
      (does_then see clears done (one_end print_call result) y z w
      (at_told (λ v. Does see (acts_of (each_calls (clear_calls lists) ids v)) went_well y z) (see y).told u cleared told_then) (made_one print_call result) last))

  -- If the driver refused a clear, a call of the board failed.
  module _ (why : DriverRefused) (is : IsAnswered {T = Unit {0}} (Err why)) (gives : IfSome (see y).told (λ v. AnswersAs (Err why) (each_answer (clear_calls lists) ids v))) where
    gives_then : AnswersAs (Err why) (each_answer (clear_calls lists) ids u)
    gives_then = at_told (λ v. AnswersAs (Err why) (each_answer (clear_calls lists) ids v)) (see y).told u gives told_then

    failed : why ≡ Register
    failed = by why is gives_then
      where
        by : (w : DriverRefused) → IsAnswered {T = Unit {0}} (Err w) → AnswersAs (Err w) (each_answer (clear_calls lists) ids u) → w ≡ Register
        by Register a g = refl
        by Busy a g = absurd (let is : each_answer (clear_calls lists) ids u ≡ Ok tt = answer_then in cc)
        by (EndedWith code) a g = absurd (let is : each_answer (clear_calls lists) ids u ≡ Ok tt = answer_then in cc)
        by NoMemory a g = absurd a

    pub failed_does : (z : X) → IfSome (see y).told (λ v. Does see (acts_of (each_calls (clear_calls lists) ids v)) (driver_end why) y z) → Does see (told ++ (clears ++ done)) (part_end {T = Unit {0}} (Err (driver_exit why))) x z
    failed_does z does =
        let last : Does see clears (broke device_call) y z =
        subst (λ (w : DriverRefused). Does see clears (driver_end w) y z) failed (at_told (λ v. Does see (acts_of (each_calls (clear_calls lists) ids v)) (driver_end why) y z) (see y).told u does told_then) in
        subst (λ (w : DriverRefused). Does see (told ++ (clears ++ done)) (part_end {T = Unit {0}} (Err (driver_exit w))) x z) (sym failed)
        (does_then see told (clears ++ done) (broke device_call) x y z first tt (does_first see clears done (broke device_call) y z tt last))

    pub failed_ends : IsCutShort (driver_exit why)
    failed_ends = subst (λ (w : DriverRefused). IsCutShort (driver_exit w)) (sym failed) tt
