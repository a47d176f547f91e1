-- How saving a record ends.
use Rattle.std.proofs.Common.{◌≡◌, ◌∙◌, ℕ, ◌||◌, Bool, true, false, List, Option, None, Some, Ok, Err, refl, sym, ap, if◌then◌else◌}
use Rattle.erst_store.specs.declared.device.CommandStatus.TheVariants.{Success, NotEnoughSpace}
use Rattle.erst_store.specs.Store.{is_full_for, is_reserved}
use Rattle.board_core.specs.Told.{Told, device_of}
use Rattle.erst_driver.specs.declared.refusals.DriverRefused.{DriverRefused}
use Rattle.erst_driver.specs.declared.refusals.DriverRefused.TheVariants.{Busy, NoMemory, Register, Status as EndedWith}
use Rattle.erst_driver.specs.Answers.{Answer, AnswersAs, IsAnswered, answer_on_put, by_status, written_id}
use Rattle.erst_driver.specs.Operations.{is_free_in_time}
use Rattle.ras_events.specs.Sizes.{CanBeSaved}
use Rattle.ras_exit.specs.declared.exit.Exit.{Exit}
use Rattle.ras_exit.specs.declared.exit.Exit.TheVariants.{ErstBusy, ErstStatus}
use Rattle.ras_run.specs.Status.{driver_exit, saving_refusal}
use Rattle.ras_run.specs.Taking.{EndsUnless}

-- the exit for an answer of the driver, unless the answer is a success
abbrev refusal_by : Answer → Option Exit
refusal_by (Ok done) = None
refusal_by (Err why) = Some (driver_exit why)

refused_by : (fast reserved full : Bool) → reserved ≡ false
    → refusal_by (if fast then by_status (if reserved || full then NotEnoughSpace else Success) else Err Busy) ≡ (if fast then (if full then Some (ErstStatus 1) else None) else Some ErstBusy)
refused_by false reserved full free = refl
refused_by true true full free = absurd cc
refused_by true false true free = refl
refused_by true false false free = refl

module _ (id : ℕ) (bytes : List ℕ) (can : CanBeSaved id bytes) (t : Told) where
  abbrev refusal : Option Exit
  refusal = saving_refusal t.volatile.slow id t.here.store

  abbrev answer : Answer
  answer = answer_on_put (written_id bytes) (device_of t)

  answer_is : refusal_by answer ≡ refusal
  answer_is =
      ap (λ (n : ℕ). refusal_by (answer_on_put n (device_of t))) can.named
      ∙ refused_by (is_free_in_time t.volatile.slow) (is_reserved id) (is_full_for id t.here.store) can.free

  pub is_saved : AnswersAs (Ok tt) answer → refusal ≡ None
  is_saved gives = sym answer_is ∙ ap refusal_by (sym gives)

  pub not_saved : (why : DriverRefused) → IsAnswered {T = Unit {0}} (Err why) → AnswersAs (Err why) answer → EndsUnless refusal (Err (driver_exit why))
  not_saved Register is gives = tt
  not_saved Busy is gives = sym answer_is ∙ ap refusal_by (sym gives)
  not_saved (EndedWith code) is gives = sym answer_is ∙ ap refusal_by (sym gives)
  not_saved NoMemory is gives = absurd is
