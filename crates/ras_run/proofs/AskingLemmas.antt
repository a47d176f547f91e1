-- A part of a run that begins with some acts, and then does others if it is accepted.
use Rattle.std.proofs.Common.{◌≡◌, List, [], ◌++◌, Some, Result, Ok, Err, OnErr, IfErr, append-nil, refl, sym, ap, subst, ◌∙◌, inl, inr}
use Rattle.board_core.specs.Cause.{print_call}
use Rattle.board_core.specs.Doing.{Act, DeviceCall, Does, GoesWell, Seen, broke, one_end, went_well}
use Rattle.board_core.specs.Told.{Told}
use Rattle.board_core.proofs.DoingLemmas.{does_then}
use Rattle.erst_interp.specs.Run.{acts_of}
use Rattle.erst_interp.proofs.BreakLemmas.{acts_both}
use Rattle.erst_driver.specs.declared.refusals.DriverRefused.{DriverRefused}
use Rattle.erst_driver.specs.declared.refusals.DriverRefused.TheVariants.{Busy, NoMemory, Register, Status as EndedWith}
use Rattle.erst_driver.specs.Answers.{DoesListing, IsAnswered, driver_end}
use Rattle.ras_exit.specs.declared.exit.Exit.{Exit}
use Rattle.ras_exit.specs.declared.exit.Exit.TheVariants.{PrintFault}
use Rattle.ras_exit.specs.Acts.{AreStill, DoesSome, end_of, part_end}
use Rattle.ras_exit.specs.Endings.{CallEnding, EndsBy, answered, ending_of, faulted, source_failed, starved}
use Rattle.ras_run.specs.LineActs.{AskingEnds, DoesAsking}
use Rattle.ras_run.specs.Status.{driver_exit}

module _ {X : Type 0} (see : X → Seen) (asked : List Act) where
  -- Memory ran out after the first acts, which only read.
  pub starved_behind : (x y : X) → ((t : Told) → (see x).told ≡ Some t → AreStill asked t) → GoesWell asked (see x) (see y) → DoesSome see asked x y
  starved_behind x y still well = record { done = asked; later = []; splits = append-nil asked; still = still; does = well }

module _ {X : Type 0} (see : X → Seen) (Can Accepted : Type 0) (asked rest : List Act) where
  -- The first acts were done, and then all others, some of them, or none.
  pub asked_then : (x y z : X) (result : Result (Unit {0}) Exit) → Can → ((t : Told) → (see x).told ≡ Some t → AreStill asked t)
      → IfErr result (λ exit. EndsBy (Unit {0}) (Unit {0}) (λ kind. Accepted) (ending_of exit)) → GoesWell asked (see x) (see y) → Does see rest (part_end result) y z
      → DoesAsking see Can Accepted asked rest result x z
  asked_then x y z (Ok done) can still ends first second = (can, does_then see asked rest went_well x y z first tt second)
  asked_then x y z (Err exit) can still ends first second = by (ending_of exit) ends second
    where
      by : (ending : CallEnding) → EndsBy (Unit {0}) (Unit {0}) (λ kind. Accepted) ending → Does see rest (end_of ending) y z → AskingEnds see Can Accepted asked rest ending x z
      by answered e same = (can, subst (λ u. GoesWell asked (see x) (see u)) (sym same) first)
      by starved e same = starved_behind see asked x z still (subst (λ u. GoesWell asked (see x) (see u)) (sym same) first)
      by source_failed e same = absurd e
      by (faulted kind) e d = (can, inl (e, does_then see asked rest (broke kind) x y z first tt d))

  -- The first acts were done, and then the text was printed.
  pub asked_printed : (x y z : X) (result : Result (Unit {0}) Exit) → Can → Accepted → OnErr result (result ≡ Err PrintFault) → GoesWell asked (see x) (see y) → Does see rest (one_end print_call result) y z
      → DoesAsking see Can Accepted asked rest result x z
  asked_printed x y z (Ok done) can accepted fault first second = (can, does_then see asked rest went_well x y z first tt second)
  asked_printed x y z (Err exit) can accepted fault first second =
      subst (λ (r : Result (Unit {0}) Exit). DoesAsking see Can Accepted asked rest r x z) (sym fault) (can, inl (accepted, does_then see asked rest (broke print_call) x y z first tt second))

  -- The driver refused an operation.
  pub asked_refused : (x y : X) (why : DriverRefused) → IsAnswered {T = Unit {0}} (Err why) → Can → Does see asked (driver_end why) x y → DoesAsking see Can Accepted asked rest (Err (driver_exit why)) x y
  asked_refused x y Register is can does = (can, inr (refl, does))
  asked_refused x y Busy is can does = (can, does)
  asked_refused x y (EndedWith code) is can does = (can, does)
  asked_refused x y NoMemory is can does = absurd is

-- The driver refused to list the records, or to read one.
module _ {X : Type 0} (see : X → Seen) (Can Accepted : Type 0) (calls : List DeviceCall) (rest : List Act) where
  pub listing_refused : (T : Type 0) (x y : X) (why : DriverRefused) → Can → ((t : Told) (done later : List DeviceCall) → (see x).told ≡ Some t → done ++ later ≡ calls → AreStill (acts_of done) t)
      → DoesListing {T = T} see calls (Err why) x y → DoesAsking see Can Accepted (acts_of calls) rest (Err (driver_exit why)) x y
  listing_refused T x y Register can still does = (can, inr (refl, does))
  listing_refused T x y Busy can still does = (can, does)
  listing_refused T x y (EndedWith code) can still does = (can, does)
  listing_refused T x y NoMemory can still some = record {
    done = acts_of some.done;
    later = acts_of some.later;
    splits = sym (acts_both some.done some.later) ∙ ap acts_of some.splits;
    still = λ t is. still t some.done some.later is some.splits;
    does = some.does;
  }
