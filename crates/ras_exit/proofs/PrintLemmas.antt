-- What a print does, from each of its two sides.
use Rattle.std.proofs.Common.{◌≡◌, ℕ, ◌==◌, true, false, List, [], ◌∷◌, ◌++◌, length, Option, None, Some, Result, Ok, Err, OnOk, OnErr, IfErr, refl, sym, ap, subst, append-nil, inl, inr, arith}
use Rattle.std.proofs.lemmas.Bool.Decides.{nat_tests}
use Rattle.board_core.specs.Cause.{Faults, Kind, print_call}
use Rattle.board_core.specs.Clock.{Adds, After, Clock, LeftNow, Passes, Rests}
use Rattle.board_core.specs.Steps.ClockLemmas.{adds_weaker}
use Rattle.board_core.specs.Stop.{Begins, InOut, Left}
use Rattle.board_core.specs.Told.{FailsPrint, Relates, Steps, Told, after_print}
use Rattle.board_core.specs.Doing.{Act, Does, FailsActs, Moment, Seen, after_acts, one_end, prints, went_well, GoesWell}
use Rattle.board_core.proofs.DoingLemmas.{does_nothing, does_stops, steps_as}
use Rattle.ras_exit.specs.Acts.{AreStill, DoesBy, end_of, ended_with, part_end, print_acts}
use Rattle.ras_exit.specs.Causes.{BoardCause, BoardCauseBy, Causes}
use Rattle.ras_exit.specs.Endings.{CallEnding, answered, ending_of, faulted, source_failed, starved}
use Rattle.ras_exit.specs.declared.exit.Exit.{Exit}
use Rattle.ras_exit.specs.declared.exit.Exit.TheVariants.{PrintFault}

-- ---- by one call, or by none

pub nothing_printed : {X : Type 0} (see : X → Seen) (text : List ℕ) (x : X) → (length text == 0) ≡ true → Does see (print_acts text) went_well x x
nothing_printed see [] x none = does_nothing see x
nothing_printed see (b ∷ text) x none = absurd (grind (arith, nat_tests))

-- Of an empty text the only beginning is the empty text, which is also all of it.
pub nothing_of : (text : List ℕ) (clock : Clock) → (length text == 0) ≡ true → (left : Left) → LeftNow clock left → After clock (InOut (λ old new. new ≡ old ++ text)) left
nothing_of [] clock none left now = record { from = left; was = now; by = record { text = left.out; step = sym (append-nil left.out); rest = refl } }
nothing_of (b ∷ text) clock none left now = absurd (grind (arith, nat_tests))

pub nothing_passes : (text : List ℕ) (clock : Clock) → (length text == 0) ≡ true → Passes (InOut (Begins text)) clock clock
nothing_passes text clock none = record {
  later = omega arith;
  kept = λ t left within may. may;
  each = λ t left within may. inl may;
  ends = λ left now. (
      let after = nothing_of text clock none left now in
      record { from = after.from; was = after.was; by = record { text = after.by.text; step = record { part = text; missing = []; splits = append-nil text; is = after.by.step }; rest = after.by.rest } });
}

pub one_print : (text : List ℕ) → (length text == 0) ≡ false → print_acts text ≡ prints text ∷ []
one_print [] some = absurd (grind (arith, nat_tests))
one_print (b ∷ text) some = refl

-- ---- what is told, and what stops leave

pub after_printed : (text : List ℕ) (t : Told) → after_acts (print_acts text) t ≡ after_print text t
after_printed [] t = ap (λ out. record t { here = record t.here { out = out } }) (sym (append-nil t.here.out))
after_printed (b ∷ text) t = refl

pub print_moment : (text : List ℕ) (t : Told) (left : Left) → Moment (print_acts text) t left → InOut (Begins text) t.here left
print_moment [] t left never = absurd never
print_moment (b ∷ text) t left (inl torn) = torn
print_moment (b ∷ text) t left (inr never) = absurd never

print_fails : (kind : Kind) (text : List ℕ) (old new : Told) → FailsActs kind (print_acts text) old new → FailsPrint text old new
print_fails kind [] old new never = absurd never
print_fails kind (b ∷ text) old new (inl now) = now.1
print_fails kind (b ∷ text) old new (inr never) = absurd never

related : (kind : Kind) (text : List ℕ) (old new : Option Told) → Relates (FailsActs kind (print_acts text)) old new → Relates (FailsPrint text) old new
related kind text None new fails = fails
related kind text (Some t) None fails = fails
related kind text (Some t) (Some u) fails = print_fails kind text t u fails

module _ {X T : Type 0} (see : X → Seen) (text : List ℕ) (result : Result T Exit) (a b : X) (does : Does see (print_acts text) (one_end print_call result) a b) where
  pub printed : OnOk result (Steps (after_print text) (see a).told (see b).told)
  printed = by result does
    where
      by : (r : Result T Exit) → Does see (print_acts text) (one_end print_call r) a b → OnOk r (Steps (after_print text) (see a).told (see b).told)
      by (Ok done) d = steps_as (after_acts (print_acts text)) (after_print text) (after_printed text) (see a).told (see b).told d.told
      by (Err exit) d = tt

  pub not_printed : OnErr result (Relates (FailsPrint text) (see a).told (see b).told)
  not_printed = by result does
    where
      by : (r : Result T Exit) → Does see (print_acts text) (one_end print_call r) a b → OnErr r (Relates (FailsPrint text) (see a).told (see b).told)
      by (Ok done) d = tt
      by (Err exit) d = related print_call text (see a).told (see b).told d.told

  pub print_stops : (t : Told) → Rests t (see a).told (see a).clock → Adds (InOut (Begins text) t.here) (see a).clock (see b).clock
  print_stops t rests =
      adds_weaker (Moment (print_acts text) t) (InOut (Begins text) t.here) (see a).clock (see b).clock
      (does_stops see (print_acts text) (one_end print_call result) a b does t rests) (print_moment text t)

-- ---- how it ends

-- A part that can fail only by printing.
pub as_part : {X T : Type 0} (see : X → Seen) (acts : List Act) (result : Result T Exit) (a b : X) → OnErr result (result ≡ Err PrintFault)
    → Does see acts (one_end print_call result) a b → Does see acts (part_end result) a b
as_part see acts (Ok done) a b exit does = does
as_part {X} {T} see acts (Err why) a b exit does = subst (λ (r : Result T Exit). Does see acts (part_end r) a b) (sym exit) does

-- What a part does to the counts of faults.
pub part_causes : {X T : Type 0} (see : X → Seen) (acts : List Act) (result : Result T Exit) (a b : X) → Does see acts (part_end result) a b
    → Causes {C = Faults} BoardCause result (see a).faults (see b).faults
part_causes see acts (Ok done) a b does = does.faults
part_causes see acts (Err exit) a b does = by (ending_of exit) does
  where
    by : (ending : CallEnding) → Does see acts (end_of ending) a b → BoardCauseBy ending (see a).faults (see b).faults
    by answered same = ap (λ x. (see x).faults) same
    by starved same = ap (λ x. (see x).faults) same
    by source_failed same = ap (λ x. (see x).faults) same
    by (faulted kind) d = d.faults

-- An empty list of acts changes nothing.
pub none_still : (t : Told) → AreStill [] t
none_still t = record { here = refl; moments = λ left never. absurd never }

-- A part that is refused only if it has no acts.
pub part_does : {X T : Type 0} (see : X → Seen) (acts : List Act) (result : Result T Exit) (a b : X) → IfErr result (λ exit. ending_of exit ≡ answered → acts ≡ [])
    → Does see acts (part_end result) a b → DoesBy see acts (ended_with result) a b
part_does see acts (Ok done) a b none does = does
part_does see acts (Err exit) a b none does = by (ending_of exit) none does
  where
    nothing : b ≡ a → GoesWell [] (see a) (see b)
    nothing same = subst (λ x. GoesWell [] (see a) (see x)) (sym same) (does_nothing see a)

    by : (ending : CallEnding) → (ending ≡ answered → acts ≡ []) → Does see acts (end_of ending) a b → DoesBy see acts ending a b
    by answered empty same = subst (λ (some : List Act). GoesWell some (see a) (see b)) (sym (empty refl)) (nothing same)
    by starved empty same = record { done = []; later = acts; splits = refl; still = λ t is. none_still t; does = nothing same }
    by source_failed empty same = record { done = []; later = acts; splits = refl; still = λ t is. none_still t; does = nothing same }
    by (faulted kind) empty d = d
