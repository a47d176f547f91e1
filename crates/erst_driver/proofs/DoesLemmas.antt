-- An operation does its calls of the device.
use Rattle.std.proofs.Common.{◌≡◌, ◌∙◌, ℕ, zero, suc, ◌+◌, ◌<◌, ◌^◌, Bool, true, false, List, [], ◌∷◌, ◌++◌, length, Option, Some, None, refl, sym, ap, subst, inl, inr, arith, if◌then◌else◌}
use Rattle.std.specs.Prelude.{Result, Ok, Err, IfSome}
use Rattle.std.specs.Option.{option_map}
use Rattle.erst_store.specs.Actions.{get_command_status, end_operation}
use Rattle.erst_store.specs.Device.{Device}
use Rattle.erst_store.specs.Store.{Stored}
use Rattle.board_core.specs.Cause.{device_call}
use Rattle.board_core.specs.Clock.{Adds, Passes, Rests, StoreIsLeft}
use Rattle.board_core.specs.Steps.ClockLemmas.{adds_at_rest, rests_store, rests_stored}
use Rattle.board_core.specs.Doing.{DeviceCall, Does, FailsActs, Moment, Raises, Seen, Tears, after_acts, after_device, broke, device, ended_by, went_well, reg_read, reg_write, range_read, range_write, put}
use Rattle.board_core.specs.Stop.{Becomes, InStore, Left}
use Rattle.board_core.specs.Told.{Relates, Told}
use Rattle.erst_interp.specs.declared.entries.InstructionEntry.{InstructionEntry}
use Rattle.erst_interp.specs.Admission.{IsAdmittedTable}
use Rattle.erst_interp.specs.Machine.{End, start}
use Rattle.erst_interp.specs.Run.{IsCutShort, acts_of}
use Rattle.erst_interp.specs.Table.{list_of}
use Rattle.erst_interp.proofs.FaithfulLemmas.{Done, done}
use Rattle.erst_interp.proofs.BreakLemmas.{here_after}
use Rattle.erst_driver.specs.declared.refusals.DriverRefused.{DriverRefused}
use Rattle.erst_driver.specs.declared.refusals.DriverRefused.TheVariants.{Register, Busy, NoMemory, Status as EndedWith}
use Rattle.erst_driver.specs.declared.step.Step.{Step}
use Rattle.erst_driver.specs.Steps.Operating.{HasCall, KeepsStored, Leaves}
use Rattle.erst_driver.specs.Answers.{DoesListing, HasCauseIn, IsMemoryOnly, IsAnswered, Stays, driver_end}
use Rattle.erst_driver.specs.Operations.{AreInside, Inside, checks, device_calls, end_by, ends, finishes, is_free_in_time, asks, most_checks, without_input}

-- ---- lists of calls

torn_before : (call : DeviceCall) (t : Told) → Tears (device call) (Some t) t.here t.here
torn_before (reg_read reg) t = refl
torn_before (reg_write reg value) t = record { store = t.here.store; step = inl refl; rest = refl }
torn_before (range_read place count) t = refl
torn_before (range_write place bytes) t = refl
torn_before (put id bytes) t = record { store = t.here.store; step = inl refl; rest = refl }

torn_after : (call : DeviceCall) (t : Told) → Tears (device call) (Some t) t.here (after_device call t).here
torn_after (reg_read reg) t = refl
torn_after (reg_write reg value) t = record { store = (after_device (reg_write reg value) t).here.store; step = inr refl; rest = refl }
torn_after (range_read place count) t = refl
torn_after (range_write place bytes) t = refl
torn_after (put id bytes) t = record { store = (after_device (put id bytes) t).here.store; step = inr refl; rest = refl }

-- A crash may leave the model before the calls, and the model after them.
pub moment_before : (calls : List DeviceCall) (t : Told) → HasCall calls → Moment (acts_of calls) t t.here
moment_before [] t none = absurd none
moment_before (call ∷ calls) t has = inl (torn_before call t)

pub moment_after : (calls : List DeviceCall) (t : Told) → HasCall calls → Moment (acts_of calls) t (after_acts (acts_of calls) t).here
moment_after [] t none = absurd none
moment_after (call ∷ []) t has = inl (torn_after call t)
moment_after (call ∷ next ∷ calls) t has = inr (moment_after (next ∷ calls) (after_device call t) tt)

-- ---- the run of an admitted list makes a call

some_call : (calls : List DeviceCall) → 0 < length calls → HasCall calls
some_call [] some = absurd (omega (arith, some))
some_call (call ∷ calls) some = tt

pub more_calls : (one two : List DeviceCall) → HasCall one → HasCall (one ++ two)
more_calls [] two none = absurd none
more_calls (call ∷ one) two has = tt

pub has_call : (lists : List (List InstructionEntry)) (s : Step) (steps : List Step) (d : Device) → IsAdmittedTable lists → Inside s → HasCall (device_calls lists (s ∷ steps) d)
unfolding device_calls
has_call lists s steps d admitted inside =
    let few = inside.action in
    let fits : s.action < 2 ^ 64 = omega (arith, few) in
    let run : Done s.action (list_of s.action lists) (start s.input d) = done s.action (list_of s.action lists) (start s.input d) fits refl inside.input (admitted s.action few) in
    let made : (end_by lists s d).state.calls ≡ run.after.calls = ap (λ (e : End). e.state.calls) run.ends in
    more_calls (end_by lists s d).state.calls (device_calls lists steps (end_by lists s d).state.device)
    (subst HasCall (sym made) (some_call run.after.calls (let some = run.calls in omega (arith, some))))

-- ---- what an operation does

some_told : (x y : Told) → Some x ≡ Some y → x ≡ y
some_told x y e = cc

module _ {X : Type 0} (see : X → Seen) (calls : List DeviceCall) (Step : List Stored → List Stored → Type 0) (t : Told) (a b : X) (is : (see a).told ≡ Some t)
    (passes : StoreIsLeft (see a).told (see a).clock → Passes (InStore Step) (see a).clock (see b).clock)
    (moments : (left : Left) → InStore Step t.here left → Moment (acts_of calls) t left) where
  same : (u : Told) → Rests u (see a).told (see a).clock → t ≡ u
  same u rests = some_told t u (sym is ∙ rests.is)

  at_t : (u : Told) → Rests u (see a).told (see a).clock → Rests t (see a).told (see a).clock
  at_t u rests = subst (λ (v : Told). Rests v (see a).told (see a).clock) (sym (same u rests)) rests

  before : (u : Told) → Rests u (see a).told (see a).clock → StoreIsLeft (see a).told (see a).clock
  before u rests = rests_store u (see a).told (see a).clock rests

  stops : (u : Told) → Rests u (see a).told (see a).clock → Adds (Moment (acts_of calls) u) (see a).clock (see b).clock
  stops u rests = subst (λ (v : Told). Adds (Moment (acts_of calls) v) (see a).clock (see b).clock) (same u rests)
      (adds_at_rest (InStore Step) (Moment (acts_of calls) t) t (see a).told (see a).clock (see b).clock (at_t u rests) (passes (before u rests)) moments)

  pub went : (StoreIsLeft (see a).told (see a).clock → StoreIsLeft (see b).told (see b).clock) → (see b).told ≡ Some (after_acts (acts_of calls) t) → (see b).faults ≡ (see a).faults
      → Does see (acts_of calls) went_well a b
  went stored told faults = record {
    told = told ∙ ap (option_map (after_acts (acts_of calls))) (sym is);
    stops = stops;
    rests = λ u rests. subst (λ (v : Told). Rests (after_acts (acts_of calls) v) (see b).told (see b).clock) (same u rests)
        (rests_stored Step t (after_acts (acts_of calls) t) (see a).told (see b).told (see a).clock (see b).clock (at_t u rests) told (passes (before u rests))
        (stored (before u rests) (after_acts (acts_of calls) t) told) (here_after calls t));
    faults = faults;
  }

  broken : IsCutShort calls t (see b).told → Raises device_call (see a).faults (see b).faults → Does see (acts_of calls) (broke device_call) a b
  broken cut raises = record {
    told = subst (λ (o : Option Told). Relates (FailsActs device_call (acts_of calls)) o (see b).told) (sym is) (by (see b).told cut);
    stops = stops;
    faults = raises;
  }
    where
      by : (o : Option Told) → IsCutShort calls t o → Relates (FailsActs device_call (acts_of calls)) (Some t) o
      by None never = absurd never
      by (Some u) fails = fails

  pub does_operation : {T : Type 0} (result : Result T DriverRefused) → KeepsStored result (see a) (see b) → Leaves result t (see b).told calls → HasCauseIn result (see a).faults (see b).faults → IsAnswered result
      → Does see (acts_of calls) (ended_by driver_end result) a b
  does_operation (Ok done) stored told cause answered = went stored told cause
  does_operation (Err Register) stored cut cause answered = broken cut cause
  does_operation (Err Busy) stored told cause answered = went stored told cause
  does_operation (Err (EndedWith code)) stored told cause answered = went stored told cause
  does_operation (Err NoMemory) stored told cause answered = absurd answered

-- ---- what is said of a board that tells

pub at_told : (P : Told → Type 0) (told : Option Told) (t : Told) → IfSome told P → told ≡ Some t → P t
at_told P told t holds is = subst (λ (o : Option Told). IfSome o P) is holds

pub over_each : (P : Told → Type 0) (told : Option Told) → ((t : Told) → told ≡ Some t → P t) → IfSome told P
over_each P None each = tt
over_each P (Some t) each = each t refl

-- ---- the actions of an operation are inside an admitted table

pub inside_both : (one two : List Step) → AreInside one → AreInside two → AreInside (one ++ two)
inside_both [] two first second = second
inside_both (s ∷ one) two first second = (first.0, inside_both one two first.1 second)

checks_inside : (count : ℕ) → AreInside (checks count)
checks_inside zero = tt
checks_inside (suc count) = (record { action = omega arith; input = omega arith }, checks_inside count)

pub finishes_inside : (busy : ℕ) → AreInside (finishes busy)
finishes_inside busy = inside_both (asks busy) (ends busy) (asked (is_free_in_time busy)) (ended (is_free_in_time busy))
  where
    asked : (b : Bool) → AreInside (if b then checks (busy + 1) else checks most_checks)
    asked true = checks_inside (busy + 1)
    asked false = checks_inside most_checks

    ended : (b : Bool) → AreInside (if b then without_input get_command_status ∷ without_input end_operation ∷ [] else [])
    ended true = (record { action = omega arith; input = omega arith }, (record { action = omega arith; input = omega arith }, tt))
    ended false = tt

-- ---- an operation, by what it does to the record store

module _ {X : Type 0} (see : X → Seen) (a b : X) where
  -- An operation that doesn't change the store.
  module _ (calls : List DeviceCall) (t : Told) (is : (see a).told ≡ Some t) (has : HasCall calls)
      (passes : StoreIsLeft (see a).told (see a).clock → Passes (InStore (Stays (see a).told)) (see a).clock (see b).clock) where
    stays_moments : (left : Left) → InStore (Stays (see a).told) t.here left → Moment (acts_of calls) t left
    stays_moments left by =
        let same : by.store ≡ t.here.store = subst (λ (o : Option Told). Stays o t.here.store by.store) is by.step in
        subst (λ (l : Left). Moment (acts_of calls) t l) (sym (by.rest ∙ ap (λ (store : List Stored). record t.here { store = store }) same)) (moment_before calls t has)

    pub does_quietly : {T : Type 0} (result : Result T DriverRefused) → KeepsStored result (see a) (see b) → Leaves result t (see b).told calls → HasCauseIn result (see a).faults (see b).faults → IsAnswered result
        → Does see (acts_of calls) (ended_by driver_end result) a b
    does_quietly result stored told cause answered = does_operation see calls (Stays (see a).told) t a b is passes stays_moments result stored told cause answered

    pub quietly_went : (StoreIsLeft (see a).told (see a).clock → StoreIsLeft (see b).told (see b).clock) → (see b).told ≡ Some (after_acts (acts_of calls) t) → (see b).faults ≡ (see a).faults
        → Does see (acts_of calls) went_well a b
    quietly_went stored told faults = went see calls (Stays (see a).told) t a b is passes stays_moments stored told faults

  -- A listing, during which memory may also run out.
  pub does_listing : {T : Type 0} (calls : List DeviceCall) (t : Told) → (see a).told ≡ Some t → HasCall calls → (StoreIsLeft (see a).told (see a).clock → Passes (InStore (Stays (see a).told)) (see a).clock (see b).clock)
      → (result : Result T DriverRefused) → KeepsStored result (see a) (see b) → Leaves result t (see b).told calls → HasCauseIn result (see a).faults (see b).faults → IsMemoryOnly result
      → DoesListing see calls result a b
  does_listing calls t is has passes (Ok found) stored told cause only = quietly_went calls t is has passes stored told cause
  does_listing {T} calls t is has passes (Err Register) stored cut cause only = does_quietly calls t is has passes {T = T} (Err Register) stored cut cause tt
  does_listing calls t is has passes (Err Busy) stored told cause only = absurd only
  does_listing calls t is has passes (Err (EndedWith code)) stored told cause only = absurd only
  does_listing calls t is has passes (Err NoMemory) stored begun cause only = record {
    done = begun.done;
    later = begun.later;
    splits = begun.splits;
    does = quietly_went begun.done t is begun.some passes stored begun.told cause;
  }

  -- An operation before which nothing was done that changed the store.
  pub does_nothing_else : {T : Type 0} (calls : List DeviceCall) (t : Told) → (see a).told ≡ Some t → HasCall calls → Passes (InStore (λ x y. y ≡ x)) (see a).clock (see b).clock
      → (result : Result T DriverRefused) → KeepsStored result (see a) (see b) → Leaves result t (see b).told calls → HasCauseIn result (see a).faults (see b).faults → IsAnswered result
      → Does see (acts_of calls) (ended_by driver_end result) a b
  does_nothing_else calls t is has passes result stored told cause answered = does_operation see calls (λ x y. y ≡ x) t a b is (λ before. passes)
      (λ left by. subst (λ (l : Left). Moment (acts_of calls) t l) (sym (by.rest ∙ ap (λ (store : List Stored). record t.here { store = store }) by.step)) (moment_before calls t has))
      result stored told cause answered

  -- An operation after which the store is this one.
  module _ (calls : List DeviceCall) (t : Told) (is : (see a).told ≡ Some t) (has : HasCall calls) (store : List Stored) (after : (after_acts (acts_of calls) t).here.store ≡ store)
      (Step : Option Told → List Stored → List Stored → Type 0) (becomes : (new : List Stored) → Step (Some t) t.here.store new → Becomes store t.here.store new)
      (passes : StoreIsLeft (see a).told (see a).clock → Passes (InStore (Step (see a).told)) (see a).clock (see b).clock) where
    store_moments : (left : Left) → InStore (Step (see a).told) t.here left → Moment (acts_of calls) t left
    store_moments left by = elim (becomes by.store (subst (λ (o : Option Told). Step o t.here.store by.store) is by.step)) [
      | inl same ↦ subst (λ (l : Left). Moment (acts_of calls) t l) (sym (by.rest ∙ ap (λ (s : List Stored). record t.here { store = s }) same)) (moment_before calls t has)
      | inr new ↦ subst (λ (l : Left). Moment (acts_of calls) t l) (sym (by.rest ∙ ap (λ (s : List Stored). record t.here { store = s }) (new ∙ sym after) ∙ sym (here_after calls t))) (moment_after calls t has)
    ]

    pub does_to_store : {T : Type 0} (result : Result T DriverRefused) → KeepsStored result (see a) (see b) → Leaves result t (see b).told calls → HasCauseIn result (see a).faults (see b).faults → IsAnswered result
        → Does see (acts_of calls) (ended_by driver_end result) a b
    does_to_store result stored told cause answered = does_operation see calls (Step (see a).told) t a b is passes store_moments result stored told cause answered
