-- The clauses of the public operations, for a plan that was done.
use Rattle.std.proofs.Common.{◌≡◌, ◌∙◌, ℕ, zero, suc, ◌+◌, Bool, true, false, List, [], ◌∷◌, ◌++◌, Option, Some, refl, ap, subst, inl, inr, if◌then◌else◌}
use Rattle.std.specs.Prelude.{◌⊎◌, Ok, Err}
use Rattle.erst_store.specs.Actions.{check_busy_status, get_command_status, end_operation}
use Rattle.erst_store.specs.declared.device.CommandStatus.{CommandStatus}
use Rattle.erst_store.specs.Store.{Stored}
use Rattle.erst_store.specs.Device.{Device, act}
use Rattle.board_core.specs.Clock.{Clock, After, Passes, StoreIsLeft}
use Rattle.board_core.specs.Stop.{Left, InStore}
use Rattle.board_core.specs.Told.{Told, device_of, Relates}
use Rattle.erst_interp.specs.declared.entries.InstructionEntry.{InstructionEntry}
use Rattle.erst_interp.specs.Run.{KeepsButDevice}
use Rattle.board_core.specs.Doing.{Seen}
use Rattle.erst_driver.specs.declared.refusals.DriverRefused.TheVariants.{Register, Busy, Status as EndedWith, NoMemory}
use Rattle.erst_driver.specs.declared.step.Step.{Step}
use Rattle.erst_driver.specs.Operations.{without_input, checks, is_free_in_time, asks, ends, finishes, actions_of, after_step, after_steps, device_calls, told_by, most_checks}
use Rattle.erst_driver.specs.Answers.{Answer, by_status, answer_of, AnswersAs, HasCauseIn}
use Rattle.erst_driver.specs.Steps.Operating.{KeepsStored, Leaves, Over, Plan, ComesThrough, StoreIn, Done, Operates}
use Rattle.erst_driver.proofs.PlanLemmas.{everywhere, over_more, after_both}
use Rattle.erst_driver.proofs.WaitLemmas.{checked}

-- A crash before left the model's store.
module _ (T S : List Stored → List Stored → Type 0) (told : Option Told) (old new : Clock) (law : StoreIsLeft told old)
    (more : (x y : List Stored) → ((t : Told) → told ≡ Some t → x ≡ t.here.store) → T x y → S x y) where
  after_at : (left : Left) → After old (InStore T) left → After old (InStore S) left
  after_at left after = record {
    from = after.from;
    was = after.was;
    by = record {
      store = after.by.store;
      step = more _ _ (λ t is. law t is after.from after.was) after.by.step;
      rest = after.by.rest;
    };
  }

  pub passes_at : Passes (InStore T) old new → Passes (InStore S) old new
  passes_at passes = record {
    later = passes.later;
    kept = passes.kept;
    each = λ t left within may. elim (passes.each t left within may) [ inl before ↦ inl before | inr after ↦ inr (after_at left after) ];
    ends = λ left now. after_at left (passes.ends left now);
  }

module _ (lists : List (List InstructionEntry)) (plan : Plan) (answer : Device → Answer) (a b : Seen) where
  pub gives_of : (result : Answer) → Operates lists plan answer result a b → Over (λ t. AnswersAs result (answer (device_of t))) a.told
  gives_of (Ok tt) operates = operates.answers
  gives_of (Err Register) operates = everywhere _ a.told (λ t. tt)
  gives_of (Err Busy) operates = operates.answers
  gives_of (Err (EndedWith code)) operates = operates.answers
  gives_of (Err NoMemory) operates = absurd operates

  pub gives_as : (other : Device → Answer) → ((d : Device) → answer d ≡ other d) → (result : Answer) → Operates lists plan answer result a b
      → Over (λ t. AnswersAs result (other (device_of t))) a.told
  gives_as other same result operates = over_more _ _ a.told (gives_of result operates) (λ t is. subst (λ (x : Answer). AnswersAs result x) (same (device_of t)) is)

  leaves : (result : Answer) → Done lists plan a b → Over (λ t. b.told ≡ Some (told_by lists (plan (device_of t)) t)) a.told
  leaves result done = over_more _ _ a.told done.tells (λ t tells. tells.told)

  pub leaves_of : (result : Answer) → Operates lists plan answer result a b → Over (λ t. Leaves result t b.told (device_calls lists (plan (device_of t)) (device_of t))) a.told
  leaves_of (Ok tt) operates = leaves (Ok tt) operates.done
  leaves_of (Err Register) operates = operates.cut
  leaves_of (Err Busy) operates = leaves (Err Busy) operates.done
  leaves_of (Err (EndedWith code)) operates = leaves (Err Busy) operates.done
  leaves_of (Err NoMemory) operates = absurd operates

  pub kept_of : (result : Answer) → Operates lists plan answer result a b → Relates KeepsButDevice a.told b.told
  kept_of (Ok tt) operates = operates.done.well.kept
  kept_of (Err Register) operates = operates.fails.kept
  kept_of (Err Busy) operates = operates.done.well.kept
  kept_of (Err (EndedWith code)) operates = operates.done.well.kept
  kept_of (Err NoMemory) operates = absurd operates

  pub cause_of : (result : Answer) → Operates lists plan answer result a b → HasCauseIn result a.faults b.faults
  cause_of (Ok tt) operates = operates.done.well.faults
  cause_of (Err Register) operates = operates.fails.raises
  cause_of (Err Busy) operates = operates.done.well.faults
  cause_of (Err (EndedWith code)) operates = operates.done.well.faults
  cause_of (Err NoMemory) operates = absurd operates

  pub stored_of : (result : Answer) → Operates lists plan answer result a b → KeepsStored result a b
  stored_of (Ok tt) operates = operates.done.well.stored
  stored_of (Err Register) operates = tt
  stored_of (Err Busy) operates = operates.done.well.stored
  stored_of (Err (EndedWith code)) operates = operates.done.well.stored
  stored_of (Err NoMemory) operates = absurd operates

  pub stops : (result : Answer) → Operates lists plan answer result a b → Passes (InStore (StoreIn plan a.told)) a.clock b.clock
  stops (Ok tt) operates = operates.done.well.stops
  stops (Err Register) operates = operates.fails.stops
  stops (Err Busy) operates = operates.done.well.stops
  stops (Err (EndedWith code)) operates = operates.done.well.stops
  stops (Err NoMemory) operates = absurd operates

  pub stops_of : (S : List Stored → List Stored → Type 0) (law : StoreIsLeft a.told a.clock)
      → ((old new : List Stored) → ((t : Told) → a.told ≡ Some t → old ≡ t.here.store) → StoreIn plan a.told old new → S old new)
      → (result : Answer) → Operates lists plan answer result a b → Passes (InStore S) a.clock b.clock
  stops_of S law more result operates = passes_at (StoreIn plan a.told) S a.told a.clock b.clock law more (stops result operates)

-- ---- what the end of an operation keeps

-- The device passed through a store in the first part, or in the second.
through_either : (one two : List Step) (d : Device) (store : List Stored) → ComesThrough (one ++ two) d store → ComesThrough one d store ⊎ ComesThrough two (after_steps one d) store
unfolding ComesThrough after_steps
through_either [] two d store is = inr is
through_either (s ∷ one) two d store is =
    elim is [
      | inl here ↦ inl (inl here)
      | inr later ↦ elim (through_either one two (after_step s d) store later) [ inl first ↦ inl (inr first) | inr second ↦ inr second ]
    ]

asked_store : (busy : ℕ) (d : Device) → (after_steps (asks busy) d).store ≡ d.store
asked_store busy d = by (is_free_in_time busy)
  where
    by : (b : Bool) → (after_steps (if b then checks (busy + 1) else checks most_checks) d).store ≡ d.store
    by true = (checked (busy + 1) d).store
    by false = (checked most_checks d).store

ended_store : (busy : ℕ) (d : Device) → (after_steps (ends busy) d).store ≡ d.store
unfolding act after_steps
ended_store busy d = by (is_free_in_time busy)
  where
    by : (b : Bool) → (after_steps (if b then without_input get_command_status ∷ without_input end_operation ∷ [] else []) d).store ≡ d.store
    by true = refl
    by false = refl

one_check : (d : Device) → (after_step (without_input check_busy_status) d).store ≡ d.store
unfolding after_steps
one_check d = (checked 1 d).store

through_asks : (busy : ℕ) (d : Device) (store : List Stored) → ComesThrough (asks busy) d store → store ≡ d.store
unfolding ComesThrough
through_asks busy d store is = by (is_free_in_time busy) is
  where
    count : (n : ℕ) (e : Device) → ComesThrough (checks n) e store → store ≡ e.store
    count zero e is = is
    count (suc n) e is = elim is [ inl here ↦ here | inr later ↦ count n (after_step (without_input check_busy_status) e) later ∙ one_check e ]

    by : (b : Bool) → ComesThrough (if b then checks (busy + 1) else checks most_checks) d store → store ≡ d.store
    by true is = count (busy + 1) d is
    by false is = count most_checks d is

through_ends : (busy : ℕ) (d : Device) (store : List Stored) → ComesThrough (ends busy) d store → store ≡ d.store
unfolding act ComesThrough
through_ends busy d store is = by (is_free_in_time busy) is
  where
    by : (b : Bool) → ComesThrough (if b then without_input get_command_status ∷ without_input end_operation ∷ [] else []) d store → store ≡ d.store
    by true is = elim is [ inl here ↦ here | inr later ↦ elim later [ inl here ↦ here | inr last ↦ last ] ]
    by false is = is

through_finishes : (busy : ℕ) (d : Device) (store : List Stored) → ComesThrough (finishes busy) d store → store ≡ d.store
through_finishes busy d store is =
    elim (through_either (asks busy) (ends busy) d store is) [
      | inl first ↦ through_asks busy d store first
      | inr second ↦ through_ends busy (after_steps (asks busy) d) store second ∙ asked_store busy d
    ]

asked_range : (busy : ℕ) (d : Device) → (after_steps (asks busy) d).range ≡ d.range
asked_range busy d = by (is_free_in_time busy)
  where
    by : (b : Bool) → (after_steps (if b then checks (busy + 1) else checks most_checks) d).range ≡ d.range
    by true = (checked (busy + 1) d).range
    by false = (checked most_checks d).range

ended_range : (busy : ℕ) (d : Device) → (after_steps (ends busy) d).range ≡ d.range
unfolding act after_steps
ended_range busy d = by (is_free_in_time busy)
  where
    by : (b : Bool) → (after_steps (if b then without_input get_command_status ∷ without_input end_operation ∷ [] else []) d).range ≡ d.range
    by true = refl
    by false = refl

pub range_after : (steps : List Step) (d : Device) → (after_steps (actions_of steps d) d).range ≡ (after_steps steps d).range
range_after steps d =
    let busy = (after_steps steps d).busy in
    let e = after_steps steps d in
    ap (λ (x : Device). x.range) (after_both steps (finishes busy) d ∙ after_both (asks busy) (ends busy) e)
    ∙ ended_range busy (after_steps (asks busy) e) ∙ asked_range busy e

-- ---- a whole operation, by what its command does

-- What the actions up to EXECUTE_OPERATION lead to: the device is busy for `slow` answers, has this status and this
-- store, and passed through no third store.
pub record Carries (steps : List Step) (d : Device) (status : CommandStatus) (store : List Stored) : Type 0 where
  pub busy : (after_steps steps d).busy ≡ d.slow
  pub status_is : (after_steps steps d).status ≡ status
  pub store_is : (after_steps steps d).store ≡ store
  pub through : (mid : List Stored) → ComesThrough steps d mid → (mid ≡ d.store) ⊎ (mid ≡ store)

pub store_after : (steps : List Step) (d : Device) (status : CommandStatus) (store : List Stored) → Carries steps d status store → (after_steps (actions_of steps d) d).store ≡ store
store_after steps d status store carries =
    let busy = (after_steps steps d).busy in
    let e = after_steps steps d in
    ap (λ (x : Device). x.store) (after_both steps (finishes busy) d ∙ after_both (asks busy) (ends busy) e)
    ∙ ended_store busy (after_steps (asks busy) e) ∙ asked_store busy e ∙ carries.store_is

pub through_operation : (steps : List Step) (d : Device) (status : CommandStatus) (store : List Stored) → Carries steps d status store
    → (mid : List Stored) → ComesThrough (actions_of steps d) d mid → (mid ≡ d.store) ⊎ (mid ≡ store)
through_operation steps d status store carries mid is =
    elim (through_either steps (finishes (after_steps steps d).busy) d mid is) [
      | inl first ↦ carries.through mid first
      | inr second ↦ inr (through_finishes (after_steps steps d).busy (after_steps steps d) mid second ∙ carries.store_is)
    ]

pub answer_is : (steps : List Step) (d : Device) (status : CommandStatus) (store : List Stored) → Carries steps d status store
    → answer_of steps d ≡ (if is_free_in_time d.slow then by_status status else Err Busy)
answer_is steps d status store carries =
    ap (λ (n : ℕ). answer_by n (after_steps steps d).status) carries.busy ∙ ap (answer_by d.slow) carries.status_is
  where
    answer_by : ℕ → CommandStatus → Answer
    answer_by busy status = if is_free_in_time busy then by_status status else Err Busy
