-- The device is checked until it isn't busy.
use Rattle.std.proofs.Common.{◌≡◌, ◌∙◌, ℕ, zero, suc, ◌+◌, ◌-◌, ◌<◌, ◌≤◌, Bool, true, false, nat_lt, List, [], ◌∷◌, ◌++◌, refl, sym, ap, arith, if◌then◌else◌}
use Rattle.std.proofs.lemmas.Bool.Decides.{nat_tests}
use Rattle.std.specs.Prelude.{Ok, Err}
use Rattle.erst_store.specs.Actions.{check_busy_status}
use Rattle.erst_store.specs.Device.{Device, act}
use Rattle.board_core.specs.Told.{device_of}
use Rattle.erst_interp.specs.declared.entries.InstructionEntry.{InstructionEntry}
use Rattle.erst_interp.specs.Faithful.{answer_after}
use Rattle.board_core.specs.Doing.{Seen}
use Rattle.erst_driver.specs.declared.refusals.DriverRefused.{DriverRefused}
use Rattle.erst_driver.specs.declared.refusals.DriverRefused.TheVariants.{Busy}
use Rattle.erst_driver.specs.declared.step.Step.{Step}
use Rattle.erst_driver.specs.Operations.{without_input, checks, after_step, after_steps}
use Rattle.erst_driver.specs.Steps.Operating.{Over, asks_within, answers_within, IsBeginning, Done, Acted, Acts, Operates}
use Rattle.erst_driver.proofs.PlanLemmas.{done_then, done_as, refused_in_operation, over_both, over_more, over_after, everywhere}

abbrev check : Step
check = without_input check_busy_status

-- A device after this many checks.
pub record Checked (count : ℕ) (d e : Device) : Type 0 where
  pub busy : e.busy ≡ d.busy - count
  pub status : e.status ≡ d.status
  pub store : e.store ≡ d.store
  pub slow : e.slow ≡ d.slow
  pub command : e.command ≡ d.command
  pub range : e.range ≡ d.range

checked_one : (d : Device) → Checked 1 d (after_step (without_input check_busy_status) d)
unfolding act
checked_one d = by (nat_lt 0 d.busy) refl
  where
    by : (b : Bool) → nat_lt 0 d.busy ≡ b
        → Checked 1 d (record (if b then record d { value = 1; busy = d.busy - 1 } else record d { value = 0 }) { action = check_busy_status })
    by true is = record { busy = refl; status = refl; store = refl; slow = refl; command = refl; range = refl }
    by false is = record { busy = grind (arith, nat_tests, is); status = refl; store = refl; slow = refl; command = refl; range = refl }

pub checked : (count : ℕ) (d : Device) → Checked count d (after_steps (checks count) d)
unfolding after_steps
checked zero d = record { busy = omega arith; status = refl; store = refl; slow = refl; command = refl; range = refl }
checked (suc count) d =
    let one = checked_one d in
    let rest = checked count (after_step (without_input check_busy_status) d) in
    record {
      busy = omega (arith, rest.busy, one.busy);
      status = rest.status ∙ one.status;
      store = rest.store ∙ one.store;
      slow = rest.slow ∙ one.slow;
      command = rest.command ∙ one.command;
      range = rest.range ∙ one.range;
    }

-- The result of a check.
busy_answer : (d : Device) → answer_after check_busy_status 0 d ≡ 0 → d.busy ≡ 0
unfolding act
busy_answer d = by (nat_lt 0 d.busy) refl
  where
    by : (b : Bool) → nat_lt 0 d.busy ≡ b → (if b then record d { value = 1; busy = d.busy - 1 } else record d { value = 0 }).value ≡ 0 → d.busy ≡ 0
    by true is value = absurd (omega (arith, value))
    by false is value = grind (arith, nat_tests, is)

free_answer : (d : Device) → (answer_after check_busy_status 0 d ≡ 0 → ⊥) → 0 < d.busy
unfolding act
free_answer d = by (nat_lt 0 d.busy) refl
  where
    by : (b : Bool) → nat_lt 0 d.busy ≡ b → ((if b then record d { value = 1; busy = d.busy - 1 } else record d { value = 0 }).value ≡ 0 → ⊥) → 0 < d.busy
    by true is value = grind (arith, nat_tests, is)
    by false is value = absurd (value refl)

-- ---- lists of checks

checks_both : (one two : ℕ) → checks one ++ checks two ≡ checks (one + two)
checks_both zero two = ap checks (let e : two ≡ 0 + two = omega arith in e)
checks_both (suc one) two =
    let e : suc (one + two) ≡ suc one + two = omega arith in
    ap (λ (steps : List Step). check ∷ steps) (checks_both one two) ∙ ap checks e

asks_free : (most busy : ℕ) → busy < most → asks_within most busy ≡ checks (busy + 1)
asks_free most busy free = ap (λ (b : Bool). if b then checks (busy + 1) else checks most) (free_is most busy free)
  where
    free_is : (most busy : ℕ) → busy < most → nat_lt busy most ≡ true
    free_is most busy free = grind (arith, nat_tests, free)

asks_busy : (most busy : ℕ) → most ≤ busy → asks_within most busy ≡ checks most
asks_busy most busy late = ap (λ (b : Bool). if b then checks (busy + 1) else checks most) (busy_is most busy late)
  where
    busy_is : (most busy : ℕ) → most ≤ busy → nat_lt busy most ≡ false
    busy_is most busy late = grind (arith, nat_tests, late)

-- One more check is one of the checks of the operation.
begins_asks : (most busy count : ℕ) → count ≤ busy → count < most → IsBeginning (checks count ++ check ∷ []) (asks_within most busy)
begins_asks most busy count within inside = by (nat_lt busy most)
  where
    begins : (all : ℕ) → count + 1 ≤ all → IsBeginning (checks count ++ check ∷ []) (checks all)
    begins all fits =
        let left = all - (count + 1) in
        let sums : (count + 1) + left ≡ all = omega (arith, fits) in
        (checks left, ap (λ (steps : List Step). steps ++ checks left) (checks_both count 1) ∙ checks_both (count + 1) left ∙ ap checks sums)

    by : (b : Bool) → IsBeginning (checks count ++ check ∷ []) (if b then checks (busy + 1) else checks most)
    by true = begins (busy + 1) (omega (arith, within))
    by false = begins most (omega (arith, inside))

-- ---- the loop

-- This many checks were made, and the device was busy at each.
pub record Waiting (lists : List (List InstructionEntry)) (count : ℕ) (a b : Seen) : Type 0 where
  pub done : Done lists (λ d. checks count) a b
  pub busy : Over (λ t. count ≤ (device_of t).busy) a.told

module _ (most : ℕ) (lists : List (List InstructionEntry)) (count : ℕ) (a b c : Seen) (waiting : Waiting lists count a b) (inside : count < most) where
  more : Over (λ t. IsBeginning (checks count ++ check ∷ []) (asks_within most (device_of t).busy)) a.told
  more = over_more (λ t. count ≤ (device_of t).busy) _ a.told waiting.busy (λ t within. begins_asks most (device_of t).busy count within inside)

  pub wait_refused : (e : DriverRefused) → Acts lists (without_input check_busy_status) (Err e) b c → Operates lists (λ d. asks_within most d.busy) (λ d. answers_within most d.busy) (Err e) a c
  wait_refused e acts = refused_in_operation lists (λ d. checks count) (λ d. asks_within most d.busy) check a b c waiting.done more (λ d. answers_within most d.busy) e acts

  module _ (value : ℕ) (acted : Acted lists (without_input check_busy_status) value b c) where
    answer_here : Over (λ t. value ≡ answer_after check_busy_status 0 (after_steps (checks count) (device_of t))) a.told
    answer_here = over_after lists (λ d. checks count) a b waiting.done (λ d. value ≡ answer_after check_busy_status 0 d) acted.gives

    one_done : Done lists (λ d. checks (count + 1)) a c
    one_done = done_as lists (λ d. checks count ++ check ∷ []) (λ d. checks (count + 1)) a c (everywhere _ a.told (λ t. checks_both count 1))
        (done_then lists (λ d. checks count) (λ d. check ∷ []) a b c waiting.done acted.done)

    pub waits_on : (value ≡ 0 → ⊥) → Waiting lists (count + 1) a c
    waits_on not_zero = record {
      done = one_done;
      busy = over_both _ _ _ a.told waiting.busy answer_here (λ t within answer.
          (let left : 0 < (after_steps (checks count) (device_of t)).busy = free_answer _ (λ zero_is. not_zero (answer ∙ zero_is)) in
          omega (arith, left, (checked count (device_of t)).busy, within)));
    }

    is_last : value ≡ 0 → Over (λ t. (device_of t).busy ≡ count) a.told
    is_last zero_is = over_both _ _ _ a.told waiting.busy answer_here (λ t within answer.
        (let none : (after_steps (checks count) (device_of t)).busy ≡ 0 = busy_answer _ (sym answer ∙ zero_is) in
        omega (arith, none, (checked count (device_of t)).busy, within)))

    pub wait_ends : value ≡ 0 → Operates lists (λ d. asks_within most d.busy) (λ d. answers_within most d.busy) (Ok tt) a c
    wait_ends zero_is = record {
      done = done_as lists (λ d. checks (count + 1)) (λ d. asks_within most d.busy) a c
          (over_more _ _ a.told (is_last zero_is) (λ t last. (let free : (device_of t).busy < most = omega (arith, last, inside) in
          ap (λ (n : ℕ). checks (n + 1)) (sym last) ∙ sym (asks_free most (device_of t).busy free)))) one_done;
      answers = over_more _ _ a.told (is_last zero_is) (λ t last.
          (let free : nat_lt (device_of t).busy most ≡ true = grind (arith, nat_tests, last, inside) in
          ap (λ (b : Bool). if b then Ok tt else Err Busy) (sym free)));
    }

pub wait_begins : (lists : List (List InstructionEntry)) (a : Seen) → Done lists (λ d. []) a a → Waiting lists 0 a a
wait_begins lists a none = record { done = none; busy = everywhere _ a.told (λ t. omega arith) }

pub wait_gives_up : (most : ℕ) (lists : List (List InstructionEntry)) (count : ℕ) (a b : Seen) → Waiting lists count a b → count ≡ most
    → Operates lists (λ d. asks_within most d.busy) (λ d. answers_within most d.busy) (Err Busy) a b
wait_gives_up most lists count a b waiting is = record {
  done = done_as lists (λ d. checks count) (λ d. asks_within most d.busy) a b
      (over_more _ _ a.told waiting.busy (λ t within. (let late : most ≤ (device_of t).busy = omega (arith, is, within) in
      ap checks is ∙ sym (asks_busy most (device_of t).busy late)))) waiting.done;
  answers = over_more _ _ a.told waiting.busy (λ t within.
      (let late : nat_lt (device_of t).busy most ≡ false = grind (arith, nat_tests, is, within) in
      ap (λ (b : Bool). if b then Ok tt else Err Busy) (sym late)));
}
