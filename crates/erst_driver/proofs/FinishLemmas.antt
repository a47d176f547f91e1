-- The status of a device that carried out a command is read, and the operation is ended.
use Rattle.std.proofs.Common.{◌≡◌, ◌∙◌, ℕ, ◌+◌, Bool, true, false, List, [], ◌∷◌, ◌++◌, refl, sym, ap, arith, if◌then◌else◌, append-nil, append_assoc}
use Rattle.std.specs.Prelude.{Result, Ok, Err}
use Rattle.erst_store.specs.declared.device.CommandStatus.{CommandStatus}
use Rattle.erst_store.specs.declared.device.CommandStatus.TheVariants.{Success, NotEnoughSpace, StoreEmpty, NotFound}
use Rattle.erst_store.specs.Actions.{get_command_status, end_operation}
use Rattle.erst_store.specs.Device.{Device, act, status_number}
use Rattle.board_core.specs.Told.{device_of}
use Rattle.erst_interp.specs.declared.entries.InstructionEntry.{InstructionEntry}
use Rattle.erst_interp.specs.Faithful.{answer_after}
use Rattle.board_core.specs.Doing.{Seen}
use Rattle.erst_driver.specs.declared.refusals.DriverRefused.{DriverRefused}
use Rattle.erst_driver.specs.declared.refusals.DriverRefused.TheVariants.{Register, Busy, Status as EndedWith, NoMemory}
use Rattle.erst_driver.specs.declared.step.Step.{Step}
use Rattle.erst_driver.specs.Operations.{without_input, checks, is_free_in_time, asks, ends, finishes, actions_of, after_steps, most_checks}
use Rattle.erst_driver.specs.Answers.{by_status, answer_within, answer_at, answer_of}
use Rattle.erst_driver.specs.Steps.Operating.{Over, IsBeginning, Done, Acted, Acts, Runs, Operates, Answered}
use Rattle.erst_driver.proofs.PlanLemmas.{done_then, fails_then, fails_as, done_as, refused_in_operation, over_both, over_more, over_after, everywhere}
use Rattle.erst_driver.proofs.WaitLemmas.{checked}

abbrev ask : Step
ask = without_input get_command_status

abbrev end : Step
end = without_input end_operation

-- Two results are the same.
abbrev Is : Result (Unit {0}) DriverRefused → Result (Unit {0}) DriverRefused → Type 0
Is one other = one ≡ other

-- ---- whether the device was free in time

ok_not_err : Is (Ok tt) (Err Busy) → ⊥
ok_not_err e = cc

status_not_ok : (code : ℕ) → Is (Err (EndedWith code)) (Ok tt) → ⊥
status_not_ok code e = cc

status_not_busy : (code : ℕ) → Is (Err (EndedWith code)) (Err Busy) → ⊥
status_not_busy code e = cc

busy_not_ok : Is (Err Busy) (Ok tt) → ⊥
busy_not_ok e = cc

free_by : (b : Bool) → Is (Ok tt) (if b then Ok tt else Err Busy) → b ≡ true
free_by true is = refl
free_by false is = absurd (ok_not_err is)

late_by : (b : Bool) → Is (Err Busy) (if b then Ok tt else Err Busy) → b ≡ false
late_by true is = absurd (busy_not_ok is)
late_by false is = refl

no_status : (code : ℕ) (b : Bool) → Is (Err (EndedWith code)) (if b then Ok tt else Err Busy) → ⊥
no_status code true is = status_not_ok code is
no_status code false is = status_not_busy code is

-- The last steps over a device that is free in time, and over one that isn't.
finishes_free : (busy : ℕ) → is_free_in_time busy ≡ true → (asks busy ++ ask ∷ []) ++ end ∷ [] ≡ finishes busy
finishes_free busy is =
    append_assoc (asks busy) (ask ∷ []) (end ∷ [])
    ∙ ap (λ (b : Bool). asks busy ++ (if b then ask ∷ end ∷ [] else [])) (sym is)

finishes_late : (busy : ℕ) → is_free_in_time busy ≡ false → asks busy ≡ finishes busy
finishes_late busy is =
    sym (append-nil (asks busy)) ∙ ap (λ (b : Bool). asks busy ++ (if b then ask ∷ end ∷ [] else [])) (sym is)

-- ---- a device that is given up

module _ (lists : List (List InstructionEntry)) (a b : Seen) where
  pub wait_refused : (e : DriverRefused) → Operates lists (λ d. asks d.busy) (λ d. answer_within d.busy) (Err e) a b
      → Operates lists (λ d. finishes d.busy) answer_at (Err e) a b
  wait_refused Register fails = fails_as lists (λ d. asks d.busy) (λ d. finishes d.busy) a b
      (everywhere _ a.told (λ t. (ends (device_of t).busy, refl))) fails
  wait_refused Busy answered = record {
    done = done_as lists (λ d. asks d.busy) (λ d. finishes d.busy) a b
        (over_more _ _ a.told answered.answers (λ t is. finishes_late (device_of t).busy (late_by _ is))) answered.done;
    answers = over_more _ _ a.told answered.answers
        (λ t is. ap (λ (b : Bool). if b then by_status (device_of t).status else Err Busy) (sym (late_by _ is)));
  }
  wait_refused (EndedWith code) answered = record {
    done = done_as lists (λ d. asks d.busy) (λ d. finishes d.busy) a b
        (over_more _ _ a.told answered.answers (λ t is. absurd (no_status code _ is))) answered.done;
    answers = over_more _ _ a.told answered.answers (λ t is. absurd (no_status code _ is));
  }
  wait_refused NoMemory answered = absurd answered

-- ---- a device that is free

-- Checks don't change the status.
asked_status : (busy : ℕ) (d : Device) → (after_steps (asks busy) d).status ≡ d.status
asked_status busy d = by (is_free_in_time busy)
  where
    by : (b : Bool) → (after_steps (if b then checks (busy + 1) else checks most_checks) d).status ≡ d.status
    by true = (checked (busy + 1) d).status
    by false = (checked most_checks d).status

status_answer : (d : Device) → answer_after get_command_status 0 d ≡ status_number d.status
unfolding act
status_answer d = refl

ok_by : (status : CommandStatus) (value : ℕ) → value ≡ status_number status → value ≡ 0 → Ok tt ≡ by_status status
ok_by Success value is zero_is = refl
ok_by NotEnoughSpace value is zero_is = absurd (omega (arith, is, zero_is))
ok_by StoreEmpty value is zero_is = absurd (omega (arith, is, zero_is))
ok_by NotFound value is zero_is = absurd (omega (arith, is, zero_is))

err_by : (status : CommandStatus) (value : ℕ) → value ≡ status_number status → (value ≡ 0 → ⊥) → Err (EndedWith value) ≡ by_status status
err_by Success value is not_zero = absurd (not_zero is)
err_by NotEnoughSpace value is not_zero = ap (λ (n : ℕ). Err (EndedWith n)) is
err_by StoreEmpty value is not_zero = ap (λ (n : ℕ). Err (EndedWith n)) is
err_by NotFound value is not_zero = ap (λ (n : ℕ). Err (EndedWith n)) is

module _ (lists : List (List InstructionEntry)) (a b : Seen) (waited : Operates lists (λ d. asks d.busy) (λ d. answer_within d.busy) (Ok tt) a b) where
  free : Over (λ t. is_free_in_time (device_of t).busy ≡ true) a.told
  free = over_more _ _ a.told waited.answers (λ t is. free_by _ is)

  pub ask_refused : (c : Seen) (e : DriverRefused) → Acts lists (without_input get_command_status) (Err e) b c → Operates lists (λ d. finishes d.busy) answer_at (Err e) a c
  ask_refused c e acts = refused_in_operation lists (λ d. asks d.busy) (λ d. finishes d.busy) ask a b c waited.done
      (over_more _ _ a.told free (λ t is. (end ∷ [], finishes_free (device_of t).busy is))) answer_at e acts

  module _ (c : Seen) (value : ℕ) (asked : Acted lists (without_input get_command_status) value b c) where
    two : Done lists (λ d. asks d.busy ++ ask ∷ []) a c
    two = done_then lists (λ d. asks d.busy) (λ d. ask ∷ []) a b c waited.done asked.done

    pub end_refused : (n : Seen) (e : DriverRefused) → Acts lists (without_input end_operation) (Err e) c n → Operates lists (λ d. finishes d.busy) answer_at (Err e) a n
    end_refused n e acts = refused_in_operation lists (λ d. asks d.busy ++ ask ∷ []) (λ d. finishes d.busy) end a c n two
        (over_more _ _ a.told free (λ t is. ([], append-nil ((asks (device_of t).busy ++ ask ∷ []) ++ end ∷ []) ∙ finishes_free (device_of t).busy is))) answer_at e acts

    value_is : Over (λ t. value ≡ status_number (device_of t).status) a.told
    value_is = over_more _ _ a.told (over_after lists (λ d. asks d.busy) a b waited.done (λ d. value ≡ answer_after get_command_status 0 d) asked.gives)
        (λ t is. is ∙ status_answer (after_steps (asks (device_of t).busy) (device_of t)) ∙ ap status_number (asked_status (device_of t).busy (device_of t)))

    module _ (n : Seen) (last : ℕ) (ended : Acted lists (without_input end_operation) last c n) where
      all_done : Done lists (λ d. finishes d.busy) a n
      all_done = done_as lists (λ d. (asks d.busy ++ ask ∷ []) ++ end ∷ []) (λ d. finishes d.busy) a n
          (over_more _ _ a.told free (λ t is. finishes_free (device_of t).busy is))
          (done_then lists (λ d. asks d.busy ++ ask ∷ []) (λ d. end ∷ []) a c n two ended.done)

      pub finishes_well : value ≡ 0 → Operates lists (λ d. finishes d.busy) answer_at (Ok tt) a n
      finishes_well zero_is = record {
        done = all_done;
        answers = over_both _ _ _ a.told free value_is (λ t is value_is. ok_by (device_of t).status value value_is zero_is
            ∙ ap (λ (b : Bool). if b then by_status (device_of t).status else Err Busy) (sym is));
      }

      pub finishes_badly : (value ≡ 0 → ⊥) → Operates lists (λ d. finishes d.busy) answer_at (Err (EndedWith value)) a n
      finishes_badly not_zero = record {
        done = all_done;
        answers = over_both _ _ _ a.told free value_is (λ t is value_is. err_by (device_of t).status value value_is not_zero
            ∙ ap (λ (b : Bool). if b then by_status (device_of t).status else Err Busy) (sym is));
      }

-- ---- a whole operation

module _ (lists : List (List InstructionEntry)) (steps : List Step) (a b : Seen) where
  pub steps_refused : (e : DriverRefused) → Runs lists (λ d. steps) (Err e) a b → Operates lists (actions_of steps) (answer_of steps) (Err e) a b
  steps_refused e runs = by e runs
    where
      more : Over (λ t. IsBeginning steps (actions_of steps (device_of t))) a.told
      more = everywhere _ a.told (λ t. (finishes (after_steps steps (device_of t)).busy, refl))

      by : (e : DriverRefused) → Runs lists (λ d. steps) (Err e) a b → Operates lists (actions_of steps) (answer_of steps) (Err e) a b
      by Register fails = fails_as lists (λ d. steps) (actions_of steps) a b more fails
      by Busy runs = absurd runs
      by (EndedWith code) runs = absurd runs
      by NoMemory runs = absurd runs

  module _ (c : Seen) (one : Done lists (λ d. steps) a b) where
    answered_then : (result : Result (Unit {0}) DriverRefused) → Answered lists (λ d. finishes d.busy) answer_at result b c → Answered lists (actions_of steps) (answer_of steps) result a c
    answered_then result second = record {
      done = done_then lists (λ d. steps) (λ d. finishes d.busy) a b c one second.done;
      answers = over_after lists (λ d. steps) a b one (λ d. result ≡ answer_at d) second.answers;
    }

    pub operates_then : (result : Result (Unit {0}) DriverRefused) → Operates lists (λ d. finishes d.busy) answer_at result b c → Operates lists (actions_of steps) (answer_of steps) result a c
    operates_then (Ok tt) second = answered_then (Ok tt) second
    operates_then (Err Register) second = fails_then lists (λ d. steps) (λ d. finishes d.busy) a b c one second
    operates_then (Err Busy) second = answered_then (Err Busy) second
    operates_then (Err (EndedWith code)) second = answered_then (Err (EndedWith code)) second
    operates_then (Err NoMemory) second = absurd second
