-- One action by the run of its list.
use Rattle.std.proofs.Common.{◌≡◌, ◌∙◌, ℕ, zero, suc, ◌<◌, ◌^◌, Bool, true, false, nat_eq, List, [], ◌∷◌, length, get_or, Option, Some, None, sym, ap, subst, arith, if◌then◌else◌}
use Rattle.std.specs.Prelude.{Result, Ok, Err, IfSome}
use Rattle.erst_store.specs.Actions.{check_busy_status, end_operation, get_command_status, get_record_identifier, set_record_offset}
use Rattle.erst_store.specs.Store.{Stored}
use Rattle.erst_store.specs.Device.{Device}
use Rattle.erst_store.specs.DeviceLaws.{IsDevice}
use Rattle.erst_store.specs.Steps.KeptLemmas.{IsDevice-act, IsDevice-value}
use Rattle.board_core.specs.Clock.{Passes, StoreIsLeft}
use Rattle.board_core.specs.Stop.{InStore}
use Rattle.board_core.specs.Told.{Told, device_of, Relates}
use Rattle.erst_interp.specs.declared.entries.InstructionEntry.{InstructionEntry}
use Rattle.erst_interp.specs.declared.refusals.RunRefused.{RunRefused}
use Rattle.erst_interp.specs.declared.refusals.RunRefused.TheVariants.{Register, Fuel, BadInstruction, BadRegister, BadRange}
use Rattle.erst_interp.specs.Admission.{takes_input, IsAdmitted, IsAdmittedTable}
use Rattle.erst_interp.specs.Faithful.{input_limit, with_input, answer_after, ActsOn, DoesRun, IsRegisterAlone, RunsAction, StoreInAction}
use Rattle.erst_interp.specs.Machine.{machine_end}
use Rattle.erst_interp.specs.Run.{IsRun, KeepsButDevice, RunCause, RunsList}
use Rattle.board_core.specs.Doing.{Seen}
use Rattle.erst_interp.specs.Steps.Running.{GoesWell}
use Rattle.erst_interp.specs.Table.{list_of}
use Rattle.erst_interp.proofs.BreakLemmas.{off_more}
use Rattle.erst_interp.proofs.TouchLemmas.{well_more, fails_more}
use Rattle.erst_driver.specs.declared.step.Step.{Step}
use Rattle.erst_driver.specs.Operations.{AreInside, Inside, without_input, after_step, after_steps, device_calls, end_by, told_by_step}
use Rattle.erst_driver.specs.Steps.Operating.{HasDevice, Over, Plan, ComesThrough, StoreIn, Tells, CutIn, FailsIn, Acted}
use Rattle.erst_driver.proofs.PlanLemmas.{told_step}

some_is : (x y : Told) → Some x ≡ Some y → x ≡ y
some_is x y e = cc

acted_as : (table lists : List (List InstructionEntry)) (s : Step) (value : ℕ) (a b : Seen) → table ≡ lists → Acted table s value a b → Acted lists s value a b
acted_as table lists s value a b is acted = subst (λ (l : List (List InstructionEntry)). Acted l s value a b) is acted

failed_as : (table lists : List (List InstructionEntry)) (plan : Plan) (a b : Seen) → table ≡ lists → FailsIn table plan a b → FailsIn lists plan a b
failed_as table lists plan a b is fails = subst (λ (l : List (List InstructionEntry)). FailsIn l plan a b) is fails

-- The device after an action is a device.
input_fits : (action input : ℕ) → input < input_limit action → input < 2 ^ 64
input_fits action input inside = by (nat_eq action set_record_offset) inside
  where
    by : (b : Bool) → input < (if b then 2 ^ 32 else 2 ^ 64) → input < 2 ^ 64
    by true small = omega (arith, small)
    by false small = small

pub is_device_after : (s : Step) (d : Device) → Inside s → IsDevice d → IsDevice (after_step s d)
is_device_after s d inside device =
    IsDevice-act s.action (with_input s.action s.input d) (by (takes_input s.action)) (omega (arith, inside.action))
  where
    by : (b : Bool) → IsDevice (if b then record d { value = s.input } else d)
    by true = IsDevice-value s.input d device (input_fits s.action s.input inside.input)
    by false = device

module _ (lists : List (List InstructionEntry)) (s : Step) (a b : Seen) (kept : Relates KeepsButDevice a.told b.told)
    (stops : Passes (InStore (StoreInAction s.action s.input a.told)) a.clock b.clock) where
  store_in : (x y : List Stored) → StoreInAction s.action s.input a.told x y → StoreIn (λ d. s ∷ []) a.told x y
  unfolding ComesThrough
  store_in x y is = by a.told is
    where
      by : (o : Option Told) → StoreInAction s.action s.input o x y → StoreIn (λ d. s ∷ []) o x y
      by None is = tt
      by (Some t) is = λ device. is

  well : (StoreIsLeft a.told a.clock → StoreIsLeft b.told b.clock) → b.faults ≡ a.faults → GoesWell (StoreIn (λ d. s ∷ []) a.told) a b
  well stored faults = well_more (StoreInAction s.action s.input a.told) (StoreIn (λ d. s ∷ []) a.told) store_in a b
      (record { kept = kept; stops = stops; stored = stored; faults = faults })

  -- A refusal: an admitted list fails only with Register.
  failed : (why : RunRefused) → IsRegisterAlone (Err why) → RunCause (Err why) a.faults b.faults
      → IfSome a.told (λ t. IsRun (Err why) (machine_end (list_of s.action lists) s.input (device_of t)) t b.told) → FailsIn lists (λ d. s ∷ []) a b
  unfolding device_calls
  failed Register alone raises runs = record {
    fails = fails_more (StoreInAction s.action s.input a.told) (StoreIn (λ d. s ∷ []) a.told) store_in a b
        (record { kept = kept; stops = stops; raises = raises });
    cut = cut a.told runs;
  }
    where
      cut : (o : Option Told) → IfSome o (λ t. IsRun (Err Register) (machine_end (list_of s.action lists) s.input (device_of t)) t b.told) → CutIn lists (λ d. s ∷ []) o b.told
      cut None runs = tt
      cut (Some t) runs = λ device. off_more (end_by lists s (device_of t)).state.calls [] t b.told runs
  failed Fuel alone raises runs = absurd alone
  failed BadInstruction alone raises runs = absurd alone
  failed BadRegister alone raises runs = absurd alone
  failed BadRange alone raises runs = absurd alone

  tells_one : (value : ℕ) (t : Told) → Inside s → IsRun (Ok value) (machine_end (list_of s.action lists) s.input (device_of t)) t b.told → IsDevice (device_of t)
      → ActsOn s.action s.input value t b.told → Tells lists (s ∷ []) t b.told
  unfolding device_calls after_steps
  tells_one value t inside runs device acts = record {
    told = runs.1 ∙ ap (λ (u : Told). Some u) (sym (told_step lists s [] t));
    device = ap (λ (u : Told). device_of u) (told_step lists s [] t) ∙ ap (λ (u : Told). device_of u) (some_is (told_by_step lists s t) acts.after (sym runs.1 ∙ acts.told)) ∙ acts.device;
    is = is_device_after s (device_of t) inside device;
  }

  acted : (value : ℕ) → Inside s → (StoreIsLeft a.told a.clock → StoreIsLeft b.told b.clock) → b.faults ≡ a.faults
      → IfSome a.told (λ t. IsRun (Ok value) (machine_end (list_of s.action lists) s.input (device_of t)) t b.told)
      → IfSome a.told (λ t. DoesRun s.action s.input (Ok value) t b.told) → Acted lists s value a b
  acted value inside stored faults runs acts = record {
    done = record { well = well stored faults; tells = by a.told runs acts };
    gives = gives a.told acts;
  }
    where
      by : (o : Option Told) → IfSome o (λ t. IsRun (Ok value) (machine_end (list_of s.action lists) s.input (device_of t)) t b.told)
          → IfSome o (λ t. ActsOn s.action s.input value t b.told) → Over (λ t. Tells lists (s ∷ []) t b.told) o
      by None runs acts = tt
      by (Some t) runs acts = λ device. tells_one value t inside runs device acts

      gives : (o : Option Told) → IfSome o (λ t. ActsOn s.action s.input value t b.told)
          → Over (λ t. value ≡ answer_after s.action s.input (device_of t)) o
      gives None acts = tt
      gives (Some t) acts = λ device. acts.answer

-- ---- the run of an action's list by a driver, whose table it views

module _ (table lists : List (List InstructionEntry)) (view : table ≡ lists) (admitted : IsAdmittedTable table) (s : Step) (inside : Inside s) (a b : Seen) where
  pub ran : (value : ℕ) → RunsList (list_of s.action table) s.input (Ok value) a b → (IsAdmitted s.action (list_of s.action table) → RunsAction s.action s.input (Ok value) a b) → Acted lists s value a b
  ran value runs acts =
      let does = acts (admitted s.action inside.action) in
      acted_as table lists s value a b view (acted table s a b runs.kept (does.stores inside.input) value inside runs.stored runs.cause runs.runs (does.does inside.input))

  pub ran_badly : (why : RunRefused) → RunsList (list_of s.action table) s.input (Err why) a b → (IsAdmitted s.action (list_of s.action table) → RunsAction s.action s.input (Err why) a b)
      → FailsIn lists (λ d. s ∷ []) a b
  ran_badly why runs acts =
      let does = acts (admitted s.action inside.action) in
      failed_as table lists (λ d. s ∷ []) a b view (failed table s a b runs.kept (does.stores inside.input) why does.only_register runs.cause runs.runs)

  pub ran_device : (result : Result ℕ RunRefused) → (IsAdmitted s.action (list_of s.action table) → RunsAction s.action s.input result a b) → HasDevice lists a.told
  ran_device result acts = record { admitted = subst IsAdmittedTable view admitted; device = (acts (admitted s.action inside.action)).device }

-- The actions of an operation besides its steps.
pub check_inside : Inside (without_input check_busy_status)
check_inside = record { action = omega arith; input = omega arith }

pub status_inside : Inside (without_input get_command_status)
status_inside = record { action = omega arith; input = omega arith }

pub end_inside : Inside (without_input end_operation)
end_inside = record { action = omega arith; input = omega arith }

pub list_inside : Inside (without_input get_record_identifier)
list_inside = record { action = omega arith; input = omega arith }

pub step_inside : (steps : List Step) (i : ℕ) (z : Step) → AreInside steps → i < length steps → Inside (get_or steps i z)
step_inside [] i z are within = absurd (omega (arith, within))
step_inside (s ∷ steps) zero z are within = are.0
step_inside (s ∷ steps) (suc i) z are within = step_inside steps i z are.1 (omega (arith, within))
