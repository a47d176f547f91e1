-- A run of an admitted list over a board.
use Rattle.std.proofs.Common.{◌≡◌, ◌∙◌, ℕ, ◌^◌, ◌<◌, List, [], Option, Some, None, refl, sym, ap, subst, inl, inr}
use Rattle.std.specs.Prelude.{Result, Ok, Err, IfSome}
use Rattle.std.specs.Option.{option_map}
use Rattle.erst_store.specs.Store.{Stored}
use Rattle.erst_store.specs.DeviceLaws.{IsDevice}
use Rattle.board_core.specs.Clock.{Clock, Passes}
use Rattle.board_core.specs.Stop.{InStore}
use Rattle.board_core.specs.Doing.{Seen, after_acts}
use Rattle.board_core.specs.Told.{Told, device_of}
use Rattle.erst_interp.specs.declared.entries.InstructionEntry.{InstructionEntry}
use Rattle.erst_interp.specs.declared.refusals.RunRefused.{RunRefused}
use Rattle.erst_interp.specs.declared.refusals.RunRefused.TheVariants.{Register, Fuel, BadInstruction, BadRegister, BadRange}
use Rattle.erst_interp.specs.Machine.{End, most_turns, new_variables, start}
use Rattle.erst_interp.specs.Steps.Running.{Cut, Made, StoreIn, start_over, end_over}
use Rattle.erst_interp.specs.Run.{IsCutShort, IsRun, RunsList, StoreInRun, acts_of, told_after}
use Rattle.erst_interp.specs.Admission.{IsAdmitted}
use Rattle.erst_interp.specs.Faithful.{input_limit, DoesRun, IsFaithful, IsRegisterAlone, RunsAction, StoreInAction}
use Rattle.erst_interp.proofs.FaithfulLemmas.{Done, done, done-answer}
use Rattle.erst_interp.proofs.MomentLemmas.{run_moment}
use Rattle.erst_interp.proofs.RunLemmas.{Ran, Runs, end_device, run_calls}
use Rattle.erst_interp.proofs.TouchLemmas.{passes_more}

pub faithful : (action : ℕ) (list : List InstructionEntry) → action < 2 ^ 64 → IsAdmitted action list → IsFaithful action list
faithful action list fits is input d kept inside =
    let end : Done action list (start input d) = done action list (start input d) fits refl inside is in
    record {
      answer = ap (λ (e : End). e.answer) end.ends ∙ ap (λ (n : ℕ). Ok n) (done-answer action list (start input d) inside kept end);
      device = ap (λ (e : End). e.state.device) end.ends ∙ end.device;
    }

-- ---- what the board tells

ok_same : (r : Result ℕ RunRefused) (x y : ℕ) → r ≡ Ok x → r ≡ Ok y → x ≡ y
ok_same r x y one other = cc

no_err : (r : Result ℕ RunRefused) (why : RunRefused) (x : ℕ) → r ≡ Err why → r ≡ Ok x → ⊥
no_err r why x one other = cc

module _ (list : List InstructionEntry) (action input : ℕ) (fits : action < 2 ^ 64) (inside : input < input_limit action) (is : IsAdmitted action list) where
  done_over : (t : Told) → Done action list (start_over input t)
  done_over t = done action list (start_over input t) fits refl inside is

  ended : (t : Told) → end_over list input t ≡ record { answer = Ok (done_over t).after.variables.value; state = (done_over t).after }
  ended t = (done_over t).ends

  never : (t : Told) (why : RunRefused) → Err why ≡ (end_over list input t).answer → ⊥
  never t why same = no_err (end_over list input t).answer why (done_over t).after.variables.value (sym same) (ap (λ (e : End). e.answer) (ended t))

  does_told : (t : Told) (result : Result ℕ RunRefused) (new : Option Told) → IsRun result (end_over list input t) t new → IsDevice (device_of t) → DoesRun action input result t new
  does_told t (Ok x) new ran kept = record {
    after = told_after (end_over list input t).state t;
    told = ran.1;
    device = end_device list input t ∙ ap (λ (e : End). e.state.device) (ended t) ∙ (done_over t).device;
    answer = ok_same (end_over list input t).answer x (done_over t).after.variables.value (sym ran.0) (ap (λ (e : End). e.answer) (ended t))
        ∙ done-answer action list (start_over input t) inside kept (done_over t);
  }
  does_told t (Err Register) new ran kept = tt
  does_told t (Err Fuel) new ran kept = never t Fuel ran.0
  does_told t (Err BadInstruction) new ran kept = never t BadInstruction ran.0
  does_told t (Err BadRegister) new ran kept = never t BadRegister ran.0
  does_told t (Err BadRange) new ran kept = never t BadRange ran.0

  pub does_run : (old new : Option Told) (result : Result ℕ RunRefused) → IfSome old (λ t. IsRun result (end_over list input t) t new)
      → IfSome old (λ t. IsDevice (device_of t)) → IfSome old (λ t. DoesRun action input result t new)
  does_run None new result ran kept = tt
  does_run (Some t) new result ran kept = does_told t result new ran kept

  -- ---- what stops leave

  in_action : (told : Option Told) (x y : List Stored) → StoreInRun list input told x y → StoreInAction action input told x y
  in_action None x y step = tt
  in_action (Some t) x y step = elim step [ inl same ↦ inl same | inr passed ↦ inr ((done_over t).stores y passed) ]

  pub stores_run : (told : Option Told) (a b : Clock) → Passes (InStore (StoreInRun list input told)) a b → Passes (InStore (StoreInAction action input told)) a b
  stores_run told a b passes = passes_more (StoreInRun list input told) (StoreInAction action input told) (in_action told) a b passes

-- ---- the clauses of a run, from its calls

module _ (list : List InstructionEntry) (input : ℕ) where
  -- A crash leaves a store that the machine passes through.
  come_through : (told : Option Told) (x y : List Stored) → StoreIn (run_calls list input told) told x y → StoreInRun list input told x y
  come_through None x y is = tt
  come_through (Some t) x y is = elim is [
    | inl same ↦ inl same
    | inr torn ↦ elim (run_moment most_turns list (new_variables input) t t [] refl (record t.here { store = y }) torn) [ inl never ↦ absurd never | inr leaves ↦ inr leaves.passes ]
  ]

  module _ (a b : Seen) where
    stops_in : Passes (InStore (StoreIn (run_calls list input a.told) a.told)) a.clock b.clock → Passes (InStore (StoreInRun list input a.told)) a.clock b.clock
    stops_in passes = passes_more (StoreIn (run_calls list input a.told) a.told) (StoreInRun list input a.told) (come_through a.told) a.clock b.clock passes

    told_so : (answer : Result ℕ RunRefused) → IfSome a.told (λ t. answer ≡ (end_over list input t).answer) → Made (run_calls list input a.told) a b
        → IfSome a.told (λ t. (answer ≡ (end_over list input t).answer) × (b.told ≡ Some (told_after (end_over list input t).state t)))
    told_so answer answers made = by a.told answers made.told
      where
        by : (told : Option Told) → IfSome told (λ t. answer ≡ (end_over list input t).answer) → b.told ≡ option_map (λ t. after_acts (acts_of (run_calls list input told)) t) told
            → IfSome told (λ t. (answer ≡ (end_over list input t).answer) × (b.told ≡ Some (told_after (end_over list input t).state t)))
        by None is made = tt
        by (Some t) is made = (is, made)

    cut_so : Cut (run_calls list input a.told) a b → IfSome a.told (λ t. IsCutShort (end_over list input t).state.calls t b.told)
    cut_so cut = by a.told cut.told
      where
        by : (told : Option Told) → IfSome told (λ t. IsCutShort (run_calls list input told) t b.told) → IfSome told (λ t. IsCutShort (end_over list input t).state.calls t b.told)
        by None is = tt
        by (Some t) is = is

    ran : (answer : Result ℕ RunRefused) → Ran list input answer a b → IfSome a.told (λ t. (answer ≡ (end_over list input t).answer) × (b.told ≡ Some (told_after (end_over list input t).state t)))
    ran answer is = told_so answer is.answers is.made

    pub runs_list : (result : Result ℕ RunRefused) → Runs list input result a b → RunsList list input result a b
    runs_list (Ok x) is = record { runs = ran (Ok x) is; kept = is.made.well.kept; stops = stops_in is.made.well.stops; stored = is.made.well.stored; cause = is.made.well.faults }
    runs_list (Err Register) is = record { runs = cut_so is; kept = is.fails.kept; stops = stops_in is.fails.stops; stored = tt; cause = is.fails.raises }
    runs_list (Err Fuel) is = record { runs = ran (Err Fuel) is; kept = is.made.well.kept; stops = stops_in is.made.well.stops; stored = tt; cause = is.made.well.faults }
    runs_list (Err BadInstruction) is = record { runs = ran (Err BadInstruction) is; kept = is.made.well.kept; stops = stops_in is.made.well.stops; stored = tt; cause = is.made.well.faults }
    runs_list (Err BadRegister) is = record { runs = ran (Err BadRegister) is; kept = is.made.well.kept; stops = stops_in is.made.well.stops; stored = tt; cause = is.made.well.faults }
    runs_list (Err BadRange) is = record { runs = ran (Err BadRange) is; kept = is.made.well.kept; stops = stops_in is.made.well.stops; stored = tt; cause = is.made.well.faults }

-- The run of an admitted list.
pub runs_action : (list : List InstructionEntry) (action input : ℕ) (result : Result ℕ RunRefused) (a b : Seen) → action < 2 ^ 64 → IsAdmitted action list → RunsList list input result a b → IsRegisterAlone result
    → IfSome a.told (λ t. IsDevice (device_of t)) → RunsAction action input result a b
runs_action list action input result a b fits is ran alone device = record {
  does = λ inside. does_run list action input fits inside is a.told b.told result ran.runs device;
  only_register = alone;
  device = device;
  stores = λ inside. stores_run list action input fits inside is a.told a.clock b.clock ran.stops;
}

-- The run of a list that was looked up.
module _ (list here : List InstructionEntry) (found : list ≡ here) (input : ℕ) (result : Result ℕ RunRefused) (a b : Seen) (runs : Runs list input result a b) where
  pub runs_as : RunsList here input result a b
  runs_as = subst (λ (l : List InstructionEntry). RunsList l input result a b) found (runs_list list input a b result runs)

  pub acts_as : (action : ℕ) → action < 2 ^ 64 → (IsAdmitted action list → IsRegisterAlone result) → (IsAdmitted action list → IfSome a.told (λ t. IsDevice (device_of t))) → IsAdmitted action here → RunsAction action input result a b
  acts_as action fits alone device is =
      let admitted : IsAdmitted action list = subst (λ (l : List InstructionEntry). IsAdmitted action l) (sym found) is in
      runs_action list action input result a b fits admitted (runs_list list input a b result runs) (alone admitted) (device admitted)
