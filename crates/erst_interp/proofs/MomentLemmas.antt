-- What a crash of the machine leaves during the calls of a run.
use Rattle.std.proofs.Common.{◌≡◌, ◌∙◌, ℕ, zero, suc, ◌+◌, ◌-◌, ◌^◌, ◌<◌, Bool, true, false, ◌&&◌, if◌then◌else◌, List, [], ◌++◌, Option, Some, None, refl, sym, ap, subst, inl, inr, append-nil}
use Rattle.std.specs.Prelude.{◌⊎◌, Err, slice_get}
use Rattle.erst_store.specs.Actions.{range_address}
use Rattle.erst_store.specs.Device.{Device}
use Rattle.erst_store.specs.Store.{Stored}
use Rattle.board_core.specs.declared.board.Reg.{Reg}
use Rattle.board_core.specs.Doing.{Act, DeviceCall, Moment, after_acts}
use Rattle.board_core.specs.Stop.{Becomes, InStore, Left}
use Rattle.board_core.specs.Told.{Told, device_of, register_in}
use Rattle.board_core.proofs.DoingLemmas.{moment_parts}
use Rattle.erst_interp.specs.declared.entries.InstructionEntry.{InstructionEntry}
use Rattle.erst_interp.specs.declared.entries.Instruction.{Instruction}
use Rattle.erst_interp.specs.declared.machine.Variables.{Variables}
use Rattle.erst_interp.specs.declared.machine.Use.{Use}
use Rattle.erst_interp.specs.declared.machine.Use.TheVariants.{Reads, Writes, Changes, Moves}
use Rattle.erst_interp.specs.declared.machine.Work.{Work}
use Rattle.erst_interp.specs.declared.machine.Work as Work
use Rattle.erst_interp.specs.declared.refusals.RunRefused.TheVariants.{Fuel, BadRange}
use Rattle.erst_interp.specs.Admission.{IsAdmitted}
use Rattle.erst_interp.specs.Faithful.{device_after, input_limit}
use Rattle.erst_interp.specs.Machine.{MachineState, Outcome, goes, stops, turn, end_from, machine_end, most_turns, at_entry, after_turn, new_variables, start, after_field, after_move, after_register_read, after_register_write, alone, field_in, is_inside, moved, next, with_field, with_register, with_variables}
use Rattle.erst_interp.specs.Steps.Parts.{changed, given, turn_by, used_by, work_of}
use Rattle.erst_interp.specs.Run.{PassesStore, acts_of, told_after}
use Rattle.erst_interp.specs.Steps.Running.{state_in, state_of}
use Rattle.erst_interp.proofs.BreakLemmas.{acts_both, here_after}
use Rattle.erst_interp.proofs.FaithfulLemmas.{done}
use Rattle.erst_interp.proofs.RunLemmas.{ToldBy, comes_through, here, in_turn, state_at, turn_at, turn_device}
use Rattle.erst_interp.proofs.ShiftedLemmas.{passes_shifted, shifted_outcome, told_on}
use Rattle.erst_interp.proofs.TurnLemmas.{by_kind}

-- ---- one turn

-- A crash leaves what the model says, except the store, which is unchanged or this one.
pub record LeavesStore (store : List Stored) (t : Told) (left : Left) : Type 0 where
  pub rest : left ≡ record t.here { store = left.store }
  pub store_is : Becomes store t.here.store left.store

pub leaves_same : (store : List Stored) (t : Told) (left : Left) → left ≡ t.here → LeavesStore store t left
leaves_same store t left is = record {
  rest = is ∙ ap (λ (s : List Stored). record t.here { store = s }) (ap (λ (l : Left). l.store) (sym is));
  store_is = inl (ap (λ (l : Left). l.store) is);
}

leaves_new : (store : List Stored) (t : Told) (left : Left) → InStore (Becomes store) t.here left → LeavesStore store t left
leaves_new store t left by =
    let same : by.store ≡ left.store = ap (λ (l : Left). l.store) (sym by.rest) in
    record {
      rest = by.rest ∙ ap (λ (s : List Stored). record t.here { store = s }) same;
      store_is = subst (λ (s : List Stored). Becomes store t.here.store s) same by.step;
    }

abbrev pub LeavesBy : Outcome → Told → Left → Type 0
LeavesBy o t left = LeavesStore (state_of o).device.store t left

field_moment : (e : InstructionEntry) (reg : Reg) (x : ℕ) (v : Variables) (t : Told) (left : Left) → Moment (acts_of (after_field e reg x (state_in v t)).calls) t left
    → LeavesStore (after_field e reg x (state_in v t)).device.store t left
field_moment e reg x v t left m = by e.preserves m
  where
    s : MachineState
    s = state_in v t

    written : Bool → MachineState
    written b = if b then after_register_write reg (with_field e x (register_in reg s.device)) (after_register_read reg s) else after_register_write reg (alone e x) s

    by : (b : Bool) → Moment (acts_of (written b).calls) t left → LeavesStore (written b).device.store t left
    by true (inl same) = leaves_same _ t left same
    by true (inr (inl torn)) = leaves_new _ t left torn
    by true (inr (inr never)) = absurd never
    by false (inl torn) = leaves_new _ t left torn
    by false (inr never) = absurd never

changed_moment : (e : InstructionEntry) (reg : Reg) (x : ℕ) (v : Variables) (t : Told) (left : Left) → Moment (acts_of (after_field e reg x (after_register_read reg (state_in v t))).calls) t left
    → LeavesStore (after_field e reg x (after_register_read reg (state_in v t))).device.store t left
changed_moment e reg x v t left m = by e.preserves m
  where
    s : MachineState
    s = after_register_read reg (state_in v t)

    written : Bool → MachineState
    written b = if b then after_register_write reg (with_field e x (register_in reg s.device)) (after_register_read reg s) else after_register_write reg (alone e x) s

    by : (b : Bool) → Moment (acts_of (written b).calls) t left → LeavesStore (written b).device.store t left
    by true (inl same) = leaves_same _ t left same
    by true (inr (inl same)) = leaves_same _ t left same
    by true (inr (inr (inl torn))) = leaves_new _ t left torn
    by true (inr (inr (inr never))) = absurd never
    by false (inl same) = leaves_same _ t left same
    by false (inr (inl torn)) = leaves_new _ t left torn
    by false (inr (inr never)) = absurd never

moved_moment : (offset : ℕ) (v : Variables) (reg : Reg) (t : Told) (left : Left) → Moment (acts_of (state_of (moved offset (after_register_read reg (state_in v t)))).calls) t left
    → LeavesBy (moved offset (after_register_read reg (state_in v t))) t left
moved_moment offset v reg t left m = by (is_inside (v.src + offset) v.var2 && is_inside (v.dst + offset) v.var2) m
  where
    s : MachineState
    s = after_register_read reg (state_in v t)

    gone : Bool → Outcome
    gone b = if b then goes (with_variables (next v) (after_move (v.src + offset - range_address) (v.dst + offset - range_address) v.var2 s)) else stops BadRange s

    by : (b : Bool) → Moment (acts_of (state_of (gone b)).calls) t left → LeavesBy (gone b) t left
    by true (inl same) = leaves_same _ t left same
    by true (inr (inl same)) = leaves_same _ t left same
    by true (inr (inr (inl same))) = leaves_same _ t left same
    by true (inr (inr (inr never))) = absurd never
    by false (inl same) = leaves_same _ t left same
    by false (inr never) = absurd never

used_moment : (how : Use) (i : Instruction) (e : InstructionEntry) (v : Variables) (reg : Reg) (t : Told) (left : Left) → Moment (acts_of (state_of (used_by how i e v reg (state_in v t))).calls) t left
    → LeavesBy (used_by how i e v reg (state_in v t)) t left
used_moment Reads i e v reg t left (inl same) = leaves_same _ t left same
used_moment Reads i e v reg t left (inr never) = absurd never
used_moment Writes i e v reg t left m = field_moment e reg (given i e v) v t left m
used_moment Changes i e v reg t left m = changed_moment e reg (changed i e (field_in e reg (state_in v t))) v t left m
used_moment Moves i e v reg t left m = moved_moment (field_in e reg (state_in v t)) v reg t left m

by_moment : (work : Work) (i : Instruction) (e : InstructionEntry) (v : Variables) (t : Told) (left : Left) → Moment (acts_of (state_of (turn_by work i e v (state_in v t))).calls) t left
    → LeavesBy (turn_by work i e v (state_in v t)) t left
by_moment Work.TheVariants.Unknown i e v t left never = absurd never
by_moment Work.TheVariants.Computes i e v t left never = absurd never
by_moment (Work.TheVariants.Uses how) i e v t left m = by e.register m
  where
    by : (r : Option Reg) → Moment (acts_of (state_of (with_register r (state_in v t) (λ reg. used_by how i e v reg (state_in v t)))).calls) t left
        → LeavesBy (with_register r (state_in v t) (λ reg. used_by how i e v reg (state_in v t))) t left
    by None never = absurd never
    by (Some reg) m = used_moment how i e v reg t left m

turn_moment : (e : InstructionEntry) (v : Variables) (t : Told) (left : Left) → Moment (acts_of (state_of (turn e (state_in v t))).calls) t left → LeavesBy (turn e (state_in v t)) t left
turn_moment e v t left m =
    let kind = by_kind e.instruction e (state_in v t) in
    subst (λ (o : Outcome). LeavesBy o t left) (sym kind)
    (by_moment (work_of e.instruction) e.instruction e v t left (subst (λ (o : Outcome). Moment (acts_of (state_of o).calls) t left) kind m))

-- ---- a run

-- A crash leaves what the model says, except the store, which is one that the run passes through.
pub record LeavesRun (turns : ℕ) (list : List InstructionEntry) (v : Variables) (now : Told) (left : Left) : Type 0 where
  pub rest : left ≡ record now.here { store = left.store }
  pub passes : PassesStore turns list (state_in v now) left.store

module _ (turns : ℕ) (list : List InstructionEntry) (v : Variables) (now old : Told) (calls : List DeviceCall) (is : now ≡ after_acts (acts_of calls) old) (left : Left) (e : InstructionEntry) (next_is : slice_get list v.index ≡ Some e) where
  in_turn_left : (o : Outcome) → turn e (state_in v now) ≡ o → Moment (acts_of (state_of (shifted_outcome calls o)).calls) old left → Moment (acts_of calls) old left ⊎ LeavesRun (suc turns) list v now left
  in_turn_left o o_is m = elim (moment_parts (acts_of calls) (acts_of (state_of o).calls) old left (subst (λ (acts : List Act). Moment acts old left) (split o) m)) [
    | inl before ↦ inl before
    | inr there ↦ inr (by (turn_moment e v now left (subst (λ (x : Outcome). Moment (acts_of (state_of x).calls) now left) (sym o_is) (subst (λ (t : Told). Moment (acts_of (state_of o).calls) t left) (sym is) there))))
  ]
    where
      split : (x : Outcome) → acts_of (state_of (shifted_outcome calls x)).calls ≡ acts_of calls ++ acts_of (state_of x).calls
      split (goes t) = acts_both calls t.calls
      split (stops why t) = acts_both calls t.calls

      by : LeavesBy (turn e (state_in v now)) now left → LeavesRun (suc turns) list v now left
      by leaves = record {
        rest = leaves.rest;
        passes = elim leaves.store_is [
          | inl same ↦ here list (suc turns) (state_in v now) left.store same
          | inr new ↦ in_turn list turns (state_in v now) e next_is left.store new
        ];
      }

  later_left : (t : MachineState) → turn e (state_in v now) ≡ goes t → LeavesRun turns list t.variables (told_after t now) left → LeavesRun (suc turns) list v now left
  later_left t goes_is leaves =
      let u = told_after t now in
      let device : device_of u ≡ t.device = subst (λ (o : Outcome). ToldBy o now) goes_is (turn_device e v now) in
      record {
        rest = leaves.rest ∙ ap (λ (l : Left). record l { store = left.store }) (here_after t.calls now);
        passes = comes_through list turns (state_in v now) t e next_is goes_is left.store
            (subst (λ (made : List DeviceCall). PassesStore turns list (record t { calls = made }) left.store) (append-nil t.calls)
            (passes_shifted t.calls left.store turns list (record { variables = t.variables; device = t.device; calls = [] })
            (subst (λ (d : Device). PassesStore turns list (record { variables = t.variables; device = d; calls = [] }) left.store) device leaves.passes)));
      }

pub run_moment : (turns : ℕ) (list : List InstructionEntry) (v : Variables) (now old : Told) (calls : List DeviceCall) → now ≡ after_acts (acts_of calls) old → (left : Left)
    → Moment (acts_of (end_from turns list (state_at v now calls)).state.calls) old left → Moment (acts_of calls) old left ⊎ LeavesRun turns list v now left
unfolding end_from
run_moment zero list v now old calls is left m = by (slice_get list v.index) m
  where
    by : (o : Option InstructionEntry) → Moment (acts_of (at_entry (λ e. record { answer = Err Fuel; state = state_at v now calls }) (state_at v now calls) o).state.calls) old left
        → Moment (acts_of calls) old left ⊎ LeavesRun zero list v now left
    by None m = inl m
    by (Some e) m = inl m
run_moment (suc turns) list v now old calls is left m = by (slice_get list v.index) refl m (λ w u made told n. run_moment turns list w u old made told left n)
  where
    Later : Type 0
    Later = (w : Variables) (u : Told) (made : List DeviceCall) → u ≡ after_acts (acts_of made) old
        → Moment (acts_of (end_from turns list (state_at w u made)).state.calls) old left → Moment (acts_of made) old left ⊎ LeavesRun turns list w u left

    Out : Type 0
    Out = Moment (acts_of calls) old left ⊎ LeavesRun (suc turns) list v now left

    turned : (e : InstructionEntry) → slice_get list v.index ≡ Some e → (o : Outcome) → turn e (state_in v now) ≡ o
        → Moment (acts_of (after_turn (λ t. end_from turns list t) (shifted_outcome calls o)).state.calls) old left → Later → Out
    turned e next_is (goes t) o_is m later =
        let u = told_after t now in
        let device : device_of u ≡ t.device = subst (λ (o : Outcome). ToldBy o now) o_is (turn_device e v now) in
        let n = subst (λ (d : Device). Moment (acts_of (end_from turns list (record { variables = t.variables; device = d; calls = calls ++ t.calls })).state.calls) old left) (sym device) m in
        elim (later t.variables u (calls ++ t.calls) (told_on calls old now is t) n) [
          | inl before ↦ in_turn_left turns list v now old calls is left e next_is (goes t) o_is before
          | inr leaves ↦ inr (later_left turns list v now old calls is left e next_is t o_is leaves)
        ]
    turned e next_is (stops why t) o_is m later = in_turn_left turns list v now old calls is left e next_is (stops why t) o_is m

    by : (o : Option InstructionEntry) → slice_get list v.index ≡ o → Moment (acts_of (at_entry (λ e. after_turn (λ t. end_from turns list t) (turn e (state_at v now calls))) (state_at v now calls) o).state.calls) old left
        → Later → Out
    by None none m later = inl m
    by (Some e) next_is m later = turned e next_is (turn e (state_in v now)) refl
        (subst (λ (o : Outcome). Moment (acts_of (after_turn (λ t. end_from turns list t) o).state.calls) old left) (turn_at e v now calls) m) later

-- A crash during the run of an admitted list leaves the store as before the action or as after it.
pub action_moment : (action : ℕ) (list : List InstructionEntry) (input : ℕ) (t : Told) (left : Left) → action < 2 ^ 64 → input < input_limit action → IsAdmitted action list
    → Moment (acts_of (machine_end list input (device_of t)).state.calls) t left → LeavesStore (device_after action input (device_of t)).store t left
action_moment action list input t left fits inside is m = elim (run_moment most_turns list (new_variables input) t t [] refl left m) [
  | inl never ↦ absurd never
  | inr leaves ↦ record { rest = leaves.rest; store_is = (done action list (start input (device_of t)) fits refl inside is).stores left.store leaves.passes }
]
