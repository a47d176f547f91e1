-- A run in progress: the calls that it made, and what is left of it.
use Rattle.std.proofs.Common.{◌≡◌, ◌∙◌, ℕ, zero, suc, ◌+◌, ◌-◌, Bool, true, false, ◌&&◌, if◌then◌else◌, List, [], ◌∷◌, ◌++◌, Option, Some, None, refl, sym, ap, subst, inl, inr, append-nil}
use Rattle.std.specs.Prelude.{slice_get, Result, Ok, Err, IfSome}
use Rattle.std.specs.Option.{option_map}
use Rattle.erst_store.specs.Store.{Stored}
use Rattle.board_core.specs.declared.board.Reg.{Reg}
use Rattle.board_core.specs.Doing.{DeviceCall, after_acts, reg_read, reg_write}
use Rattle.board_core.specs.Told.{Told, after_reg_write, device_of, register_in}
use Rattle.erst_interp.specs.declared.entries.InstructionEntry.{InstructionEntry}
use Rattle.erst_interp.specs.declared.machine.Variables.{Variables}
use Rattle.erst_interp.specs.declared.refusals.RunRefused.{RunRefused}
use Rattle.erst_interp.specs.declared.refusals.RunRefused.TheVariants.{Register, Fuel, BadInstruction, BadRegister, BadRange}
use Rattle.erst_interp.specs.Machine.{MachineState, Outcome, goes, stops, turn, End, end_from, machine_end, most_turns, at_entry, after_turn, new_variables, after_field, after_move, after_register_read, after_register_write, alone, field_in, is_inside, moved, next, with_field, with_register, with_variables}
use Rattle.erst_interp.specs.Steps.Parts.{changed, given, turn_by, used_by, work_of}
use Rattle.erst_interp.specs.declared.entries.Instruction.{Instruction}
use Rattle.erst_interp.specs.declared.machine.Use.{Use}
use Rattle.erst_interp.specs.declared.machine.Use.TheVariants.{Reads, Writes, Changes, Moves}
use Rattle.erst_interp.specs.declared.machine.Work.{Work}
use Rattle.erst_interp.specs.declared.machine.Work as Work
use Rattle.erst_store.specs.Actions.{range_address}
use Rattle.erst_store.specs.Device.{Device}
use Rattle.erst_interp.specs.Run.{PassesStore, AtNext, AfterTurn, acts_of, told_after}
use Rattle.board_core.specs.Doing.{Seen}
use Rattle.erst_interp.specs.Steps.Running.{ComesTo, Cut, Made, Turned, Turns, calls_in, end_over, state_in, state_of}
use Rattle.erst_interp.proofs.BreakLemmas.{after_both}
use Rattle.erst_interp.proofs.CallLemmas.{both_cut, both_made, cut_for, made_for, nothing_made}
use Rattle.erst_interp.proofs.ShiftedLemmas.{end_made, shifted, shifted_outcome, told_on, turn-shifted}
use Rattle.erst_interp.proofs.TurnLemmas.{by_kind}

-- the state of a run over a board with this model, after these calls
abbrev pub state_at : Variables → Told → List DeviceCall → MachineState
state_at v now calls = record { variables = v; device = device_of now; calls = calls }

-- ---- one turn of the machine

pub goes_on : (list : List InstructionEntry) (turns : ℕ) (s t : MachineState) (e : InstructionEntry) → slice_get list s.variables.index ≡ Some e → turn e s ≡ goes t → end_from (suc turns) list s ≡ end_from turns list t
unfolding end_from
goes_on list turns s t e next goes_is =
    ap (λ (o : Option InstructionEntry). at_entry (λ x. after_turn (λ u. end_from turns list u) (turn x s)) s o) next
    ∙ ap (λ (o : Outcome). after_turn (λ u. end_from turns list u) o) goes_is

stops_at : (list : List InstructionEntry) (turns : ℕ) (s t : MachineState) (e : InstructionEntry) (why : RunRefused) → slice_get list s.variables.index ≡ Some e → turn e s ≡ stops why t
    → end_from (suc turns) list s ≡ record { answer = Err why; state = t }
unfolding end_from
stops_at list turns s t e why next stops_is =
    ap (λ (o : Option InstructionEntry). at_entry (λ x. after_turn (λ u. end_from turns list u) (turn x s)) s o) next
    ∙ ap (λ (o : Outcome). after_turn (λ u. end_from turns list u) o) stops_is

pub ends_at : (list : List InstructionEntry) (turns : ℕ) (s : MachineState) → slice_get list s.variables.index ≡ None → end_from turns list s ≡ record { answer = Ok s.variables.value; state = s }
unfolding end_from
ends_at list zero s none = ap (λ (o : Option InstructionEntry). at_entry (λ x. record { answer = Err Fuel; state = s }) s o) none
ends_at list (suc turns) s none = ap (λ (o : Option InstructionEntry). at_entry (λ x. after_turn (λ u. end_from turns list u) (turn x s)) s o) none

runs_out : (list : List InstructionEntry) (s : MachineState) (e : InstructionEntry) → slice_get list s.variables.index ≡ Some e → end_from zero list s ≡ record { answer = Err Fuel; state = s }
unfolding end_from
runs_out list s e next = ap (λ (o : Option InstructionEntry). at_entry (λ x. record { answer = Err Fuel; state = s }) s o) next

-- ---- the stores

pub comes_through : (list : List InstructionEntry) (turns : ℕ) (s t : MachineState) (e : InstructionEntry) → slice_get list s.variables.index ≡ Some e → turn e s ≡ goes t
    → (store : List Stored) → PassesStore turns list t store → PassesStore (suc turns) list s store
unfolding PassesStore
comes_through list turns s t e next goes_is store is =
    inr (subst (λ (o : Option InstructionEntry). AtNext (λ x. AfterTurn (λ u. PassesStore turns list u store) (λ u. store ≡ u.device.store) (turn x s)) o) (sym next)
    (subst (λ (o : Outcome). AfterTurn (λ u. PassesStore turns list u store) (λ u. store ≡ u.device.store) o) (sym goes_is) is))

pub here : (list : List InstructionEntry) (turns : ℕ) (s : MachineState) (store : List Stored) → store ≡ s.device.store → PassesStore turns list s store
unfolding PassesStore
here list zero s store is = is
here list (suc turns) s store is = inl is

-- Whatever the turn leads to.
pub in_turn : (list : List InstructionEntry) (turns : ℕ) (s : MachineState) (e : InstructionEntry) → slice_get list s.variables.index ≡ Some e
    → (store : List Stored) → store ≡ (state_of (turn e s)).device.store → PassesStore (suc turns) list s store
unfolding PassesStore
in_turn list turns s e next store is =
    inr (subst (λ (o : Option InstructionEntry). AtNext (λ x. AfterTurn (λ u. PassesStore turns list u store) (λ u. store ≡ u.device.store) (turn x s)) o) (sym next)
    (by (turn e s) is))
  where
    by : (o : Outcome) → store ≡ (state_of o).device.store → AfterTurn (λ u. PassesStore turns list u store) (λ u. store ≡ u.device.store) o
    by (goes t) is = here list turns t store is
    by (stops why t) is = is

-- ---- a turn of the run

-- The device in the model after a turn is the machine's.
field_device : (e : InstructionEntry) (reg : Reg) (x : ℕ) (s : MachineState) (t : Told) → device_of (after_acts (acts_of s.calls) t) ≡ s.device
    → device_of (told_after (after_field e reg x s) t) ≡ (after_field e reg x s).device
field_device e reg x s t is = by e.preserves
  where
    written : (n : ℕ) → device_of (told_after (after_register_write reg n s) t) ≡ (after_register_write reg n s).device
    written n = ap (λ (u : Told). device_of u) (after_both s.calls (reg_write reg n ∷ []) t) ∙ ap (after_reg_write reg n) is

    read_written : (n : ℕ) → device_of (told_after (after_register_write reg n (after_register_read reg s)) t) ≡ (after_register_write reg n (after_register_read reg s)).device
    read_written n =
        ap (λ (u : Told). device_of u) (after_both (s.calls ++ reg_read reg ∷ []) (reg_write reg n ∷ []) t)
        ∙ ap (λ (u : Told). after_reg_write reg n (device_of u)) (after_both s.calls (reg_read reg ∷ []) t)
        ∙ ap (after_reg_write reg n) is

    by : (b : Bool) → device_of (told_after (if b then after_register_write reg (with_field e x (register_in reg s.device)) (after_register_read reg s) else after_register_write reg (alone e x) s) t)
        ≡ (if b then after_register_write reg (with_field e x (register_in reg s.device)) (after_register_read reg s) else after_register_write reg (alone e x) s).device
    by true = read_written (with_field e x (register_in reg s.device))
    by false = written (alone e x)

abbrev pub ToldBy : Outcome → Told → Type 0
ToldBy o t = device_of (told_after (state_of o) t) ≡ (state_of o).device

moved_device : (offset : ℕ) (v : Variables) (reg : Reg) (t : Told) → ToldBy (moved offset (after_register_read reg (state_in v t))) t
moved_device offset v reg t = by (is_inside (v.src + offset) v.var2 && is_inside (v.dst + offset) v.var2)
  where
    s : MachineState
    s = after_register_read reg (state_in v t)

    by : (b : Bool) → ToldBy (if b then goes (with_variables (next v) (after_move (v.src + offset - range_address) (v.dst + offset - range_address) v.var2 s)) else stops BadRange s) t
    by true = refl
    by false = refl

used_device : (how : Use) (i : Instruction) (e : InstructionEntry) (v : Variables) (reg : Reg) (t : Told) → ToldBy (used_by how i e v reg (state_in v t)) t
used_device Reads i e v reg t = refl
used_device Writes i e v reg t = field_device e reg (given i e v) (state_in v t) t refl
used_device Changes i e v reg t = field_device e reg (changed i e (field_in e reg (state_in v t))) (after_register_read reg (state_in v t)) t refl
used_device Moves i e v reg t = moved_device (field_in e reg (state_in v t)) v reg t

by_device : (work : Work) (i : Instruction) (e : InstructionEntry) (v : Variables) (t : Told) → ToldBy (turn_by work i e v (state_in v t)) t
by_device Work.TheVariants.Unknown i e v t = refl
by_device Work.TheVariants.Computes i e v t = refl
by_device (Work.TheVariants.Uses how) i e v t = by e.register
  where
    by : (r : Option Reg) → ToldBy (with_register r (state_in v t) (λ reg. used_by how i e v reg (state_in v t))) t
    by None = refl
    by (Some reg) = used_device how i e v reg t

pub turn_device : (e : InstructionEntry) (v : Variables) (t : Told) → ToldBy (turn e (state_in v t)) t
turn_device e v t = subst (λ (o : Outcome). ToldBy o t) (sym (by_kind e.instruction e (state_in v t))) (by_device (work_of e.instruction) e.instruction e v t)

-- A turn of the run is the turn alone, after the calls before it.
pub turn_at : (e : InstructionEntry) (v : Variables) (now : Told) (calls : List DeviceCall) → turn e (state_at v now calls) ≡ shifted_outcome calls (turn e (state_in v now))
turn_at e v now calls = ap (λ (made : List DeviceCall). turn e (state_at v now made)) (sym (append-nil calls)) ∙ turn-shifted calls e (state_in v now)

-- The device in the model after a run is the machine's.
ends_device : (turns : ℕ) (list : List InstructionEntry) (v : Variables) (now old : Told) (calls : List DeviceCall) → now ≡ after_acts (acts_of calls) old
    → device_of (told_after (end_from turns list (state_at v now calls)).state old) ≡ (end_from turns list (state_at v now calls)).state.device
unfolding end_from
ends_device zero list v now old calls is = by (slice_get list v.index)
  where
    here : device_of (after_acts (acts_of calls) old) ≡ device_of now
    here = ap (λ (u : Told). device_of u) (sym is)

    by : (o : Option InstructionEntry) → device_of (told_after (at_entry (λ e. record { answer = Err Fuel; state = state_at v now calls }) (state_at v now calls) o).state old)
        ≡ (at_entry (λ e. record { answer = Err Fuel; state = state_at v now calls }) (state_at v now calls) o).state.device
    by None = here
    by (Some e) = here
ends_device (suc turns) list v now old calls is = by (slice_get list v.index) (λ w u made told. ends_device turns list w u old made told)
  where
    Later : Type 0
    Later = (w : Variables) (u : Told) (made : List DeviceCall) → u ≡ after_acts (acts_of made) old
        → device_of (told_after (end_from turns list (state_at w u made)).state old) ≡ (end_from turns list (state_at w u made)).state.device

    Told_in : End → Type 0
    Told_in end = device_of (told_after end.state old) ≡ end.state.device

    turned : (e : InstructionEntry) (o : Outcome) → turn e (state_in v now) ≡ o → Later → Told_in (after_turn (λ t. end_from turns list t) (shifted_outcome calls o))
    turned e (goes t) here later =
        let u = told_after t now in
        let device : device_of u ≡ t.device = subst (λ (o : Outcome). ToldBy o now) here (turn_device e v now) in
        subst (λ (d : Device). Told_in (end_from turns list (record { variables = t.variables; device = d; calls = calls ++ t.calls }))) device
        (later t.variables u (calls ++ t.calls) (told_on calls old now is t))
    turned e (stops why t) here later =
        ap (λ (u : Told). device_of u) (sym (told_on calls old now is t)) ∙ subst (λ (o : Outcome). ToldBy o now) here (turn_device e v now)

    by : (o : Option InstructionEntry) → Later → Told_in (at_entry (λ e. after_turn (λ t. end_from turns list t) (turn e (state_at v now calls))) (state_at v now calls) o)
    by None later = ap (λ (u : Told). device_of u) (sym is)
    by (Some e) later = subst (λ (o : Outcome). Told_in (after_turn (λ t. end_from turns list t) o)) (sym (turn_at e v now calls)) (turned e (turn e (state_in v now)) refl later)

pub end_device : (list : List InstructionEntry) (input : ℕ) (t : Told) → device_of (told_after (machine_end list input (device_of t)).state t) ≡ (machine_end list input (device_of t)).state.device
end_device list input t = ends_device most_turns list (new_variables input) t t [] refl

-- ---- a run on its way

-- This many turns are left, with these variables.
pub record Way (list : List InstructionEntry) (turns input : ℕ) (v : Variables) (a b : Seen) : Type 0 where
  pub calls : List DeviceCall
  pub made : Made calls a b
  pub ends : IfSome a.told (λ t. end_from turns list (state_at v (after_acts (acts_of calls) t) calls) ≡ end_over list input t)

pub way_begins : (list : List InstructionEntry) (input : ℕ) (a : Seen) → Way list most_turns input (new_variables input) a a
way_begins list input a = record { calls = []; made = nothing_made a; ends = by a.told }
  where
    by : (told : Option Told) → IfSome told (λ t. end_from most_turns list (state_at (new_variables input) t []) ≡ end_over list input t)
    by None = tt
    by (Some t) = refl

-- the calls of a run, and its end
abbrev pub run_calls : List InstructionEntry → ℕ → Option Told → List DeviceCall
run_calls list input None = []
run_calls list input (Some t) = (end_over list input t).state.calls

pub record Ran (list : List InstructionEntry) (input : ℕ) (result : Result ℕ RunRefused) (a b : Seen) : Type 0 where
  pub made : Made (run_calls list input a.told) a b
  pub answers : IfSome a.told (λ t. result ≡ (end_over list input t).answer)

abbrev pub Runs : List InstructionEntry → ℕ → Result ℕ RunRefused → Seen → Seen → Type 0
Runs list input (Err Register) a b = Cut (run_calls list input a.told) a b
Runs list input result a b = Ran list input result a b

-- The model after calls, by the model before.
made_told : (calls : List DeviceCall) (a b : Seen) → Made calls a b → (t : Told) → a.told ≡ Some t → b.told ≡ Some (after_acts (acts_of calls) t)
made_told calls a b made t is = made.told ∙ ap (λ (o : Option Told). option_map (λ u. after_acts (acts_of calls) u) o) is

module _ (list : List InstructionEntry) (input : ℕ) (a b : Seen) where
  -- The run reached this end.
  ended : (turns : ℕ) (v : Variables) (result : Result ℕ RunRefused) (way : Way list turns input v a b)
      → ((s : MachineState) → s.variables ≡ v → end_from turns list s ≡ record { answer = result; state = s }) → Ran list input result a b
  ended turns v result way is = record { made = made_for way.calls (run_calls list input) a b same way.made; answers = by a.told refl }
    where
      at : (t : Told) → a.told ≡ Some t → end_over list input t ≡ record { answer = result; state = state_at v (after_acts (acts_of way.calls) t) way.calls }
      at t told = sym (subst (λ (o : Option Told). IfSome o (λ u. end_from turns list (state_at v (after_acts (acts_of way.calls) u) way.calls) ≡ end_over list input u)) told way.ends)
          ∙ is (state_at v (after_acts (acts_of way.calls) t) way.calls) refl

      same : (t : Told) → a.told ≡ Some t → way.calls ≡ run_calls list input (Some t)
      same t told = sym (ap (λ (end : End). end.state.calls) (at t told))

      by : (told : Option Told) → a.told ≡ told → IfSome told (λ t. result ≡ (end_over list input t).answer)
      by None told = tt
      by (Some t) told = sym (ap (λ (end : End). end.answer) (at t told))

  -- No entry is next, or no turn is left.
  pub run_ended : (turns : ℕ) (v : Variables) → slice_get list v.index ≡ None → Way list turns input v a b → Runs list input (Ok v.value) a b
  run_ended turns v none way = ended turns v (Ok v.value) way
      (λ s same. ends_at list turns s (ap (λ (w : Variables). slice_get list w.index) same ∙ none) ∙ ap (λ (w : Variables). record { answer = Ok w.value; state = s }) same)

  pub run_out : (e : InstructionEntry) (v : Variables) → slice_get list v.index ≡ Some e → Way list zero input v a b → Runs list input (Err Fuel) a b
  run_out e v next way = ended zero v (Err Fuel) way (λ s same. runs_out list s e (ap (λ (w : Variables). slice_get list w.index) same ∙ next))

  -- A turn was made.
  module _ (turns : ℕ) (e : InstructionEntry) (v : Variables) (c : Seen) (next : slice_get list v.index ≡ Some e) (way : Way list (suc turns) input v a b) where
    now : Told → Told
    now t = after_acts (acts_of way.calls) t

    turn_calls : List DeviceCall
    turn_calls = calls_in (λ s. turn e s) v b.told

    told_now : (t : Told) → a.told ≡ Some t → b.told ≡ Some (after_acts (acts_of way.calls) t)
    told_now t told = made_told way.calls a b way.made t told

    turn_is : (t : Told) → a.told ≡ Some t → calls_in (λ s. turn e s) v b.told ≡ (state_of (turn e (state_in v (after_acts (acts_of way.calls) t)))).calls
    turn_is t told = ap (λ (o : Option Told). calls_in (λ s. turn e s) v o) (told_now t told)

    left : (t : Told) → a.told ≡ Some t → end_from (suc turns) list (state_at v (after_acts (acts_of way.calls) t) way.calls) ≡ end_over list input t
    left t told = subst (λ (o : Option Told). IfSome o (λ u. end_from (suc turns) list (state_at v (after_acts (acts_of way.calls) u) way.calls) ≡ end_over list input u)) told way.ends

    -- The turn is the machine's, after the calls before it.
    at : (t : Told) (o : Outcome) → turn e (state_in v (after_acts (acts_of way.calls) t)) ≡ o → turn e (state_at v (after_acts (acts_of way.calls) t) way.calls) ≡ shifted_outcome way.calls o
    at t o is = turn_at e v (after_acts (acts_of way.calls) t) way.calls ∙ ap (shifted_outcome way.calls) is

    went_on : (t : Told) → a.told ≡ Some t → (w : Variables) (o : Outcome) → turn e (state_in v (after_acts (acts_of way.calls) t)) ≡ o → ComesTo o (Ok w)
        → end_from turns list (state_at w (after_acts (acts_of (way.calls ++ (state_of o).calls)) t) (way.calls ++ (state_of o).calls)) ≡ end_over list input t
    went_on t told w (stops why s) is comes = absurd comes
    went_on t told w (goes s) is w_is =
        let u = after_acts (acts_of way.calls) t in
        let told_after_it : after_acts (acts_of (way.calls ++ s.calls)) t ≡ told_after s u = after_both way.calls s.calls t in
        let device : device_of (told_after s u) ≡ s.device = subst (λ (o : Outcome). ToldBy o u) is (turn_device e v u) in
        ap (λ (x : Told). end_from turns list (state_at w x (way.calls ++ s.calls))) told_after_it
        ∙ ap (λ (x : Variables). end_from turns list (state_at x (told_after s u) (way.calls ++ s.calls))) w_is
        ∙ ap (λ (d : Device). end_from turns list (record { variables = s.variables; device = d; calls = way.calls ++ s.calls })) device
        ∙ sym (goes_on list turns (state_at v u way.calls) (shifted way.calls s) e next (at t (goes s) is))
        ∙ left t told

    pub way_on : (w : Variables) → Turns (λ s. turn e s) v (Ok w) b c → Way list turns input w a c
    way_on w turned = record { calls = way.calls ++ calls_in (λ s. turn e s) v b.told; made = both_made way.calls (calls_in (λ s. turn e s) v b.told) a b c way.made turned.made; ends = by a.told refl }
      where
        by : (told : Option Told) → a.told ≡ told
            → IfSome told (λ t. end_from turns list (state_at w (after_acts (acts_of (way.calls ++ calls_in (λ s. turn e s) v b.told)) t) (way.calls ++ calls_in (λ s. turn e s) v b.told)) ≡ end_over list input t)
        by None told = tt
        by (Some t) told =
            let u = after_acts (acts_of way.calls) t in
            subst (λ (made : List DeviceCall). end_from turns list (state_at w (after_acts (acts_of (way.calls ++ made)) t) (way.calls ++ made)) ≡ end_over list input t) (sym (turn_is t told))
            (went_on t told w (turn e (state_in v u)) refl (subst (λ (o : Option Told). IfSome o (λ x. ComesTo (turn e (state_in v x)) (Ok w))) (told_now t told) turned.comes))

    -- The turn was refused.
    stopped : (t : Told) → a.told ≡ Some t → (why : RunRefused) (o : Outcome) → turn e (state_in v (after_acts (acts_of way.calls) t)) ≡ o → ComesTo o (Err why)
        → end_over list input t ≡ record { answer = Err why; state = shifted way.calls (state_of o) }
    stopped t told why (goes s) is comes = absurd comes
    stopped t told why (stops cause s) is cause_is =
        sym (left t told) ∙ stops_at list turns (state_at v (after_acts (acts_of way.calls) t) way.calls) (shifted way.calls s) e cause next (at t (stops cause s) is)
        ∙ ap (λ (w : RunRefused). record { answer = Err w; state = shifted way.calls s }) cause_is

    turn_refused : (why : RunRefused) → Turned (λ s. turn e s) v (Err why) b c → Ran list input (Err why) a c
    turn_refused why turned = record {
      made = made_for (way.calls ++ calls_in (λ s. turn e s) v b.told) (run_calls list input) a c
          (λ t told. ap (λ (made : List DeviceCall). way.calls ++ made) (turn_is t told) ∙ sym (ap (λ (end : End). end.state.calls) (end_is t told)))
          (both_made way.calls (calls_in (λ s. turn e s) v b.told) a b c way.made turned.made);
      answers = by a.told refl;
    }
      where
        end_is : (t : Told) → a.told ≡ Some t → end_over list input t ≡ record { answer = Err why; state = shifted way.calls (state_of (turn e (state_in v (after_acts (acts_of way.calls) t)))) }
        end_is t told = stopped t told why (turn e (state_in v (after_acts (acts_of way.calls) t))) refl
            (subst (λ (o : Option Told). IfSome o (λ x. ComesTo (turn e (state_in v x)) (Err why))) (told_now t told) turned.comes)

        by : (told : Option Told) → a.told ≡ told → IfSome told (λ t. Err why ≡ (end_over list input t).answer)
        by None told = tt
        by (Some t) told = sym (ap (λ (end : End). end.answer) (end_is t told))

    -- The calls of the turn are the next calls of the run.
    more_made : (t : Told) → a.told ≡ Some t → (o : Outcome) → turn e (state_in v (after_acts (acts_of way.calls) t)) ≡ o
        → (more : List DeviceCall) × ((end_over list input t).state.calls ≡ (way.calls ++ (state_of o).calls) ++ more)
    more_made t told (goes s) is =
        let later = end_made turns list (shifted way.calls s) in
        (later.0, sym (ap (λ (x : End). x.state.calls) (left t told)) ∙ ap (λ (x : End). x.state.calls) (goes_on list turns (state_at v (after_acts (acts_of way.calls) t) way.calls) (shifted way.calls s) e next (at t (goes s) is)) ∙ later.1)
    more_made t told (stops why s) is = (
      [],
      sym (ap (λ (x : End). x.state.calls) (left t told))
          ∙ ap (λ (x : End). x.state.calls) (stops_at list turns (state_at v (after_acts (acts_of way.calls) t) way.calls) (shifted way.calls s) e why next (at t (stops why s) is))
          ∙ sym (append-nil (way.calls ++ s.calls)),
    )

    turn_cut : Cut (calls_in (λ s. turn e s) v b.told) b c → Cut (run_calls list input a.told) a c
    turn_cut cut = cut_for (way.calls ++ calls_in (λ s. turn e s) v b.told) (run_calls list input) a c
        (λ t told. (let more = more_made t told (turn e (state_in v (after_acts (acts_of way.calls) t))) refl in
        (more.0, more.1 ∙ ap (λ (made : List DeviceCall). (way.calls ++ made) ++ more.0) (sym (turn_is t told)))))
        (both_cut way.calls (calls_in (λ s. turn e s) v b.told) a b c way.made cut)

    pub run_refused : (why : RunRefused) → Turns (λ s. turn e s) v (Err why) b c → Runs list input (Err why) a c
    run_refused Register is = turn_cut is
    run_refused Fuel is = turn_refused Fuel is
    run_refused BadInstruction is = turn_refused BadInstruction is
    run_refused BadRegister is = turn_refused BadRegister is
    run_refused BadRange is = turn_refused BadRange is
