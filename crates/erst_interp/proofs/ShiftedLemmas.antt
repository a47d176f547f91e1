-- Calls that were made before a run precede the run's calls, and change nothing else.
use Rattle.std.proofs.Common.{◌≡◌, ◌∙◌, ℕ, zero, suc, ◌+◌, ◌-◌, Bool, true, false, ◌&&◌, List, ◌∷◌, [], ◌++◌, take, drop, Option, Some, None, refl, sym, ap, subst, inl, inr, append_assoc, append-nil, if◌then◌else◌}
use Rattle.std.specs.Prelude.{slice_get, Err}
use Rattle.erst_store.specs.Store.{Stored}
use Rattle.erst_store.specs.Actions.{range_address}
use Rattle.board_core.specs.Doing.{DeviceCall, after_acts, reg_read, reg_write, range_read, range_write}
use Rattle.board_core.specs.declared.board.Reg.{Reg}
use Rattle.board_core.specs.Told.{Told, register_in}
use Rattle.erst_interp.specs.declared.entries.InstructionEntry.{InstructionEntry}
use Rattle.erst_interp.specs.declared.entries.Instruction.{Instruction}
use Rattle.erst_interp.specs.declared.machine.Use.{Use}
use Rattle.erst_interp.specs.declared.machine.Use.TheVariants.{Reads, Writes, Changes, Moves}
use Rattle.erst_interp.specs.declared.machine.Work.{Work}
use Rattle.erst_interp.specs.declared.machine.Work as Work
use Rattle.erst_interp.specs.declared.machine.Variables.{Variables}
use Rattle.erst_interp.specs.declared.refusals.RunRefused.TheVariants.{Fuel, BadRange}
use Rattle.erst_interp.specs.Machine.{MachineState, Outcome, goes, stops, turn, End, end_from, at_entry, after_turn, with_variables, with_register, next, after_register_read, after_register_write, after_field, after_move, after_range_read, after_range_write_at, field_in, with_field, alone, moved, is_inside}
use Rattle.erst_interp.specs.Steps.Parts.{turn_by, used_by, taken, given, changed, work_of}
use Rattle.erst_interp.specs.Run.{PassesStore, AtNext, AfterTurn, acts_of, told_after}
use Rattle.erst_interp.specs.Steps.Running.{state_of}
use Rattle.erst_interp.proofs.BreakLemmas.{after_both}
use Rattle.erst_interp.proofs.TurnLemmas.{by_kind}

-- a state with these calls before its own
abbrev pub shifted : List DeviceCall → MachineState → MachineState
shifted before s = record s { calls = before ++ s.calls }

abbrev pub shifted_outcome : List DeviceCall → Outcome → Outcome
shifted_outcome before (goes s) = goes (shifted before s)
shifted_outcome before (stops why s) = stops why (shifted before s)

abbrev pub shifted_end : List DeviceCall → End → End
shifted_end before end = record end { state = shifted before end.state }

module _ (before : List DeviceCall) where
  -- One more call.
  after_read-shifted : (reg : Reg) (s : MachineState) → after_register_read reg (shifted before s) ≡ shifted before (after_register_read reg s)
  after_read-shifted reg s =
      ap (λ (made : List DeviceCall). record s { calls = made }) (append_assoc before s.calls (reg_read reg ∷ []))

  after_write-shifted : (reg : Reg) (number : ℕ) (s : MachineState) → after_register_write reg number (shifted before s) ≡ shifted before (after_register_write reg number s)
  after_write-shifted reg number s =
      ap (λ (made : List DeviceCall). record (after_register_write reg number s) { calls = made }) (append_assoc before s.calls (reg_write reg number ∷ []))

  after_field-shifted : (e : InstructionEntry) (reg : Reg) (x : ℕ) (s : MachineState) → after_field e reg x (shifted before s) ≡ shifted before (after_field e reg x s)
  after_field-shifted e reg x s = by e.preserves
    where
      by : (b : Bool) → (if b then after_register_write reg (with_field e x (register_in reg s.device)) (after_register_read reg (shifted before s)) else after_register_write reg (alone e x) (shifted before s))
          ≡ shifted before (if b then after_register_write reg (with_field e x (register_in reg s.device)) (after_register_read reg s) else after_register_write reg (alone e x) s)
      by true =
          ap (after_register_write reg (with_field e x (register_in reg s.device))) (after_read-shifted reg s)
          ∙ after_write-shifted reg (with_field e x (register_in reg s.device)) (after_register_read reg s)
      by false = after_write-shifted reg (alone e x) s

  after_move-shifted : (from to count : ℕ) (s : MachineState) → after_move from to count (shifted before s) ≡ shifted before (after_move from to count s)
  after_move-shifted from to count s =
      let bytes = take count (drop from s.device.range) in
      ap (λ (t : MachineState). after_range_write_at to bytes t)
      (ap (λ (made : List DeviceCall). record s { calls = made }) (append_assoc before s.calls (range_read from count ∷ [])))
      ∙ ap (λ (made : List DeviceCall). record (after_range_write_at to bytes (after_range_read from count s)) { calls = made })
      (append_assoc before (after_range_read from count s).calls (range_write to bytes ∷ []))

  pub moved-shifted : (offset : ℕ) (s : MachineState) → moved offset (shifted before s) ≡ shifted_outcome before (moved offset s)
  moved-shifted offset s = by (is_inside (s.variables.src + offset) s.variables.var2 && is_inside (s.variables.dst + offset) s.variables.var2)
    where
      by : (b : Bool)
          → (if b then goes (with_variables (next s.variables) (after_move (s.variables.src + offset - range_address) (s.variables.dst + offset - range_address) s.variables.var2 (shifted before s)))
          else stops BadRange (shifted before s))
          ≡ shifted_outcome before (if b then goes (with_variables (next s.variables) (after_move (s.variables.src + offset - range_address) (s.variables.dst + offset - range_address) s.variables.var2 s))
          else stops BadRange s)
      by true = ap (λ (t : MachineState). goes (with_variables (next s.variables) t))
          (after_move-shifted (s.variables.src + offset - range_address) (s.variables.dst + offset - range_address) s.variables.var2 s)
      by false = refl

  used-shifted : (how : Use) (i : Instruction) (e : InstructionEntry) (v : Variables) (reg : Reg) (s : MachineState) → used_by how i e v reg (shifted before s) ≡ shifted_outcome before (used_by how i e v reg s)
  used-shifted Reads i e v reg s = ap (λ (t : MachineState). goes (with_variables (taken i e (field_in e reg s) v) t)) (after_read-shifted reg s)
  used-shifted Writes i e v reg s = ap (λ (t : MachineState). goes (with_variables (next s.variables) t)) (after_field-shifted e reg (given i e v) s)
  used-shifted Changes i e v reg s =
      ap (λ (t : MachineState). goes (with_variables (next s.variables) (after_field e reg (changed i e (field_in e reg s)) t))) (after_read-shifted reg s)
      ∙ ap (λ (t : MachineState). goes (with_variables (next s.variables) t)) (after_field-shifted e reg (changed i e (field_in e reg s)) (after_register_read reg s))
  used-shifted Moves i e v reg s = ap (moved (field_in e reg s)) (after_read-shifted reg s) ∙ moved-shifted (field_in e reg s) (after_register_read reg s)

  by-shifted : (work : Work) (i : Instruction) (e : InstructionEntry) (v : Variables) (s : MachineState) → turn_by work i e v (shifted before s) ≡ shifted_outcome before (turn_by work i e v s)
  by-shifted Work.TheVariants.Unknown i e v s = refl
  by-shifted Work.TheVariants.Computes i e v s = refl
  by-shifted (Work.TheVariants.Uses how) i e v s = by e.register
    where
      by : (r : Option Reg) → with_register r (shifted before s) (λ reg. used_by how i e v reg (shifted before s)) ≡ shifted_outcome before (with_register r s (λ reg. used_by how i e v reg s))
      by None = refl
      by (Some reg) = used-shifted how i e v reg s

  pub turn-shifted : (e : InstructionEntry) (s : MachineState) → turn e (shifted before s) ≡ shifted_outcome before (turn e s)
  turn-shifted e s =
      by_kind e.instruction e (shifted before s)
      ∙ by-shifted (work_of e.instruction) e.instruction e s.variables s
      ∙ ap (shifted_outcome before) (sym (by_kind e.instruction e s))

  pub end-shifted : (turns : ℕ) (list : List InstructionEntry) (s : MachineState) → end_from turns list (shifted before s) ≡ shifted_end before (end_from turns list s)
  unfolding end_from
  end-shifted zero list s = by (slice_get list s.variables.index)
    where
      by : (o : Option InstructionEntry) → at_entry (λ e. record { answer = Err Fuel; state = shifted before s }) (shifted before s) o ≡ shifted_end before (at_entry (λ e. record { answer = Err Fuel; state = s }) s o)
      by None = refl
      by (Some e) = refl
  end-shifted (suc turns) list s = by (slice_get list s.variables.index) (λ t. end-shifted turns list t)
    where
      gone : (o : Outcome) → ((t : MachineState) → end_from turns list (shifted before t) ≡ shifted_end before (end_from turns list t))
          → after_turn (λ t. end_from turns list t) (shifted_outcome before o) ≡ shifted_end before (after_turn (λ t. end_from turns list t) o)
      gone (goes t) later = later t
      gone (stops why t) later = refl

      by : (o : Option InstructionEntry) → ((t : MachineState) → end_from turns list (shifted before t) ≡ shifted_end before (end_from turns list t))
          → at_entry (λ e. after_turn (λ t. end_from turns list t) (turn e (shifted before s))) (shifted before s) o
          ≡ shifted_end before (at_entry (λ e. after_turn (λ t. end_from turns list t) (turn e s)) s o)
      by None later = refl
      by (Some e) later = ap (λ (o : Outcome). after_turn (λ t. end_from turns list t) o) (turn-shifted e s) ∙ gone (turn e s) later

-- ---- the calls of a turn and of a run, which come after those that were made before

bare : MachineState → MachineState
bare s = record s { calls = [] }

is_shifted : (s : MachineState) → s ≡ shifted s.calls (bare s)
unfolding bare
is_shifted s = ap (λ (made : List DeviceCall). record s { calls = made }) (sym (append-nil s.calls))

pub outcome_made : (before : List DeviceCall) (o : Outcome) → (state_of (shifted_outcome before o)).calls ≡ before ++ (state_of o).calls
outcome_made before (goes s) = refl
outcome_made before (stops why s) = refl

pub end_made : (turns : ℕ) (list : List InstructionEntry) (s : MachineState) → (more : List DeviceCall) × ((end_from turns list s).state.calls ≡ s.calls ++ more)
end_made turns list s = (
  (end_from turns list (bare s)).state.calls,
  ap (λ (t : MachineState). (end_from turns list t).state.calls) (is_shifted s)
      ∙ ap (λ (e : End). e.state.calls) (end-shifted s.calls turns list (bare s)),
)

-- ---- the stores

pub passes_shifted : (before : List DeviceCall) (store : List Stored) (turns : ℕ) (list : List InstructionEntry) (s : MachineState) → PassesStore turns list s store → PassesStore turns list (shifted before s) store
unfolding PassesStore
passes_shifted before store zero list s passes = passes
passes_shifted before store (suc turns) list s passes =
    elim passes [ inl here ↦ inl here | inr later ↦ inr (by (slice_get list s.variables.index) later (λ t. passes_shifted before store turns list t)) ]
  where
    gone : (o : Outcome) → AfterTurn (λ t. PassesStore turns list t store) (λ t. store ≡ t.device.store) o
        → ((t : MachineState) → PassesStore turns list t store → PassesStore turns list (shifted before t) store)
        → AfterTurn (λ t. PassesStore turns list t store) (λ t. store ≡ t.device.store) (shifted_outcome before o)
    gone (goes t) is later = later t is
    gone (stops why t) is later = is

    by : (o : Option InstructionEntry) → AtNext (λ e. AfterTurn (λ t. PassesStore turns list t store) (λ t. store ≡ t.device.store) (turn e s)) o
        → ((t : MachineState) → PassesStore turns list t store → PassesStore turns list (shifted before t) store)
        → AtNext (λ e. AfterTurn (λ t. PassesStore turns list t store) (λ t. store ≡ t.device.store) (turn e (shifted before s))) o
    by None is later = is
    by (Some e) is later = subst (λ (o : Outcome). AfterTurn (λ t. PassesStore turns list t store) (λ t. store ≡ t.device.store) o) (sym (turn-shifted before e s)) (gone (turn e s) is later)

-- ---- what is told of calls that were made after others

module _ (first : List DeviceCall) (t u : Told) (made : u ≡ after_acts (acts_of first) t) where
  pub told_on : (s : MachineState) → told_after s u ≡ told_after (shifted first s) t
  told_on s = ap (λ (v : Told). after_acts (acts_of s.calls) v) made ∙ sym (after_both first s.calls t)
