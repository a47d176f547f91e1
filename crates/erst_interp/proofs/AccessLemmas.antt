-- The calls of a turn of the run, which are the machine's calls.
use Rattle.std.proofs.Common.{◌≡◌, ◌∙◌, ℕ, ◌+◌, ◌-◌, Bool, true, false, ◌&&◌, List, [], ◌∷◌, ◌++◌, take, drop, Option, Some, None, refl, sym, ap, subst, append_assoc, append-nil, true≢false, if◌then◌else◌}
use Rattle.std.specs.Prelude.{IfSome, Result, Ok, Err}
use Rattle.std.specs.Option.{option_map}
use Rattle.erst_store.specs.Actions.{range_address}
use Rattle.erst_store.specs.Device.{Device}
use Rattle.board_core.specs.declared.board.Reg.{Reg}
use Rattle.board_core.specs.Doing.{DeviceCall, Seen, after_acts, reg_read, reg_write, range_read, range_write}
use Rattle.board_core.specs.Told.{Told, device_of, register_in}
use Rattle.erst_interp.specs.declared.entries.InstructionEntry.{InstructionEntry}
use Rattle.erst_interp.specs.declared.entries.Instruction.{Instruction}
use Rattle.erst_interp.specs.declared.machine.Variables.{Variables}
use Rattle.erst_interp.specs.declared.machine.Use.{Use}
use Rattle.erst_interp.specs.declared.machine.Use.TheVariants.{Reads, Writes, Changes, Moves}
use Rattle.erst_interp.specs.declared.machine.Work.{Work}
use Rattle.erst_interp.specs.declared.machine.Work as Work
use Rattle.erst_interp.specs.declared.refusals.RunRefused.{RunRefused}
use Rattle.erst_interp.specs.declared.refusals.RunRefused.TheVariants.{Register, Fuel, BadInstruction, BadRegister, BadRange}
use Rattle.erst_interp.specs.Machine.{MachineState, Outcome, goes, stops, turn, with_variables, with_register, next, after_register_read, after_register_write, after_field, after_move, with_field, alone, field_in, field_of, moved, is_inside}
use Rattle.erst_interp.specs.Steps.Parts.{changed, computed, given, taken, used_by, work_of, turn_by}
use Rattle.erst_interp.specs.Run.{acts_of}
use Rattle.erst_interp.specs.Steps.Running.{ComesTo, Cut, IsPlace, Made, Turned, Turns, calls_in, state_in, state_of}
use Rattle.erst_interp.proofs.CallLemmas.{IsRead, both_cut, both_made, cut_for, made_for, nothing_made}
use Rattle.erst_interp.proofs.ShiftedLemmas.{moved-shifted, outcome_made, shifted_outcome}
use Rattle.erst_interp.proofs.TurnLemmas.{by_kind, turn_uses}

-- ---- the calls of an instruction

-- the calls of a write to a field
field_made : InstructionEntry → Reg → ℕ → Device → List DeviceCall
field_made e reg x d = if e.preserves then reg_read reg ∷ reg_write reg (with_field e x (register_in reg d)) ∷ [] else reg_write reg (alone e x) ∷ []

field_calls : (e : InstructionEntry) (reg : Reg) (x : ℕ) (s : MachineState) → (after_field e reg x s).calls ≡ s.calls ++ field_made e reg x s.device
unfolding field_made
field_calls e reg x s = by e.preserves
  where
    by : (b : Bool) → (if b then after_register_write reg (with_field e x (register_in reg s.device)) (after_register_read reg s) else after_register_write reg (alone e x) s).calls
        ≡ s.calls ++ (if b then reg_read reg ∷ reg_write reg (with_field e x (register_in reg s.device)) ∷ [] else reg_write reg (alone e x) ∷ [])
    by true = append_assoc s.calls (reg_read reg ∷ []) (reg_write reg (with_field e x (register_in reg s.device)) ∷ [])
    by false = refl

moved_calls : (offset : ℕ) (s : MachineState) → (more : List DeviceCall) × ((state_of (moved offset s)).calls ≡ s.calls ++ more)
moved_calls offset s = by (is_inside (s.variables.src + offset) s.variables.var2 && is_inside (s.variables.dst + offset) s.variables.var2)
  where
    from : ℕ
    from = s.variables.src + offset - range_address

    to : ℕ
    to = s.variables.dst + offset - range_address

    by : (b : Bool)
        → (more : List DeviceCall) × ((state_of (if b then goes (with_variables (next s.variables) (after_move from to s.variables.var2 s)) else stops BadRange s)).calls ≡ s.calls ++ more)
    by true = (
      range_read from s.variables.var2 ∷ range_write to (take s.variables.var2 (drop from s.device.range)) ∷ [],
      append_assoc s.calls (range_read from s.variables.var2 ∷ []) (range_write to (take s.variables.var2 (drop from s.device.range)) ∷ []),
    )
    by false = ([], sym (append-nil s.calls))

-- Each use of a register except a write reads it first.
abbrev pub IsReading : Use → Type 0
IsReading Writes = ⊥
IsReading how = Unit {0}

read_first : (how : Use) → IsReading how → (i : Instruction) (e : InstructionEntry) (v : Variables) (reg : Reg) (t : Told)
    → (more : List DeviceCall) × ((state_of (used_by how i e v reg (state_in v t))).calls ≡ reg_read reg ∷ more)
read_first Reads is i e v reg t = ([], refl)
read_first Writes is i e v reg t = absurd is
read_first Changes is i e v reg t =
    let s = after_register_read reg (state_in v t) in
    let x = changed i e (field_in e reg (state_in v t)) in
    (field_made e reg x s.device, field_calls e reg x s)
read_first Moves is i e v reg t = moved_calls (field_in e reg (state_in v t)) (after_register_read reg (state_in v t))

-- ---- a part of a turn, as its calls

-- The part is done, or refused without a failed call.
turned : (part : MachineState → Outcome) (v : Variables) (result : Result Variables RunRefused) (calls : List DeviceCall) (a b : Seen) → Made calls a b
    → ((t : Told) → a.told ≡ Some t → calls ≡ (state_of (part (state_in v t))).calls) → ((t : Told) → a.told ≡ Some t → ComesTo (part (state_in v t)) result) → Turned part v result a b
turned part v result calls a b made same comes = record { made = made_for calls (calls_in part v) a b same made; comes = by a.told refl }
  where
    by : (told : Option Told) → a.told ≡ told → IfSome told (λ t. ComesTo (part (state_in v t)) result)
    by None is = tt
    by (Some t) is = comes t is

-- The part continues with these variables, after these calls.
record Goes (o : Outcome) (w : Variables) (calls : List DeviceCall) : Type 0 where
  pub state : MachineState
  pub is : o ≡ goes state
  pub variables : w ≡ state.variables
  pub same : calls ≡ state.calls

went : (part : MachineState → Outcome) (v w : Variables) (calls : List DeviceCall) (a b : Seen) → Made calls a b → ((t : Told) → a.told ≡ Some t → Goes (part (state_in v t)) w calls) → Turns part v (Ok w) a b
went part v w calls a b made is = turned part v (Ok w) calls a b made
    (λ t told. (let on = is t told in on.same ∙ sym (ap (λ (o : Outcome). (state_of o).calls) on.is)))
    (λ t told. (let on = is t told in subst (λ (o : Outcome). ComesTo o (Ok w)) (sym on.is) on.variables))

refused : (part : MachineState → Outcome) (v : Variables) (why : RunRefused) (a : Seen) → ((t : Told) → part (state_in v t) ≡ stops why (state_in v t)) → Turned part v (Err why) a a
refused part v why a is = turned part v (Err why) [] a a (nothing_made a)
    (λ t told. sym (ap (λ (o : Outcome). (state_of o).calls) (is t))) (λ t told. subst (λ (o : Outcome). ComesTo o (Err why)) (sym (is t)) refl)

-- ---- an entry that uses no register

pub unknown : (e : InstructionEntry) (v : Variables) (a : Seen) → Work.TheVariants.Unknown ≡ work_of e.instruction → Turns (λ s. turn e s) v (Err BadInstruction) a a
unknown e v a kind = refused (λ s. turn e s) v BadInstruction a
    (λ t. by_kind e.instruction e (state_in v t) ∙ ap (λ (work : Work). turn_by work e.instruction e v (state_in v t)) (sym kind))

pub no_register : (e : InstructionEntry) (v : Variables) (how : Use) (a : Seen) → Work.TheVariants.Uses how ≡ work_of e.instruction → e.register ≡ None → Turns (λ s. turn e s) v (Err BadRegister) a a
no_register e v how a kind none = refused (λ s. turn e s) v BadRegister a
    (λ t. by_kind e.instruction e (state_in v t) ∙ ap (λ (work : Work). turn_by work e.instruction e v (state_in v t)) (sym kind)
    ∙ ap (λ (r : Option Reg). with_register r (state_in v t) (λ reg. used_by how e.instruction e v reg (state_in v t))) none)

pub computes_alone : (e : InstructionEntry) (v w : Variables) (a : Seen) → Work.TheVariants.Computes ≡ work_of e.instruction → w ≡ computed e.instruction e v → Turns (λ s. turn e s) v (Ok w) a a
computes_alone e v w a kind is = went (λ s. turn e s) v w [] a a (nothing_made a)
    (λ t told. record {
      state = with_variables (computed e.instruction e v) (state_in v t);
      is = by_kind e.instruction e (state_in v t) ∙ ap (λ (work : Work). turn_by work e.instruction e v (state_in v t)) (sym kind);
      variables = is;
      same = refl;
    })

-- ---- one that uses its register

module _ (e : InstructionEntry) (v : Variables) (how : Use) (reg : Reg) (kind : Work.TheVariants.Uses how ≡ work_of e.instruction) (there : e.register ≡ Some reg) where
  -- The turn's first read failed.
  pub unread : IsReading how → (a b : Seen) → Cut (reg_read reg ∷ []) a b → Turns (λ s. turn e s) v (Err Register) a b
  unread reads a b cut = cut_for (reg_read reg ∷ []) (calls_in (λ s. turn e s) v) a b
      (λ t told. (let more = read_first how reads e.instruction e v reg t in
      (more.0, sym (ap (λ (o : Outcome). (state_of o).calls) (turn_uses e how reg kind there (state_in v t))) ∙ more.1))) cut

-- The number that is read, by the model.
read_is : (reg : Reg) (n : ℕ) (told : Option Told) (t : Told) → told ≡ Some t → IsRead reg n told → n ≡ register_in reg (device_of t)
read_is reg n told t is value = subst (λ (o : Option Told). IsRead reg n o) is value

pub reads_field : (e : InstructionEntry) (v w : Variables) (reg : Reg) (n : ℕ) (a b : Seen) → Work.TheVariants.Uses Reads ≡ work_of e.instruction → e.register ≡ Some reg
    → IsRead reg n a.told → w ≡ taken e.instruction e (field_of e n) v → Made (reg_read reg ∷ []) a b → Turns (λ s. turn e s) v (Ok w) a b
reads_field e v w reg n a b kind there value is made = went (λ s. turn e s) v w (reg_read reg ∷ []) a b made
    (λ t told. record {
      state = with_variables (taken e.instruction e (field_in e reg (state_in v t)) v) (after_register_read reg (state_in v t));
      is = sym (turn_uses e Reads reg kind there (state_in v t));
      variables = is ∙ ap (λ (k : ℕ). taken e.instruction e (field_of e k) v) (read_is reg n a.told t told value);
      same = refl;
    })

-- Bytes are moved by the offset that was read.
module _ (e : InstructionEntry) (v : Variables) (reg : Reg) (n : ℕ) (a b c : Seen) (kind : Work.TheVariants.Uses Moves ≡ work_of e.instruction) (there : e.register ≡ Some reg) (value : IsRead reg n a.told)
    (read : Made (reg_read reg ∷ []) a b) where
  offset : ℕ
  offset = field_of e n

  move : MachineState → Outcome
  move s = moved (field_of e n) s

  -- The turn is the move, after the read.
  at_move : (t : Told) → a.told ≡ Some t → turn e (state_in v t) ≡ shifted_outcome (reg_read reg ∷ []) (moved (field_of e n) (state_in v t))
  at_move t told =
      sym (turn_uses e Moves reg kind there (state_in v t))
      ∙ ap (λ (k : ℕ). moved (field_of e k) (after_register_read reg (state_in v t))) (sym (read_is reg n a.told t told value))
      ∙ moved-shifted (reg_read reg ∷ []) (field_of e n) (state_in v t)

  -- The model after the read has the same device.
  after_read : (t : Told) → a.told ≡ Some t → b.told ≡ Some (after_acts (acts_of (reg_read reg ∷ [])) t)
  after_read t told = read.told ∙ ap (λ (o : Option Told). option_map (λ u. after_acts (acts_of (reg_read reg ∷ [])) u) o) told

  same_calls : (t : Told) → a.told ≡ Some t → (reg_read reg ∷ []) ++ calls_in (λ s. moved (field_of e n) s) v b.told ≡ (state_of (turn e (state_in v t))).calls
  same_calls t told =
      ap (λ (o : Option Told). (reg_read reg ∷ []) ++ calls_in (λ s. moved (field_of e n) s) v o) (after_read t told)
      ∙ sym (outcome_made (reg_read reg ∷ []) (moved (field_of e n) (state_in v t)))
      ∙ sym (ap (λ (o : Outcome). (state_of o).calls) (at_move t told))

  shifted_comes : (o : Outcome) (result : Result Variables RunRefused) → ComesTo o result → ComesTo (shifted_outcome (reg_read reg ∷ []) o) result
  shifted_comes (goes s) (Ok w) is = is
  shifted_comes (goes s) (Err why) is = is
  shifted_comes (stops cause s) (Ok w) is = is
  shifted_comes (stops cause s) (Err why) is = is

  move_done : (result : Result Variables RunRefused) → Turned (λ s. moved (field_of e n) s) v result b c → Turned (λ s. turn e s) v result a c
  move_done result is = turned (λ s. turn e s) v result ((reg_read reg ∷ []) ++ calls_in (λ s. moved (field_of e n) s) v b.told) a c
      (both_made (reg_read reg ∷ []) (calls_in (λ s. moved (field_of e n) s) v b.told) a b c read is.made) same_calls
      (λ t told. subst (λ (o : Outcome). ComesTo o result) (sym (at_move t told))
      (shifted_comes (moved (field_of e n) (state_in v t)) result (subst (λ (o : Option Told). IfSome o (λ u. ComesTo (moved (field_of e n) (state_in v u)) result)) (after_read t told) is.comes)))

  pub moves_on : (result : Result Variables RunRefused) → Turns (λ s. moved (field_of e n) s) v result b c → Turns (λ s. turn e s) v result a c
  moves_on (Ok w) is = move_done (Ok w) is
  moves_on (Err Register) is = cut_for ((reg_read reg ∷ []) ++ calls_in (λ s. moved (field_of e n) s) v b.told) (calls_in (λ s. turn e s) v) a c
      (λ t told. ([], sym (same_calls t told) ∙ sym (append-nil ((reg_read reg ∷ []) ++ calls_in (λ s. moved (field_of e n) s) v b.told))))
      (both_cut (reg_read reg ∷ []) (calls_in (λ s. moved (field_of e n) s) v b.told) a b c read is)
  moves_on (Err Fuel) is = move_done (Err Fuel) is
  moves_on (Err BadInstruction) is = move_done (Err BadInstruction) is
  moves_on (Err BadRegister) is = move_done (Err BadRegister) is
  moves_on (Err BadRange) is = move_done (Err BadRange) is

-- ---- a write: first the number is made, then what stands in the whole register, each maybe by a
-- read

-- The number to be written was computed, after these calls.
pub record Numbered (e : InstructionEntry) (reg : Reg) (v : Variables) (number : ℕ) (a b : Seen) : Type 0 where
  pub before : List DeviceCall
  pub made : Made before a b
  pub quiet : (t : Told) → device_of (after_acts (acts_of before) t) ≡ device_of t
  pub is : (t : Told) → a.told ≡ Some t → turn e (state_in v t) ≡ goes (with_variables (next v) (after_field e reg number (record (state_in v t) { calls = before })))

pub numbered_given : (e : InstructionEntry) (reg : Reg) (v : Variables) (number : ℕ) (a : Seen) → Work.TheVariants.Uses Writes ≡ work_of e.instruction → e.register ≡ Some reg
    → number ≡ given e.instruction e v → Numbered e reg v number a a
numbered_given e reg v number a kind there is = record {
  before = [];
  made = nothing_made a;
  quiet = λ t. refl;
  is = λ t told. sym (turn_uses e Writes reg kind there (state_in v t)) ∙ ap (λ (x : ℕ). goes (with_variables (next v) (after_field e reg x (state_in v t)))) (sym is);
}

pub numbered_changed : (e : InstructionEntry) (reg : Reg) (v : Variables) (n number : ℕ) (a b : Seen) → Work.TheVariants.Uses Changes ≡ work_of e.instruction → e.register ≡ Some reg
    → IsRead reg n a.told → number ≡ changed e.instruction e (field_of e n) → Made (reg_read reg ∷ []) a b → Numbered e reg v number a b
numbered_changed e reg v n number a b kind there value is made = record {
  before = reg_read reg ∷ [];
  made = made;
  quiet = λ t. refl;
  is = λ t told. sym (turn_uses e Changes reg kind there (state_in v t))
      ∙ ap (λ (x : ℕ). goes (with_variables (next v) (after_field e reg x (after_register_read reg (state_in v t)))))
      (sym (is ∙ ap (λ (k : ℕ). changed e.instruction e (field_of e k)) (read_is reg n a.told t told value)));
}

-- The contents to be written to the register were computed, after these calls.
pub record Filled (e : InstructionEntry) (reg : Reg) (v : Variables) (whole : ℕ) (a b : Seen) : Type 0 where
  pub before : List DeviceCall
  pub made : Made before a b
  pub is : (t : Told) → a.told ≡ Some t → turn e (state_in v t) ≡ goes (with_variables (next v) (after_register_write reg whole (record (state_in v t) { calls = before })))

plain_field : (e : InstructionEntry) (reg : Reg) (x : ℕ) (s : MachineState) → e.preserves ≡ false → after_field e reg x s ≡ after_register_write reg (alone e x) s
plain_field e reg x s plain =
    ap (λ b. if b then after_register_write reg (with_field e x (register_in reg s.device)) (after_register_read reg s) else after_register_write reg (alone e x) s) plain

kept_field : (e : InstructionEntry) (reg : Reg) (x : ℕ) (s : MachineState) → e.preserves ≡ true
    → after_field e reg x s ≡ after_register_write reg (with_field e x (register_in reg s.device)) (after_register_read reg s)
kept_field e reg x s keeps =
    ap (λ b. if b then after_register_write reg (with_field e x (register_in reg s.device)) (after_register_read reg s) else after_register_write reg (alone e x) s) keeps

module _ (e : InstructionEntry) (reg : Reg) (v : Variables) (number : ℕ) (a b : Seen) (numbered : Numbered e reg v number a b) where
  at : Told → MachineState
  at t = record (state_in v t) { calls = numbered.before }

  pub filled_alone : (whole : ℕ) → e.preserves ≡ false → whole ≡ alone e number → Filled e reg v whole a b
  unfolding at
  filled_alone whole plain is = record {
    before = numbered.before;
    made = numbered.made;
    is = λ t told. numbered.is t told ∙ ap (λ (s : MachineState). goes (with_variables (next v) s)) (plain_field e reg number (at t) plain
        ∙ ap (λ (x : ℕ). after_register_write reg x (at t)) (sym is));
  }

  -- The device is still the device in the first model.
  same_read : (n : ℕ) (t : Told) → a.told ≡ Some t → IsRead reg n b.told → n ≡ register_in reg (device_of t)
  same_read n t told value =
      read_is reg n b.told (after_acts (acts_of numbered.before) t)
      (numbered.made.told ∙ ap (λ (o : Option Told). option_map (λ u. after_acts (acts_of numbered.before) u) o) told) value
      ∙ ap (register_in reg) (numbered.quiet t)

  pub filled_kept : (n whole : ℕ) (c : Seen) → e.preserves ≡ true → IsRead reg n b.told → whole ≡ with_field e number n → Made (reg_read reg ∷ []) b c → Filled e reg v whole a c
  unfolding at
  filled_kept n whole c keeps value is made = record {
    before = numbered.before ++ reg_read reg ∷ [];
    made = both_made numbered.before (reg_read reg ∷ []) a b c numbered.made made;
    is = λ t told. numbered.is t told ∙ ap (λ (s : MachineState). goes (with_variables (next v) s)) (kept_field e reg number (at t) keeps
        ∙ ap (λ (x : ℕ). after_register_write reg x (after_register_read reg (at t))) (sym (is ∙ ap (with_field e number) (same_read n t told value))));
  }

  pub unfilled : (c : Seen) → e.preserves ≡ true → Cut (reg_read reg ∷ []) b c → Turns (λ s. turn e s) v (Err Register) a c
  unfolding at
  unfilled c keeps cut = cut_for (numbered.before ++ reg_read reg ∷ []) (calls_in (λ s. turn e s) v) a c
      (λ t told. (
        reg_write reg (with_field e number (register_in reg (device_of t))) ∷ [],
        ap (λ (o : Outcome). (state_of o).calls) (numbered.is t told) ∙ ap (λ (s : MachineState). s.calls) (kept_field e reg number (at t) keeps),
      )) (both_cut numbered.before (reg_read reg ∷ []) a b c numbered.made cut)

module _ (e : InstructionEntry) (reg : Reg) (v : Variables) (whole : ℕ) (a b c : Seen) (filled : Filled e reg v whole a b) where
  pub writes : (w : Variables) → w ≡ next v → Made (reg_write reg whole ∷ []) b c → Turns (λ s. turn e s) v (Ok w) a c
  writes w is made = went (λ s. turn e s) v w (filled.before ++ reg_write reg whole ∷ []) a c (both_made filled.before (reg_write reg whole ∷ []) a b c filled.made made)
      (λ t told. record {
        state = with_variables (next v) (after_register_write reg whole (record (state_in v t) { calls = filled.before }));
        is = filled.is t told;
        variables = is;
        same = refl;
      })

  pub unwritten : Cut (reg_write reg whole ∷ []) b c → Turns (λ s. turn e s) v (Err Register) a c
  unwritten cut = cut_for (filled.before ++ reg_write reg whole ∷ []) (calls_in (λ s. turn e s) v) a c
      (λ t told. ([], ap (λ (o : Outcome). (state_of o).calls) (filled.is t told) ∙ sym (append-nil (filled.before ++ reg_write reg whole ∷ []))))
      (both_cut filled.before (reg_write reg whole ∷ []) a b c filled.made cut)

-- ---- moves

-- One of the two stretches isn't inside the range.
pub outside : (offset : ℕ) (v : Variables) (a : Seen) → (is_inside (v.src + offset) v.var2 && is_inside (v.dst + offset) v.var2) ≡ false → Turns (λ s. moved offset s) v (Err BadRange) a a
outside offset v a is = refused (λ s. moved offset s) v BadRange a
    (λ t. ap (λ b. if b then goes (with_variables (next v) (after_move (v.src + offset - range_address) (v.dst + offset - range_address) v.var2 (state_in v t))) else stops BadRange (state_in v t)) is)

pub both_false : (x y : Bool) → y ≡ false → (x && y) ≡ false
both_false true y is = is
both_false false y is = refl

both_true : (x y : Bool) → x ≡ true → y ≡ true → (x && y) ≡ true
both_true true y one other = other
both_true false y one other = absurd (true≢false (sym one))

module _ (offset from to : ℕ) (v : Variables) (a b : Seen) (one : IsPlace (v.src + offset) v.var2 (Some from)) (other : IsPlace (v.dst + offset) v.var2 (Some to)) where
  moved_is : (t : Told) → moved offset (state_in v t) ≡ goes (with_variables (next v) (after_move from to v.var2 (state_in v t)))
  moved_is t =
      ap (λ x. if x then goes (with_variables (next v) (after_move (v.src + offset - range_address) (v.dst + offset - range_address) v.var2 (state_in v t))) else stops BadRange (state_in v t))
      (both_true (is_inside (v.src + offset) v.var2) (is_inside (v.dst + offset) v.var2) one.0 other.0)
      ∙ ap (λ (n : ℕ). goes (with_variables (next v) (after_move n (v.dst + offset - range_address) v.var2 (state_in v t)))) (sym one.1)
      ∙ ap (λ (n : ℕ). goes (with_variables (next v) (after_move from n v.var2 (state_in v t)))) (sym other.1)

  pub not_taken : (n : ℕ) → n ≡ v.var2 → Cut (range_read from n ∷ []) a b → Turns (λ s. moved offset s) v (Err Register) a b
  not_taken n is cut = cut_for (range_read from n ∷ []) (calls_in (λ s. moved offset s) v) a b
      (λ t told. (
        range_write to (take v.var2 (drop from (device_of t).range)) ∷ [],
        ap (λ (o : Outcome). (state_of o).calls) (moved_is t) ∙ ap (λ (k : ℕ). range_read from k ∷ range_write to (take v.var2 (drop from (device_of t).range)) ∷ []) (sym is),
      )) cut

  module _ (n : ℕ) (bytes : List ℕ) (c : Seen) (is : n ≡ v.var2) (taken_are : IfSome a.told (λ t. bytes ≡ take n (drop from (device_of t).range))) (read : Made (range_read from n ∷ []) a b) where
    move_calls : (t : Told) → a.told ≡ Some t → range_read from n ∷ range_write to bytes ∷ [] ≡ (state_of (moved offset (state_in v t))).calls
    move_calls t told =
        ap (λ (bs : List ℕ). range_read from n ∷ range_write to bs ∷ []) (subst (λ (o : Option Told). IfSome o (λ u. bytes ≡ take n (drop from (device_of u).range))) told taken_are)
        ∙ ap (λ (k : ℕ). range_read from k ∷ range_write to (take k (drop from (device_of t).range)) ∷ []) is
        ∙ sym (ap (λ (o : Outcome). (state_of o).calls) (moved_is t))

    pub moved_all : (w : Variables) → w ≡ next v → Made (range_write to bytes ∷ []) b c → Turns (λ s. moved offset s) v (Ok w) a c
    moved_all w next_is made = turned (λ s. moved offset s) v (Ok w) (range_read from n ∷ range_write to bytes ∷ []) a c
        (both_made (range_read from n ∷ []) (range_write to bytes ∷ []) a b c read made) move_calls
        (λ t told. subst (λ (o : Outcome). ComesTo o (Ok w)) (sym (moved_is t)) next_is)

    pub not_given : Cut (range_write to bytes ∷ []) b c → Turns (λ s. moved offset s) v (Err Register) a c
    not_given cut = cut_for (range_read from n ∷ range_write to bytes ∷ []) (calls_in (λ s. moved offset s) v) a c
        (λ t told. ([], sym (move_calls t told))) (both_cut (range_read from n ∷ []) (range_write to bytes ∷ []) a b c read cut)
