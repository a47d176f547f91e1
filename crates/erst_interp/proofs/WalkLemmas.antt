-- The walk reaches a list's end if and only if the list is laid out as an admitted list.
use Rattle.std.proofs.Common.{◌≡◌, ◌∙◌, ℕ, ◌≤◌, Bool, true, false, ◌&&◌, ◌||◌, not, nat_eq, List, [], ◌∷◌, ◌++◌, length, Option, Some, None, refl, sym, ap, subst, inl, inr, append_assoc, append-nil, true≢false, if◌then◌else◌, bit_and}
use Rattle.std.specs.Prelude.{◌⊎◌}
use Rattle.std.specs.List.{list_all}
use Rattle.erst_store.specs.Actions.{execute_operation}
use Rattle.ras_base.specs.Steps.ExactLemmas.{nat_exact}
use Rattle.board_core.specs.declared.board.Reg.{Reg}
use Rattle.board_core.specs.declared.board.Reg.TheVariants.{Action, Value}
use Rattle.erst_interp.specs.declared.admission.Awaited.{Awaited}
use Rattle.erst_interp.specs.declared.admission.Awaited as Awaits
use Rattle.erst_interp.specs.declared.entries.Instruction.{Instruction}
use Rattle.erst_interp.specs.declared.entries.Instruction.TheVariants.{ReadRegister, ReadRegisterValue, WriteRegister, WriteRegisterValue}
use Rattle.erst_interp.specs.declared.entries.InstructionEntry.{InstructionEntry}
use Rattle.erst_interp.specs.Machine.{most_turns}
use Rattle.erst_interp.specs.Admission.{takes_input, gives_answer, input_bits, answer_bits, is_constant, is_write, is_read, is_action, is_value, is_whole, holds_bits, is_idle, is_idle_by, is_act, is_input, is_free, is_answer, HoldsOne, BeginsBy, EndsWithAnswer, EndsBy, IsEnding, IsAdmitted}
use Rattle.erst_interp.specs.Walk.{first_awaited, awaited_after, after_idle, after_role, goes_by, walks}
use Rattle.erst_interp.proofs.LeadLemmas.{both_true}
use Rattle.erst_interp.proofs.RoleLemmas.{constant_is, write_is, action_is, value_is}

-- ---- one entry has one role

-- An instruction that no idle entry has.
no_idle : (e : InstructionEntry) (i : Instruction) → e.instruction ≡ i → ((r : Option Reg) → is_idle_by i r ≡ false) → is_idle e ≡ false
no_idle e i is never = ap (λ (j : Instruction). is_idle_by j e.register) is ∙ never e.register

act_constant : (action : ℕ) (e : InstructionEntry) → is_act action e ≡ true → e.instruction ≡ WriteRegisterValue
act_constant action e is =
    let masked = both_true (is_constant e.instruction && is_action e.register && is_whole e) (nat_eq (bit_and e.value e.mask) action) is in
    let whole = both_true (is_constant e.instruction && is_action e.register) (is_whole e) masked.0 in
    constant_is e.instruction (both_true (is_constant e.instruction) (is_action e.register) whole.0).0

act_register : (action : ℕ) (e : InstructionEntry) → is_act action e ≡ true → e.register ≡ Some Action
act_register action e is =
    let masked = both_true (is_constant e.instruction && is_action e.register && is_whole e) (nat_eq (bit_and e.value e.mask) action) is in
    let whole = both_true (is_constant e.instruction && is_action e.register) (is_whole e) masked.0 in
    action_is e.register (both_true (is_constant e.instruction) (is_action e.register) whole.0).1

act-busy : (action : ℕ) (e : InstructionEntry) → is_act action e ≡ true → is_idle e ≡ false
act-busy action e is = no_idle e WriteRegisterValue (act_constant action e is) (λ r. refl)

input-busy : (action : ℕ) (e : InstructionEntry) → is_input action e ≡ true → is_idle e ≡ false
input-busy action e is =
    let masked = both_true (is_write e.instruction && is_value e.register && is_whole e) (holds_bits (input_bits action) e.mask) is in
    let whole = both_true (is_write e.instruction && is_value e.register) (is_whole e) masked.0 in
    no_idle e WriteRegister (write_is e.instruction (both_true (is_write e.instruction) (is_value e.register) whole.0).0) (λ r. refl)

read-busy : (action value : ℕ) (i : Instruction) (r : Option Reg) → is_read action value i ≡ true → is_idle_by i r ≡ false
read-busy action value ReadRegister r is = refl
read-busy action value ReadRegisterValue r is = refl
read-busy action value _ r is = absurd (true≢false (sym is))

answer-busy : (action : ℕ) (e : InstructionEntry) → is_answer action e ≡ true → is_idle e ≡ false
answer-busy action e is =
    let masked = both_true (is_read action e.value e.instruction && is_value e.register && nat_eq e.offset 0) (holds_bits (answer_bits action) e.mask) is in
    let place = both_true (is_read action e.value e.instruction && is_value e.register) (nat_eq e.offset 0) masked.0 in
    read-busy action e.value e.instruction e.register (both_true (is_read action e.value e.instruction) (is_value e.register) place.0).0

free_parts : (action : ℕ) (e : InstructionEntry) → is_free action e ≡ true → (action ≡ execute_operation) × (e.register ≡ Some Value)
free_parts action e is =
    let plain = both_true (nat_eq action execute_operation && is_constant e.instruction && is_value e.register) (not e.preserves) is in
    let register = both_true (nat_eq action execute_operation && is_constant e.instruction) (is_value e.register) plain.0 in
    (nat_exact action execute_operation (both_true (nat_eq action execute_operation) (is_constant e.instruction) register.0).0, value_is e.register register.1)

free-no_act : (action : ℕ) (e : InstructionEntry) → is_free action e ≡ true → is_act action e ≡ false
free-no_act action e free = by (is_act action e) refl
  where
    by : (b : Bool) → is_act action e ≡ b → b ≡ false
    by false is = refl
    by true is = (let two : Some Action ≡ Some Value = sym (act_register action e is) ∙ (free_parts action e free).1 in absurd cc)

-- An action that takes an input isn't EXECUTE_OPERATION.
free-takes_none : (action : ℕ) (e : InstructionEntry) → takes_input action ≡ true → is_free action e ≡ false
free-takes_none action e takes = by (is_free action e) refl
  where
    by : (b : Bool) → is_free action e ≡ b → b ≡ false
    by false is = refl
    by true is = absurd (true≢false (sym takes ∙ ap takes_input (free_parts action e is).0))

-- ---- from the walk to the rules

next_by : (action : ℕ) (awaited : Awaited) (e : InstructionEntry) (entries : List InstructionEntry) → walks action awaited (e ∷ entries) ≡ true
    → (is_idle e ≡ true) × (goes_by (λ next. walks action next entries) (after_idle awaited) ≡ true) ⊎ (is_idle e ≡ false) × (goes_by (λ next. walks action next entries) (after_role action awaited e) ≡ true)
next_by action awaited e entries walked = by (is_idle e) refl
  where
    by : (b : Bool) → is_idle e ≡ b
        → (is_idle e ≡ true) × (goes_by (λ next. walks action next entries) (after_idle awaited) ≡ true) ⊎ (is_idle e ≡ false) × (goes_by (λ next. walks action next entries) (after_role action awaited e) ≡ true)
    by true is = inl (is, sym (ap (λ b. goes_by (λ next. walks action next entries) (if b then after_idle awaited else after_role action awaited e)) is) ∙ walked)
    by false is = inr (is, sym (ap (λ b. goes_by (λ next. walks action next entries) (if b then after_idle awaited else after_role action awaited e)) is) ∙ walked)

all_more : (p : InstructionEntry → Bool) (e : InstructionEntry) (entries : List InstructionEntry) → p e ≡ true → list_all p entries ≡ true → list_all p (e ∷ entries) ≡ true
all_more p e entries first others = ap (λ b. b && list_all p entries) first ∙ others

rest_idle : (action : ℕ) (entries : List InstructionEntry) → walks action Awaits.TheVariants.Rest entries ≡ true → list_all is_idle entries ≡ true
rest_idle action [] walked = refl
rest_idle action (e ∷ entries) walked =
    elim (next_by action Awaits.TheVariants.Rest e entries walked) [
      | inl step ↦ all_more is_idle e entries step.0 (rest_idle action entries step.1)
      | inr step ↦ absurd (true≢false (sym step.1))
    ]

end_none : (action : ℕ) (entries : List InstructionEntry) → walks action Awaits.TheVariants.End entries ≡ true → entries ≡ []
end_none action [] walked = refl
end_none action (e ∷ entries) walked =
    elim (next_by action Awaits.TheVariants.End e entries walked) [
      | inl step ↦ absurd (true≢false (sym step.1))
      | inr step ↦ absurd (true≢false (sym step.1))
    ]

-- A test after which the walk continues was true.
if_goes : (action : ℕ) (awaited : Awaited) (entries : List InstructionEntry) (b : Bool) (other : Option Awaited) → goes_by (λ next. walks action next entries) (if b then Some awaited else other) ≡ true
    → (b ≡ true) × (walks action awaited entries ≡ true) ⊎ (b ≡ false) × (goes_by (λ next. walks action next entries) other ≡ true)
if_goes action awaited entries true other is = inl (refl, is)
if_goes action awaited entries false other is = inr (refl, is)

answer_shape : (action : ℕ) (entries : List InstructionEntry) → walks action Awaits.TheVariants.Answer entries ≡ true → EndsWithAnswer action entries
answer_shape action [] walked = absurd (true≢false (sym walked))
answer_shape action (e ∷ entries) walked =
    by (next_by action Awaits.TheVariants.Answer e entries walked) (λ later. answer_shape action entries later)
  where
    by : ((is_idle e ≡ true) × (walks action Awaits.TheVariants.Answer entries ≡ true) ⊎ (is_idle e ≡ false) × (goes_by (λ next. walks action next entries) (after_role action Awaits.TheVariants.Answer e) ≡ true))
        → (walks action Awaits.TheVariants.Answer entries ≡ true → EndsWithAnswer action entries) → EndsWithAnswer action (e ∷ entries)
    by (inl step) later =
        let rest : EndsWithAnswer action entries = later step.1 in
        record {
          idle = e ∷ rest.idle;
          last = rest.last;
          laid = ap (λ (es : List InstructionEntry). e ∷ es) rest.laid;
          are_idle = all_more is_idle e rest.idle step.0 rest.are_idle;
          is = rest.is;
        }
    by (inr step) later =
        elim (if_goes action Awaits.TheVariants.End entries (is_answer action e) None step.1) [
          | inl is ↦ record { idle = []; last = e; laid = ap (λ (es : List InstructionEntry). e ∷ es) (end_none action entries is.1); are_idle = refl; is = is.0 }
          | inr no_more ↦ absurd (true≢false (sym no_more.1))
        ]

ends_shape : (action : ℕ) (entries : List InstructionEntry) → walks action (awaited_after action) entries ≡ true → IsEnding action entries
ends_shape action entries walked = by (gives_answer action) walked
  where
    by : (b : Bool) → walks action (if b then Awaits.TheVariants.Answer else Awaits.TheVariants.Rest) entries ≡ true → EndsBy b action entries
    by true is = answer_shape action entries is
    by false is = rest_idle action entries is

-- The action's write, and the entries before and after it.
pub record ActShape (action : ℕ) (entries : List InstructionEntry) : Type 0 where
  pub before : List InstructionEntry
  pub act : InstructionEntry
  pub after : List InstructionEntry
  pub laid : entries ≡ before ++ act ∷ after
  pub is : is_act action act ≡ true
  pub begins : list_all (λ e. is_idle e || is_free action e) before ≡ true
  pub ends : IsEnding action after

or_left : (a b : Bool) → a ≡ true → (a || b) ≡ true
or_left a b is = ap (λ c. c || b) is

or_right : (a b : Bool) → b ≡ true → (a || b) ≡ true
or_right true b is = refl
or_right false b is = is

act_more : (action : ℕ) (e : InstructionEntry) (entries : List InstructionEntry) → (is_idle e || is_free action e) ≡ true → ActShape action entries → ActShape action (e ∷ entries)
act_more action e entries first rest = record {
  before = e ∷ rest.before;
  act = rest.act;
  after = rest.after;
  laid = ap (λ (es : List InstructionEntry). e ∷ es) rest.laid;
  is = rest.is;
  begins = all_more (λ x. is_idle x || is_free action x) e rest.before first rest.begins;
  ends = rest.ends;
}

act_shape : (action : ℕ) (entries : List InstructionEntry) → walks action Awaits.TheVariants.Action entries ≡ true → ActShape action entries
act_shape action [] walked = absurd (true≢false (sym walked))
act_shape action (e ∷ entries) walked =
    by (next_by action Awaits.TheVariants.Action e entries walked) (λ later. act_shape action entries later)
  where
    by : ((is_idle e ≡ true) × (walks action Awaits.TheVariants.Action entries ≡ true) ⊎ (is_idle e ≡ false) × (goes_by (λ next. walks action next entries) (after_role action Awaits.TheVariants.Action e) ≡ true))
        → (walks action Awaits.TheVariants.Action entries ≡ true → ActShape action entries) → ActShape action (e ∷ entries)
    by (inl step) later = act_more action e entries (or_left (is_idle e) (is_free action e) step.0) (later step.1)
    by (inr step) later =
        elim (if_goes action (awaited_after action) entries (is_act action e) (if is_free action e then Some Awaits.TheVariants.Action else None) step.1) [
          | inl is ↦ record { before = []; act = e; after = entries; laid = refl; is = is.0; begins = refl; ends = ends_shape action entries is.1 }
          | inr other ↦ elim (if_goes action Awaits.TheVariants.Action entries (is_free action e) None other.1) [
            | inl free ↦ act_more action e entries (or_right (is_idle e) (is_free action e) free.0) (later free.1)
            | inr no_more ↦ absurd (true≢false (sym no_more.1))
          ]
        ]

-- The input's write before these entries.
pub record InputShape (action : ℕ) (entries : List InstructionEntry) : Type 0 where
  pub before : List InstructionEntry
  pub one : InstructionEntry
  pub rest : List InstructionEntry
  pub laid : entries ≡ before ++ one ∷ rest
  pub idle : list_all is_idle before ≡ true
  pub is : is_input action one ≡ true
  pub acts : ActShape action rest

input_shape : (action : ℕ) (entries : List InstructionEntry) → walks action Awaits.TheVariants.Input entries ≡ true → InputShape action entries
input_shape action [] walked = absurd (true≢false (sym walked))
input_shape action (e ∷ entries) walked =
    by (next_by action Awaits.TheVariants.Input e entries walked) (λ later. input_shape action entries later)
  where
    by : ((is_idle e ≡ true) × (walks action Awaits.TheVariants.Input entries ≡ true) ⊎ (is_idle e ≡ false) × (goes_by (λ next. walks action next entries) (after_role action Awaits.TheVariants.Input e) ≡ true))
        → (walks action Awaits.TheVariants.Input entries ≡ true → InputShape action entries) → InputShape action (e ∷ entries)
    by (inl step) later =
        let rest : InputShape action entries = later step.1 in
        record {
          before = e ∷ rest.before;
          one = rest.one;
          rest = rest.rest;
          laid = ap (λ (es : List InstructionEntry). e ∷ es) rest.laid;
          idle = all_more is_idle e rest.before step.0 rest.idle;
          is = rest.is;
          acts = rest.acts;
        }
    by (inr step) later =
        elim (if_goes action Awaits.TheVariants.Action entries (is_input action e) None step.1) [
          | inl is ↦ record { before = []; one = e; rest = entries; laid = refl; idle = refl; is = is.0; acts = act_shape action entries is.1 }
          | inr no_more ↦ absurd (true≢false (sym no_more.1))
        ]

-- Where there are no free entries, the others are idle.
none_free : (action : ℕ) (entries : List InstructionEntry) → takes_input action ≡ true → list_all (λ e. is_idle e || is_free action e) entries ≡ true → list_all is_idle entries ≡ true
none_free action [] takes all = refl
none_free action (e ∷ entries) takes all =
    let parts = both_true (is_idle e || is_free action e) (list_all (λ x. is_idle x || is_free action x) entries) all in
    all_more is_idle e entries (by (is_idle e) refl parts.0) (none_free action entries takes parts.1)
  where
    by : (b : Bool) → is_idle e ≡ b → (b || is_free action e) ≡ true → is_idle e ≡ true
    by true is either = is
    by false is either = absurd (true≢false (sym either ∙ free-takes_none action e takes))

pub walk-admits : (action : ℕ) (list : List InstructionEntry) → length list ≤ most_turns → walks action (first_awaited action) list ≡ true → IsAdmitted action list
walk-admits action list short walked = by (takes_input action) refl walked
  where
    by : (b : Bool) → takes_input action ≡ b → walks action (if b then Awaits.TheVariants.Input else Awaits.TheVariants.Action) list ≡ true → IsAdmitted action list
    by false plain is =
        let shape : ActShape action list = act_shape action list is in
        record {
          short = short;
          before = shape.before;
          act = shape.act;
          after = shape.after;
          laid = shape.laid;
          is = shape.is;
          begins = subst (λ b. BeginsBy b action shape.before) (sym plain) shape.begins;
          ends = shape.ends;
        }
    by true takes is =
        let input : InputShape action list = input_shape action list is in
        let shape : ActShape action input.rest = input.acts in
        let whole : List InstructionEntry = input.before ++ input.one ∷ shape.before in
        let one : HoldsOne (is_input action) whole = record {
          before = input.before;
          one = input.one;
          after = shape.before;
          laid = refl;
          idle_before = input.idle;
          is = input.is;
          idle_after = none_free action shape.before takes shape.begins;
        } in
        record {
          short = short;
          before = whole;
          act = shape.act;
          after = shape.after;
          laid = input.laid ∙ ap (λ (es : List InstructionEntry). input.before ++ input.one ∷ es) shape.laid ∙ sym (append_assoc input.before (input.one ∷ shape.before) (shape.act ∷ shape.after));
          is = shape.is;
          begins = subst (λ b. BeginsBy b action whole) (sym takes) one;
          ends = shape.ends;
        }

-- ---- and back

-- An idle entry is skipped where something is awaited; any other entry is judged by its role.
step_idle : (action : ℕ) (awaited : Awaited) (e : InstructionEntry) (entries : List InstructionEntry) → is_idle e ≡ true → walks action awaited (e ∷ entries) ≡ goes_by (λ next. walks action next entries) (after_idle awaited)
step_idle action awaited e entries is = ap (λ b. goes_by (λ next. walks action next entries) (if b then after_idle awaited else after_role action awaited e)) is

step_role : (action : ℕ) (awaited : Awaited) (e : InstructionEntry) (entries : List InstructionEntry) → is_idle e ≡ false → walks action awaited (e ∷ entries) ≡ goes_by (λ next. walks action next entries) (after_role action awaited e)
step_role action awaited e entries is = ap (λ b. goes_by (λ next. walks action next entries) (if b then after_idle awaited else after_role action awaited e)) is

-- Entries after which the same is awaited.
idle_walk : (action : ℕ) (awaited : Awaited) → after_idle awaited ≡ Some awaited → (idle rest : List InstructionEntry) → list_all is_idle idle ≡ true → walks action awaited (idle ++ rest) ≡ walks action awaited rest
idle_walk action awaited stays [] rest all = refl
idle_walk action awaited stays (e ∷ idle) rest all =
    let parts = both_true (is_idle e) (list_all is_idle idle) all in
    step_idle action awaited e (idle ++ rest) parts.0
    ∙ ap (λ (o : Option Awaited). goes_by (λ next. walks action next (idle ++ rest)) o) stays
    ∙ idle_walk action awaited stays idle rest parts.1

step_free : (action : ℕ) (e : InstructionEntry) (entries : List InstructionEntry) → is_idle e ≡ false → is_free action e ≡ true → walks action Awaits.TheVariants.Action (e ∷ entries) ≡ walks action Awaits.TheVariants.Action entries
step_free action e entries busy free =
    step_role action Awaits.TheVariants.Action e entries busy
    ∙ ap (λ b. goes_by (λ next. walks action next entries) (if b then Some (awaited_after action) else (if is_free action e then Some Awaits.TheVariants.Action else None))) (free-no_act action e free)
    ∙ ap (λ b. goes_by (λ next. walks action next entries) (if b then Some Awaits.TheVariants.Action else None)) free

before_walk : (action : ℕ) (before rest : List InstructionEntry) → list_all (λ e. is_idle e || is_free action e) before ≡ true
    → walks action Awaits.TheVariants.Action (before ++ rest) ≡ walks action Awaits.TheVariants.Action rest
before_walk action [] rest all = refl
before_walk action (e ∷ before) rest all =
    let parts = both_true (is_idle e || is_free action e) (list_all (λ x. is_idle x || is_free action x) before) all in
    by (is_idle e) refl parts.0 ∙ before_walk action before rest parts.1
  where
    by : (b : Bool) → is_idle e ≡ b → (b || is_free action e) ≡ true → walks action Awaits.TheVariants.Action (e ∷ (before ++ rest)) ≡ walks action Awaits.TheVariants.Action (before ++ rest)
    by true is either = step_idle action Awaits.TheVariants.Action e (before ++ rest) is
    by false is either = step_free action e (before ++ rest) is either

ends_walk : (action : ℕ) (after : List InstructionEntry) (b : Bool) → EndsBy b action after → walks action (if b then Awaits.TheVariants.Answer else Awaits.TheVariants.Rest) after ≡ true
ends_walk action after false idle =
    ap (λ (es : List InstructionEntry). walks action Awaits.TheVariants.Rest es) (sym (append-nil after)) ∙ idle_walk action Awaits.TheVariants.Rest refl after [] idle
ends_walk action after true end =
    ap (λ (es : List InstructionEntry). walks action Awaits.TheVariants.Answer es) end.laid
    ∙ idle_walk action Awaits.TheVariants.Answer refl end.idle (end.last ∷ []) end.are_idle
    ∙ step_role action Awaits.TheVariants.Answer end.last [] (answer-busy action end.last end.is)
    ∙ ap (λ b. goes_by (λ next. walks action next []) (if b then Some Awaits.TheVariants.End else None)) end.is

act_walk : (action : ℕ) (act : InstructionEntry) (after : List InstructionEntry) → is_act action act ≡ true → IsEnding action after → walks action Awaits.TheVariants.Action (act ∷ after) ≡ true
act_walk action act after is ends =
    step_role action Awaits.TheVariants.Action act after (act-busy action act is)
    ∙ ap (λ b. goes_by (λ next. walks action next after) (if b then Some (awaited_after action) else (if is_free action act then Some Awaits.TheVariants.Action else None))) is
    ∙ ends_walk action after (gives_answer action) ends

idle_or_free : (action : ℕ) (entries : List InstructionEntry) → list_all is_idle entries ≡ true → list_all (λ e. is_idle e || is_free action e) entries ≡ true
idle_or_free action [] all = refl
idle_or_free action (e ∷ entries) all =
    let parts = both_true (is_idle e) (list_all is_idle entries) all in
    all_more (λ x. is_idle x || is_free action x) e entries (or_left (is_idle e) (is_free action e) parts.0) (idle_or_free action entries parts.1)

begins_walk : (action : ℕ) (before rest : List InstructionEntry) (b : Bool) → BeginsBy b action before
    → walks action (if b then Awaits.TheVariants.Input else Awaits.TheVariants.Action) (before ++ rest) ≡ walks action Awaits.TheVariants.Action rest
begins_walk action before rest false begins = before_walk action before rest begins
begins_walk action before rest true begins =
    ap (λ (es : List InstructionEntry). walks action Awaits.TheVariants.Input (es ++ rest)) begins.laid
    ∙ ap (λ (es : List InstructionEntry). walks action Awaits.TheVariants.Input es) (append_assoc begins.before (begins.one ∷ begins.after) rest)
    ∙ idle_walk action Awaits.TheVariants.Input refl begins.before (begins.one ∷ (begins.after ++ rest)) begins.idle_before
    ∙ step_role action Awaits.TheVariants.Input begins.one (begins.after ++ rest) (input-busy action begins.one begins.is)
    ∙ ap (λ b. goes_by (λ next. walks action next (begins.after ++ rest)) (if b then Some Awaits.TheVariants.Action else None)) begins.is
    ∙ before_walk action begins.after rest (idle_or_free action begins.after begins.idle_after)

pub admitted-walk : (action : ℕ) (list : List InstructionEntry) → IsAdmitted action list → walks action (first_awaited action) list ≡ true
admitted-walk action list is =
    ap (λ (es : List InstructionEntry). walks action (first_awaited action) es) is.laid
    ∙ begins_walk action is.before (is.act ∷ is.after) (takes_input action) is.begins
    ∙ act_walk action is.act is.after is.is is.ends
