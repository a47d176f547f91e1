-- A list whose entries run one after the other, as in an admitted list, fails only with Register, whatever the board
-- returns.
use Rattle.std.proofs.Common.{◌≡◌, ◌∙◌, ℕ, zero, suc, ◌+◌, Bool, true, false, ◌&&◌, ◌||◌, List, [], ◌∷◌, ◌++◌, Option, Some, None, refl, sym, ap, subst, true≢false, not, nat_eq, bit_and}
use Rattle.std.specs.Prelude.{slice_get, Err}
use Rattle.std.specs.List.{list_all}
use Rattle.erst_store.specs.Actions.{execute_operation}
use Rattle.board_core.specs.declared.board.Reg.{Reg}
use Rattle.board_core.specs.declared.board.Reg.TheVariants.{Action, Value}
use Rattle.erst_interp.specs.declared.entries.Instruction.{Instruction}
use Rattle.erst_interp.specs.declared.entries.Instruction.TheVariants.{ReadRegister, ReadRegisterValue, WriteRegister, WriteRegisterValue, Noop, LoadVar1, LoadVar2, Add, Subtract, Stall, StallWhileTrue, SkipNextInstructionIfTrue, Goto, SetSrcAddressBase, SetDstAddressBase}
use Rattle.erst_interp.specs.declared.entries.InstructionEntry.{InstructionEntry}
use Rattle.erst_interp.specs.declared.machine.Variables.{Variables}
use Rattle.erst_interp.specs.declared.machine.Use.{Use}
use Rattle.erst_interp.specs.declared.machine.Use.TheVariants.{Reads}
use Rattle.erst_interp.specs.declared.machine.Work.{Work}
use Rattle.erst_interp.specs.declared.machine.Work as Work
use Rattle.erst_interp.specs.declared.refusals.RunRefused.{RunRefused}
use Rattle.erst_interp.specs.declared.refusals.RunRefused.TheVariants.{Register, Fuel, BadInstruction, BadRegister, BadRange}
use Rattle.erst_interp.specs.Steps.Parts.{taken, computed, is_straight, is_straight_by, is_straight_at, is_straight_use, is_straight_computed, GoesOn, work_of}
use Rattle.erst_interp.specs.Faithful.{IsRegisterAlone}
use Rattle.erst_interp.specs.Admission.{is_idle, is_idle_by, is_constant, is_write, is_read, is_action, is_value, is_whole, is_act, is_input, is_free, is_answer, holds_bits, input_bits, answer_bits, AreIdle, BeginsBy, EndsBy, IsAdmitted, takes_input, gives_answer}
use Rattle.erst_interp.proofs.LeadLemmas.{both_true}
use Rattle.erst_interp.proofs.RoleLemmas.{constant_is, write_is, action_is, value_is}

-- ---- one turn

pub taken_on : (i : Instruction) (e : InstructionEntry) (x : ℕ) (v : Variables) → is_straight_use Reads i ≡ true → (taken i e x v).index ≡ v.index + 1
taken_on StallWhileTrue e x v is = absurd (true≢false (sym is))
taken_on SkipNextInstructionIfTrue e x v is = absurd (true≢false (sym is))
taken_on ReadRegister e x v is = refl
taken_on ReadRegisterValue e x v is = refl
taken_on LoadVar1 e x v is = refl
taken_on LoadVar2 e x v is = refl
taken_on SetSrcAddressBase e x v is = refl
taken_on SetDstAddressBase e x v is = refl
taken_on _ e x v is = refl

pub computed_on : (i : Instruction) (e : InstructionEntry) (v : Variables) → is_straight_computed i ≡ true → (computed i e v).index ≡ v.index + 1
computed_on Goto e v is = absurd (true≢false (sym is))
computed_on Add e v is = refl
computed_on Subtract e v is = refl
computed_on _ e v is = refl

-- What an entry does, by the kind of its instruction.
pub by_work : (e : InstructionEntry) (work : Work) → work ≡ work_of e.instruction → is_straight e ≡ true → is_straight_by work e.instruction e.register ≡ true
by_work e work kind is = subst (λ (w : Work). is_straight_by w e.instruction e.register ≡ true) (sym kind) is

pub by_register : (e : InstructionEntry) (how : Use) (r : Option Reg) → Work.TheVariants.Uses how ≡ work_of e.instruction → e.register ≡ r → is_straight e ≡ true → is_straight_at how e.instruction r ≡ true
by_register e how r kind there is =
    subst (λ (q : Option Reg). is_straight_at how e.instruction q ≡ true) there (by_work e (Work.TheVariants.Uses how) kind is)

-- ---- lists

pub at_place : (list : List InstructionEntry) (i : ℕ) (e : InstructionEntry) → slice_get list i ≡ Some e → list_all is_straight list ≡ true → is_straight e ≡ true
at_place [] i e next are = absurd (none_some e next)
  where
    none_some : (x : InstructionEntry) → None ≡ Some x → ⊥
    none_some x is = cc
at_place (x ∷ xs) zero e next are = subst (λ (o : Option InstructionEntry). of_next o) next (both_true (is_straight x) (list_all is_straight xs) are).0
  where
    of_next : Option InstructionEntry → Type 0
    of_next None = Unit {0}
    of_next (Some y) = is_straight y ≡ true
at_place (x ∷ xs) (suc i) e next are = at_place xs i e next (both_true (is_straight x) (list_all is_straight xs) are).1

pub refused_alone : (v : Variables) (why : RunRefused) → GoesOn v (Err why) → IsRegisterAlone (Err why)
refused_alone v Register is = tt
refused_alone v Fuel is = absurd is
refused_alone v BadInstruction is = absurd is
refused_alone v BadRegister is = absurd is
refused_alone v BadRange is = absurd is

-- ---- an admitted list

both : (a b : Bool) → a ≡ true → b ≡ true → (a && b) ≡ true
both true b one other = other
both false b one other = absurd (true≢false (sym one))

each : (P : InstructionEntry → Bool) (list : List InstructionEntry) → ((e : InstructionEntry) → P e ≡ true → is_straight e ≡ true) → list_all P list ≡ true → list_all is_straight list ≡ true
each P [] more are = refl
each P (e ∷ es) more are =
    let parts = both_true (P e) (list_all P es) are in
    both (is_straight e) (list_all is_straight es) (more e parts.0) (each P es more parts.1)

joined : (front back : List InstructionEntry) → list_all is_straight front ≡ true → list_all is_straight back ≡ true → list_all is_straight (front ++ back) ≡ true
joined [] back one other = other
joined (e ∷ es) back one other =
    let parts = both_true (is_straight e) (list_all is_straight es) one in
    both (is_straight e) (list_all is_straight (es ++ back)) parts.0 (joined es back parts.1 other)

with_one : (front : List InstructionEntry) (e : InstructionEntry) (back : List InstructionEntry) → list_all is_straight front ≡ true → is_straight e ≡ true → list_all is_straight back ≡ true → list_all is_straight (front ++ e ∷ back) ≡ true
with_one front e back one is other = joined front (e ∷ back) one (both (is_straight e) (list_all is_straight back) is other)

idle_by : (i : Instruction) (r : Option Reg) → is_idle_by i r ≡ true → is_straight_by (work_of i) i r ≡ true
idle_by Noop r is = refl
idle_by Stall r is = refl
idle_by Add r is = refl
idle_by Subtract r is = refl
idle_by LoadVar1 (Some reg) is = refl
idle_by LoadVar1 None is = absurd (true≢false (sym is))
idle_by LoadVar2 (Some reg) is = refl
idle_by LoadVar2 None is = absurd (true≢false (sym is))
idle_by _ r is = absurd (true≢false (sym is))

idle : (e : InstructionEntry) → is_idle e ≡ true → is_straight e ≡ true
idle e is = idle_by e.instruction e.register is

idles : (entries : List InstructionEntry) → AreIdle entries → list_all is_straight entries ≡ true
idles entries are = each is_idle entries idle are

-- an entry with this instruction and this register
with_both : (e : InstructionEntry) (i : Instruction) (reg : Reg) → e.instruction ≡ i → e.register ≡ Some reg → is_straight_by (work_of i) i (Some reg) ≡ true → is_straight e ≡ true
with_both e i reg kind there is =
    ap (λ (j : Instruction). is_straight_by (work_of j) j e.register) kind ∙ ap (λ (r : Option Reg). is_straight_by (work_of i) i r) there ∙ is

act : (action : ℕ) (e : InstructionEntry) → is_act action e ≡ true → is_straight e ≡ true
act action e is =
    let masked = both_true (is_constant e.instruction && is_action e.register && is_whole e) (nat_eq (bit_and e.value e.mask) action) is in
    let whole = both_true (is_constant e.instruction && is_action e.register) (is_whole e) masked.0 in
    let kind = both_true (is_constant e.instruction) (is_action e.register) whole.0 in
    with_both e WriteRegisterValue Action (constant_is e.instruction kind.0) (action_is e.register kind.1) refl

input : (action : ℕ) (e : InstructionEntry) → is_input action e ≡ true → is_straight e ≡ true
input action e is =
    let masked = both_true (is_write e.instruction && is_value e.register && is_whole e) (holds_bits (input_bits action) e.mask) is in
    let whole = both_true (is_write e.instruction && is_value e.register) (is_whole e) masked.0 in
    let kind = both_true (is_write e.instruction) (is_value e.register) whole.0 in
    with_both e WriteRegister Value (write_is e.instruction kind.0) (value_is e.register kind.1) refl

free : (action : ℕ) (e : InstructionEntry) → is_free action e ≡ true → is_straight e ≡ true
free action e is =
    let plain = both_true (nat_eq action execute_operation && is_constant e.instruction && is_value e.register) (not e.preserves) is in
    let register = both_true (nat_eq action execute_operation && is_constant e.instruction) (is_value e.register) plain.0 in
    let kind = both_true (nat_eq action execute_operation) (is_constant e.instruction) register.0 in
    with_both e WriteRegisterValue Value (constant_is e.instruction kind.1) (value_is e.register register.1) refl

idle_or_free : (action : ℕ) (e : InstructionEntry) → (is_idle e || is_free action e) ≡ true → is_straight e ≡ true
idle_or_free action e is = by (is_idle e) refl
  where
    by : (b : Bool) → is_idle e ≡ b → is_straight e ≡ true
    by true it_is = idle e it_is
    by false it_isnt = free action e (subst (λ b. (b || is_free action e) ≡ true) it_isnt is)

read_by : (action value : ℕ) (i : Instruction) → is_read action value i ≡ true → is_straight_by (work_of i) i (Some Value) ≡ true
read_by action value ReadRegister is = refl
read_by action value ReadRegisterValue is = refl
read_by action value _ is = absurd (true≢false (sym is))

answer : (action : ℕ) (e : InstructionEntry) → is_answer action e ≡ true → is_straight e ≡ true
answer action e is =
    let masked = both_true (is_read action e.value e.instruction && is_value e.register && nat_eq e.offset 0) (holds_bits (answer_bits action) e.mask) is in
    let place = both_true (is_read action e.value e.instruction && is_value e.register) (nat_eq e.offset 0) masked.0 in
    let kind = both_true (is_read action e.value e.instruction) (is_value e.register) place.0 in
    with_both e e.instruction Value refl (value_is e.register kind.1) (read_by action e.value e.instruction kind.0)

begins : (b : Bool) (action : ℕ) (entries : List InstructionEntry) → BeginsBy b action entries → list_all is_straight entries ≡ true
begins true action entries holds =
    subst (λ (es : List InstructionEntry). list_all is_straight es ≡ true) (sym holds.laid)
    (with_one holds.before holds.one holds.after (idles holds.before holds.idle_before) (input action holds.one holds.is) (idles holds.after holds.idle_after))
begins false action entries are = each (λ e. is_idle e || is_free action e) entries (idle_or_free action) are

ends : (b : Bool) (action : ℕ) (entries : List InstructionEntry) → EndsBy b action entries → list_all is_straight entries ≡ true
ends true action entries with_answer =
    subst (λ (es : List InstructionEntry). list_all is_straight es ≡ true) (sym with_answer.laid)
    (with_one with_answer.idle with_answer.last [] (idles with_answer.idle with_answer.are_idle) (answer action with_answer.last with_answer.is) refl)
ends false action entries are = idles entries are

pub admitted_straight : (action : ℕ) (list : List InstructionEntry) → IsAdmitted action list → list_all is_straight list ≡ true
admitted_straight action list is =
    subst (λ (es : List InstructionEntry). list_all is_straight es ≡ true) (sym is.laid)
    (with_one is.before is.act is.after (begins (takes_input action) action is.before is.begins) (act action is.act is.is) (ends (gives_answer action) action is.after is.ends))
