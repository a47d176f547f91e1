-- The turns of the entries of an admitted list that aren't idle.
use Rattle.std.proofs.Common.{length, ◌≡◌, ◌∙◌, ℕ, zero, suc, ◌+◌, ◌-◌, ◌*◌, ◌/◌, ◌%◌, ◌^◌, ◌<◌, ◌≤◌, Bool, true, false, ◌&&◌, not, nat_eq, Option, Some, None, refl, sym, ap, subst, arith, true≢false, if◌then◌else◌, bit_and}
use Rattle.std.proofs.lemmas.Nat.{and_mask, and_assoc, and_comm}
use Rattle.std.proofs.Math.Nat.{mod-eq_of_lt, mul-one, div-one}
use Rattle.ras_base.specs.Steps.ExactLemmas.{nat_exact}
use Rattle.erst_store.specs.Actions.{execute_operation, check_busy_status}
use Rattle.board_core.specs.Doing.{reg_read, reg_write}
use Rattle.board_core.specs.declared.board.Reg.{Reg}
use Rattle.board_core.specs.declared.board.Reg.TheVariants.{Action, Value}
use Rattle.board_core.specs.Told.{after_reg_write, register_in}
use Rattle.erst_interp.specs.declared.entries.Instruction.{Instruction}
use Rattle.erst_interp.specs.declared.entries.Instruction.TheVariants.{ReadRegister, ReadRegisterValue, WriteRegister, WriteRegisterValue}
use Rattle.erst_interp.specs.declared.entries.InstructionEntry.{InstructionEntry}
use Rattle.erst_interp.specs.Machine.{MachineState, Outcome, goes, turn, turn_of, writes, with_register, with_variables, next, after_field, after_register_write, after_register_read, alone, with_field, field_of, truth}
use Rattle.erst_interp.specs.Admission.{is_constant, is_write, is_read, is_action, is_value, is_whole, is_act, is_input, is_free, is_answer, holds_bits, input_bits, answer_bits}
use Rattle.erst_interp.proofs.LeadLemmas.{both_true, one_call, at_least}

-- ---- tests

pub constant_is : (i : Instruction) → is_constant i ≡ true → i ≡ WriteRegisterValue
constant_is WriteRegisterValue is = refl
constant_is _ is = absurd (true≢false (sym is))

pub write_is : (i : Instruction) → is_write i ≡ true → i ≡ WriteRegister
write_is WriteRegister is = refl
write_is _ is = absurd (true≢false (sym is))

pub action_is : (r : Option Reg) → is_action r ≡ true → r ≡ Some Action
action_is (Some Action) is = refl
action_is (Some Value) is = absurd (true≢false (sym is))
action_is None is = absurd (true≢false (sym is))

pub value_is : (r : Option Reg) → is_value r ≡ true → r ≡ Some Value
value_is (Some Value) is = refl
value_is (Some Action) is = absurd (true≢false (sym is))
value_is None is = absurd (true≢false (sym is))

not_true : (b : Bool) → not b ≡ true → b ≡ false
not_true false is = refl
not_true true is = absurd (true≢false (sym is))

-- ---- numbers in a whole register

alone_whole : (e : InstructionEntry) (x y : ℕ) → e.offset ≡ 0 → bit_and x e.mask ≡ y → y < 2 ^ 64 → alone e x ≡ y
alone_whole e x y offset masked small =
    ap (λ (k : ℕ). (bit_and x e.mask * 2 ^ k) % 2 ^ 64) offset
    ∙ ap (λ (n : ℕ). (n * 1) % 2 ^ 64) masked
    ∙ ap (λ (n : ℕ). n % 2 ^ 64) (mul-one y)
    ∙ mod-eq_of_lt small

-- A number that a mask doesn't change.
kept_by : (x mask k bits : ℕ) → holds_bits bits mask ≡ true → bits ≡ 2 ^ k - 1 → x < 2 ^ k → bit_and x mask ≡ x
kept_by x mask k bits holds is small =
    let low : bit_and x bits ≡ x = ap (bit_and x) is ∙ and_mask x k ∙ mod-eq_of_lt small in
    let held : bit_and mask bits ≡ bits = nat_exact (bit_and mask bits) bits holds in
    ap (λ (y : ℕ). bit_and y mask) (sym low)
    ∙ and_assoc mask x bits
    ∙ ap (bit_and x) (and_comm bits mask ∙ held)
    ∙ low

field_whole : (e : InstructionEntry) (n k bits : ℕ) → e.offset ≡ 0 → holds_bits bits e.mask ≡ true → bits ≡ 2 ^ k - 1 → n < 2 ^ k → field_of e n ≡ n
field_whole e n k bits offset holds is small =
    ap (λ (j : ℕ). bit_and (n / 2 ^ j) e.mask) offset
    ∙ ap (λ (m : ℕ). bit_and m e.mask) (div-one n)
    ∙ kept_by n e.mask k bits holds is small

-- ---- a write to a whole register

pub record Writes (reg : Reg) (number : ℕ) (s : MachineState) (o : Outcome) : Type 0 where
  pub after : MachineState
  pub goes_is : o ≡ goes after
  pub index : after.variables.index ≡ s.variables.index + 1
  pub value : after.variables.value ≡ s.variables.value
  pub device : after.device ≡ after_reg_write reg number s.device
  pub calls : length s.calls < length after.calls

written : (e : InstructionEntry) (s : MachineState) (x number : ℕ) (reg : Reg) → e.register ≡ Some reg → e.preserves ≡ false → alone e x ≡ number → Writes reg number s (writes e x s)
written e s x number reg register plain is = record {
  after = with_variables (next s.variables) (after_register_write reg (alone e x) s);
  goes_is =
      ap (λ (r : Option Reg). with_register r s (λ q. goes (with_variables (next s.variables) (after_field e q x s)))) register
      ∙ ap (λ b. goes (with_variables (next s.variables) (if b then after_register_write reg (with_field e x (register_in reg s.device)) (after_register_read reg s) else after_register_write reg (alone e x) s))) plain;
  index = refl;
  value = refl;
  device = ap (λ (n : ℕ). after_reg_write reg n s.device) is;
  calls = one_call s.calls (reg_write reg (alone e x));
}

pub acts : (action : ℕ) (e : InstructionEntry) (s : MachineState) → is_act action e ≡ true → action < 2 ^ 64 → Writes Action action s (turn e s)
acts action e s is small =
    let masked = both_true (is_constant e.instruction && is_action e.register && is_whole e) (nat_eq (bit_and e.value e.mask) action) is in
    let whole = both_true (is_constant e.instruction && is_action e.register) (is_whole e) masked.0 in
    let kind = both_true (is_constant e.instruction) (is_action e.register) whole.0 in
    let plain = both_true (nat_eq e.offset 0) (not e.preserves) whole.1 in
    subst (λ (i : Instruction). Writes Action action s (turn_of i e s.variables s)) (sym (constant_is e.instruction kind.0))
    (written e s e.value action Action (action_is e.register kind.1) (not_true e.preserves plain.1)
    (alone_whole e e.value action (nat_exact e.offset 0 plain.0) (nat_exact (bit_and e.value e.mask) action masked.1) small))

pub takes : (action k : ℕ) (e : InstructionEntry) (s : MachineState) → is_input action e ≡ true → input_bits action ≡ 2 ^ k - 1 → s.variables.value < 2 ^ k → s.variables.value < 2 ^ 64 → Writes Value s.variables.value s (turn e s)
takes action k e s is bits small fits =
    let masked = both_true (is_write e.instruction && is_value e.register && is_whole e) (holds_bits (input_bits action) e.mask) is in
    let whole = both_true (is_write e.instruction && is_value e.register) (is_whole e) masked.0 in
    let kind = both_true (is_write e.instruction) (is_value e.register) whole.0 in
    let plain = both_true (nat_eq e.offset 0) (not e.preserves) whole.1 in
    subst (λ (i : Instruction). Writes Value s.variables.value s (turn_of i e s.variables s)) (sym (write_is e.instruction kind.0))
    (written e s s.variables.value s.variables.value Value (value_is e.register kind.1) (not_true e.preserves plain.1)
    (alone_whole e s.variables.value s.variables.value (nat_exact e.offset 0 plain.0) (kept_by s.variables.value e.mask k (input_bits action) masked.1 bits small) fits))

pub frees : (action : ℕ) (e : InstructionEntry) (s : MachineState) → is_free action e ≡ true → (action ≡ execute_operation) × Writes Value (alone e e.value) s (turn e s)
frees action e s is =
    let plain = both_true (nat_eq action execute_operation && is_constant e.instruction && is_value e.register) (not e.preserves) is in
    let register = both_true (nat_eq action execute_operation && is_constant e.instruction) (is_value e.register) plain.0 in
    let kind = both_true (nat_eq action execute_operation) (is_constant e.instruction) register.0 in (
      nat_exact action execute_operation kind.0,
      subst (λ (i : Instruction). Writes Value (alone e e.value) s (turn_of i e s.variables s)) (sym (constant_is e.instruction kind.1))
          (written e s e.value (alone e e.value) Value (value_is e.register register.1) (not_true e.preserves plain.1) refl),
    )

-- ---- the read of an answer

pub record Answers (action : ℕ) (s : MachineState) (o : Outcome) : Type 0 where
  pub after : MachineState
  pub goes_is : o ≡ goes after
  pub index : after.variables.index ≡ s.variables.index + 1
  pub device : after.device ≡ s.device
  pub calls : length s.calls ≤ length after.calls
  pub value : (k : ℕ) → answer_bits action ≡ 2 ^ k - 1 → s.device.value < 2 ^ k → after.variables.value ≡ s.device.value

truth_is : (n : ℕ) → n < 2 → truth (nat_eq n 1) ≡ n
truth_is zero small = refl
truth_is (suc zero) small = refl
truth_is (suc (suc n)) small = absurd (omega (arith, small))

answers_by : (action : ℕ) (i : Instruction) (e : InstructionEntry) (s : MachineState) → is_read action e.value i ≡ true → e.register ≡ Some Value → e.offset ≡ 0 → holds_bits (answer_bits action) e.mask ≡ true
    → Answers action s (turn_of i e s.variables s)
answers_by action ReadRegister e s is register offset holds = record {
  after = with_variables (next (record s.variables { value = field_of e s.device.value })) (after_register_read Value s);
  goes_is = ap (λ (r : Option Reg). with_register r s (λ q. goes (with_variables (next (record s.variables { value = field_of e (register_in q s.device) })) (after_register_read q s)))) register;
  index = refl;
  device = refl;
  calls = at_least s.calls (reg_read Value);
  value = λ k bits small. field_whole e s.device.value k (answer_bits action) offset holds bits small;
}
answers_by action ReadRegisterValue e s is register offset holds =
    let parts = both_true (nat_eq action check_busy_status) (nat_eq e.value 1) is in
    let busy : action ≡ check_busy_status = nat_exact action check_busy_status parts.0 in
    let one : e.value ≡ 1 = nat_exact e.value 1 parts.1 in
    record {
      after = with_variables (next (record s.variables { value = truth (nat_eq (field_of e s.device.value) e.value) })) (after_register_read Value s);
      goes_is = ap (λ (r : Option Reg). with_register r s (λ q. goes (with_variables (next (record s.variables { value = truth (nat_eq (field_of e (register_in q s.device)) e.value) })) (after_register_read q s)))) register;
      index = refl;
      device = refl;
      calls = at_least s.calls (reg_read Value);
      value = λ k bits small.
          (let only : answer_bits action ≡ 1 = ap answer_bits busy in
          let few : s.device.value < 2 = omega (arith, only, bits, small) in
          ap (λ (n : ℕ). truth (nat_eq n e.value)) (field_whole e s.device.value k (answer_bits action) offset holds bits small)
          ∙ ap (λ (n : ℕ). truth (nat_eq s.device.value n)) one
          ∙ truth_is s.device.value few);
    }
answers_by action _ e s is register offset holds = absurd (true≢false (sym is))

pub answers : (action : ℕ) (e : InstructionEntry) (s : MachineState) → is_answer action e ≡ true → Answers action s (turn e s)
answers action e s is =
    let masked = both_true (is_read action e.value e.instruction && is_value e.register && nat_eq e.offset 0) (holds_bits (answer_bits action) e.mask) is in
    let place = both_true (is_read action e.value e.instruction && is_value e.register) (nat_eq e.offset 0) masked.0 in
    let kind = both_true (is_read action e.value e.instruction) (is_value e.register) place.0 in
    answers_by action e.instruction e s kind.0 (value_is e.register kind.1) (nat_exact e.offset 0 place.1) masked.1
