-- A run of entries one of which uses a register makes a call of the board.
use Rattle.std.proofs.Common.{◌≡◌, ◌∙◌, ℕ, zero, suc, ◌≤◌, Bool, true, false, ◌&&◌, ◌||◌, List, [], ◌∷◌, ◌++◌, length, take, Option, Some, None, refl, sym, ap, subst, inl, inr, arith, true≢false, nat_eq, bit_and}
use Rattle.std.specs.Prelude.{slice_get, Err, IfSome, Result, ◌⊎◌, is_some}
use Rattle.std.specs.List.{list_any}
use Rattle.board_core.specs.declared.board.Reg.{Reg}
use Rattle.board_core.specs.Told.{Told, device_of}
use Rattle.erst_store.specs.DeviceLaws.{IsDevice}
use Rattle.erst_interp.specs.declared.entries.Instruction.{Instruction}
use Rattle.erst_interp.specs.declared.entries.InstructionEntry.{InstructionEntry}
use Rattle.erst_interp.specs.Admission.{IsAdmitted, is_act, is_constant, is_action, is_whole}
use Rattle.erst_interp.specs.declared.machine.Variables.{Variables}
use Rattle.erst_interp.specs.declared.refusals.RunRefused.{RunRefused}
use Rattle.erst_interp.specs.declared.refusals.RunRefused.TheVariants.{Register, Fuel, BadInstruction, BadRegister, BadRange}
use Rattle.erst_interp.specs.Faithful.{IsRegisterAlone}
use Rattle.erst_interp.specs.Steps.Parts.{uses_register, is_use, work_of}
use Rattle.erst_interp.specs.Steps.Running.{IsUnused}
use Rattle.erst_interp.proofs.LeadLemmas.{both_true}
use Rattle.erst_interp.proofs.RoleLemmas.{constant_is}

abbrev pub Device : Option Told → Type 0
Device told = IfSome told (λ t. IsDevice (device_of t))

-- No call was made yet: the model is the first one, and no entry so far uses a register.
pub record IsIdleTo (list : List InstructionEntry) (i : ℕ) (old now : Option Told) : Type 0 where
  pub same : now ≡ old
  pub unused : list_any uses_register (take i list) ≡ false

abbrev pub Reaches : List InstructionEntry → ℕ → Option Told → Option Told → Type 0
Reaches list i old now = IsIdleTo list i old now ⊎ Device old

unused_next : (list : List InstructionEntry) (i : ℕ) (e : InstructionEntry) → slice_get list i ≡ Some e → list_any uses_register (take i list) ≡ false → uses_register e ≡ false
    → list_any uses_register (take (suc i) list) ≡ false
unused_next [] i e next before here = refl
unused_next (x ∷ xs) zero e next before here = or_no (uses_register x) (subst (λ (o : Option InstructionEntry). of_next o) (sym next) here)
  where
    of_next : Option InstructionEntry → Type 0
    of_next None = Unit {0}
    of_next (Some y) = uses_register y ≡ false

    or_no : (b : Bool) → b ≡ false → (b || false) ≡ false
    or_no true is = is
    or_no false is = is
unused_next (x ∷ xs) (suc i) e next before here = by (uses_register x) before (λ rest. unused_next xs i e next rest here)
  where
    by : (b : Bool) → (b || list_any uses_register (take i xs)) ≡ false → (list_any uses_register (take i xs) ≡ false → list_any uses_register (take (suc i) xs) ≡ false)
        → (b || list_any uses_register (take (suc i) xs)) ≡ false
    by true is ih = absurd (true≢false is)
    by false is ih = ih is

pub reaches_next : (list : List InstructionEntry) (i : ℕ) (e : InstructionEntry) (result : Result Variables RunRefused) (old now new : Option Told) → slice_get list i ≡ Some e → Reaches list i old now
    → IsUnused e result now new ⊎ Device now → Reaches list (suc i) old new
reaches_next list i e result old now new next (inr device) turned = inr device
reaches_next list i e result old now new next (inl idle) (inr device) = inr (subst Device idle.same device)
reaches_next list i e result old now new next (inl idle) (inl none) = inl (record { same = none.same ∙ idle.same; unused = unused_next list i e next idle.unused none.unused })

-- A turn in which a call failed.
pub device_failed : (e : InstructionEntry) (why : RunRefused) (now new : Option Told) → IsRegisterAlone (Err why) → IsUnused e (Err why) now new ⊎ Device now → Device now
device_failed e why now new alone (inr device) = device
device_failed e Register now new alone (inl none) = absurd (none.called refl)
device_failed e Fuel now new alone (inl none) = absurd alone
device_failed e BadInstruction now new alone (inl none) = absurd alone
device_failed e BadRegister now new alone (inl none) = absurd alone
device_failed e BadRange now new alone (inl none) = absurd alone

pub reaches_failed : (list : List InstructionEntry) (i : ℕ) (old now : Option Told) → Reaches list i old now → Device now → Device old
reaches_failed list i old now (inl idle) device = subst Device idle.same device
reaches_failed list i old now (inr kept) device = kept

take_all : (list : List InstructionEntry) (i : ℕ) → length list ≤ i → take i list ≡ list
take_all [] zero past = refl
take_all [] (suc i) past = refl
take_all (x ∷ xs) zero past = absurd (omega (arith, past))
take_all (x ∷ xs) (suc i) past = ap (λ (es : List InstructionEntry). x ∷ es) (take_all xs i (omega (arith, past)))

pub reaches_end : (list : List InstructionEntry) (i : ℕ) (old now : Option Told) → Reaches list i old now → length list ≤ i → list_any uses_register list ≡ true → Device old
reaches_end list i old now (inr kept) past some = kept
reaches_end list i old now (inl idle) past some =
    absurd (true≢false (sym some ∙ (ap (λ (es : List InstructionEntry). list_any uses_register es) (sym (take_all list i past)) ∙ idle.unused)))

-- ---- an admitted list has an entry that writes to Action

constant_uses : (i : Instruction) → is_constant i ≡ true → is_use (work_of i) ≡ true
constant_uses i is = subst (λ (j : Instruction). is_use (work_of j) ≡ true) (sym (constant_is i is)) refl

action_some : (r : Option Reg) → is_action r ≡ true → is_some r ≡ true
action_some None is = absurd (true≢false (sym is))
action_some (Some r) is = refl

both : (a b : Bool) → a ≡ true → b ≡ true → (a && b) ≡ true
both a b x y = rw x y

act_uses : (action : ℕ) (e : InstructionEntry) → is_act action e ≡ true → uses_register e ≡ true
act_uses action e is =
    let masked = both_true (is_constant e.instruction && is_action e.register && is_whole e) (nat_eq (bit_and e.value e.mask) action) is in
    let whole = both_true (is_constant e.instruction && is_action e.register) (is_whole e) masked.0 in
    let kind = both_true (is_constant e.instruction) (is_action e.register) whole.0 in
    both (is_use (work_of e.instruction)) (is_some e.register) (constant_uses e.instruction kind.0) (action_some e.register kind.1)

any_here : (before : List InstructionEntry) (e : InstructionEntry) (after : List InstructionEntry) → uses_register e ≡ true → list_any uses_register (before ++ e ∷ after) ≡ true
any_here [] e after is = rw is refl
any_here (x ∷ xs) e after is = by (uses_register x) (any_here xs e after is)
  where
    by : (b : Bool) → list_any uses_register (xs ++ e ∷ after) ≡ true → (b || list_any uses_register (xs ++ e ∷ after)) ≡ true
    by true ih = refl
    by false ih = ih

pub admitted_uses : (action : ℕ) (list : List InstructionEntry) → IsAdmitted action list → list_any uses_register list ≡ true
admitted_uses action list is =
    subst (λ (es : List InstructionEntry). list_any uses_register es ≡ true) (sym is.laid) (any_here is.before is.act is.after (act_uses action is.act is.is))
