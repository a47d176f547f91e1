-- Parts of a run of an admitted list, one after the other.
use Rattle.std.proofs.Common.{◌≡◌, ◌∙◌, ℕ, zero, suc, ◌+◌, ◌<◌, ◌≤◌, Bool, true, false, List, [], ◌∷◌, ◌++◌, length, Option, Some, None, refl, sym, ap, subst, inl, inr, arith, append_assoc, length-append, ◌&&◌, true≢false}
use Rattle.std.specs.Prelude.{◌⊎◌, slice_get}
use Rattle.std.specs.List.{list_all}
use Rattle.erst_store.specs.Store.{Stored}
use Rattle.erst_store.specs.Device.{Device}
use Rattle.board_core.specs.Doing.{DeviceCall}
use Rattle.board_core.specs.declared.board.Reg.{Reg}
use Rattle.erst_interp.specs.declared.entries.Instruction.{Instruction}
use Rattle.erst_interp.specs.declared.entries.Instruction.TheVariants.{ReadRegister, ReadRegisterValue, WriteRegister, WriteRegisterValue, Noop, LoadVar1, LoadVar2, StoreVar1, Add, Subtract, AddValue, SubtractValue, Stall, StallWhileTrue, SkipNextInstructionIfTrue, Goto, SetSrcAddressBase, SetDstAddressBase, MoveData, Unknown}
use Rattle.erst_interp.specs.declared.entries.InstructionEntry.{InstructionEntry}
use Rattle.erst_interp.specs.Machine.{MachineState, Outcome, goes, turn, turn_of, end_from}
use Rattle.erst_interp.specs.Run.{PassesStore, AtNext, AfterTurn}
use Rattle.erst_interp.specs.Admission.{is_idle, is_idle_by}
use Rattle.erst_interp.proofs.RunLemmas.{goes_on}

-- This many turns lead from one state to another, with only the first state's store in between.
pub record Leads (list : List InstructionEntry) (used : ℕ) (s t : MachineState) : Type 0 where
  pub index : t.variables.index ≡ s.variables.index + used
  pub calls : length s.calls ≤ length t.calls
  pub ends : (turns total : ℕ) → total ≡ used + turns → end_from total list s ≡ end_from turns list t
  pub stores : (store : List Stored) (turns total : ℕ) → total ≡ used + turns → PassesStore total list s store → (store ≡ s.device.store) ⊎ PassesStore turns list t store

pub leads_none : (list : List InstructionEntry) (s : MachineState) → Leads list 0 s s
leads_none list s = record {
  index = omega arith;
  calls = omega arith;
  ends = λ turns total is. (let same : total ≡ turns = omega arith in ap (λ (n : ℕ). end_from n list s) same);
  stores = λ store turns total is passes. (let same : total ≡ turns = omega arith in inr (subst (λ (n : ℕ). PassesStore n list s store) same passes));
}

pub leads_both : (list : List InstructionEntry) (n m : ℕ) (s t u : MachineState) → Leads list n s t → Leads list m t u → t.device.store ≡ s.device.store → Leads list (n + m) s u
leads_both list n m s t u first second same = record {
  index = omega (arith, first.index, second.index);
  calls = omega (arith, first.calls, second.calls);
  ends = λ turns total is. first.ends (m + turns) total (omega (arith, is)) ∙ second.ends turns (m + turns) refl;
  stores = λ store turns total is passes.
      elim (first.stores store (m + turns) total (omega (arith, is)) passes) [
        | inl here ↦ inl here
        | inr later ↦ elim (second.stores store turns (m + turns) refl later) [ inl there ↦ inl (there ∙ same) | inr after ↦ inr after ]
      ];
}

passes_next : (list : List InstructionEntry) (turns : ℕ) (s t : MachineState) (e : InstructionEntry) → slice_get list s.variables.index ≡ Some e → turn e s ≡ goes t
    → (store : List Stored) → PassesStore (suc turns) list s store → (store ≡ s.device.store) ⊎ PassesStore turns list t store
unfolding PassesStore
passes_next list turns s t e next goes_is store passes =
    elim passes [
      | inl here ↦ inl here
      | inr later ↦ inr (subst (λ (o : Outcome). AfterTurn (λ u. PassesStore turns list u store) (λ u. store ≡ u.device.store) o) goes_is
          (subst (λ (o : Option InstructionEntry). AtNext (λ x. AfterTurn (λ u. PassesStore turns list u store) (λ u. store ≡ u.device.store) (turn x s)) o) next later))
    ]

pub leads_one : (list : List InstructionEntry) (s t : MachineState) (e : InstructionEntry) → slice_get list s.variables.index ≡ Some e → turn e s ≡ goes t → t.variables.index ≡ s.variables.index + 1
    → length s.calls ≤ length t.calls → Leads list 1 s t
leads_one list s t e next goes_is index calls = record {
  index = index;
  calls = calls;
  ends = λ turns total is. (let more : total ≡ suc turns = omega arith in ap (λ (n : ℕ). end_from n list s) more ∙ goes_on list turns s t e next goes_is);
  stores = λ store turns total is passes.
      (let more : total ≡ suc turns = omega arith in passes_next list turns s t e next goes_is store (subst (λ (n : ℕ). PassesStore n list s store) more passes));
}

-- A run that is at the list's end passed through no other store.
pub passes_end : (list : List InstructionEntry) (turns : ℕ) (s : MachineState) → slice_get list s.variables.index ≡ None → (store : List Stored) → PassesStore turns list s store → store ≡ s.device.store
unfolding PassesStore
passes_end list zero s none store passes = passes
passes_end list (suc turns) s none store passes =
    elim passes [
      | inl here ↦ here
      | inr later ↦ absurd (subst (λ (o : Option InstructionEntry). AtNext (λ x. AfterTurn (λ u. PassesStore turns list u store) (λ u. store ≡ u.device.store) (turn x s)) o) none later)
    ]

-- ---- places in a list

pub at_front : (front : List InstructionEntry) (e : InstructionEntry) (rest : List InstructionEntry) → slice_get (front ++ e ∷ rest) (length front) ≡ Some e
at_front [] e rest = refl
at_front (x ∷ xs) e rest = at_front xs e rest

pub at_end : (list : List InstructionEntry) → slice_get list (length list) ≡ None
at_end [] = refl
at_end (x ∷ xs) = at_end xs

pub next_at : (list front : List InstructionEntry) (e : InstructionEntry) (rest : List InstructionEntry) (s : MachineState) → list ≡ front ++ e ∷ rest → s.variables.index ≡ length front → slice_get list s.variables.index ≡ Some e
next_at list front e rest s laid place =
    ap (λ (i : ℕ). slice_get list i) place ∙ ap (λ (es : List InstructionEntry). slice_get es (length front)) laid ∙ at_front front e rest

pub length-more : (front : List InstructionEntry) (e : InstructionEntry) → length (front ++ e ∷ []) ≡ length front + 1
length-more front e = length-append front (e ∷ [])

pub more_front : (front : List InstructionEntry) (e : InstructionEntry) (rest : List InstructionEntry) → front ++ e ∷ rest ≡ (front ++ e ∷ []) ++ rest
more_front front e rest = sym (append_assoc front (e ∷ []) rest)

-- ---- idle entries

as_many : (xs : List DeviceCall) → length xs ≤ length xs
as_many xs = omega arith

pub one_call : (xs : List DeviceCall) (x : DeviceCall) → length xs < length (xs ++ x ∷ [])
one_call xs x = omega (arith, length-append xs (x ∷ []))

pub at_least : (xs : List DeviceCall) (x : DeviceCall) → length xs ≤ length (xs ++ x ∷ [])
at_least xs x = omega (arith, length-append xs (x ∷ []))

-- A turn that leaves the device and the value unchanged.
pub record Idles (s : MachineState) (o : Outcome) : Type 0 where
  pub after : MachineState
  pub goes_is : o ≡ goes after
  pub index : after.variables.index ≡ s.variables.index + 1
  pub value : after.variables.value ≡ s.variables.value
  pub device : after.device ≡ s.device
  pub calls : length s.calls ≤ length after.calls

idles_by : (i : Instruction) (e : InstructionEntry) (s : MachineState) → (r : Option Reg) → e.register ≡ r → is_idle_by i r ≡ true → Idles s (turn_of i e s.variables s)
idles_by Noop e s r is idle = record { after = _; goes_is = refl; index = refl; value = refl; device = refl; calls = as_many s.calls }
idles_by Stall e s r is idle = record { after = _; goes_is = refl; index = refl; value = refl; device = refl; calls = as_many s.calls }
idles_by Add e s r is idle = record { after = _; goes_is = refl; index = refl; value = refl; device = refl; calls = as_many s.calls }
idles_by Subtract e s r is idle = record { after = _; goes_is = refl; index = refl; value = refl; device = refl; calls = as_many s.calls }
idles_by LoadVar1 e s None is idle = absurd (true≢false (sym idle))
idles_by LoadVar2 e s None is idle = absurd (true≢false (sym idle))
idles_by LoadVar1 e s (Some reg) is idle = rw is (record { after = _; goes_is = refl; index = refl; value = refl; device = refl; calls = at_least s.calls _ })
idles_by LoadVar2 e s (Some reg) is idle = rw is (record { after = _; goes_is = refl; index = refl; value = refl; device = refl; calls = at_least s.calls _ })
idles_by ReadRegister e s r is idle = absurd (true≢false (sym idle))
idles_by ReadRegisterValue e s r is idle = absurd (true≢false (sym idle))
idles_by WriteRegister e s r is idle = absurd (true≢false (sym idle))
idles_by WriteRegisterValue e s r is idle = absurd (true≢false (sym idle))
idles_by StoreVar1 e s r is idle = absurd (true≢false (sym idle))
idles_by AddValue e s r is idle = absurd (true≢false (sym idle))
idles_by SubtractValue e s r is idle = absurd (true≢false (sym idle))
idles_by StallWhileTrue e s r is idle = absurd (true≢false (sym idle))
idles_by SkipNextInstructionIfTrue e s r is idle = absurd (true≢false (sym idle))
idles_by Goto e s r is idle = absurd (true≢false (sym idle))
idles_by SetSrcAddressBase e s r is idle = absurd (true≢false (sym idle))
idles_by SetDstAddressBase e s r is idle = absurd (true≢false (sym idle))
idles_by MoveData e s r is idle = absurd (true≢false (sym idle))
idles_by Unknown e s r is idle = absurd (true≢false (sym idle))

pub idles : (e : InstructionEntry) (s : MachineState) → is_idle e ≡ true → Idles s (turn e s)
idles e s idle = idles_by e.instruction e s e.register refl idle

pub both_true : (a b : Bool) → (a && b) ≡ true → (a ≡ true) × (b ≡ true)
both_true true b is = (refl, is)
both_true false b is = absurd (true≢false (sym is))

-- where idle entries lead
pub record LedIdly (list : List InstructionEntry) (used : ℕ) (s : MachineState) : Type 0 where
  pub after : MachineState
  pub leads : Leads list used s after
  pub value : after.variables.value ≡ s.variables.value
  pub device : after.device ≡ s.device

pub led_idly : (idle list front rest : List InstructionEntry) (s : MachineState) → list ≡ front ++ (idle ++ rest) → s.variables.index ≡ length front → list_all is_idle idle ≡ true → LedIdly list (length idle) s
led_idly [] list front rest s laid place are = record { after = s; leads = leads_none list s; value = refl; device = refl }
led_idly (e ∷ idle) list front rest s laid place are =
    let parts = both_true (is_idle e) (list_all is_idle idle) are in
    let one : Idles s (turn e s) = idles e s parts.0 in
    let laid_on : list ≡ (front ++ e ∷ []) ++ (idle ++ rest) = laid ∙ more_front front e (idle ++ rest) in
    let place_on : one.after.variables.index ≡ length (front ++ e ∷ []) = omega (arith, one.index, place, length-more front e) in
    let others : LedIdly list (length idle) one.after = led_idly idle list (front ++ e ∷ []) rest one.after laid_on place_on parts.1 in
    let first : Leads list 1 s one.after = leads_one list s one.after e (next_at list front e (idle ++ rest) s laid place) one.goes_is one.index one.calls in
    let both : Leads list (1 + length idle) s others.after =
    leads_both list 1 (length idle) s one.after others.after first others.leads (ap (λ (d : Device). d.store) one.device) in
    let count : 1 + length idle ≡ suc (length idle) = omega arith in
    record {
      after = others.after;
      leads = subst (λ (n : ℕ). Leads list n s others.after) count both;
      value = others.value ∙ one.value;
      device = others.device ∙ one.device;
    }
