-- An admitted list does its action.
use Rattle.std.proofs.Common.{◌≡◌, ◌∙◌, ℕ, suc, ◌+◌, ◌-◌, ◌^◌, ◌<◌, ◌≤◌, Bool, true, false, ◌||◌, nat_eq, List, [], ◌∷◌, ◌++◌, length, Some, None, refl, sym, ap, subst, inl, inr, arith, append_assoc, append-nil, length-append, true≢false, if◌then◌else◌}
use Rattle.std.specs.Prelude.{◌⊎◌, slice_get, Ok}
use Rattle.std.specs.List.{list_all}
use Rattle.erst_store.specs.Store.{Stored}
use Rattle.erst_store.specs.Actions.{set_record_offset, check_busy_status, get_command_status, get_record_identifier, get_record_count}
use Rattle.erst_store.specs.Device.{Device, act}
use Rattle.erst_store.specs.DeviceLaws.{IsDevice}
use Rattle.erst_store.specs.Steps.ActionLemmas.{forgets, busy_answer, status_answer, id_answer, count_answer}
use Rattle.ras_base.specs.Steps.ExactLemmas.{nat_exact}
use Rattle.board_core.specs.declared.board.Reg.TheVariants.{Action, Value}
use Rattle.erst_interp.specs.declared.entries.InstructionEntry.{InstructionEntry}
use Rattle.erst_interp.specs.Machine.{MachineState, turn, end_from, most_turns, alone}
use Rattle.erst_interp.specs.Run.{PassesStore}
use Rattle.erst_interp.specs.Admission.{takes_input, gives_answer, input_bits, answer_bits, is_idle, is_free, is_input, AreIdle, HoldsOne, BeginsBy, EndsWithAnswer, EndsBy, IsAdmitted}
use Rattle.erst_interp.specs.Faithful.{input_limit, with_input, device_after, answer_after}
use Rattle.erst_interp.proofs.RunLemmas.{ends_at}
use Rattle.erst_interp.proofs.LeadLemmas.{Leads, leads_none, leads_one, leads_both, passes_end, at_end, next_at, length-more, more_front, Idles, idles, LedIdly, led_idly, both_true}
use Rattle.erst_interp.proofs.RoleLemmas.{Writes, acts, takes, frees, Answers, answers}

soon : {m n : ℕ} → m < n → m ≤ n
soon less = omega (arith, less)

-- ---- before the action's write

-- Entries that lead to a device which has the same result for the action.
pub record Led (list : List InstructionEntry) (used action : ℕ) (s : MachineState) (d : Device) : Type 0 where
  pub after : MachineState
  pub leads : Leads list used s after
  pub value : after.variables.value ≡ s.variables.value
  pub device : act action after.device ≡ act action d
  pub store : after.device.store ≡ s.device.store

-- One more entry before such entries.
led_more : (list : List InstructionEntry) (n action : ℕ) (s t : MachineState) → Leads list 1 s t → t.variables.value ≡ s.variables.value → act action t.device ≡ act action s.device → t.device.store ≡ s.device.store
    → Led list n action t t.device → Led list (suc n) action s s.device
led_more list n action s t first value device store others =
    let count : 1 + n ≡ suc n = omega arith in
    record {
      after = others.after;
      leads = subst (λ (k : ℕ). Leads list k s others.after) count (leads_both list 1 n s t others.after first others.leads store);
      value = others.value ∙ value;
      device = others.device ∙ device;
      store = others.store ∙ store;
    }

begins_plainly : (entries list front rest : List InstructionEntry) (action : ℕ) (s : MachineState) → list ≡ front ++ (entries ++ rest) → s.variables.index ≡ length front
    → list_all (λ e. is_idle e || is_free action e) entries ≡ true → Led list (length entries) action s s.device
begins_plainly [] list front rest action s laid place are = record { after = s; leads = leads_none list s; value = refl; device = refl; store = refl }
begins_plainly (e ∷ entries) list front rest action s laid place are =
    by (is_idle e) refl
    (λ t index. begins_plainly entries list (front ++ e ∷ []) rest action t (laid ∙ more_front front e (entries ++ rest))
    (omega (arith, index, place, length-more front e)) (both_true (is_idle e || is_free action e) (list_all (λ e. is_idle e || is_free action e) entries) are).1)
  where
    parts : ((is_idle e || is_free action e) ≡ true) × (list_all (λ e. is_idle e || is_free action e) entries ≡ true)
    parts = both_true (is_idle e || is_free action e) (list_all (λ e. is_idle e || is_free action e) entries) are

    next_is : slice_get list s.variables.index ≡ Some e
    next_is = next_at list front e (entries ++ rest) s laid place

    by : (b : Bool) → is_idle e ≡ b → ((t : MachineState) → t.variables.index ≡ s.variables.index + 1 → Led list (length entries) action t t.device) → Led list (suc (length entries)) action s s.device
    by true is others =
        let one : Idles s (turn e s) = idles e s is in
        led_more list (length entries) action s one.after (leads_one list s one.after e next_is one.goes_is one.index one.calls) one.value
        (ap (act action) one.device) (ap (λ (d : Device). d.store) one.device) (others one.after one.index)
    by false is others =
        let free : is_free action e ≡ true = subst (λ b. (b || is_free action e) ≡ true) is parts.0 in
        let found = frees action e s free in
        let one : Writes Value (alone e e.value) s (turn e s) = found.1 in
        let forgotten : act action one.after.device ≡ act action s.device =
        ap (act action) one.device
        ∙ ap (λ (a : ℕ). act a (record s.device { value = alone e e.value })) found.0
        ∙ forgets (alone e e.value) s.device
        ∙ ap (λ (a : ℕ). act a s.device) (sym found.0) in
        led_more list (length entries) action s one.after (leads_one list s one.after e next_is one.goes_is one.index (soon one.calls)) one.value
        forgotten (ap (λ (d : Device). d.store) one.device) (others one.after one.index)

-- The bits of an input.
input_small : (action input : ℕ) → input < input_limit action → (k : ℕ) × (input_bits action ≡ 2 ^ k - 1) × (input < 2 ^ k) × (input < 2 ^ 64)
input_small action input inside = by (nat_eq action set_record_offset) inside
  where
    by : (b : Bool) → input < (if b then 2 ^ 32 else 2 ^ 64) → (k : ℕ) × ((if b then 2 ^ 32 - 1 else 2 ^ 64 - 1) ≡ 2 ^ k - 1) × (input < 2 ^ k) × (input < 2 ^ 64)
    by true small = (32, refl, small, omega (arith, small))
    by false small = (64, refl, small, small)

-- The input's write among idle entries.
begins_with_input : (entries list rest : List InstructionEntry) (action : ℕ) (s : MachineState) → list ≡ entries ++ rest → s.variables.index ≡ 0 → s.variables.value < input_limit action
    → HoldsOne (is_input action) entries → Led list (length entries) action s (record s.device { value = s.variables.value })
begins_with_input entries list rest action s laid place inside holds =
    let one_on = holds.one ∷ holds.after in
    let laid_1 : list ≡ holds.before ++ (one_on ++ rest) = laid ∙ ap (λ (es : List InstructionEntry). es ++ rest) holds.laid ∙ append_assoc holds.before one_on rest in
    let a : LedIdly list (length holds.before) s = led_idly holds.before list [] (one_on ++ rest) s laid_1 place holds.idle_before in
    let place_2 : a.after.variables.index ≡ length holds.before = omega (arith, a.leads.index, place) in
    let small = input_small action s.variables.value inside in
    let fits : a.after.variables.value < 2 ^ small.0 = subst (λ (n : ℕ). n < 2 ^ small.0) (sym a.value) small.2 in
    let wide : a.after.variables.value < 2 ^ 64 = subst (λ (n : ℕ). n < 2 ^ 64) (sym a.value) small.3 in
    let b : Writes Value a.after.variables.value a.after (turn holds.one a.after) = takes action small.0 holds.one a.after holds.is small.1 fits wide in
    let next_2 = next_at list holds.before holds.one (holds.after ++ rest) a.after laid_1 place_2 in
    let lead_b : Leads list 1 a.after b.after = leads_one list a.after b.after holds.one next_2 b.goes_is b.index (soon b.calls) in
    let laid_3 : list ≡ (holds.before ++ holds.one ∷ []) ++ (holds.after ++ rest) = laid_1 ∙ more_front holds.before holds.one (holds.after ++ rest) in
    let place_3 : b.after.variables.index ≡ length (holds.before ++ holds.one ∷ []) = omega (arith, b.index, place_2, length-more holds.before holds.one) in
    let c : LedIdly list (length holds.after) b.after = led_idly holds.after list (holds.before ++ holds.one ∷ []) rest b.after laid_3 place_3 holds.idle_after in
    let written : b.after.device ≡ record s.device { value = s.variables.value } =
    b.device ∙ ap (λ (d : Device). record d { value = a.after.variables.value }) a.device ∙ ap (λ (n : ℕ). record s.device { value = n }) a.value in
    let store_b : b.after.device.store ≡ a.after.device.store = ap (λ (d : Device). d.store) b.device in
    let store_a : a.after.device.store ≡ s.device.store = ap (λ (d : Device). d.store) a.device in
    let store_c : c.after.device.store ≡ b.after.device.store = ap (λ (d : Device). d.store) c.device in
    let rest_lead : Leads list (1 + length holds.after) a.after c.after = leads_both list 1 (length holds.after) a.after b.after c.after lead_b c.leads store_b in
    let whole : Leads list (length holds.before + (1 + length holds.after)) s c.after = leads_both list (length holds.before) (1 + length holds.after) s a.after c.after a.leads rest_lead store_a in
    let count : length holds.before + (1 + length holds.after) ≡ length entries =
    omega (arith, ap length holds.laid, length-append holds.before one_on) in
    record {
      after = c.after;
      leads = subst (λ (n : ℕ). Leads list n s c.after) count whole;
      value = c.value ∙ b.value ∙ a.value;
      device = ap (act action) (c.device ∙ written);
      store = store_c ∙ store_b ∙ store_a;
    }

-- Either of the two beginnings.
begins_by : (b : Bool) (entries list rest : List InstructionEntry) (action : ℕ) (s : MachineState) → list ≡ entries ++ rest → s.variables.index ≡ 0 → s.variables.value < input_limit action
    → BeginsBy b action entries → Led list (length entries) action s (if b then record s.device { value = s.variables.value } else s.device)
begins_by true entries list rest action s laid place inside begins = begins_with_input entries list rest action s laid place inside begins
begins_by false entries list rest action s laid place inside begins = begins_plainly entries list [] rest action s laid place begins

-- ---- the whole

-- A run that reached the list's end with its action done.
pub record Done (action : ℕ) (list : List InstructionEntry) (s : MachineState) : Type 0 where
  pub after : MachineState
  pub ends : end_from most_turns list s ≡ record { answer = Ok after.variables.value; state = after }
  pub device : after.device ≡ device_after action s.variables.value s.device
  pub calls : length s.calls < length after.calls
  pub stores : (store : List Stored) → PassesStore most_turns list s store → (store ≡ s.device.store) ⊎ (store ≡ (device_after action s.variables.value s.device).store)
  pub value : gives_answer action ≡ false → after.variables.value ≡ s.variables.value
  pub answer : (k : ℕ) → gives_answer action ≡ true → answer_bits action ≡ 2 ^ k - 1 → (device_after action s.variables.value s.device).value < 2 ^ k
      → after.variables.value ≡ (device_after action s.variables.value s.device).value

-- What is known after the action's write.
record Acted (action : ℕ) (list : List InstructionEntry) (used : ℕ) (s : MachineState) : Type 0 where
  after : MachineState
  index : after.variables.index ≡ used
  ends : (turns : ℕ) → most_turns ≡ used + turns → end_from most_turns list s ≡ end_from turns list after
  device : after.device ≡ device_after action s.variables.value s.device
  value : after.variables.value ≡ s.variables.value
  calls : length s.calls < length after.calls
  stores : (store : List Stored) (turns : ℕ) → most_turns ≡ used + turns → PassesStore most_turns list s store → (store ≡ s.device.store) ⊎ PassesStore turns list after store

acted : (action : ℕ) (list : List InstructionEntry) (s : MachineState) → action < 2 ^ 64 → s.variables.index ≡ 0 → s.variables.value < input_limit action → (is : IsAdmitted action list) → Acted action list (length is.before + 1) s
acted action list s fits place inside is =
    let led : Led list (length is.before) action s (with_input action s.variables.value s.device) =
    begins_by (takes_input action) is.before list (is.act ∷ is.after) action s is.laid place inside is.begins in
    let place_1 : led.after.variables.index ≡ length is.before = omega (arith, led.leads.index, place) in
    let one : Writes Action action led.after (turn is.act led.after) = acts action is.act led.after is.is fits in
    let lead : Leads list 1 led.after one.after = leads_one list led.after one.after is.act (next_at list is.before is.act is.after led.after is.laid place_1) one.goes_is one.index (soon one.calls) in
    let whole : Leads list (length is.before + 1) s one.after = leads_both list (length is.before) 1 s led.after one.after led.leads lead led.store in
    record {
      after = one.after;
      index = omega (arith, whole.index, place);
      ends = λ turns is_sum. whole.ends turns most_turns is_sum;
      device = one.device ∙ led.device;
      value = one.value ∙ led.value;
      calls = omega (arith, led.leads.calls, one.calls);
      stores = λ store turns is_sum passes. whole.stores store turns most_turns is_sum passes;
    }

none_next : (list : List InstructionEntry) (s : MachineState) → s.variables.index ≡ length list → slice_get list s.variables.index ≡ None
none_next list s place = ap (λ (i : ℕ). slice_get list i) place ∙ at_end list

length_of : (action : ℕ) (list : List InstructionEntry) (is : IsAdmitted action list) → length list ≡ length is.before + 1 + length is.after
length_of action list is = omega (arith, ap length is.laid, length-append is.before (is.act ∷ is.after))

-- Idle entries to the end.
ends_idly : (action : ℕ) (list : List InstructionEntry) (s : MachineState) (is : IsAdmitted action list) → Acted action list (length is.before + 1) s → AreIdle is.after → gives_answer action ≡ false → Done action list s
ends_idly action list s is t idle silent =
    let count = length_of action list is in
    let n : ℕ = length is.after in
    let used : ℕ = length is.before + 1 in
    let turns : ℕ = most_turns - length list in
    let laid : list ≡ (is.before ++ is.act ∷ []) ++ (is.after ++ []) =
    is.laid ∙ more_front is.before is.act is.after ∙ ap (λ (es : List InstructionEntry). (is.before ++ is.act ∷ []) ++ es) (sym (append-nil is.after)) in
    let c : LedIdly list n t.after = led_idly is.after list (is.before ++ is.act ∷ []) [] t.after laid (t.index ∙ sym (length-more is.before is.act)) idle in
    let none = none_next list c.after (omega (arith, c.leads.index, t.index, count)) in
    let total : most_turns ≡ used + (n + turns) = omega (arith, count, is.short) in
    let device : c.after.device ≡ device_after action s.variables.value s.device = c.device ∙ t.device in
    record {
      after = c.after;
      calls = omega (arith, t.calls, c.leads.calls);
      ends = t.ends (n + turns) total ∙ c.leads.ends turns (n + turns) refl ∙ ends_at list turns c.after none;
      device = device;
      stores = λ store passes.
          elim (t.stores store (n + turns) total passes) [
            | inl before ↦ inl before
            | inr later ↦ elim (c.leads.stores store turns (n + turns) refl later) [
              | inl here ↦ inr (here ∙ ap (λ (d : Device). d.store) t.device)
              | inr after ↦ inr (passes_end list turns c.after none store after ∙ ap (λ (d : Device). d.store) device)
            ]
          ];
      value = λ _. c.value ∙ t.value;
      answer = λ k gives. absurd (true≢false (sym gives ∙ silent));
    }

-- Idle entries, and last the read of the result.
ends_with_answer : (action : ℕ) (list : List InstructionEntry) (s : MachineState) (is : IsAdmitted action list) → Acted action list (length is.before + 1) s → EndsWithAnswer action is.after → gives_answer action ≡ true → Done action list s
ends_with_answer action list s is t end gives =
    let count = length_of action list is in
    let n : ℕ = length end.idle in
    let more : length is.after ≡ n + 1 = ap length end.laid ∙ length-append end.idle (end.last ∷ []) in
    let used : ℕ = length is.before + 1 in
    let turns : ℕ = most_turns - length list in
    let front = is.before ++ is.act ∷ [] in
    let laid : list ≡ front ++ (end.idle ++ end.last ∷ []) =
    is.laid ∙ more_front is.before is.act is.after ∙ ap (λ (es : List InstructionEntry). front ++ es) end.laid in
    let c : LedIdly list n t.after = led_idly end.idle list front (end.last ∷ []) t.after laid (t.index ∙ sym (length-more is.before is.act)) end.are_idle in
    let laid_2 : list ≡ (front ++ end.idle) ++ end.last ∷ [] = laid ∙ sym (append_assoc front end.idle (end.last ∷ [])) in
    let place_2 : c.after.variables.index ≡ length (front ++ end.idle) =
    omega (arith, c.leads.index, t.index, length-append front end.idle, length-more is.before is.act) in
    let r : Answers action c.after (turn end.last c.after) = answers action end.last c.after end.is in
    let lead : Leads list 1 c.after r.after = leads_one list c.after r.after end.last (next_at list (front ++ end.idle) end.last [] c.after laid_2 place_2) r.goes_is r.index r.calls in
    let none = none_next list r.after (omega (arith, r.index, c.leads.index, t.index, count, more)) in
    let total : most_turns ≡ used + (n + (1 + turns)) = omega (arith, count, is.short, more) in
    let device : r.after.device ≡ device_after action s.variables.value s.device = r.device ∙ c.device ∙ t.device in
    let device_c : c.after.device ≡ device_after action s.variables.value s.device = c.device ∙ t.device in
    record {
      after = r.after;
      calls = omega (arith, t.calls, c.leads.calls, r.calls);
      ends = t.ends (n + (1 + turns)) total ∙ c.leads.ends (1 + turns) (n + (1 + turns)) refl ∙ lead.ends turns (1 + turns) refl ∙ ends_at list turns r.after none;
      device = device;
      stores = λ store passes.
          elim (t.stores store (n + (1 + turns)) total passes) [
            | inl before ↦ inl before
            | inr later ↦ elim (c.leads.stores store (1 + turns) (n + (1 + turns)) refl later) [
              | inl here ↦ inr (here ∙ ap (λ (d : Device). d.store) t.device)
              | inr still ↦ elim (lead.stores store turns (1 + turns) refl still) [
                | inl there ↦ inr (there ∙ ap (λ (d : Device). d.store) device_c)
                | inr after ↦ inr (passes_end list turns r.after none store after ∙ ap (λ (d : Device). d.store) device)
              ]
            ]
          ];
      value = λ silent. absurd (true≢false (sym gives ∙ silent));
      answer = λ k _ bits small.
          (let value : c.after.device.value ≡ (device_after action s.variables.value s.device).value = ap (λ (d : Device). d.value) device_c in
          r.value k bits (subst (λ (v : ℕ). v < 2 ^ k) (sym value) small) ∙ value);
    }

ends_by : (action : ℕ) (list : List InstructionEntry) (s : MachineState) (is : IsAdmitted action list) → Acted action list (length is.before + 1) s → (b : Bool) → gives_answer action ≡ b → EndsBy b action is.after → Done action list s
ends_by action list s is t true gives ends = ends_with_answer action list s is t ends gives
ends_by action list s is t false gives ends = ends_idly action list s is t ends gives

pub done : (action : ℕ) (list : List InstructionEntry) (s : MachineState) → action < 2 ^ 64 → s.variables.index ≡ 0 → s.variables.value < input_limit action → IsAdmitted action list → Done action list s
done action list s fits place inside is = ends_by action list s is (acted action list s fits place inside is) (gives_answer action) refl is.ends

-- ---- what is answered

with_value : (d : Device) (value : ℕ) → value < 2 ^ 64 → IsDevice d → IsDevice (record d { value = value })
with_value d value small kept = record {
  store = kept.store;
  length = kept.length;
  bytes = kept.bytes;
  action = kept.action;
  value = small;
  id = kept.id;
  offset = kept.offset;
  busy = kept.busy;
  cursor = kept.cursor;
  slow = kept.slow;
}

input_kept : (action input : ℕ) (d : Device) → input < input_limit action → IsDevice d → IsDevice (with_input action input d)
input_kept action input d inside kept = by (takes_input action)
  where
    by : (b : Bool) → IsDevice (if b then record d { value = input } else d)
    by true = with_value d input (input_small action input inside).3 kept
    by false = kept

-- A result has no more bits than a read has to have.
answer_small : (action : ℕ) (d : Device) → IsDevice d → gives_answer action ≡ true → (k : ℕ) × (answer_bits action ≡ 2 ^ k - 1) × ((act action d).value < 2 ^ k)
answer_small action d kept gives = busy (nat_eq action check_busy_status) refl
  where
    count : nat_eq action check_busy_status ≡ false → nat_eq action get_command_status ≡ false → nat_eq action get_record_identifier ≡ false → (b : Bool) → nat_eq action get_record_count ≡ b
        → (k : ℕ) × ((2 ^ 32 - 1) ≡ 2 ^ k - 1) × ((act action d).value < 2 ^ k)
    count no_busy no_status no_id true is =
        (32, refl, subst (λ (a : ℕ). (act a d).value < 2 ^ 32) (sym (nat_exact action get_record_count is)) (count_answer d kept))
    count no_busy no_status no_id false is = absurd (true≢false (sym gives ∙ (rw (no_busy, no_status, no_id, is) refl)))

    id : nat_eq action check_busy_status ≡ false → nat_eq action get_command_status ≡ false → (b : Bool) → nat_eq action get_record_identifier ≡ b
        → (k : ℕ) × ((if b then 2 ^ 64 - 1 else 2 ^ 32 - 1) ≡ 2 ^ k - 1) × ((act action d).value < 2 ^ k)
    id no_busy no_status true is =
        (64, refl, subst (λ (a : ℕ). (act a d).value < 2 ^ 64) (sym (nat_exact action get_record_identifier is)) (id_answer d kept))
    id no_busy no_status false is = count no_busy no_status is (nat_eq action get_record_count) refl

    status : nat_eq action check_busy_status ≡ false → (b : Bool) → nat_eq action get_command_status ≡ b
        → (k : ℕ) × ((if b then 2 ^ 8 - 1 else (if nat_eq action get_record_identifier then 2 ^ 64 - 1 else 2 ^ 32 - 1)) ≡ 2 ^ k - 1) × ((act action d).value < 2 ^ k)
    status no_busy true is =
        (8, refl, subst (λ (a : ℕ). (act a d).value < 2 ^ 8) (sym (nat_exact action get_command_status is)) (status_answer d))
    status no_busy false is = id no_busy is (nat_eq action get_record_identifier) refl

    busy : (b : Bool) → nat_eq action check_busy_status ≡ b
        → (k : ℕ) × ((if b then 1 else (if nat_eq action get_command_status then 2 ^ 8 - 1 else (if nat_eq action get_record_identifier then 2 ^ 64 - 1 else 2 ^ 32 - 1))) ≡ 2 ^ k - 1)
        × ((act action d).value < 2 ^ k)
    busy true is =
        (1, refl, subst (λ (a : ℕ). (act a d).value < 2 ^ 1) (sym (nat_exact action check_busy_status is)) (busy_answer d))
    busy false is = status is (nat_eq action get_command_status) refl

pub done-answer : (action : ℕ) (list : List InstructionEntry) (s : MachineState) → s.variables.value < input_limit action → IsDevice s.device → (end : Done action list s)
    → end.after.variables.value ≡ answer_after action s.variables.value s.device
done-answer action list s inside kept end = by (gives_answer action) refl
  where
    by : (b : Bool) → gives_answer action ≡ b → end.after.variables.value ≡ (if b then (device_after action s.variables.value s.device).value else s.variables.value)
    by false is = end.value is
    by true is =
        let small = answer_small action (with_input action s.variables.value s.device) (input_kept action s.variables.value s.device inside kept) is in
        end.answer small.0 is small.1 small.2
