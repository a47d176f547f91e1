-- The model after actions of an admitted table.
use Rattle.std.proofs.Common.{◌≡◌, ◌∙◌, ◌<◌, ◌≤◌, ◌^◌, ℕ, zero, suc, length, List, [], ◌∷◌, ◌++◌, refl, sym, ap, subst, arith}
use Rattle.board_core.specs.Told.{Told, after_put, after_range_write, after_reg_write, device_of, on_device, register_in, with_access}
use Rattle.erst_store.specs.DeviceLaws.{IsDevice}
use Rattle.erst_interp.specs.declared.entries.InstructionEntry.{InstructionEntry}
use Rattle.erst_interp.specs.Admission.{IsAdmittedTable}
use Rattle.erst_interp.specs.Faithful.{device_after}
use Rattle.erst_interp.specs.Table.{list_of}
use Rattle.erst_interp.proofs.AdmittedRunLemmas.{faithful}
use Rattle.erst_driver.specs.declared.step.Step.{Step}
use Rattle.erst_driver.specs.Operations.{AreInside, Inside, actions_of, after_steps, clear_calls, clear_steps, device_calls, finishes, listings, read_steps, step, told_by, told_by_step, put_in_range, write_calls, write_steps}
use Rattle.erst_interp.proofs.RunLemmas.{end_device}
use Rattle.erst_driver.proofs.ActLemmas.{is_device_after}
use Rattle.erst_driver.proofs.PlanLemmas.{told_step}
use Rattle.ras_base.specs.LittleEndian.{AreBytes, number_at}
use Rattle.erst_store.specs.Steps.KeptLemmas.{IsDevice-range}
use Rattle.erst_driver.specs.Answers.{put_status, store_after_write, written_id}
use Rattle.erst_driver.proofs.ClearLemmas.{clear_store}
use Rattle.erst_driver.proofs.OperationLemmas.{store_after}
use Rattle.erst_driver.proofs.WriteLemmas.{write_carries}
use Rattle.erst_driver.proofs.DoesLemmas.{finishes_inside, inside_both}
use Rattle.board_core.specs.declared.board.Access.{Access}
use Rattle.board_core.specs.declared.board.Access.TheVariants.{Read, Write, RangeRead, RangeWrite}
use Rattle.board_core.specs.Device.{KeepsDevice}
use Rattle.board_core.specs.Doing.{DeviceCall, accesses_of, after_acts, after_device, put, range_read, range_write, reg_read, reg_write}
use Rattle.board_core.proofs.ActLemmas.{accesses_by_acts}
use Rattle.erst_interp.specs.Run.{acts_of}
use Rattle.erst_interp.specs.Faithful.{input_limit}
use Rattle.erst_store.specs.Actions.{get_record_count, range_length}
use Rattle.erst_store.specs.Device.{Device, Volatile, device_with, header_length, length_place, volatile_of}
use Rattle.erst_store.specs.Store.{Stored, without}

pub told_device : (lists : List (List InstructionEntry)) (steps : List Step) (t : Told) → IsAdmittedTable lists → AreInside steps → IsDevice (device_of t)
    → device_of (told_by lists steps t) ≡ after_steps steps (device_of t)
unfolding device_calls after_steps
told_device lists [] t admitted inside device = refl
told_device lists (s ∷ steps) t admitted inside device =
    let here : Inside s = inside.0 in
    let few = here.action in
    let fits : s.action < 2 ^ 64 = omega (arith, few) in
    let list = list_of s.action lists in
    let one : device_of (told_by_step lists s t) ≡ device_after s.action s.input (device_of t) =
    end_device list s.input t ∙ (faithful s.action list fits (admitted s.action few) s.input (device_of t) device here.input).device in
    ap (λ (u : Told). device_of u) (told_step lists s steps t)
    ∙ told_device lists steps (told_by_step lists s t) admitted inside.1 (subst IsDevice (sym one) (is_device_after s (device_of t) here device))
    ∙ ap (after_steps steps) one

-- ---- what else is told decides nothing

same_device : (one other : Told) → KeepsDevice one other → device_of other ≡ device_of one
same_device one other keeps =
    ap (λ (store : List Stored). device_with store other.volatile) keeps.store ∙ ap (λ (v : Volatile). device_with one.here.store v) keeps.volatile

access_keeps : (access : Access) (one other : Told) → KeepsDevice one other → KeepsDevice (with_access access one) (with_access access other)
access_keeps access one other keeps = record {
  store = keeps.store;
  volatile = keeps.volatile;
  accesses = ap (λ (made : List Access). made ++ access ∷ []) keeps.accesses;
}

step_keeps : (step : Device → Device) (one other : Told) → KeepsDevice one other → KeepsDevice (on_device step one) (on_device step other)
step_keeps step one other keeps = record {
  store = ap (λ (d : Device). (step d).store) (same_device one other keeps);
  volatile = ap (λ (d : Device). volatile_of (step d)) (same_device one other keeps);
  accesses = keeps.accesses;
}

call_keeps : (call : DeviceCall) (one other : Told) → KeepsDevice one other → KeepsDevice (after_device call one) (after_device call other)
call_keeps (reg_read reg) one other keeps =
    subst (λ (n : ℕ). KeepsDevice (with_access (Read reg (register_in reg (device_of one))) one) (with_access (Read reg n) other))
    (ap (register_in reg) (sym (same_device one other keeps))) (access_keeps (Read reg (register_in reg (device_of one))) one other keeps)
call_keeps (reg_write reg value) one other keeps =
    access_keeps (Write reg value) (on_device (after_reg_write reg value) one) (on_device (after_reg_write reg value) other) (step_keeps (after_reg_write reg value) one other keeps)
call_keeps (range_read place count) one other keeps = access_keeps (RangeRead place count) one other keeps
call_keeps (range_write place bytes) one other keeps =
    access_keeps (RangeWrite place (length bytes)) (on_device (after_range_write place bytes) one) (on_device (after_range_write place bytes) other)
    (step_keeps (after_range_write place bytes) one other keeps)
call_keeps (put id bytes) one other keeps = step_keeps (after_put id bytes) one other keeps

calls_keep : (calls : List DeviceCall) (one other : Told) → KeepsDevice one other → KeepsDevice (after_acts (acts_of calls) one) (after_acts (acts_of calls) other)
calls_keep [] one other keeps = keeps
calls_keep (call ∷ calls) one other keeps = calls_keep calls (after_device call one) (after_device call other) (call_keeps call one other keeps)

pub told_keeps : (lists : List (List InstructionEntry)) (steps : List Step) (one other : Told) → KeepsDevice one other → KeepsDevice (told_by lists steps one) (told_by lists steps other)
told_keeps lists steps one other keeps =
    subst (λ (d : Device). KeepsDevice (told_by lists steps one) (after_acts (acts_of (device_calls lists steps d)) other)) (sym (same_device one other keeps))
    (calls_keep (device_calls lists steps (device_of one)) one other keeps)

pub told_adds : (lists : List (List InstructionEntry)) (steps : List Step) (t : Told) → (more : List Access) × ((told_by lists steps t).accesses ≡ t.accesses ++ more)
told_adds lists steps t =
    let acts = acts_of (device_calls lists steps (device_of t)) in
    (accesses_of acts t, accesses_by_acts acts t)

-- ---- the record store after the operations

inside : (action input : ℕ) → action ≤ get_record_count → input < input_limit action → Inside (step action input)
inside action input few small = record { action = few; input = small }

pub clear_inside : (id : ℕ) → id < 2 ^ 64 → AreInside (clear_steps id)
clear_inside id fits = (inside _ _ (omega arith) (omega arith), (inside _ _ (omega arith) fits, (inside _ _ (omega arith) (omega arith), tt)))

pub read_inside : (id : ℕ) → id < 2 ^ 64 → AreInside (read_steps id)
read_inside id fits = (inside _ _ (omega arith) (omega arith), (inside _ _ (omega arith) (omega arith), (inside _ _ (omega arith) fits, (inside _ _ (omega arith) (omega arith), tt))))

pub write_inside : AreInside write_steps
write_inside = (inside _ _ (omega arith) (omega arith), (inside _ _ (omega arith) (omega arith), (inside _ _ (omega arith) (omega arith), tt)))

pub listings_inside : (count : ℕ) → AreInside (listings count)
listings_inside zero = tt
listings_inside (suc count) = (inside _ _ (omega arith) (omega arith), listings_inside count)

pub operation_inside : (steps : List Step) (d : Device) → AreInside steps → AreInside (actions_of steps d)
operation_inside steps d are = inside_both steps (finishes (after_steps steps d).busy) are (finishes_inside (after_steps steps d).busy)

pub clear_after : (lists : List (List InstructionEntry)) (id : ℕ) (t : Told) → IsAdmittedTable lists → id < 2 ^ 64 → IsDevice (device_of t)
    → (after_acts (acts_of (clear_calls lists id (device_of t))) t).here.store ≡ without id t.here.store
clear_after lists id t admitted fits device =
    let steps = actions_of (clear_steps id) (device_of t) in
    ap (λ (d : Device). d.store) (told_device lists steps t admitted (operation_inside (clear_steps id) (device_of t) (clear_inside id fits)) device) ∙ clear_store id (device_of t)

pub write_after : (lists : List (List InstructionEntry)) (bytes : List ℕ) (t : Told) → header_length ≤ length bytes → length bytes ≤ range_length → number_at length_place 4 bytes ≡ length bytes
    → IsAdmittedTable lists → AreBytes bytes → IsDevice (device_of t) → (after_acts (acts_of (write_calls lists bytes (device_of t))) t).here.store ≡ store_after_write bytes t.here.store
write_after lists bytes t long short whole admitted are device =
    let u = put_in_range bytes t in
    let steps = actions_of write_steps (device_of u) in
    let there : IsDevice (device_of u) = IsDevice-range 0 bytes (device_of t) device are (omega (arith, short)) in
    ap (λ (d : Device). d.store) (told_device lists steps u admitted (operation_inside write_steps (device_of u) write_inside) there)
    ∙ store_after write_steps (device_of u) (put_status (written_id bytes) t.here.store) (store_after_write bytes t.here.store) (write_carries bytes long short whole t)
