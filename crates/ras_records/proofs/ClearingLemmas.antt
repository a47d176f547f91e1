-- The model once records are cleared, and what crashes leave meanwhile.
use Rattle.std.proofs.Common.{◌≡◌, ◌∙◌, ℕ, suc, ◌<◌, ◌^◌, ◌||◌, Bool, true, false, nat_eq, List, [], ◌∷◌, ◌++◌, length, Option, None, Some, Ok, Err, inl, inr, refl, sym, ap, subst, arith, if◌then◌else◌}
use Rattle.std.proofs.lemmas.Bool.{false≢true}
use Rattle.std.specs.Result.{is_ok}
use Rattle.std.specs.List.{AllByRecursion}
use Rattle.std.proofs.lemmas.Bool.Decides.{nat_tests}
use Rattle.erst_store.specs.declared.device.CommandStatus.TheVariants.{Success, StoreEmpty, NotFound}
use Rattle.erst_store.specs.declared.store.PutRefused.{PutRefused}
use Rattle.erst_store.specs.Device.{Device, with_put}
use Rattle.erst_store.specs.DeviceLaws.{IsDevice}
use Rattle.erst_store.specs.Store.{Fits, Stored, holds, refusal_of, without}
use Rattle.board_core.specs.Doing.{Act, DeviceCall, Moment, after_device, put, range_read, range_write, reg_read, reg_write}
use Rattle.board_core.specs.Stop.{InStore, Left}
use Rattle.board_core.specs.Told.{Told, device_of, unless_refused}
use Rattle.board_core.proofs.DoingLemmas.{moment_parts}
use Rattle.erst_interp.specs.declared.entries.InstructionEntry.{InstructionEntry}
use Rattle.erst_interp.specs.Admission.{IsAdmittedTable}
use Rattle.erst_interp.specs.Run.{KeepsButDevice, acts_of}
use Rattle.erst_interp.proofs.BreakLemmas.{acts_both, after_both}
use Rattle.erst_interp.proofs.SlowLemmas.{register-slow}
use Rattle.erst_driver.specs.declared.refusals.DriverRefused.TheVariants.{Busy}
use Rattle.erst_driver.specs.declared.step.Step.{Step}
use Rattle.erst_driver.specs.Answers.{Answer, answer_on_found, by_status, found_status}
use Rattle.erst_driver.specs.Operations.{AreInside, actions_of, after_step, after_steps, clear_calls, clear_steps, is_free_in_time, told_by}
use Rattle.erst_driver.proofs.ActLemmas.{is_device_after}
use Rattle.erst_driver.proofs.MomentLemmas.{clear_here, clear_moment}
use Rattle.erst_driver.proofs.ToldLemmas.{clear_inside, operation_inside, told_device}
use Rattle.ras_records.specs.Each.{after_calls, each_answer, after_answer, each_calls}
use Rattle.ras_records.specs.Polls.{LacksFirst, readable_ids}
use Rattle.ras_events.specs.Stores.{unreadable, without_first}
use Rattle.ras_records.proofs.FirstLemmas.{first, first_more, none_readable, unreadable_behind}

-- ---- what calls of the device keep

call_keeps : (call : DeviceCall) (t : Told) → KeepsButDevice t (after_device call t)
unfolding with_put
call_keeps (reg_read reg) t = record { here = refl; disk_calls = refl; slow = refl }
call_keeps (reg_write reg value) t = record { here = refl; disk_calls = refl; slow = register-slow reg value (device_of t) }
call_keeps (range_read place count) t = record { here = refl; disk_calls = refl; slow = refl }
call_keeps (range_write place bytes) t = record { here = refl; disk_calls = refl; slow = refl }
call_keeps (put id bytes) t = record { here = refl; disk_calls = refl; slow = by (refusal_of id bytes t.here.store) }
  where
    by : (refusal : Option PutRefused) → (unless_refused refusal (with_put id bytes (device_of t)) (device_of t)).slow ≡ t.volatile.slow
    by None = refl
    by (Some why) = refl

pub calls_keep : (calls : List DeviceCall) (t : Told) → KeepsButDevice t (after_calls calls t)
calls_keep [] t = record { here = refl; disk_calls = refl; slow = refl }
calls_keep (call ∷ calls) t =
    let u = after_device call t in
    let one = call_keeps call t in
    let rest = calls_keep calls u in
    record {
      here = rest.here ∙ ap (λ (l : Left). record l { store = (after_calls calls u).here.store }) one.here;
      disk_calls = rest.disk_calls ∙ one.disk_calls;
      slow = rest.slow ∙ one.slow;
    }

steps_keep : (steps : List Step) (d : Device) → AreInside steps → IsDevice d → IsDevice (after_steps steps d)
unfolding after_steps
steps_keep [] d inside device = device
steps_keep (s ∷ steps) d inside device = steps_keep steps (after_step s d) inside.1 (is_device_after s d inside.0 device)

pub is_device_told : (lists : List (List InstructionEntry)) (steps : List Step) (t : Told) → IsAdmittedTable lists → AreInside steps → IsDevice (device_of t) → IsDevice (device_of (told_by lists steps t))
is_device_told lists steps t admitted inside device =
    subst IsDevice (sym (told_device lists steps t admitted inside device)) (steps_keep steps (device_of t) inside device)

-- ---- a record that is there

pub held_fits : (id : ℕ) (rs : List Stored) → AllByRecursion Fits rs → holds id rs ≡ true → id < 2 ^ 64
held_fits id [] each held = absurd (false≢true held)
held_fits id (r ∷ rs) each held = by (nat_eq id r.id) refl held (held_fits id rs each.1)
  where
    by : (b : Bool) → nat_eq id r.id ≡ b → (b || holds id rs) ≡ true → (holds id rs ≡ true → id < 2 ^ 64) → id < 2 ^ 64
    by true same there up = let below = each.0.below in let is : id ≡ r.id = grind (arith, nat_tests) in omega (arith, below, is)
    by false other there up = up there

found : (id : ℕ) (rs : List Stored) → holds id rs ≡ true → found_status id rs ≡ Success
found id [] held = absurd (false≢true held)
found id (r ∷ rs) held =
    let some : nat_eq (length (r ∷ rs)) 0 ≡ false = grind (arith, nat_tests) in
    ap (λ b. if b then StoreEmpty else (if holds id (r ∷ rs) then Success else NotFound)) some
    ∙ ap (λ b. if b then Success else NotFound) held

pub held_answer : (id : ℕ) (t : Told) → is_free_in_time t.volatile.slow ≡ true → holds id t.here.store ≡ true → answer_on_found id (device_of t) ≡ Ok tt
held_answer id t free held =
    ap (λ b. if b then by_status (found_status id t.here.store) else Err Busy) free ∙ ap by_status (found id t.here.store held)

-- ---- clears

module _ (lists : List (List InstructionEntry)) (admitted : IsAdmittedTable lists) where
  -- The first readable record is cleared, and then the later ones.
  record OneCleared (id : ℕ) (later : List ℕ) (t : Told) : Type 0 where
    calls : each_calls (clear_calls lists) (id ∷ later) t ≡ clear_calls lists id (device_of t) ++ each_calls (clear_calls lists) later (after_calls (clear_calls lists id (device_of t)) t)
    answer : answer_on_found id (device_of t) ≡ Ok tt
    fits : id < 2 ^ 64
    here : (after_calls (clear_calls lists id (device_of t)) t).here ≡ record t.here { store = without_first 1 t.here.store }
    store : without id t.here.store ≡ without_first 1 t.here.store
    device : IsDevice (device_of (after_calls (clear_calls lists id (device_of t)) t))
    free : is_free_in_time (after_calls (clear_calls lists id (device_of t)) t).volatile.slow ≡ true
    next : readable_ids (after_calls (clear_calls lists id (device_of t)) t).here.store ≡ later

  one_cleared : (id : ℕ) (later : List ℕ) (t : Told) → IsDevice (device_of t) → is_free_in_time t.volatile.slow ≡ true → readable_ids t.here.store ≡ id ∷ later → OneCleared id later t
  one_cleared id later t device free is =
      let own = clear_calls lists id (device_of t) in
      let u = after_calls own t in
      let front = first id later t.here.store device.store.distinct is in
      let fits : id < 2 ^ 64 = held_fits id t.here.store device.store.each front.holds_it in
      let there : u.here ≡ record t.here { store = without_first 1 t.here.store } =
      clear_here lists t admitted device id fits ∙ ap (λ (s : List Stored). record t.here { store = s }) front.without_is in
      record {
        calls = ap (λ (answer : Answer). own ++ (if is_ok answer then each_calls (clear_calls lists) later u else [])) (held_answer id t free front.holds_it);
        answer = held_answer id t free front.holds_it;
        fits = fits;
        here = there;
        store = front.without_is;
        device = is_device_told lists (actions_of (clear_steps id) (device_of t)) t admitted (operation_inside (clear_steps id) (device_of t) (clear_inside id fits)) device;
        free = ap is_free_in_time (calls_keep own t).slow ∙ free;
        next = ap (λ (l : Left). readable_ids l.store) there ∙ front.later_is;
      }

  pub clears_here : (ids : List ℕ) (t : Told) → IsDevice (device_of t) → is_free_in_time t.volatile.slow ≡ true → readable_ids t.here.store ≡ ids
      → (after_calls (each_calls (clear_calls lists) ids t) t).here ≡ record t.here { store = unreadable t.here.store }
  clears_here [] t device free is = ap (λ (s : List Stored). record t.here { store = s }) (sym (none_readable t.here.store is))
  clears_here (id ∷ later) t device free is =
      let own = clear_calls lists id (device_of t) in
      let u = after_calls own t in
      let one = one_cleared id later t device free is in
      ap (λ (calls : List DeviceCall). (after_calls calls t).here) one.calls
      ∙ (ap (λ (v : Told). v.here) (after_both own (each_calls (clear_calls lists) later u) t)
      ∙ (clears_here later u one.device one.free one.next
      ∙ (ap (λ (l : Left). record l { store = unreadable l.store }) one.here
      ∙ ap (λ (s : List Stored). record t.here { store = s }) (unreadable_behind t.here.store))))

  pub clears_moment : (ids : List ℕ) (t : Told) → IsDevice (device_of t) → is_free_in_time t.volatile.slow ≡ true → readable_ids t.here.store ≡ ids
      → (left : Left) → Moment (acts_of (each_calls (clear_calls lists) ids t)) t left → InStore LacksFirst t.here left
  clears_moment [] t device free is left never = absurd never
  clears_moment (id ∷ ids) t device free is left moment =
      let own = clear_calls lists id (device_of t) in
      let u = after_calls own t in
      let later = each_calls (clear_calls lists) ids u in
      let one = one_cleared id ids t device free is in
      elim (moment_parts (acts_of own) (acts_of later) t left (subst (λ (acts : List Act). Moment acts t left) (ap acts_of one.calls ∙ acts_both own later) moment)) [
        | inl m ↦
            (let by = clear_moment lists t admitted device id one.fits left m in
            record {
              store = by.store;
              step = elim by.step [ inl same ↦ record { count = 0; is = same } | inr gone ↦ record { count = 1; is = gone ∙ one.store } ];
              rest = by.rest;
            })
        | inr m ↦
            (let by = clears_moment ids u one.device one.free one.next left m in
            let n = by.step.count in
            record {
              store = by.store;
              step = record { count = suc n; is = by.step.is ∙ (ap (λ (l : Left). without_first n l.store) one.here ∙ first_more n t.here.store) };
              rest = by.rest ∙ ap (λ (l : Left). record l { store = by.store }) one.here;
            })
      ]

  pub clears_answer : (ids : List ℕ) (t : Told) → IsDevice (device_of t) → is_free_in_time t.volatile.slow ≡ true → readable_ids t.here.store ≡ ids → each_answer (clear_calls lists) ids t ≡ Ok tt
  clears_answer [] t device free is = refl
  clears_answer (id ∷ later) t device free is =
      let u = after_calls (clear_calls lists id (device_of t)) t in
      let one = one_cleared id later t device free is in
      ap (λ (answer : Answer). after_answer answer (each_answer (clear_calls lists) later u)) one.answer ∙ clears_answer later u one.device one.free one.next
