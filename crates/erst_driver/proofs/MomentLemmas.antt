-- What a crash of the machine leaves during an operation, and the model after it.
use Rattle.std.proofs.Common.{◌≡◌, ◌∙◌, ℕ, ◌+◌, ◌<◌, ◌≤◌, ◌^◌, List, [], ◌∷◌, length, min, refl, sym, ap, subst, inl, inr, arith}
use Rattle.std.specs.Prelude.{◌⊎◌, Result, Ok, Err}
use Rattle.ras_base.specs.LittleEndian.{AreBytes, number_at}
use Rattle.erst_store.specs.Actions.{range_length}
use Rattle.erst_store.specs.Device.{Device, header_length, length_place}
use Rattle.erst_store.specs.DeviceLaws.{IsDevice, left_to_list}
use Rattle.erst_store.specs.Steps.KeptLemmas.{IsDevice-range}
use Rattle.erst_store.specs.Store.{Stored, most_records, without}
use Rattle.board_core.specs.Doing.{Act, DeviceCall, Moment, after_acts}
use Rattle.board_core.specs.Stop.{Becomes, InStore, Left}
use Rattle.board_core.specs.Told.{Told, device_of}
use Rattle.board_core.proofs.DoingLemmas.{moment_parts}
use Rattle.erst_interp.specs.declared.entries.InstructionEntry.{InstructionEntry}
use Rattle.erst_interp.specs.Admission.{IsAdmittedTable}
use Rattle.erst_interp.specs.Run.{acts_of}
use Rattle.erst_interp.specs.Table.{list_of}
use Rattle.erst_interp.proofs.AdmittedRunLemmas.{faithful}
use Rattle.erst_interp.proofs.BreakLemmas.{acts_both, here_after}
use Rattle.erst_interp.proofs.BreakLemmas.{after_both as after_runs}
use Rattle.erst_interp.proofs.MomentLemmas.{action_moment, leaves_same}
use Rattle.erst_interp.proofs.RunLemmas.{end_device}
use Rattle.erst_driver.specs.declared.refusals.DriverRefused.{DriverRefused}
use Rattle.erst_driver.specs.declared.step.Step.{Step}
use Rattle.erst_driver.specs.Answers.{answer_on_found, found_status, put_status, read_calls, store_after_write, written_id}
use Rattle.erst_driver.specs.Operations.{AreInside, Inside, actions_of, after_step, after_steps, clear_calls, clear_steps, device_calls, end_by, fetch_calls, ids_steps, list_calls, listings, put_in_range, read_steps, told_by, told_by_step, write_calls, write_steps}
use Rattle.erst_driver.specs.Steps.Operating.{ComesThrough}
use Rattle.erst_driver.proofs.ActLemmas.{is_device_after}
use Rattle.erst_driver.proofs.ClearLemmas.{clear_carries}
use Rattle.erst_driver.proofs.DoesLemmas.{inside_both}
use Rattle.erst_driver.proofs.ListLemmas.{listings_both, through_listings}
use Rattle.erst_driver.proofs.OperationLemmas.{store_after, through_operation}
use Rattle.erst_driver.proofs.PlanLemmas.{through_here}
use Rattle.erst_driver.proofs.ReadLemmas.{read_carries}
use Rattle.erst_driver.proofs.ToldLemmas.{clear_after, clear_inside, listings_inside, operation_inside, read_inside, told_device, write_after, write_inside}
use Rattle.erst_driver.proofs.WriteLemmas.{write_carries}

-- A crash leaves what the model says, except the store, which is one that the device passes through.
record LeavesSteps (steps : List Step) (t : Told) (left : Left) : Type 0 where
  rest : left ≡ record t.here { store = left.store }
  through : (left.store ≡ t.here.store) ⊎ ComesThrough steps (device_of t) left.store

steps_moment : (lists : List (List InstructionEntry)) (steps : List Step) (t : Told) (left : Left) → IsAdmittedTable lists → AreInside steps → IsDevice (device_of t)
    → Moment (acts_of (device_calls lists steps (device_of t))) t left → LeavesSteps steps t left
unfolding device_calls ComesThrough
steps_moment lists [] t left admitted inside device never = absurd never
steps_moment lists (s ∷ steps) t left admitted inside device m =
    let here : Inside s = inside.0 in
    let few = here.action in
    let fits : s.action < 2 ^ 64 = omega (arith, few) in
    let list = list_of s.action lists in
    let end = end_by lists s (device_of t) in
    let own = end.state.calls in
    let u = told_by_step lists s t in
    let same : device_of u ≡ end.state.device = end_device list s.input t in
    let one : device_of u ≡ after_step s (device_of t) = same ∙ (faithful s.action list fits (admitted s.action few) s.input (device_of t) device here.input).device in
    let later = device_calls lists steps end.state.device in
    elim (moment_parts (acts_of own) (acts_of later) t left (subst (λ (acts : List Act). Moment acts t left) (acts_both own later) m)) [
      | inl first ↦
          (let leaves = action_moment s.action list s.input t left fits here.input (admitted s.action few) first in
          record {
            rest = leaves.rest;
            through = elim leaves.store_is [ inl before ↦ inl before | inr after ↦ inr (inr (through_here steps (after_step s (device_of t)) left.store after)) ];
          })
      | inr second ↦
          (let there : IsDevice (device_of u) = subst IsDevice (sym one) (is_device_after s (device_of t) here device) in
          let leaves = steps_moment lists steps u left admitted inside.1 there (subst (λ (d : Device). Moment (acts_of (device_calls lists steps d)) u left) (sym same) second) in
          record {
            rest = leaves.rest ∙ ap (λ (l : Left). record l { store = left.store }) (here_after own t);
            through = elim leaves.through [
              | inl before ↦ inr (inr (through_here steps (after_step s (device_of t)) left.store (before ∙ ap (λ (d : Device). d.store) one)))
              | inr through ↦ inr (inr (subst (λ (d : Device). ComesThrough steps d left.store) one through))
            ];
          })
    ]

in_store : (store : List Stored) (t : Told) (left : Left) → left ≡ record t.here { store = left.store } → Becomes store t.here.store left.store → InStore (Becomes store) t.here left
in_store store t left rest is = record { store = left.store; step = is; rest = rest }

same_left : (t : Told) (left : Left) → left ≡ record t.here { store = left.store } → left.store ≡ t.here.store → left ≡ t.here
same_left t left rest is = rest ∙ ap (λ (s : List Stored). record t.here { store = s }) is

here_is : (calls : List DeviceCall) (t : Told) (store : List Stored) → (after_acts (acts_of calls) t).here.store ≡ store → (after_acts (acts_of calls) t).here ≡ record t.here { store = store }
here_is calls t store is = here_after calls t ∙ ap (λ (s : List Stored). record t.here { store = s }) is

module _ (lists : List (List InstructionEntry)) (t : Told) (admitted : IsAdmittedTable lists) (device : IsDevice (device_of t)) where
  -- ---- a clear

  pub clear_here : (id : ℕ) → id < 2 ^ 64 → (after_acts (acts_of (clear_calls lists id (device_of t))) t).here ≡ record t.here { store = without id t.here.store }
  clear_here id fits = here_is (clear_calls lists id (device_of t)) t (without id t.here.store) (clear_after lists id t admitted fits device)

  pub clear_moment : (id : ℕ) → id < 2 ^ 64 → (left : Left) → Moment (acts_of (clear_calls lists id (device_of t))) t left → InStore (Becomes (without id t.here.store)) t.here left
  clear_moment id fits left m =
      let d = device_of t in
      let leaves = steps_moment lists (actions_of (clear_steps id) d) t left admitted (operation_inside (clear_steps id) d (clear_inside id fits)) device m in
      in_store (without id t.here.store) t left leaves.rest (elim leaves.through [
        | inl same ↦ inl same
        | inr through ↦ through_operation (clear_steps id) d (found_status id t.here.store) (without id t.here.store) (clear_carries id d) left.store through
      ])

  -- ---- a read

  read_store_after : (id : ℕ) → id < 2 ^ 64 → (told_by lists (actions_of (read_steps id) (device_of t)) t).here.store ≡ t.here.store
  read_store_after id fits =
      let d = device_of t in
      ap (λ (e : Device). e.store) (told_device lists (actions_of (read_steps id) d) t admitted (operation_inside (read_steps id) d (read_inside id fits)) device)
      ∙ store_after (read_steps id) d (found_status id t.here.store) t.here.store (read_carries id d device)

  fetched_here : (answer : Result (Unit {0}) DriverRefused) (u : Told) → (after_acts (acts_of (fetch_calls answer)) u).here ≡ u.here
  fetched_here (Ok done) u = refl
  fetched_here (Err why) u = refl

  read_told_here : (id : ℕ) → id < 2 ^ 64 → (told_by lists (actions_of (read_steps id) (device_of t)) t).here ≡ t.here
  read_told_here id fits = here_is (device_calls lists (actions_of (read_steps id) (device_of t)) (device_of t)) t t.here.store (read_store_after id fits)

  pub read_here : (id : ℕ) → id < 2 ^ 64 → (after_acts (acts_of (read_calls lists id (device_of t))) t).here ≡ t.here
  read_here id fits =
      let d = device_of t in
      let own = device_calls lists (actions_of (read_steps id) d) d in
      ap (λ (u : Told). u.here) (after_runs own (fetch_calls (answer_on_found id d)) t) ∙ fetched_here (answer_on_found id d) (after_acts (acts_of own) t) ∙ read_told_here id fits

  fetch_moment : (answer : Result (Unit {0}) DriverRefused) (u : Told) (left : Left) → Moment (acts_of (fetch_calls answer)) u left → left ≡ u.here
  fetch_moment (Ok done) u left (inl same) = same
  fetch_moment (Ok done) u left (inr never) = absurd never
  fetch_moment (Err why) u left never = absurd never

  pub read_moment : (id : ℕ) → id < 2 ^ 64 → (left : Left) → Moment (acts_of (read_calls lists id (device_of t))) t left → left ≡ t.here
  read_moment id fits left m =
      let d = device_of t in
      let own = device_calls lists (actions_of (read_steps id) d) d in
      let fetch = fetch_calls (answer_on_found id d) in
      elim (moment_parts (acts_of own) (acts_of fetch) t left (subst (λ (acts : List Act). Moment acts t left) (acts_both own fetch) m)) [
        | inl first ↦
            (let leaves = steps_moment lists (actions_of (read_steps id) d) t left admitted (operation_inside (read_steps id) d (read_inside id fits)) device first in
            same_left t left leaves.rest (elim leaves.through [
              | inl same ↦ same
              | inr through ↦ elim (through_operation (read_steps id) d (found_status id t.here.store) t.here.store (read_carries id d device) left.store through) [ inl before ↦ before | inr after ↦ after ]
            ]))
        | inr second ↦ fetch_moment (answer_on_found id d) (after_acts (acts_of own) t) left second ∙ read_told_here id fits
      ]

  -- ---- a listing

  list_inside : AreInside (ids_steps (device_of t))
  list_inside = inside_both (listings (left_to_list (device_of t))) (listings (min (length t.here.store + 1) most_records)) (listings_inside _) (listings_inside _)

  listed_through : (store : List Stored) → ComesThrough (ids_steps (device_of t)) (device_of t) store → store ≡ t.here.store
  listed_through store through = through_listings (left_to_list (device_of t) + min (length t.here.store + 1) most_records) (device_of t) store
      (subst (λ (steps : List Step). ComesThrough steps (device_of t) store) (listings_both (left_to_list (device_of t)) (min (length t.here.store + 1) most_records)) through)

  pub list_moment : (left : Left) → Moment (acts_of (list_calls lists (device_of t))) t left → left ≡ t.here
  list_moment left m =
      let leaves = steps_moment lists (ids_steps (device_of t)) t left admitted list_inside device m in
      same_left t left leaves.rest (elim leaves.through [ inl same ↦ same | inr through ↦ listed_through left.store through ])

  through_end : (steps : List Step) (d : Device) → ComesThrough steps d (after_steps steps d).store
  unfolding ComesThrough after_steps
  through_end [] d = refl
  through_end (s ∷ steps) d = inr (through_end steps (after_step s d))

  pub list_here : (after_acts (acts_of (list_calls lists (device_of t))) t).here ≡ t.here
  list_here = here_is (list_calls lists (device_of t)) t t.here.store
      (ap (λ (d : Device). d.store) (told_device lists (ids_steps (device_of t)) t admitted list_inside device)
      ∙ listed_through (after_steps (ids_steps (device_of t)) (device_of t)).store (through_end (ids_steps (device_of t)) (device_of t)))

  -- ---- a write

  module _ (bytes : List ℕ) (long : header_length ≤ length bytes) (short : length bytes ≤ range_length) (whole : number_at length_place 4 bytes ≡ length bytes) (are : AreBytes bytes) where
    pub write_here : (after_acts (acts_of (write_calls lists bytes (device_of t))) t).here ≡ record t.here { store = store_after_write bytes t.here.store }
    write_here = here_is (write_calls lists bytes (device_of t)) t (store_after_write bytes t.here.store) (write_after lists bytes t long short whole admitted are device)

    pub write_moment : (left : Left) → Moment (acts_of (write_calls lists bytes (device_of t))) t left → InStore (Becomes (store_after_write bytes t.here.store)) t.here left
    write_moment left (inl same) = (let leaves = leaves_same (store_after_write bytes t.here.store) t left same in in_store (store_after_write bytes t.here.store) t left leaves.rest leaves.store_is)
    write_moment left (inr later) =
        let u = put_in_range bytes t in
        let there : IsDevice (device_of u) = IsDevice-range 0 bytes (device_of t) device are (omega (arith, short)) in
        let leaves = steps_moment lists (actions_of write_steps (device_of u)) u left admitted (operation_inside write_steps (device_of u) write_inside) there later in
        in_store (store_after_write bytes t.here.store) t left leaves.rest (elim leaves.through [
          | inl same ↦ inl same
          | inr through ↦ through_operation write_steps (device_of u) (put_status (written_id bytes) t.here.store) (store_after_write bytes t.here.store) (write_carries bytes long short whole t) left.store through
        ])
