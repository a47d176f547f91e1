-- Device calls that don't change the store: listing and reading.
use Rattle.std.proofs.Common.{◌≡◌, ◌∙◌, ℕ, ◌<◌, ◌^◌, Bool, true, false, List, [], ◌∷◌, ◌++◌, Ok, Err, inl, inr, refl, sym, ap, subst, arith, if◌then◌else◌}
use Rattle.std.specs.List.{AllByRecursion}
use Rattle.std.specs.Result.{is_ok}
use Rattle.erst_store.specs.DeviceLaws.{IsDevice}
use Rattle.erst_store.specs.Store.{Fits, Stored}
use Rattle.erst_store.specs.Store.{ids as ids_in}
use Rattle.board_core.specs.Doing.{Act, DeviceCall, Moment}
use Rattle.board_core.specs.Stop.{Left}
use Rattle.board_core.specs.Told.{Told, device_of}
use Rattle.board_core.proofs.DoingLemmas.{moment_first, moment_parts}
use Rattle.erst_interp.specs.declared.entries.InstructionEntry.{InstructionEntry}
use Rattle.erst_interp.specs.Admission.{IsAdmittedTable}
use Rattle.erst_interp.specs.Run.{acts_of}
use Rattle.erst_interp.proofs.BreakLemmas.{acts_both, after_both}
use Rattle.erst_driver.specs.Answers.{Answer, answer_on_found, read_calls}
use Rattle.erst_driver.specs.Operations.{actions_of, device_calls, fetch_calls, list_calls, read_steps}
use Rattle.erst_driver.proofs.DoesLemmas.{moment_after}
use Rattle.erst_driver.proofs.MomentLemmas.{list_here, list_moment, read_here, read_moment}
use Rattle.erst_driver.proofs.ToldLemmas.{operation_inside, read_inside}
use Rattle.ras_records.specs.Each.{after_calls, each_calls}
use Rattle.ras_records.specs.Polls.{look_calls}
use Rattle.ras_records.proofs.ClearingLemmas.{is_device_told}
use Rattle.ras_records.proofs.LookingLemmas.{is_device_listed}

-- The model of files, store and text is unchanged, and so is what a crash meanwhile leaves.
record Quiet (calls : List DeviceCall) (t : Told) : Type 0 where
  here : (after_calls calls t).here ≡ t.here
  device : IsDevice (device_of (after_calls calls t))
  moments : (left : Left) → Moment (acts_of calls) t left → left ≡ t.here

quiet_none : (t : Told) → IsDevice (device_of t) → Quiet [] t
quiet_none t device = record { here = refl; device = device; moments = λ left never. absurd never }

quiet_both : (xs ys : List DeviceCall) (t : Told) → Quiet xs t → Quiet ys (after_calls xs t) → Quiet (xs ++ ys) t
quiet_both xs ys t first second =
    let both = after_both xs ys t in
    record {
      here = ap (λ (u : Told). u.here) both ∙ (second.here ∙ first.here);
      device = subst (λ (u : Told). IsDevice (device_of u)) (sym both) second.device;
      moments = λ left moment. elim (moment_parts (acts_of xs) (acts_of ys) t left (subst (λ (acts : List Act). Moment acts t left) (acts_both xs ys) moment)) [
        | inl m ↦ first.moments left m
        | inr m ↦ second.moments left m ∙ first.here
      ];
    }

quiet_begun : (done later : List DeviceCall) (t : Told) → Quiet (done ++ later) t → (after_calls done t).here ≡ t.here
quiet_begun [] later t quiet = refl
quiet_begun (call ∷ done) later t quiet =
    quiet.moments (after_calls (call ∷ done) t).here
    (subst (λ (acts : List Act). Moment acts t (after_calls (call ∷ done) t).here) (sym (acts_both (call ∷ done) later))
    (moment_first (acts_of (call ∷ done)) (acts_of later) t (after_calls (call ∷ done) t).here (moment_after (call ∷ done) t tt)))

-- ---- reads

AreNumbers : List ℕ → Type 0
AreNumbers ids = AllByRecursion (λ id. id < 2 ^ 64) ids

module _ (lists : List (List InstructionEntry)) (admitted : IsAdmittedTable lists) where
  fetched : (answer : Answer) (u : Told) → IsDevice (device_of u) → IsDevice (device_of (after_calls (fetch_calls answer) u))
  fetched (Ok done) u device = device
  fetched (Err why) u device = device

  quiet_read : (id : ℕ) (t : Told) → id < 2 ^ 64 → IsDevice (device_of t) → Quiet (read_calls lists id (device_of t)) t
  quiet_read id t fits device =
      let d = device_of t in
      let own = device_calls lists (actions_of (read_steps id) d) d in
      let fetch = fetch_calls (answer_on_found id d) in
      record {
        here = read_here lists t admitted device id fits;
        device = subst (λ (u : Told). IsDevice (device_of u)) (sym (after_both own fetch t))
            (fetched (answer_on_found id d) (after_calls own t) (is_device_told lists (actions_of (read_steps id) d) t admitted (operation_inside (read_steps id) d (read_inside id fits)) device));
        moments = read_moment lists t admitted device id fits;
      }

  quiet_reads : (ids : List ℕ) → AreNumbers ids → (t : Told) → IsDevice (device_of t) → Quiet (each_calls (read_calls lists) ids t) t
  unfolding AreNumbers
  quiet_reads [] all t device = quiet_none t device
  quiet_reads (id ∷ ids) all t device =
      let own = read_calls lists id (device_of t) in
      let first = quiet_read id t all.0 device in
      quiet_both own (if is_ok (answer_on_found id (device_of t)) then each_calls (read_calls lists) ids (after_calls own t) else []) t first
      (by (is_ok (answer_on_found id (device_of t))) first.device (quiet_reads ids all.1 (after_calls own t) first.device))
    where
      by : (b : Bool) → IsDevice (device_of (after_calls (read_calls lists id (device_of t)) t))
          → Quiet (each_calls (read_calls lists) ids (after_calls (read_calls lists id (device_of t)) t)) (after_calls (read_calls lists id (device_of t)) t)
          → Quiet (if b then each_calls (read_calls lists) ids (after_calls (read_calls lists id (device_of t)) t) else []) (after_calls (read_calls lists id (device_of t)) t)
      by true still later = later
      by false still later = quiet_none (after_calls (read_calls lists id (device_of t)) t) still

  stored_numbers : (rs : List Stored) → AllByRecursion Fits rs → AreNumbers (ids_in rs)
  unfolding AreNumbers
  stored_numbers [] all = tt
  stored_numbers (r ∷ rs) all = (let below = all.0.below in omega (arith, below), stored_numbers rs all.1)

  -- ---- a look

  quiet_look : (t : Told) → IsDevice (device_of t) → Quiet (look_calls lists t) t
  quiet_look t device =
      let own = list_calls lists (device_of t) in
      let there = is_device_listed lists t admitted device in
      quiet_both own (each_calls (read_calls lists) (ids_in t.here.store) (after_calls own t)) t
      (record { here = list_here lists t admitted device; device = there; moments = list_moment lists t admitted device })
      (quiet_reads (ids_in t.here.store) (stored_numbers t.here.store device.store.each) (after_calls own t) there)

  pub look_here : (t : Told) → IsDevice (device_of t) → (after_calls (look_calls lists t) t).here ≡ t.here
  look_here t device = (quiet_look t device).here

  pub look_device : (t : Told) → IsDevice (device_of t) → IsDevice (device_of (after_calls (look_calls lists t) t))
  look_device t device = (quiet_look t device).device

  pub look_moment : (t : Told) → IsDevice (device_of t) → (left : Left) → Moment (acts_of (look_calls lists t)) t left → left ≡ t.here
  look_moment t device = (quiet_look t device).moments

  pub look_begun : (t : Told) → IsDevice (device_of t) → (done later : List DeviceCall) → done ++ later ≡ look_calls lists t → (after_calls done t).here ≡ t.here
  look_begun t device done later is = quiet_begun done later t (subst (λ (calls : List DeviceCall). Quiet calls t) (sym is) (quiet_look t device))
