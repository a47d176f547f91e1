-- The clauses of the public operations, by what their actions do.
use Rattle.std.proofs.Common.{◌≡◌, ℕ, ◌<◌, ◌≤◌, ◌^◌, List, length, inl, inr}
use Rattle.std.specs.Prelude.{◌⊎◌, Result, IfSome}
use Rattle.ras_base.specs.LittleEndian.{AreBytes, number_at}
use Rattle.erst_store.specs.Actions.{range_length}
use Rattle.erst_store.specs.Device.{header_length, length_place}
use Rattle.erst_store.specs.DeviceLaws.{IsDevice}
use Rattle.erst_store.specs.Store.{without}
use Rattle.board_core.specs.Clock.{Passes, StoreIsLeft}
use Rattle.board_core.specs.Doing.{Seen}
use Rattle.board_core.specs.Stop.{InStore}
use Rattle.board_core.specs.Told.{device_of}
use Rattle.erst_interp.specs.declared.entries.InstructionEntry.{InstructionEntry}
use Rattle.erst_interp.specs.Admission.{IsAdmittedTable}
use Rattle.erst_interp.specs.Steps.Running.{Stays as Unchanged}
use Rattle.erst_driver.specs.declared.refusals.DriverRefused.{DriverRefused}
use Rattle.erst_driver.specs.Answers.{Answer, Clears, IsAnswered, ListsRecords, Puts, RunsOperation, Stays, answer_of, answer_on_found, answer_on_put, read_calls, store_after_write, written_id}
use Rattle.erst_driver.specs.Operations.{actions_of, clear_calls, clear_steps, device_calls, fetch_calls, list_calls, read_steps, write_calls}
use Rattle.erst_driver.specs.Steps.Operating.{HasDevice, ListsAll, Operates, Reads, Writes}
use Rattle.erst_driver.proofs.ClearLemmas.{clear_answers, clear_stops}
use Rattle.erst_driver.proofs.DeviceLemmas.{over_device_told, over_told}
use Rattle.erst_driver.proofs.DoesLemmas.{at_told, does_listing, does_nothing_else, does_quietly, does_to_store, has_call, more_calls, over_each}
use Rattle.erst_driver.proofs.ListLemmas.{all_cause, all_kept, all_refused, all_stays, all_stored, all_told, ids_calls}
use Rattle.erst_driver.proofs.OperationLemmas.{cause_of, gives_as, kept_of, leaves_of, stops_of, stored_of}
use Rattle.erst_driver.proofs.ReadLemmas.{read_cause, read_gives, read_kept, read_stays, read_stored, read_told}
use Rattle.erst_driver.proofs.ToldLemmas.{clear_after, clear_inside, read_inside, write_after}
use Rattle.erst_driver.proofs.WriteLemmas.{write_cause, write_gives, write_kept, write_puts, write_stored, write_told}

module _ {X : Type 0} (see : X → Seen) (lists : List (List InstructionEntry)) (a b : X) where
  pub clears : (id : ℕ) → id < 2 ^ 64 → (result : Answer) → Operates lists (actions_of (clear_steps id)) (answer_of (clear_steps id)) result (see a) (see b) → IsAnswered result → HasDevice lists (see a).told
      → RunsOperation see (clear_calls lists id) (answer_on_found id) (Clears id) result a b
  clears id fits result operates answered has =
      let plan = actions_of (clear_steps id) in
      let told = (see a).told in
      let leaves = over_told lists _ _ has (leaves_of lists plan (answer_of (clear_steps id)) (see a) (see b) result operates) in
      let cause = cause_of lists plan (answer_of (clear_steps id)) (see a) (see b) result operates in
      let stored = stored_of lists plan (answer_of (clear_steps id)) (see a) (see b) result operates in
      let stops = λ (before : StoreIsLeft told (see a).clock). stops_of lists plan (answer_of (clear_steps id)) (see a) (see b) (Clears id told) before (λ x y. clear_stops id told x y has.device) result operates in
      record {
        does = over_each _ told (λ t is.
            (let calls = clear_calls lists id (device_of t) in
            does_to_store see a b calls t is (has_call lists _ _ (device_of t) has.admitted (clear_inside id fits).0)
            (without id t.here.store) (clear_after lists id t has.admitted fits (at_told _ told t has.device is))
            (Clears id) (λ new becomes. becomes) stops result stored (at_told _ told t leaves is) cause answered));
        answers = over_told lists _ _ has (gives_as lists plan (answer_of (clear_steps id)) (see a) (see b) _ (clear_answers id) result operates);
        kept = kept_of lists plan (answer_of (clear_steps id)) (see a) (see b) result operates;
        stops = stops;
        ends = record { cause = cause; refused = answered };
        device = has.device;
      }

  pub reads : (id : ℕ) → id < 2 ^ 64 → (buffer : List ℕ) (result : Answer) → Reads lists (read_steps id) buffer result (see a) (see b) → IsAnswered result → HasDevice lists (see a).told
      → RunsOperation see (read_calls lists id) (answer_on_found id) Stays result a b
  reads id fits buffer result done answered has =
      let told = (see a).told in
      let leaves = over_told lists _ _ has (read_told lists id buffer (see a) (see b) result done) in
      let stored = read_stored lists id buffer (see a) (see b) result done in
      let stops = λ (before : StoreIsLeft told (see a).clock). read_stays lists id buffer (see a) (see b) result has done before in
      let cause = read_cause lists id buffer (see a) (see b) result done in
      record {
        does = over_each _ told (λ t is.
            (let d = device_of t in
            let some = has_call lists _ _ d has.admitted (read_inside id fits).0 in
            does_quietly see a b (read_calls lists id d) t is (more_calls (device_calls lists (actions_of (read_steps id) d) d) (fetch_calls (answer_on_found id d)) some) stops
            result stored (at_told _ told t leaves is) cause answered));
        answers = over_told lists _ _ has (read_gives lists id buffer (see a) (see b) result done);
        kept = read_kept lists id buffer (see a) (see b) result done;
        stops = stops;
        ends = record { cause = cause; refused = answered };
        device = has.device;
      }

  -- The bytes weren't written into the range, or they were.
  pub puts : (bytes : List ℕ) (long : header_length ≤ length bytes) (short : length bytes ≤ range_length) (whole : number_at length_place 4 bytes ≡ length bytes)
      → Passes (InStore Unchanged) (see a).clock (see b).clock ⊎ (IsAdmittedTable lists × AreBytes bytes) → (result : Answer) → Writes lists bytes result (see a) (see b) → IsAnswered result
      → IfSome (see a).told (λ t. IsDevice (device_of t)) → RunsOperation see (write_calls lists bytes) (answer_on_put (written_id bytes)) (Puts bytes) result a b
  puts bytes long short whole filled result writes answered device =
      let told = (see a).told in
      let cause = write_cause bytes lists (see a) (see b) result writes in
      let leaves = over_device_told _ _ device (write_told bytes lists (see a) (see b) result writes) in
      let stored = write_stored bytes lists (see a) (see b) result writes in
      let stops = λ (before : StoreIsLeft told (see a).clock). write_puts bytes long short whole lists (see a) (see b) result device writes before in
      record {
        does = over_each _ told (λ t is.
            (let calls = write_calls lists bytes (device_of t) in
            elim filled [
              | inl quiet ↦ does_nothing_else see a b calls t is tt quiet result stored (at_told _ told t leaves is) cause answered
              | inr full ↦ does_to_store see a b calls t is tt (store_after_write bytes t.here.store)
                  (write_after lists bytes t long short whole full.0 full.1 (at_told _ told t device is))
                  (Puts bytes) (λ new becomes. becomes) stops result stored (at_told _ told t leaves is) cause answered
            ]));
        answers = over_device_told _ _ device (write_gives bytes long short whole lists (see a) (see b) result writes);
        kept = write_kept bytes lists (see a) (see b) result writes;
        stops = stops;
        ends = record { cause = cause; refused = answered };
        device = device;
      }

  pub lists_records : {V : Type 0} (view : V → List ℕ) (result : Result V DriverRefused) → ListsAll view lists result (see a) (see b) → HasDevice lists (see a).told → ListsRecords see (list_calls lists) result a b
  lists_records view result all has =
      let told = (see a).told in
      let leaves = over_told lists _ _ has (all_told view lists (see a) (see b) result all) in
      let stored = all_stored view lists (see a) (see b) result all in
      let stops = λ (before : StoreIsLeft told (see a).clock). all_stays view lists (see a) (see b) result has all before in
      let cause = all_cause view lists (see a) (see b) result all in
      let refused = all_refused view lists (see a) (see b) result all in
      record {
        does = over_each _ told (λ t is.
            does_listing see a b (list_calls lists (device_of t)) t is (ids_calls lists (device_of t) has.admitted) stops result stored (at_told _ told t leaves is) cause refused);
        refused = refused;
        kept = all_kept view lists (see a) (see b) result all;
        stops = stops;
        cause = cause;
        device = has.device;
      }
