-- A saved record is put.
use Rattle.std.proofs.Common.{subst, ap, sym, ◌∙◌, ◌≡◌, ◌≤◌, ℕ, ◌||◌, Bool, true, false, nat_lt, List, length, Option, Some, None, refl, arith, if◌then◌else◌}
use Rattle.std.specs.Option.{option_map_or}
use Rattle.std.proofs.lemmas.Bool.Decides.{nat_tests}
use Rattle.erst_store.specs.declared.store.PutRefused.{PutRefused}
use Rattle.erst_store.specs.declared.store.PutRefused.TheVariants.{ReservedId, TooLong, StoreFull}
use Rattle.erst_store.specs.Store.{Stored, is_full_for, is_reserved, most_bytes, with_record}
use Rattle.erst_driver.specs.Answers.{store_after_write, written_id}
use Rattle.ras_events.specs.Stores.{store_with}
use Rattle.ras_base.specs.LittleEndian.{AreBytes, number_at}
use Rattle.erst_store.specs.Device.{length_place}
use Rattle.erst_store.specs.DeviceLaws.{IsDevice}
use Rattle.board_core.specs.Doing.{Moment}
use Rattle.board_core.specs.Stop.{Becomes, InStore, Left}
use Rattle.board_core.specs.Told.{Told, device_of}
use Rattle.erst_interp.specs.declared.entries.InstructionEntry.{InstructionEntry}
use Rattle.erst_interp.specs.Admission.{IsAdmittedTable}
use Rattle.erst_interp.specs.Run.{acts_of}
use Rattle.erst_driver.specs.Operations.{write_calls}
use Rattle.erst_driver.proofs.MomentLemmas.{write_here, write_moment}
use Rattle.ras_records.specs.Each.{after_calls}

saved_is_put : (bytes : List ℕ) (store : List Stored) → length bytes ≤ most_bytes → store_after_write bytes store ≡ store_with (written_id bytes) bytes store
saved_is_put bytes store short = by (is_reserved id) (is_full_for id store) (nat_lt most_bytes (length bytes)) long
  where
    id : ℕ
    id = written_id bytes

    long : nat_lt most_bytes (length bytes) ≡ false
    long = grind (arith, nat_tests)

    refusal : Bool → Bool → Bool → Option PutRefused
    refusal reserved full long = if reserved then Some ReservedId else (if long then Some TooLong else (if full then Some StoreFull else None))

    by : (reserved full long : Bool) → long ≡ false → (if reserved || full then store else with_record id bytes store) ≡ option_map_or (λ why. store) (refusal reserved full long) (with_record id bytes store)
    by true full long is = refl
    by false true true is = refl
    by false true false is = refl
    by false false true is = cc
    by false false false is = refl

module _ (lists : List (List InstructionEntry)) (admitted : IsAdmittedTable lists) (t : Told) (device : IsDevice (device_of t)) (bytes : List ℕ) (length_is : length bytes ≡ 456) (told : number_at length_place 4 bytes ≡ 456) (are : AreBytes bytes) where
  put_store : store_after_write bytes t.here.store ≡ store_with (written_id bytes) bytes t.here.store
  put_store = saved_is_put bytes t.here.store (omega (arith, length_is))

  pub save_here : (after_calls (write_calls lists bytes (device_of t)) t).here ≡ record t.here { store = store_with (written_id bytes) bytes t.here.store }
  save_here = write_here lists t admitted device bytes (omega (arith, length_is)) (omega (arith, length_is)) (told ∙ sym length_is) are ∙ ap (λ (s : List Stored). record t.here { store = s }) put_store

  pub save_moment : (left : Left) → Moment (acts_of (write_calls lists bytes (device_of t))) t left → InStore (Becomes (store_with (written_id bytes) bytes t.here.store)) t.here left
  save_moment left moment = subst (λ (s : List Stored). InStore (Becomes s) t.here left) put_store (write_moment lists t admitted device bytes (omega (arith, length_is)) (omega (arith, length_is)) (told ∙ sym length_is) are left moment)
