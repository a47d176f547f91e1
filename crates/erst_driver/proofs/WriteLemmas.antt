-- What a write leads to.
use Rattle.std.proofs.Common.{◌≡◌, ◌∙◌, ℕ, ◌+◌, ◌≤◌, Bool, true, false, ◌||◌, List, [], ◌∷◌, ◌++◌, length, take, drop, Option, Some, None, refl, sym, ap, subst, inl, inr, arith, if◌then◌else◌}
use Rattle.std.proofs.Math.Seq.{take-append_seam}
use Rattle.std.proofs.lemmas.Bool.Decides.{nat_tests}
use Rattle.std.specs.Prelude.{◌⊎◌, Ok, Err, IfSome}
use Rattle.ras_base.specs.LittleEndian.{AreBytes, number_at}
use Rattle.ras_base.specs.Steps.LittleEndianLemmas.{number_at-append}
use Rattle.erst_store.specs.declared.device.Command.TheVariants.{Write}
use Rattle.erst_store.specs.declared.device.CommandStatus.{CommandStatus}
use Rattle.erst_store.specs.declared.device.CommandStatus.TheVariants.{Success, NotEnoughSpace}
use Rattle.erst_store.specs.Actions.{execute_operation, set_record_offset, range_length}
use Rattle.erst_store.specs.Store.{Stored, with_record, is_reserved, is_full_for}
use Rattle.erst_store.specs.Device.{Device, act, busy_device, range_with, header_length, length_place, length_at, id_at, record_at, is_record_out, is_write_refused}
use Rattle.erst_store.specs.DeviceLaws.{IsDevice}
use Rattle.erst_store.specs.Steps.KeptLemmas.{IsDevice-range}
use Rattle.board_core.specs.Clock.{Passes, StoreIsLeft}
use Rattle.board_core.specs.Stop.{InStore}
use Rattle.board_core.specs.Told.{Told, device_of, Relates, Steps}
use Rattle.erst_interp.specs.declared.entries.InstructionEntry.{InstructionEntry}
use Rattle.erst_interp.specs.Run.{KeepsButDevice, IsCutShort}
use Rattle.board_core.specs.Doing.{Seen, range_write}
use Rattle.erst_interp.specs.Steps.Running.{GoesWell, Fails, Stays}
use Rattle.erst_interp.proofs.BreakLemmas.{off_more, off_after}
use Rattle.erst_interp.proofs.TouchLemmas.{well_both, well_fails, fails_more}
use Rattle.erst_driver.specs.declared.refusals.DriverRefused.TheVariants.{Register, Busy, NoMemory, Status as EndedWith}
use Rattle.erst_driver.specs.Operations.{actions_of, write_steps, after_steps, device_calls, put_in_range, write_calls}
use Rattle.erst_driver.specs.Answers.{Answer, answer_of, written_id, is_put_refused, put_status, store_after_write, answer_on_put, AnswersAs, HasCauseIn, Puts}
use Rattle.erst_driver.specs.Steps.Operating.{KeepsStored, Leaves, Over, StoreIn, ComesThrough, Tells, Done, Operates, StoreInWrite, Written, FailsWrite, Writes}
use Rattle.erst_driver.proofs.PlanLemmas.{over_at, over_more, everywhere}
use Rattle.erst_driver.proofs.OperationLemmas.{Carries, through_operation, answer_is, passes_at}

-- ---- the record in the range

record InFront (bytes range : List ℕ) : Type 0 where
  inside : is_record_out (range_with 0 bytes range) 0 ≡ false
  id_is : id_at (range_with 0 bytes range) 0 ≡ written_id bytes
  record_is : record_at (range_with 0 bytes range) 0 ≡ bytes

in_front : (bytes range : List ℕ) → header_length ≤ length bytes → length bytes ≤ range_length → number_at length_place 4 bytes ≡ length bytes → InFront bytes range
unfolding range_with
in_front bytes range long short whole =
    let rest = drop (0 + length bytes) range in
    let length_is : length_at (range_with 0 bytes range) 0 ≡ length bytes = number_at-append 20 4 bytes rest (omega (arith, long)) ∙ whole in
    record {
      inside = grind (arith, nat_tests, length_is, long, short);
      id_is = number_at-append 96 8 bytes rest (omega (arith, long));
      record_is = ap (λ (n : ℕ). take n (bytes ++ rest)) length_is ∙ take-append_seam bytes rest;
    }

-- ---- the device at EXECUTE, and what the command makes of it

abbrev begun : Device → Device
begun d = record d { command = Some Write; value = 0; offset = 0; action = set_record_offset }

abbrev written : Bool → Device → Device
written refused d =
    if refused then record d { status = NotEnoughSpace }
    else record d { store = with_record (id_at d.range d.offset) (record_at d.range d.offset) d.store; cursor = 0; status = Success }

abbrev carried : Bool → Device → Device
carried refused d = record (busy_device (written refused (begun d))) { action = execute_operation }

record WriteDone (d e : Device) (status : CommandStatus) (store : List Stored) : Type 0 where
  busy : e.busy ≡ d.slow
  status_is : e.status ≡ status
  store_is : e.store ≡ store

by_cases : (d : Device) (b : Bool) → WriteDone d (carried b d) (if b then NotEnoughSpace else Success) (if b then d.store else with_record (id_at d.range 0) (record_at d.range 0) d.store)
by_cases d true = record { busy = refl; status_is = refl; store_is = refl }
by_cases d false = record { busy = refl; status_is = refl; store_is = refl }

is_carried : (d : Device) → after_steps write_steps d ≡ carried (is_write_refused (begun d)) d
unfolding act after_steps
is_carried d = refl

through_write : (d : Device) (mid : List Stored) → ComesThrough write_steps d mid → (mid ≡ d.store) ⊎ (mid ≡ (after_steps write_steps d).store)
unfolding act after_steps ComesThrough
through_write d mid is =
    elim is [
      | inl here ↦ inl here
      | inr later ↦ elim later [ inl here ↦ inl here | inr later ↦ elim later [ inl here ↦ inl here | inr last ↦ inr last ] ]
    ]

module _ (bytes : List ℕ) (long : header_length ≤ length bytes) (short : length bytes ≤ range_length) (whole : number_at length_place 4 bytes ≡ length bytes) where
  carries_with : (d : Device) (range : List ℕ) → d.range ≡ range_with 0 bytes range → Carries write_steps d (put_status (written_id bytes) d.store) (store_after_write bytes d.store)
  carries_with d range is =
      let front : InFront bytes range = in_front bytes range long short whole in
      let id : id_at d.range 0 ≡ written_id bytes = ap (λ (r : List ℕ). id_at r 0) is ∙ front.id_is in
      let bytes_are : record_at d.range 0 ≡ bytes = ap (λ (r : List ℕ). record_at r 0) is ∙ front.record_is in
      let out : is_record_out d.range 0 ≡ false = ap (λ (r : List ℕ). is_record_out r 0) is ∙ front.inside in
      let refused : is_write_refused (begun d) ≡ is_put_refused (written_id bytes) d.store =
      ap (λ (b : Bool). b || (is_reserved (id_at d.range 0) || is_full_for (id_at d.range 0) d.store)) out
      ∙ ap (λ (n : ℕ). is_reserved n || is_full_for n d.store) id in
      let b = is_put_refused (written_id bytes) d.store in
      let cases = by_cases d b in
      let e_is : after_steps write_steps d ≡ carried b d = is_carried d ∙ ap (λ (c : Bool). carried c d) refused in
      let store_is : (after_steps write_steps d).store ≡ store_after_write bytes d.store =
      ap (λ (e : Device). e.store) e_is ∙ cases.store_is
      ∙ ap (λ (n : ℕ). if b then d.store else with_record n (record_at d.range 0) d.store) id
      ∙ ap (λ (bs : List ℕ). if b then d.store else with_record (written_id bytes) bs d.store) bytes_are in
      record {
        busy = ap (λ (e : Device). e.busy) e_is ∙ cases.busy;
        status_is = ap (λ (e : Device). e.status) e_is ∙ cases.status_is;
        store_is = store_is;
        through = λ mid through. elim (through_write d mid through) [ inl here ↦ inl here | inr there ↦ inr (there ∙ store_is) ];
      }

  pub write_carries : (t : Told) → Carries write_steps (device_of (put_in_range bytes t)) (put_status (written_id bytes) t.here.store) (store_after_write bytes t.here.store)
  write_carries t = carries_with (device_of (put_in_range bytes t)) (device_of t).range refl

  -- ---- what is said of a write

  write_stops : (o : Option Told) (x y : List Stored) → IfSome o (λ t. IsDevice (device_of t)) → ((t : Told) → o ≡ Some t → x ≡ t.here.store) → StoreInWrite bytes o x y → Puts bytes o x y
  write_stops None x y device law is = tt
  write_stops (Some t) x y device law is = elim (is device) [
    | inl same ↦ inl same
    | inr through ↦
        elim (through_operation write_steps (device_of (put_in_range bytes t)) (put_status (written_id bytes) t.here.store) (store_after_write bytes t.here.store) (write_carries t) y through) [
          | inl before ↦ inl (before ∙ sym (law t refl))
          | inr after ↦ inr (after ∙ ap (store_after_write bytes) (sym (law t refl)))
        ]
  ]

  module _ (lists : List (List InstructionEntry)) (a b : Seen) where
    gives : (result : Answer) → Written lists bytes result a b → Over (λ t. result ≡ answer_on_put (written_id bytes) (device_of t)) a.told
    gives result written = over_more _ _ a.told written.answers (λ t is. is ∙ answer_is write_steps (device_of (put_in_range bytes t)) (put_status (written_id bytes) t.here.store)
        (store_after_write bytes t.here.store) (write_carries t))

    pub write_gives : (result : Answer) → Writes lists bytes result a b → Over (λ t. AnswersAs result (answer_on_put (written_id bytes) (device_of t))) a.told
    write_gives (Ok done) writes = gives (Ok done) writes
    write_gives (Err Register) writes = everywhere _ a.told (λ t. tt)
    write_gives (Err Busy) writes = gives (Err Busy) writes
    write_gives (Err (EndedWith code)) writes = gives (Err (EndedWith code)) writes
    write_gives (Err NoMemory) writes = absurd writes

    passes : (result : Answer) → Writes lists bytes result a b → Passes (InStore (StoreInWrite bytes a.told)) a.clock b.clock
    passes (Ok done) writes = writes.well.stops
    passes (Err Register) writes = writes.fails.stops
    passes (Err Busy) writes = writes.well.stops
    passes (Err (EndedWith code)) writes = writes.well.stops
    passes (Err NoMemory) writes = absurd writes

    pub write_puts : (result : Answer) → IfSome a.told (λ t. IsDevice (device_of t)) → Writes lists bytes result a b → StoreIsLeft a.told a.clock
        → Passes (InStore (Puts bytes a.told)) a.clock b.clock
    write_puts result device writes law = passes_at (StoreInWrite bytes a.told) (Puts bytes a.told) a.told a.clock b.clock law
        (λ x y. write_stops a.told x y device) (passes result writes)

module _ (bytes : List ℕ) (lists : List (List InstructionEntry)) (a b : Seen) where
  pub write_told : (result : Answer) → Writes lists bytes result a b → Over (λ t. Leaves result t b.told (write_calls lists bytes (device_of t))) a.told
  write_told (Ok done) writes = over_more _ _ a.told writes.tells (λ t tells. tells.told)
  write_told (Err Register) writes = writes.cut
  write_told (Err Busy) writes = over_more _ _ a.told writes.tells (λ t tells. tells.told)
  write_told (Err (EndedWith code)) writes = over_more _ _ a.told writes.tells (λ t tells. tells.told)
  write_told (Err NoMemory) writes = absurd writes

  pub write_kept : (result : Answer) → Writes lists bytes result a b → Relates KeepsButDevice a.told b.told
  write_kept (Ok done) writes = writes.well.kept
  write_kept (Err Register) writes = writes.fails.kept
  write_kept (Err Busy) writes = writes.well.kept
  write_kept (Err (EndedWith code)) writes = writes.well.kept
  write_kept (Err NoMemory) writes = absurd writes

  pub write_cause : (result : Answer) → Writes lists bytes result a b → HasCauseIn result a.faults b.faults
  write_cause (Ok done) writes = writes.well.faults
  write_cause (Err Register) writes = writes.fails.raises
  write_cause (Err Busy) writes = writes.well.faults
  write_cause (Err (EndedWith code)) writes = writes.well.faults
  write_cause (Err NoMemory) writes = absurd writes

  pub write_stored : (result : Answer) → Writes lists bytes result a b → KeepsStored result a b
  write_stored (Ok done) writes = writes.well.stored
  write_stored (Err Register) writes = tt
  write_stored (Err Busy) writes = writes.well.stored
  write_stored (Err (EndedWith code)) writes = writes.well.stored
  write_stored (Err NoMemory) writes = absurd writes

  -- ---- the range is filled, and then the operation is done

  fill_more : (o : Option Told) → IfSome o (λ t. IsCutShort (range_write 0 bytes ∷ []) t b.told) → Over (λ t. IsCutShort (write_calls lists bytes (device_of t)) t b.told) o
  fill_more None breaks = tt
  fill_more (Some t) breaks = λ device.
      (let d = device_of (put_in_range bytes t) in off_more (range_write 0 bytes ∷ []) (device_calls lists (actions_of write_steps d) d) t b.told breaks)

  pub fill_fails : IfSome a.told (λ t. IsCutShort (range_write 0 bytes ∷ []) t b.told) → Fails Stays a b → FailsWrite lists bytes a b
  fill_fails breaks fails = record {
    fails = fails_more Stays (StoreInWrite bytes a.told) (λ x y same. by a.told x y same) a b fails;
    cut = fill_more a.told breaks;
  }
    where
      by : (o : Option Told) (x y : List Stored) → y ≡ x → StoreInWrite bytes o x y
      by None x y same = tt
      by (Some t) x y same = λ device. inl same

  module _ (c : Seen) (told : Steps (put_in_range bytes) a.told b.told) (short : length bytes ≤ range_length) (are : AreBytes bytes) (filled : GoesWell Stays a b) where
    over_put : (P : Told → Type 0) → Over P b.told → Over (λ t. P (put_in_range bytes t)) a.told
    over_put P over = by a.told told
      where
        by : (o : Option Told) → Steps (put_in_range bytes) o b.told → Over (λ t. P (put_in_range bytes t)) o
        by None told = tt
        by (Some t) told = λ device. over_at P b.told (put_in_range bytes t) over told (IsDevice-range 0 bytes (device_of t) device are (omega (arith, short)))

    first : (x y : List Stored) → y ≡ x → StoreInWrite bytes a.told x y
    first x y same = by a.told
      where
        by : (o : Option Told) → StoreInWrite bytes o x y
        by None = tt
        by (Some t) = λ device. inl same

    both : (x y z : List Stored) → y ≡ x → StoreIn (actions_of write_steps) b.told y z → StoreInWrite bytes a.told x z
    both x y z same two = by a.told told
      where
        by : (o : Option Told) → Steps (put_in_range bytes) o b.told → StoreInWrite bytes o x z
        by None told = tt
        by (Some t) told = λ device.
            (let next = subst (λ (o : Option Told). StoreIn (actions_of write_steps) o y z) told two in
            elim (next (IsDevice-range 0 bytes (device_of t) device are (omega (arith, short)))) [ inl old ↦ inl (old ∙ same) | inr through ↦ inr through ])

    answered : (result : Answer) → Done lists (actions_of write_steps) b c → Over (λ t. result ≡ answer_of write_steps (device_of t)) b.told → Written lists bytes result a c
    answered result done answers = record {
      well = well_both Stays (StoreInWrite bytes a.told) first (StoreIn (actions_of write_steps) b.told) both a b c filled done.well;
      tells = over_put (λ t. Tells lists (actions_of write_steps (device_of t)) t c.told) done.tells;
      answers = over_put (λ t. result ≡ answer_of write_steps (device_of t)) answers;
    }

    pub writes_then : (result : Answer) → Operates lists (actions_of write_steps) (answer_of write_steps) result b c → Writes lists bytes result a c
    writes_then (Ok done) operates = answered (Ok done) operates.done operates.answers
    writes_then (Err Register) fails = record {
      fails = well_fails Stays (StoreInWrite bytes a.told) first (StoreIn (actions_of write_steps) b.told) both a b c filled fails.fails;
      cut = over_more _ _ a.told (over_put (λ t. IsCutShort (device_calls lists (actions_of write_steps (device_of t)) (device_of t)) t c.told) fails.cut)
          (λ t cut. (let d = device_of (put_in_range bytes t) in off_after (range_write 0 bytes ∷ []) (device_calls lists (actions_of write_steps d) d) t (put_in_range bytes t) c.told refl cut));
    }
    writes_then (Err Busy) operates = answered (Err Busy) operates.done operates.answers
    writes_then (Err (EndedWith code)) operates = answered (Err (EndedWith code)) operates.done operates.answers
    writes_then (Err NoMemory) operates = absurd operates
