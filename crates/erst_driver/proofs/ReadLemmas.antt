-- What the actions of a read lead to.
use Rattle.std.proofs.Common.{◌≡◌, ◌∙◌, ℕ, zero, suc, ◌+◌, ◌-◌, ◌≤◌, Bool, true, false, ◌||◌, nat_eq, nat_lt, List, [], ◌∷◌, ◌++◌, length, take, drop, Option, Some, None, refl, sym, ap, subst, inl, inr, arith, if◌then◌else◌, append-nil}
use Rattle.std.proofs.lemmas.Bool.Decides.{nat_tests}
use Rattle.std.specs.Prelude.{◌⊎◌, replicate, is_some, Ok, Err, OnOk, IfSome}
use Rattle.std.specs.List.{AllByRecursion}
use Rattle.std.specs.Option.{option_map}
use Rattle.erst_store.specs.declared.device.Command.TheVariants.{Read}
use Rattle.erst_store.specs.declared.device.CommandStatus.{CommandStatus}
use Rattle.erst_store.specs.declared.device.CommandStatus.TheVariants.{Success, NotEnoughSpace, StoreEmpty, NotFound}
use Rattle.erst_store.specs.Actions.{execute_operation, set_record_identifier, range_length}
use Rattle.erst_store.specs.Store.{Stored, Fits, most_bytes, holds, bytes_under}
use Rattle.erst_store.specs.Device.{Device, act, busy_device, range_with_record, after_read_of}
use Rattle.erst_store.specs.DeviceLaws.{IsDevice}
use Rattle.board_core.specs.Clock.{Passes, StoreIsLeft}
use Rattle.board_core.specs.Stop.{InStore}
use Rattle.board_core.specs.declared.board.Access.TheVariants.{RangeRead}
use Rattle.board_core.specs.Told.{Told, device_of, Relates, Steps, with_access}
use Rattle.erst_interp.specs.declared.entries.InstructionEntry.{InstructionEntry}
use Rattle.erst_interp.specs.Run.{KeepsButDevice, IsCutShort, acts_of}
use Rattle.board_core.specs.Doing.{DeviceCall, Seen, after_acts, range_read}
use Rattle.erst_interp.specs.Steps.Running.{Fails, GoesWell}
use Rattle.erst_interp.specs.Steps.Running.{Stays as Unchanged}
use Rattle.erst_interp.proofs.BreakLemmas.{off_more, off_after}
use Rattle.erst_interp.proofs.BreakLemmas.{after_both as after_runs}
use Rattle.erst_interp.proofs.TouchLemmas.{well_both, well_fails}
use Rattle.erst_driver.specs.declared.step.Step.{Step}
use Rattle.erst_driver.specs.declared.refusals.DriverRefused.{DriverRefused}
use Rattle.erst_driver.specs.declared.refusals.DriverRefused.TheVariants.{Register, Busy, NoMemory, Status as EndedWith}
use Rattle.erst_driver.specs.Operations.{is_free_in_time, actions_of, read_steps, after_steps, device_calls, fetch_calls, told_by}
use Rattle.erst_driver.specs.Answers.{read_calls, Answer, by_status, found_status, answer_of, answer_on_found, AnswersAs, HasCauseIn, HoldsRecord, Stays}
use Rattle.erst_driver.specs.Steps.Operating.{KeepsStored, Leaves, Over, HasDevice, StoreIn, ComesThrough, Done, FailsFetch, Answered, Operates, Reads, Fetched}
use Rattle.erst_driver.proofs.PlanLemmas.{over_device, over_both_device, over_both, over_more, everywhere}
use Rattle.erst_driver.proofs.DeviceLemmas.{over_told}
use Rattle.erst_driver.proofs.OperationLemmas.{Carries, through_operation, range_after, answer_is, passes_at}

-- ---- the record that is found

flipped : (x y : ℕ) (b : Bool) → nat_eq x y ≡ b → nat_eq y x ≡ b
flipped x y true is = grind (arith, nat_tests, is)
flipped x y false is = grind (arith, nat_tests, is)

held_is_found : (id : ℕ) (rs : List Stored) → holds id rs ≡ is_some (bytes_under id rs)
held_is_found id [] = refl
held_is_found id (r ∷ rs) = by (nat_eq id r.id) refl (held_is_found id rs)
  where
    by : (b : Bool) → nat_eq id r.id ≡ b → holds id rs ≡ is_some (bytes_under id rs) → (nat_eq id r.id || holds id rs) ≡ is_some (if nat_eq r.id id then Some r.bytes else bytes_under id rs)
    by true is ih = rw (is, flipped id r.id true is) refl
    by false is ih = rw (is, flipped id r.id false is) ih

found_short : (id : ℕ) (rs : List Stored) (bytes : List ℕ) → AllByRecursion Fits rs → bytes_under id rs ≡ Some bytes → length bytes ≤ most_bytes
found_short id [] bytes each is = absurd cc
found_short id (r ∷ rs) bytes each is = by (nat_eq r.id id) is (found_short id rs bytes each.1)
  where
    by : (b : Bool) → (if b then Some r.bytes else bytes_under id rs) ≡ Some bytes → (bytes_under id rs ≡ Some bytes → length bytes ≤ most_bytes) → length bytes ≤ most_bytes
    by true here ih = let same : r.bytes ≡ bytes = cc in subst (λ (bs : List ℕ). length bs ≤ most_bytes) same each.0.size
    by false later ih = ih later

-- ---- the device at EXECUTE, and what the command makes of it

abbrev begun : ℕ → Device → Device
begun id d = record d { command = Some Read; value = id; id = id; offset = 0; action = set_record_identifier }

abbrev in_range : Bool → List ℕ → Device → Device
in_range long bytes d = if long then record d { status = NotEnoughSpace } else record d { range = range_with_record d.range d.offset bytes; status = Success }

abbrev read_by : Bool → Option (List ℕ) → Device → Device
read_by empty found d = if empty then record d { status = StoreEmpty } else after_read_of d found

abbrev carried : Bool → Option (List ℕ) → ℕ → Device → Device
carried empty found id d = record (busy_device (read_by empty found (begun id d))) { action = execute_operation }

-- a buffer of the range's length after the read
abbrev filled : List ℕ → List ℕ
filled bytes = bytes ++ replicate (range_length - length bytes) 0

record ReadDone (d e : Device) (status : CommandStatus) (found : Option (List ℕ)) : Type 0 where
  busy : e.busy ≡ d.slow
  status_is : e.status ≡ status
  store : e.store ≡ d.store
  range : (bytes : List ℕ) → found ≡ Some bytes → status ≡ Success → e.range ≡ filled bytes

filled_from : (range bytes : List ℕ) → range_with_record range 0 bytes ≡ filled bytes
filled_from range bytes = ap (λ (n : ℕ). bytes ++ replicate (range_length - n) 0) (let e : 0 + length bytes ≡ length bytes = omega arith in e)

by_cases : (id : ℕ) (d : Device) (b : Bool) (o : Option (List ℕ)) → ((bytes : List ℕ) → o ≡ Some bytes → length bytes ≤ range_length)
    → ReadDone d (carried b o id d) (if b then StoreEmpty else (if is_some o then Success else NotFound)) o
by_cases id d true o short = record { busy = refl; status_is = refl; store = refl; range = λ bytes is success. absurd cc }
by_cases id d false None short = record { busy = refl; status_is = refl; store = refl; range = λ bytes is success. absurd cc }
by_cases id d false (Some bytes) short = by (nat_lt range_length (0 + length bytes)) refl
  where
    by : (long : Bool) → nat_lt range_length (0 + length bytes) ≡ long
        → ReadDone d (record (busy_device (in_range long bytes (begun id d))) { action = execute_operation }) Success (Some bytes)
    by true is = let fits : length bytes ≤ range_length = short bytes refl in absurd (grind (arith, nat_tests, is, fits))
    by false is = record { busy = refl; status_is = refl; store = refl; range = λ other same success. (let e : bytes ≡ other = cc in filled_from d.range bytes ∙ ap filled e) }

is_carried : (id : ℕ) (d : Device) → after_steps (read_steps id) d ≡ carried (nat_eq (length d.store) 0) (bytes_under id d.store) id d
unfolding act after_steps
is_carried id d = refl

through_read : (id : ℕ) (d : Device) (mid : List Stored) → ComesThrough (read_steps id) d mid → (mid ≡ d.store) ⊎ (mid ≡ (after_steps (read_steps id) d).store)
unfolding act after_steps ComesThrough
through_read id d mid is =
    elim is [
      | inl here ↦ inl here
      | inr later ↦ elim later [
        | inl here ↦ inl here
        | inr later ↦ elim later [ inl here ↦ inl here | inr later ↦ elim later [ inl here ↦ inl here | inr last ↦ inr last ] ]
      ]
    ]

done : (id : ℕ) (d : Device) → IsDevice d → ReadDone d (after_steps (read_steps id) d) (found_status id d.store) (bytes_under id d.store)
done id d device =
    let short = λ (bytes : List ℕ) (is : bytes_under id d.store ≡ Some bytes). found_short id d.store bytes device.store.each is in
    let cases = by_cases id d (nat_eq (length d.store) 0) (bytes_under id d.store) short in
    let status : (if nat_eq (length d.store) 0 then StoreEmpty else (if is_some (bytes_under id d.store) then Success else NotFound)) ≡ found_status id d.store =
    ap (λ (b : Bool). if nat_eq (length d.store) 0 then StoreEmpty else (if b then Success else NotFound)) (sym (held_is_found id d.store)) in
    subst (λ (e : Device). ReadDone d e (found_status id d.store) (bytes_under id d.store)) (sym (is_carried id d))
    (subst (λ (status : CommandStatus). ReadDone d (carried (nat_eq (length d.store) 0) (bytes_under id d.store) id d) status (bytes_under id d.store)) status cases)

pub read_carries : (id : ℕ) (d : Device) → IsDevice d → Carries (read_steps id) d (found_status id d.store) d.store
read_carries id d device =
    let all : ReadDone d (after_steps (read_steps id) d) (found_status id d.store) (bytes_under id d.store) = done id d device in
    record {
      busy = all.busy;
      status_is = all.status_is;
      store_is = all.store;
      through = λ mid is. elim (through_read id d mid is) [ inl here ↦ inl here | inr there ↦ inr (there ∙ all.store) ];
    }

-- ---- what is said of a read

read_answers : (id : ℕ) (d : Device) → IsDevice d → answer_of (read_steps id) d ≡ answer_on_found id d
read_answers id d device = answer_is (read_steps id) d (found_status id d.store) d.store (read_carries id d device)

pub read_stops : (id : ℕ) (told : Option Told) (old new : List Stored) → IfSome told (λ t. IsDevice (device_of t)) → ((t : Told) → told ≡ Some t → old ≡ t.here.store)
    → StoreIn (actions_of (read_steps id)) told old new → Stays told old new
read_stops id None old new device law is = tt
read_stops id (Some t) old new device law is = elim (is device) [
  | inl same ↦ same
  | inr through ↦
      elim (through_operation (read_steps id) (device_of t) (found_status id t.here.store) t.here.store (read_carries id (device_of t) device) new through) [
        | inl before ↦ before ∙ sym (law t refl)
        | inr after ↦ after ∙ sym (law t refl)
      ]
]

-- A result is Ok only if the record was found.
abbrev Is : Answer → Answer → Type 0
Is one other = one ≡ other

not_ok : (why : DriverRefused) → Is (Ok tt) (Err why) → ⊥
not_ok why e = cc

succeeded : (b : Bool) (status : CommandStatus) → Is (Ok tt) (if b then by_status status else Err Busy) → status ≡ Success
succeeded false status is = absurd (not_ok _ is)
succeeded true Success is = refl
succeeded true NotEnoughSpace is = absurd (not_ok _ is)
succeeded true StoreEmpty is = absurd (not_ok _ is)
succeeded true NotFound is = absurd (not_ok _ is)

found_of : (empty : Bool) (o : Option (List ℕ)) → (if empty then StoreEmpty else (if is_some o then Success else NotFound)) ≡ Success → (bytes : List ℕ) × (o ≡ Some bytes)
found_of true o is = absurd cc
found_of false None is = absurd cc
found_of false (Some bytes) is = (bytes, refl)

holds_record : (id : ℕ) (d : Device) (buffer : List ℕ) → IsDevice d → Ok tt ≡ answer_of (read_steps id) d → buffer ≡ (after_steps (actions_of (read_steps id) d) d).range
    → HoldsRecord id d.store buffer
holds_record id d buffer device answer is =
    let success : found_status id d.store ≡ Success = succeeded (is_free_in_time d.slow) (found_status id d.store) (answer ∙ read_answers id d device) in
    let found = found_of (nat_eq (length d.store) 0) (bytes_under id d.store)
    (ap (λ (b : Bool). if nat_eq (length d.store) 0 then StoreEmpty else (if b then Success else NotFound)) (sym (held_is_found id d.store)) ∙ success) in
    record {
      bytes = found.0;
      found = found.1;
      is = is ∙ range_after (read_steps id) d ∙ (done id d device).range found.0 found.1 success;
    }

-- ---- an operation and the read after it

pub operate_refused : (lists : List (List InstructionEntry)) (steps : List Step) (buffer : List ℕ) (a b : Seen) (why : DriverRefused)
    → Operates lists (actions_of steps) (answer_of steps) (Err why) a b → Reads lists steps buffer (Err why) a b
operate_refused lists steps buffer a b Register fails = record {
  fails = fails.fails;
  cut = over_more _ _ a.told fails.cut (λ t cut. off_more (device_calls lists (actions_of steps (device_of t)) (device_of t)) (fetch_calls (answer_of steps (device_of t))) t b.told cut);
}
operate_refused lists steps buffer a b Busy operates = operates
operate_refused lists steps buffer a b (EndedWith code) operates = operates
operate_refused lists steps buffer a b NoMemory operates = absurd operates

pub fetch_failed : (lists : List (List InstructionEntry)) (steps : List Step) (a b c : Seen) → Answered lists (actions_of steps) (answer_of steps) (Ok tt) a b
    → IfSome b.told (λ t. IsCutShort (range_read 0 range_length ∷ []) t c.told) → Fails Unchanged b c → FailsFetch lists steps a c
fetch_failed lists steps a b c one breaks fails = record {
  fails = well_fails (StoreIn (actions_of steps) a.told) (StoreIn (actions_of steps) a.told) (λ x y is. is) Unchanged
      (λ x y z through same. subst (λ (u : List Stored). StoreIn (actions_of steps) a.told x u) (sym same) through) a b c one.done.well fails;
  cut = over_both _ _ _ a.told one.done.tells one.answers (λ t tells is.
      (let u = told_by lists (actions_of steps (device_of t)) t in
      let calls = device_calls lists (actions_of steps (device_of t)) (device_of t) in
      let off : IsCutShort (range_read 0 range_length ∷ []) u c.told = subst (λ (o : Option Told). IfSome o (λ x. IsCutShort (range_read 0 range_length ∷ []) x c.told)) tells.told breaks in
      subst (λ (x : Answer). IsCutShort (calls ++ fetch_calls x) t c.told) is (off_after calls (range_read 0 range_length ∷ []) t u c.told refl off)));
}

take_whole : (xs : List ℕ) (n : ℕ) → length xs ≡ n → take n (drop 0 xs) ≡ xs
take_whole [] zero is = refl
take_whole [] (suc n) is = refl
take_whole (x ∷ xs) zero is = absurd (omega (arith, is))
take_whole (x ∷ xs) (suc n) is = ap (λ (ys : List ℕ). x ∷ ys) (take_whole xs n (omega (arith, is)))

pub fetched : (lists : List (List InstructionEntry)) (steps : List Step) (buffer : List ℕ) (a b c : Seen) → Answered lists (actions_of steps) (answer_of steps) (Ok tt) a b
    → IfSome b.told (λ t. buffer ≡ take range_length (drop 0 (device_of t).range)) → Steps (with_access (RangeRead 0 range_length)) b.told c.told → GoesWell Unchanged b c → Fetched lists steps buffer a c
fetched lists steps buffer a b c one bytes told well = record {
  well = well_both (StoreIn (actions_of steps) a.told) (StoreIn (actions_of steps) a.told) (λ x y is. is) Unchanged
      (λ x y z through same. subst (λ (u : List Stored). StoreIn (actions_of steps) a.told x u) (sym same) through) a b c one.done.well well;
  told = over_more _ _ a.told one.done.tells (λ t tells. told ∙ ap (λ (o : Option Told). option_map (with_access (RangeRead 0 range_length)) o) tells.told);
  here = over_more _ _ a.told one.done.tells (λ t tells. tells.device);
  answers = one.answers;
  bytes = over_more _ _ a.told one.done.tells (λ t tells.
      (let u = told_by lists (actions_of steps (device_of t)) t in
      let read : buffer ≡ take range_length (drop 0 (device_of u).range) = subst (λ (o : Option Told). IfSome o (λ v. buffer ≡ take range_length (drop 0 (device_of v).range))) tells.told bytes in
      let whole = tells.is.length in
      read ∙ ap (λ (d : Device). take range_length (drop 0 d.range)) tells.device ∙ take_whole (after_steps (actions_of steps (device_of t)) (device_of t)).range range_length whole));
}

module _ (lists : List (List InstructionEntry)) (id : ℕ) (buffer : List ℕ) (a b : Seen) where
  gives_on : (why : DriverRefused) → Over (λ t. Err why ≡ answer_of (read_steps id) (device_of t)) a.told → Over (λ t. Err why ≡ answer_on_found id (device_of t)) a.told
  gives_on why answers = over_device _ _ a.told answers (λ t device is. is ∙ read_answers id (device_of t) device)

  pub read_gives : (result : Answer) → Reads lists (read_steps id) buffer result a b → Over (λ t. AnswersAs result (answer_on_found id (device_of t))) a.told
  read_gives (Ok tt) reads = over_device _ _ a.told reads.answers (λ t device is. is ∙ read_answers id (device_of t) device)
  read_gives (Err Register) reads = everywhere _ a.told (λ t. tt)
  read_gives (Err Busy) reads = gives_on Busy reads.answers
  read_gives (Err (EndedWith code)) reads = gives_on (EndedWith code) reads.answers
  read_gives (Err NoMemory) reads = absurd reads

  abbrev own : Told → List DeviceCall
  own t = device_calls lists (actions_of (read_steps id) (device_of t)) (device_of t)

  told_on : (why : DriverRefused) → Done lists (actions_of (read_steps id)) a b → Over (λ t. Err why ≡ answer_of (read_steps id) (device_of t)) a.told
      → Over (λ t. b.told ≡ Some (after_acts (acts_of (read_calls lists id (device_of t))) t)) a.told
  told_on why done answers = over_both _ _ _ a.told done.tells (gives_on why answers)
      (λ t tells is. subst (λ (x : Answer). b.told ≡ Some (after_acts (acts_of (own t ++ fetch_calls x)) t)) is
      (tells.told ∙ ap (λ (calls : List DeviceCall). Some (after_acts (acts_of calls) t)) (sym (append-nil (own t)))))

  pub read_told : (result : Answer) → Reads lists (read_steps id) buffer result a b → Over (λ t. Leaves result t b.told (read_calls lists id (device_of t))) a.told
  read_told (Ok tt) reads = over_both_device _ _ _ a.told reads.told reads.answers
      (λ t device told is. subst (λ (x : Answer). b.told ≡ Some (after_acts (acts_of (own t ++ fetch_calls x)) t)) (is ∙ read_answers id (device_of t) device)
      (told ∙ ap (λ (u : Told). Some u) (sym (after_runs (own t) (fetch_calls (Ok tt)) t))))
  read_told (Err Register) reads = over_device _ _ a.told reads.cut
      (λ t device cut. subst (λ (x : Answer). IsCutShort (own t ++ fetch_calls x) t b.told) (read_answers id (device_of t) device) cut)
  read_told (Err Busy) reads = told_on Busy reads.done reads.answers
  read_told (Err (EndedWith code)) reads = told_on (EndedWith code) reads.done reads.answers
  read_told (Err NoMemory) reads = absurd reads

  pub read_kept : (result : Answer) → Reads lists (read_steps id) buffer result a b → Relates KeepsButDevice a.told b.told
  read_kept (Ok tt) reads = reads.well.kept
  read_kept (Err Register) reads = reads.fails.kept
  read_kept (Err Busy) reads = reads.done.well.kept
  read_kept (Err (EndedWith code)) reads = reads.done.well.kept
  read_kept (Err NoMemory) reads = absurd reads

  pub read_cause : (result : Answer) → Reads lists (read_steps id) buffer result a b → HasCauseIn result a.faults b.faults
  read_cause (Ok tt) reads = reads.well.faults
  read_cause (Err Register) reads = reads.fails.raises
  read_cause (Err Busy) reads = reads.done.well.faults
  read_cause (Err (EndedWith code)) reads = reads.done.well.faults
  read_cause (Err NoMemory) reads = absurd reads

  pub read_stored : (result : Answer) → Reads lists (read_steps id) buffer result a b → KeepsStored result a b
  read_stored (Ok tt) reads = reads.well.stored
  read_stored (Err Register) reads = tt
  read_stored (Err Busy) reads = reads.done.well.stored
  read_stored (Err (EndedWith code)) reads = reads.done.well.stored
  read_stored (Err NoMemory) reads = absurd reads

  read_holds : Fetched lists (read_steps id) buffer a b → Over (λ t. HoldsRecord id t.here.store buffer) a.told
  read_holds fetched = over_both_device _ _ _ a.told fetched.answers fetched.bytes
      (λ t device answer bytes. holds_record id (device_of t) buffer device answer bytes)

  pub read_found : (result : Answer) → HasDevice lists a.told → Reads lists (read_steps id) buffer result a b → OnOk result (IfSome a.told (λ t. HoldsRecord id t.here.store buffer))
  read_found (Ok tt) device reads = over_told lists _ a.told device (read_holds reads)
  read_found (Err why) device reads = tt

  read_passes : (result : Answer) → Reads lists (read_steps id) buffer result a b → Passes (InStore (StoreIn (actions_of (read_steps id)) a.told)) a.clock b.clock
  read_passes (Ok tt) reads = reads.well.stops
  read_passes (Err Register) reads = reads.fails.stops
  read_passes (Err Busy) reads = reads.done.well.stops
  read_passes (Err (EndedWith code)) reads = reads.done.well.stops
  read_passes (Err NoMemory) reads = absurd reads

  pub read_stays : (result : Answer) → HasDevice lists a.told → Reads lists (read_steps id) buffer result a b → StoreIsLeft a.told a.clock
      → Passes (InStore (Stays a.told)) a.clock b.clock
  read_stays result device reads law = passes_at (StoreIn (actions_of (read_steps id)) a.told) (Stays a.told) a.told a.clock b.clock law
      (λ x y. read_stops id a.told x y device.device) (read_passes result reads)
