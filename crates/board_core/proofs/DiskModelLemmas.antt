-- The clauses of a board lead to the disk model, over any calls.
use Rattle.std.proofs.Common.{◌≡◌, ℕ, ◌+◌, ◌≤◌, ◌⊎◌, max, List, [], ◌∷◌, ◌++◌, length, refl, ap, sym, ◌∙◌, subst, inl, inr, arith, append_assoc, append-nil}
use Rattle.erst_store.specs.Store.{Stored}
use Rattle.board_core.specs.declared.board.FileNo.{FileNo}
use Rattle.board_core.specs.declared.board.FileNo.TheVariants.{Zero, One}
use Rattle.board_core.specs.Doing.{Act, DeviceCall, Seen, after_device, device, prints as prints_act}
use Rattle.board_core.specs.CallsMade.{IsMade, AreMade, KeepsDisk, range_in, ranges_in}
use Rattle.board_core.specs.Clock.{Clock, LeftNow, After, Passes, IsSynced}
use Rattle.board_core.specs.Steps.DiskLemmas.{torn_more, settled_left, begins_none, nothing_begins, outside_front, greatest_length-more}
use Rattle.board_core.specs.DiskModel.{Range, greatest_length, DiskFile, Disk, MayLeave, MayLeaveFile, MayLeaveSince, Call, writes, syncs, stores, prints, rests, after, after_all}
use Rattle.board_core.specs.MemBoard.{Past, with_act, steps_of, steps_of_all, settled_disk, clock_of, disk_of, now_of}
use Rattle.board_core.specs.Steps.ChangeLemmas.{here_left, steps_of_all-more}
use Rattle.board_core.specs.Steps.MomentLemmas.{becomes_same, call_more, last_counts}
use Rattle.board_core.specs.Stop.{Left, Same, Becomes, Begins, Appends, InFile, InStore, InOut, file_in}
use Rattle.board_core.specs.Told.{Torn}

-- together

-- What a call leads to, for a disk that allows whatever a crash before the call may have left.
after_call : (call : Call) (disk : Disk) (old new : Clock) → KeepsDisk disk old → IsMade call old new → KeepsDisk (after call disk) new
after_call (writes Zero place count) disk old new keeps made left now =
    let from : After old (InFile Zero (Torn place count)) left = made.ends left now in
    let may : MayLeave disk rests from.from = keeps from.from from.was in
    rw from.by.rest (record { zero = torn_more disk.zero place count from.from.file0 from.by.bytes may.zero from.by.step; one = may.one; store = may.store; out = may.out })
after_call (writes One place count) disk old new keeps made left now =
    let from : After old (InFile One (Torn place count)) left = made.ends left now in
    let may : MayLeave disk rests from.from = keeps from.from from.was in
    rw from.by.rest (record { zero = may.zero; one = torn_more disk.one place count from.from.file1 from.by.bytes may.one from.by.step; store = may.store; out = may.out })
after_call (syncs Zero bytes) disk old new keeps made left now =
    let from : After old Same left = made.0.ends left now in
    let may : MayLeave disk rests left = rw from.by (keeps from.from from.was) in
    record { zero = rw (made.1 left now) (settled_left bytes); one = may.one; store = may.store; out = may.out }
after_call (syncs One bytes) disk old new keeps made left now =
    let from : After old Same left = made.0.ends left now in
    let may : MayLeave disk rests left = rw from.by (keeps from.from from.was) in
    record { zero = may.zero; one = rw (made.1 left now) (settled_left bytes); store = may.store; out = may.out }
after_call (prints piece part) disk old new keeps made left now =
    let from : After old (InOut (Appends part)) left = made.1 left now in
    let may : MayLeave disk rests from.from = keeps from.from from.was in
    let text : from.by.text ≡ disk.out ++ part = from.by.step ∙ ap (λ xs. xs ++ part) (begins_none disk.out from.from.out may.out) in
    rw from.by.rest (record { zero = may.zero; one = may.one; store = may.store; out = rw text (nothing_begins [] (disk.out ++ part)) })
after_call (stores made store) disk old new keeps is left now =
    let from : After old (InStore (Becomes made)) left = is.0.ends left now in
    let may : MayLeave disk rests from.from = keeps from.from from.was in
    let zero_may : MayLeaveFile disk.zero left.file0 = rw from.by.rest may.zero in
    let one_may : MayLeaveFile disk.one left.file1 = rw from.by.rest may.one in
    let out_may : Begins [] disk.out left.out = rw from.by.rest may.out in
    record { zero = zero_may; one = one_may; store = inl (is.1 left now); out = out_may }
after_call rests disk old new keeps made left now =
    let from : After old Same left = made.ends left now in
    rw from.by (keeps from.from from.was)

-- What a crash during a call leaves.
during_call : (call : Call) (disk : Disk) (old new : Clock) (t : ℕ) (left : Left) → KeepsDisk disk old → IsMade call old new → t ≤ old.now → new.may_leave_since t left
    → old.may_leave_since t left ⊎ (MayLeave disk call left ⊎ MayLeave (after call disk) rests left)
during_call (writes Zero place count) disk old new t left keeps made within since =
    elim (made.each t left within since) [
      | inl before ↦ inl before
      | inr from ↦ inr (inr (
          let may : MayLeave disk rests from.from = keeps from.from from.was in
          rw from.by.rest (record { zero = torn_more disk.zero place count from.from.file0 from.by.bytes may.zero from.by.step; one = may.one; store = may.store; out = may.out })))
    ]
during_call (writes One place count) disk old new t left keeps made within since =
    elim (made.each t left within since) [
      | inl before ↦ inl before
      | inr from ↦ inr (inr (
          let may : MayLeave disk rests from.from = keeps from.from from.was in
          rw from.by.rest (record { zero = may.zero; one = torn_more disk.one place count from.from.file1 from.by.bytes may.one from.by.step; store = may.store; out = may.out })))
    ]
during_call (syncs file bytes) disk old new t left keeps made within since =
    elim (made.0.each t left within since) [ inl before ↦ inl before | inr from ↦ inr (inl (rw from.by (call_more disk (syncs file bytes) from.from (keeps from.from from.was)))) ]
during_call (stores made store) disk old new t left keeps is within since =
    elim (is.0.each t left within since) [
      | inl before ↦ inl before
      | inr from ↦ inr (inl (
          let may : MayLeave disk rests from.from = keeps from.from from.was in
          let kept : from.from.store ≡ disk.store = becomes_same disk.store from.from.store may.store in
          rw from.by.rest (record { zero = may.zero; one = may.one; store = subst (λ (records : List Stored). Becomes made records from.by.store) kept from.by.step; out = may.out })))
    ]
during_call (prints piece part) disk old new t left keeps made within since =
    elim (made.0.each t left within since) [
      | inl before ↦ inl before
      | inr from ↦ inr (inl (
          let may : MayLeave disk rests from.from = keeps from.from from.was in
          let text : from.from.out ≡ disk.out = begins_none disk.out from.from.out may.out in
          rw from.by.rest (record { zero = may.zero; one = may.one; store = may.store; out = subst (λ (xs : List ℕ). Begins piece xs from.by.text) text from.by.step })))
    ]
during_call rests disk old new t left keeps made within since =
    elim (made.each t left within since) [ inl before ↦ inl before | inr from ↦ inr (inl (rw from.by (call_more disk rests from.from (keeps from.from from.was)))) ]

call_later : (call : Call) (old new : Clock) → IsMade call old new → old.now ≤ new.now
call_later (writes file place count) old new made = made.later
call_later (syncs file bytes) old new made = made.0.later
call_later (stores made store) old new is = is.0.later
call_later (prints piece part) old new made = made.0.later
call_later rests old new made = made.later

-- What a crash at first may leave, a crash since then may leave.
first_counts : (disk : Disk) (calls : List Call) (left : Left) → MayLeave disk rests left → MayLeaveSince disk calls 0 left
first_counts disk [] left may = may
first_counts disk (call ∷ calls) left may = inl (call_more disk call left may)

module _ {B : Type 0} (see : B → Seen) where
  pub after_calls : (calls : List Call) (disk : Disk) (first last : B) → KeepsDisk disk (see first).clock → AreMade see calls first last → KeepsDisk (after_all calls disk) (see last).clock
  after_calls [] disk first last keeps made = subst (λ (b : B). KeepsDisk disk (see b).clock) (sym made) keeps
  after_calls (call ∷ calls) disk first last keeps made =
      after_calls calls (after call disk) made.0 last (after_call call disk (see first).clock (see made.0).clock keeps made.1) made.2

  during_calls : (calls : List Call) (disk : Disk) (first last : B) (t : ℕ) (left : Left) → KeepsDisk disk (see first).clock → AreMade see calls first last → t ≤ (see first).clock.now → (see last).clock.may_leave_since t left
      → (see first).clock.may_leave_since t left ⊎ MayLeaveSince disk calls 0 left
  during_calls [] disk first last t left keeps made within since = inl (subst (λ (b : B). (see b).clock.may_leave_since t left) made since)
  during_calls (call ∷ calls) disk first last t left keeps made within since =
      let later : (see first).clock.now ≤ (see made.0).clock.now = call_later call (see first).clock (see made.0).clock made.1 in
      let rest : (see made.0).clock.may_leave_since t left ⊎ MayLeaveSince (after call disk) calls 0 left =
      during_calls calls (after call disk) made.0 last t left (after_call call disk (see first).clock (see made.0).clock keeps made.1) made.2 (omega arith) since in
      elim rest [
        | inl before ↦ elim (during_call call disk (see first).clock (see made.0).clock t left keeps made.1 within before) [
          | inl at_first ↦ inl at_first
          | inr last_call ↦ inr (elim last_call [ inl during ↦ inl during | inr behind ↦ inr (first_counts (after call disk) calls left behind) ])
        ]
        | inr later_calls ↦ inr (inr later_calls)
      ]

  pub since_calls : (calls : List Call) (disk : Disk) (first last : B) (left : Left) → KeepsDisk disk (see first).clock → AreMade see calls first last → (see last).clock.may_leave_since (see first).clock.now left → MayLeaveSince disk calls 0 left
  since_calls calls disk first last left keeps made since =
      elim (during_calls calls disk first last (see first).clock.now left keeps made (omega arith) since) [
        | inl before ↦ first_counts disk calls left (keeps left before)
        | inr during ↦ during
      ]

-- one file

abbrev file_with : List ℕ → List Range → DiskFile
file_with bytes ranges = record { synced = bytes; written = ranges }

one_range_more : (synced : List ℕ) (ranges : List Range) (r : Range) (bytes : List ℕ) → MayLeaveFile (file_with synced ranges) bytes → MayLeaveFile (file_with synced (ranges ++ r ∷ [])) bytes
one_range_more synced ranges r bytes may = record {
  stays = λ k below outside. may.stays k below (outside_front ranges r k outside);
  no_shorter = may.no_shorter;
  no_longer = (let more : greatest_length (length synced) (ranges ++ r ∷ []) ≡ max (greatest_length (length synced) ranges) (r.place + r.count) = greatest_length-more (length synced) ranges r in omega (arith, may.no_longer));
}

ranges_more : (more : List Range) (synced : List ℕ) (ranges : List Range) (bytes : List ℕ) → MayLeaveFile (file_with synced ranges) bytes → MayLeaveFile (file_with synced (ranges ++ more)) bytes
ranges_more [] synced ranges bytes may = rw append-nil may
ranges_more (r ∷ rs) synced ranges bytes may =
    rw append_assoc at (ranges_more rs synced (ranges ++ r ∷ []) bytes (one_range_more synced ranges r bytes may))

abbrev step_of : Call → Left → Left → Type 0
step_of (writes file place count) = InFile file (Torn place count)
step_of (syncs file bytes) = Same
step_of (stores made store) = InStore (Becomes made)
step_of (prints piece part) = InOut (Begins piece)
step_of rests = Same

passes_made : (call : Call) (old new : Clock) → IsMade call old new → Passes (step_of call) old new
passes_made (writes file place count) old new made = made
passes_made (syncs file bytes) old new made = made.0
passes_made (stores made store) old new is = is.0
passes_made (prints piece part) old new made = made.0
passes_made rests old new made = made

-- What a step leads to, for one file.
file_step : (file : FileNo) (call : Call) (synced : List ℕ) (ranges : List Range) (old new : Left) → step_of call old new → MayLeaveFile (file_with synced ranges) (file_in file old) → MayLeaveFile (file_with synced (ranges ++ range_in file call)) (file_in file new)
file_step Zero (writes Zero place count) synced ranges old new step may = rw step.rest (torn_more (file_with synced ranges) place count old.file0 step.bytes may step.step)
file_step Zero (writes One place count) synced ranges old new step may = rw step.rest (rw append-nil may)
file_step Zero (syncs file bytes) synced ranges old new step may = rw step (rw append-nil may)
file_step Zero (stores made store) synced ranges old new step may = rw step.rest (rw append-nil may)
file_step Zero (prints piece part) synced ranges old new step may = rw step.rest (rw append-nil may)
file_step Zero rests synced ranges old new step may = rw step (rw append-nil may)
file_step One (writes Zero place count) synced ranges old new step may = rw step.rest (rw append-nil may)
file_step One (writes One place count) synced ranges old new step may = rw step.rest (torn_more (file_with synced ranges) place count old.file1 step.bytes may step.step)
file_step One (syncs file bytes) synced ranges old new step may = rw step (rw append-nil may)
file_step One (stores made store) synced ranges old new step may = rw step.rest (rw append-nil may)
file_step One (prints piece part) synced ranges old new step may = rw step.rest (rw append-nil may)
file_step One rests synced ranges old new step may = rw step (rw append-nil may)

after_file : (file : FileNo) (call : Call) (synced : List ℕ) (ranges : List Range) (old : Clock) → ((left : Left) → LeftNow old left → MayLeaveFile (file_with synced ranges) (file_in file left))
    → (left : Left) → After old (step_of call) left → MayLeaveFile (file_with synced (ranges ++ range_in file call)) (file_in file left)
after_file file call synced ranges old keeps left after = file_step file call synced ranges after.from left after.by (keeps after.from after.was)

module _ {B : Type 0} (see : B → Seen) (file : FileNo) where
  file_during : (calls : List Call) (synced : List ℕ) (ranges : List Range) (first last : B) (t : ℕ) (left : Left) → ((old : Left) → LeftNow (see first).clock old → MayLeaveFile (file_with synced ranges) (file_in file old))
      → AreMade see calls first last → t ≤ (see first).clock.now → (see last).clock.may_leave_since t left
      → (see first).clock.may_leave_since t left ⊎ MayLeaveFile (file_with synced (ranges ++ ranges_in file calls)) (file_in file left)
  file_during [] synced ranges first last t left keeps made within since = inl (subst (λ (b : B). (see b).clock.may_leave_since t left) made since)
  file_during (call ∷ calls) synced ranges first last t left keeps made within since =
      let passes : Passes (step_of call) (see first).clock (see made.0).clock = passes_made call (see first).clock (see made.0).clock made.1 in
      let later : (see first).clock.now ≤ (see made.0).clock.now = passes.later in
      let rest : (see made.0).clock.may_leave_since t left ⊎ MayLeaveFile (file_with synced (ranges ++ range_in file call ++ ranges_in file calls)) (file_in file left) =
      file_during calls synced (ranges ++ range_in file call) made.0 last t left (λ old now. after_file file call synced ranges (see first).clock keeps old (passes.ends old now)) made.2 (omega arith) since in
      elim rest [
        | inl before ↦ elim (passes.each t left within before) [
          | inl at_first ↦ inl at_first
          | inr during ↦ inr (rw append_assoc at (ranges_more (ranges_in file calls) synced (ranges ++ range_in file call) (file_in file left) (after_file file call synced ranges (see first).clock keeps left during)))
        ]
        | inr behind ↦ inr (rw append_assoc at behind)
      ]

  pub file_calls : (bytes : List ℕ) (calls : List Call) (first last : B) → IsSynced file bytes (see first).clock → AreMade see calls first last
      → (left : Left) → (see last).clock.may_leave_since (see first).clock.now left → MayLeaveFile (file_with bytes (ranges_in file calls)) (file_in file left)
  file_calls bytes calls first last synced made left since =
      elim (file_during calls bytes [] first last (see first).clock.now left (λ old now. rw (synced old now) (settled_left bytes)) made (omega arith) since) [
        | inl before ↦ ranges_more (ranges_in file calls) bytes [] (file_in file left) (rw (synced left before) (settled_left bytes))
        | inr during ↦ during
      ]

-- a board in memory that prints, and one whose device acts

module _ (past : Past) where
  last_call : (act : Act) (call : Call) (left : Left) → steps_of act (now_of past) ≡ call ∷ [] → MayLeave (disk_of past) call left → (clock_of (with_act act past)).may_leave_since (clock_of past).now left
  last_call act call left is may =
      rw (steps_of_all-more past.acts act past.first, is)
      (last_counts (settled_disk past.first.here) (steps_of_all past.acts past.first) call left may)

  pub while_printing : (part missing : List ℕ) → (clock_of (with_act (prints_act (part ++ missing)) past)).may_leave_since (clock_of past).now (record (now_of past).here { out = (now_of past).here.out ++ part })
  while_printing part missing =
      let may : MayLeave (disk_of past) rests (now_of past).here = here_left past in
      last_call (prints_act (part ++ missing)) (prints (part ++ missing) (part ++ missing)) (record (now_of past).here { out = (now_of past).here.out ++ part }) refl (record {
        zero = may.zero;
        one = may.one;
        store = may.store;
        out = record { part = part; missing = missing; splits = refl; is = ap (λ xs. xs ++ part) (begins_none (disk_of past).out (now_of past).here.out may.out) };
      })

  pub while_acting : (call : DeviceCall) (store : List Stored) → Becomes (after_device call (now_of past)).here.store (now_of past).here.store store
      → (clock_of (with_act (device call) past)).may_leave_since (clock_of past).now (record (now_of past).here { store = store })
  while_acting call store becomes =
      let may : MayLeave (disk_of past) rests (now_of past).here = here_left past in
      let kept : (now_of past).here.store ≡ (disk_of past).store = becomes_same (disk_of past).store (now_of past).here.store may.store in
      last_call (device call) (stores (after_device call (now_of past)).here.store (after_device call (now_of past)).here.store) (record (now_of past).here { store = store }) refl (record {
        zero = may.zero;
        one = may.one;
        store = subst (λ (records : List Stored). Becomes (after_device call (now_of past)).here.store records store) kept becomes;
        out = may.out;
      })
