-- The model and the clock of a board in memory keep the laws of a board.
use Rattle.std.specs.Prelude.{◌≡◌, ℕ, ◌≤◌, List, [], ◌∷◌, ◌++◌, length, Some, refl}
use Rattle.std.proofs.Common.{sym, ◌∙◌, ap, subst, inl, inr, arith, append-nil, append_assoc}
use Rattle.erst_store.specs.Store.{Stored}
use Rattle.board_core.specs.declared.board.FileNo.{FileNo}
use Rattle.board_core.specs.declared.board.FileNo.TheVariants.{Zero, One}
use Rattle.board_core.specs.Clock.{LeftNow, After, Passes, Leads, IsSynced, StoreIsLeft}
use Rattle.board_core.specs.Steps.DiskLemmas.{overlay_more, settled_left, begins_none, nothing_begins}
use Rattle.board_core.specs.declared.board.DiskCall.TheVariants.{Size, ReadAt, WriteAt, Sync}
use Rattle.board_core.specs.DiskModel.{greatest_length, MayLeaveFile, Disk, MayLeave, Call, writes as writes_range, syncs, stores, prints as prints_part, rests, disk_file, after, after_all}
use Rattle.board_core.specs.Doing.{Act, DeviceCall, through, writes, prints, calls, device, reg_read, reg_write, range_read, range_write, put, after_act, after_acts, after_device}
use Rattle.board_core.specs.MemBoard.{Past, with_act, steps_of, steps_of_all, settled_disk, now_of, disk_of, clock_of, State, told_of}
use Rattle.board_core.specs.Steps.MomentLemmas.{becomes_same, before_sync, after_all-append, now_only, now_counts, leads_call, passes_call, write_before, write_during, sync_before, synced_only, store_during, store_ends, print_during, print_appends, print_ends, AfterDisk}
use Rattle.board_core.specs.Stop.{Left, Same, Becomes, Begins, Appends, InFile, InStore, InOut, file_in}
use Rattle.board_core.specs.Told.{Told, Torn, overlay}

-- A crash now may leave what the model says.

here_after : (act : Act) (disk : Disk) (t : Told) → MayLeave disk rests t.here → MayLeave (after_all (steps_of act t) disk) rests (after_act act t).here
here_after (through Zero place bytes) disk t may = record { zero = settled_left (overlay place bytes t.here.file0); one = may.one; store = may.store; out = may.out }
here_after (through One place bytes) disk t may = record { zero = may.zero; one = settled_left (overlay place bytes t.here.file1); store = may.store; out = may.out }
here_after (writes Zero place bytes) disk t may = record { zero = overlay_more disk.zero place bytes t.here.file0 may.zero; one = may.one; store = may.store; out = may.out }
here_after (writes One place bytes) disk t may = record { zero = may.zero; one = overlay_more disk.one place bytes t.here.file1 may.one; store = may.store; out = may.out }
here_after (prints bytes) disk t may = record { zero = may.zero; one = may.one; store = may.store; out = rw (begins_none disk.out t.here.out may.out) (nothing_begins [] (disk.out ++ bytes)) }
here_after (calls (Sync Zero)) disk t may = record { zero = settled_left t.here.file0; one = may.one; store = may.store; out = may.out }
here_after (calls (Sync One)) disk t may = record { zero = may.zero; one = settled_left t.here.file1; store = may.store; out = may.out }
here_after (calls (Size file)) disk t may = may
here_after (calls (ReadAt file place count)) disk t may = may
here_after (calls (WriteAt file place count)) disk t may = may
here_after (device (reg_read reg)) disk t may = record { zero = may.zero; one = may.one; store = inl refl; out = may.out }
here_after (device (reg_write reg value)) disk t may = record { zero = may.zero; one = may.one; store = inl refl; out = may.out }
here_after (device (range_read place count)) disk t may = record { zero = may.zero; one = may.one; store = inl refl; out = may.out }
here_after (device (range_write place bytes)) disk t may = record { zero = may.zero; one = may.one; store = inl refl; out = may.out }
here_after (device (put id bytes)) disk t may = record { zero = may.zero; one = may.one; store = inl refl; out = may.out }

here_after_all : (acts : List Act) (disk : Disk) (t : Told) → MayLeave disk rests t.here → MayLeave (after_all (steps_of_all acts t) disk) rests (after_acts acts t).here
here_after_all [] disk t may = may
here_after_all (x ∷ xs) disk t may =
    subst (λ (d : Disk). MayLeave d rests (after_acts xs (after_act x t)).here) (sym (after_all-append (steps_of x t) (steps_of_all xs (after_act x t)) disk))
    (here_after_all xs (after_all (steps_of x t) disk) (after_act x t) (here_after x disk t may))

pub here_left : (past : Past) → MayLeave (disk_of past) rests (now_of past).here
here_left past = here_after_all past.acts (settled_disk past.first.here) past.first (record {
  zero = settled_left past.first.here.file0;
  one = settled_left past.first.here.file1;
  store = inl refl;
  out = nothing_begins [] past.first.here.out;
})

some_is : (s t : Told) → Some s ≡ Some t → s ≡ t
some_is s t e = cc

now_left : (past : Past) (left : Left) → LeftNow (clock_of past) left → MayLeave (disk_of past) rests left
now_left past left now = now_only (settled_disk past.first.here) (steps_of_all past.acts past.first) left now

pub told_left : (s : State) (t : Told) → Some (told_of s) ≡ Some t → LeftNow (clock_of s.past) t.here
told_left s t is = subst (λ (u : Told). LeftNow (clock_of s.past) u.here) (some_is (told_of s) t is)
    (now_counts (settled_disk s.past.first.here) (steps_of_all s.past.acts s.past.first) (length (steps_of_all s.past.acts s.past.first)) (now_of s.past).here (omega arith) (here_left s.past))

-- What a crash now leaves has the store and the text of the model.
kept_left : (past : Past) (left : Left) → LeftNow (clock_of past) left → (left.store ≡ (now_of past).here.store) × (left.out ≡ (now_of past).here.out)
kept_left past left now =
    let may : MayLeave (disk_of past) rests left = now_left past left now in
    let here : MayLeave (disk_of past) rests (now_of past).here = here_left past in (
      becomes_same (disk_of past).store left.store may.store ∙ sym (becomes_same (disk_of past).store (now_of past).here.store here.store),
      begins_none (disk_of past).out left.out may.out ∙ sym (begins_none (disk_of past).out (now_of past).here.out here.out),
    )

pub text_left : (s : State) (t : Told) (left : Left) → Some (told_of s) ≡ Some t → LeftNow (clock_of s.past) left → left.out ≡ t.here.out
text_left s t left is now = (kept_left s.past left now).1 ∙ ap (λ (u : Told). u.here.out) (some_is (told_of s) t is)

pub store_left : (s : State) → StoreIsLeft (Some (told_of s)) (clock_of s.past)
store_left s t is left now = (kept_left s.past left now).0 ∙ ap (λ (u : Told). u.here.store) (some_is (told_of s) t is)

-- acts with one more

pub steps_of_all-more : (acts : List Act) (act : Act) (t : Told) → steps_of_all (acts ++ act ∷ []) t ≡ steps_of_all acts t ++ steps_of act (after_acts acts t)
steps_of_all-more [] act t = append-nil (steps_of act t)
steps_of_all-more (x ∷ xs) act t =
    ap (λ (calls : List Call). steps_of x t ++ calls) (steps_of_all-more xs act (after_act x t))
    ∙ sym (append_assoc (steps_of x t) (steps_of_all xs (after_act x t)) (steps_of act (after_acts xs (after_act x t))))

within_file : (disk : Disk) (here : Left) (file : FileNo) (place : ℕ) → MayLeave disk rests here → place ≤ length (file_in file here) → place ≤ greatest_length (length (disk_file file disk).synced) (disk_file file disk).written
within_file disk here Zero place may within = omega (arith, may.zero.no_longer)
within_file disk here One place may within = omega (arith, may.one.no_longer)

file_left : (disk : Disk) (here : Left) (file : FileNo) → MayLeave disk rests here → MayLeaveFile (disk_file file disk) (file_in file here)
file_left disk here Zero may = may.zero
file_left disk here One may = may.one

-- one act more, of a past

module _ (past : Past) where
  abbrev here : Left
  here = (now_of past).here

  abbrev steps : List Call
  steps = steps_of_all past.acts past.first

  abbrev with_one : Act → List Call
  with_one act = steps_of_all (past.acts ++ act ∷ []) past.first

  one_more : (act : Act) (call : Call) → steps_of act (now_of past) ≡ call ∷ [] → with_one act ≡ steps ++ call ∷ []
  one_more act call is = steps_of_all-more past.acts act past.first ∙ ap (λ (more : List Call). steps ++ more) is

  passes : (act : Act) (call : Call) → steps_of act (now_of past) ≡ call ∷ [] → (Step : Left → Left → Type 0)
      → ((left : Left) → MayLeave (disk_of past) call left → AfterDisk (disk_of past) Step left)
      → ((left : Left) → MayLeave (after call (disk_of past)) rests left → AfterDisk (disk_of past) Step left)
      → Passes Step (clock_of past) (clock_of (with_act act past))
  passes act call is Step during ends = passes_call (settled_disk past.first.here) steps (with_one act) call Step (one_more act call is) during ends

  pub passes_wrote : (file : FileNo) (place : ℕ) (bytes : List ℕ) → place ≤ length (file_in file here) → Passes (InFile file (Torn place (length bytes))) (clock_of past) (clock_of (with_act (writes file place bytes) past))
  passes_wrote file place bytes within = passes (writes file place bytes) (writes_range file place (length bytes)) refl (InFile file (Torn place (length bytes)))
      (λ left may. write_during (disk_of past) file place (length bytes) left may)
      (λ left may. write_before (disk_of past) file place (length bytes) (within_file (disk_of past) here file place (here_left past) within) left may)

  pub passes_synced : (file : FileNo) → Passes Same (clock_of past) (clock_of (with_act (calls (Sync file)) past))
  passes_synced file = passes (calls (Sync file)) (syncs file (file_in file here)) refl Same
      (λ left may. record { from = left; was = before_sync (disk_of past) file (file_in file here) left may; by = refl })
      (λ left may. sync_before (disk_of past) file (file_in file here) (file_left (disk_of past) here file (here_left past)) left may)

  pub synced_now : (file : FileNo) → IsSynced file (file_in file here) (clock_of (with_act (calls (Sync file)) past))
  synced_now file left now =
      let sync : Call = syncs file (file_in file here) in
      let may : MayLeave (disk_of (with_act (calls (Sync file)) past)) rests left = now_left (with_act (calls (Sync file)) past) left now in
      let is : disk_of (with_act (calls (Sync file)) past) ≡ after sync (disk_of past) =
      ap (λ cs. after_all cs (settled_disk past.first.here)) (one_more (calls (Sync file)) sync refl)
      ∙ after_all-append steps (sync ∷ []) (settled_disk past.first.here) in
      synced_only (disk_of past) file (file_in file here) left (subst (λ (disk : Disk). MayLeave disk rests left) is may)

  abbrev store_by : DeviceCall → List Stored
  store_by call = (after_device call (now_of past)).here.store

  pub passes_acted : (call : DeviceCall) → Passes (InStore (Becomes (after_device call (now_of past)).here.store)) (clock_of past) (clock_of (with_act (device call) past))
  passes_acted call = passes (device call) (stores (store_by call) (store_by call)) refl (InStore (Becomes (store_by call)))
      (λ left may. store_during (disk_of past) (store_by call) left may)
      (λ left may. store_ends (disk_of past) (store_by call) left may)

  pub passes_printed : (piece : List ℕ) → Passes (InOut (Begins piece)) (clock_of past) (clock_of (with_act (prints piece) past))
  passes_printed piece = passes (prints piece) (prints_part piece piece) refl (InOut (Begins piece))
      (λ left may. print_during (disk_of past) piece left may)
      (λ left may. print_ends (disk_of past) piece left may)

  pub leads_printed : (piece : List ℕ) → Leads (InOut (Appends piece)) (clock_of past) (clock_of (with_act (prints piece) past))
  leads_printed piece = leads_call (settled_disk past.first.here) steps (with_one (prints piece))
      (prints_part piece piece) (InOut (Appends piece)) (one_more (prints piece) (prints_part piece piece) refl)
      (λ left may. print_appends (disk_of past) piece left may)

-- A step of the device that keeps the store changes nothing that a crash leaves.

becomes_store : (store old new : List Stored) → store ≡ old → Becomes store old new → new ≡ old
becomes_store store old new is (inl same) = same
becomes_store store old new is (inr made) = made ∙ is

same_after : (past : Past) (store : List Stored) (left : Left) → store ≡ (now_of past).here.store → After (clock_of past) (InStore (Becomes store)) left → After (clock_of past) Same left
same_after past store left is after = record {
  from = after.from;
  was = after.was;
  by =
      after.by.rest
      ∙ ap (λ (records : List Stored). record after.from { store = records })
      (becomes_store store after.from.store after.by.store (is ∙ sym (kept_left past after.from after.was).0) after.by.step);
}

pub passes_kept : (past : Past) (call : DeviceCall) → (after_device call (now_of past)).here.store ≡ (now_of past).here.store → Passes Same (clock_of past) (clock_of (with_act (device call) past))
passes_kept past call is =
    let store : List Stored = (after_device call (now_of past)).here.store in
    let passes : Passes (InStore (Becomes store)) (clock_of past) (clock_of (with_act (device call) past)) = passes_acted past call in
    record {
      later = passes.later;
      kept = passes.kept;
      each = λ t left within may. elim (passes.each t left within may) [ inl before ↦ inl before | inr after ↦ inr (same_after past store left is after) ];
      ends = λ left now. same_after past store left is (passes.ends left now);
    }
