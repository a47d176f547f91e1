-- How the moments of the disk model continue over one more call.
use Rattle.std.specs.Prelude.{◌≡◌, ℕ, zero, suc, ◌≤◌, ◌⊎◌, List, [], ◌∷◌, ◌++◌, length, refl}
use Rattle.std.proofs.Common.{sym, subst, inl, inr, arith, length-append, append-nil}
use Rattle.erst_store.specs.Store.{Stored}
use Rattle.board_core.specs.declared.board.FileNo.{FileNo}
use Rattle.board_core.specs.declared.board.FileNo.TheVariants.{Zero, One}
use Rattle.board_core.specs.Clock.{After, Passes, Leads}
use Rattle.board_core.specs.Stop.{Left, Same, Becomes, Begins, Appends, InFile, InStore, InOut, file_in}
use Rattle.board_core.specs.Told.{Torn}
use Rattle.board_core.specs.DiskModel.{greatest_length, MayLeaveFile, Disk, MayLeave, Call, writes, syncs, stores, prints, rests, disk_file, after, after_all, piece_of, MayLeaveSince, disk_clock}
use Rattle.board_core.specs.Steps.DiskLemmas.{torn_before, settled_only, begins_none, nothing_begins}

-- A store is one of two stores, and these are equal.
pub becomes_same : (old new : List Stored) → Becomes old old new → new ≡ old
becomes_same old new (inl is) = is
becomes_same old new (inr is) = is

-- What a crash between calls may leave, a crash during a call may leave.
pub call_more : (disk : Disk) (call : Call) (left : Left) → MayLeave disk rests left → MayLeave disk call left
call_more disk call left may = record {
  zero = may.zero;
  one = may.one;
  store = inl (becomes_same disk.store left.store may.store);
  out = rw (begins_none disk.out left.out may.out) (nothing_begins (piece_of call) disk.out);
}

pub after_all-append : (calls more : List Call) (disk : Disk) → after_all (calls ++ more) disk ≡ after_all more (after_all calls disk)
after_all-append [] more disk = refl
after_all-append (x ∷ xs) more disk = after_all-append xs more (after x disk)

-- A moment of calls with one more is a moment of the calls before, or during that call, or after it.
pub since_split : (disk : Disk) (calls : List Call) (call : Call) (t : ℕ) (left : Left) → t ≤ length calls → MayLeaveSince disk (calls ++ call ∷ []) t left
    → MayLeaveSince disk calls t left ⊎ (MayLeave (after_all calls disk) call left ⊎ MayLeave (after call (after_all calls disk)) rests left)
since_split disk [] call zero left within may = inr may
since_split disk [] call (suc t) left within may = absurd (omega arith)
since_split disk (x ∷ xs) call zero left within (inl may) = inl (inl may)
since_split disk (x ∷ xs) call zero left within (inr may) =
    elim (since_split (after x disk) xs call zero left (omega arith) may) [ inl before ↦ inl (inr before) | inr last ↦ inr last ]
since_split disk (x ∷ xs) call (suc t) left within may = since_split (after x disk) xs call t left (omega arith) may

pub since_kept : (disk : Disk) (calls : List Call) (call : Call) (t : ℕ) (left : Left) → MayLeaveSince disk calls t left → MayLeaveSince disk (calls ++ call ∷ []) t left
since_kept disk [] call zero left may = inl (call_more disk call left may)
since_kept disk [] call (suc t) left may = absurd may
since_kept disk (x ∷ xs) call zero left (inl may) = inl may
since_kept disk (x ∷ xs) call zero left (inr may) = inr (since_kept (after x disk) xs call zero left may)
since_kept disk (x ∷ xs) call (suc t) left may = since_kept (after x disk) xs call t left may

-- what a crash during the last call may leave
pub last_counts : (disk : Disk) (calls : List Call) (call : Call) (left : Left) → MayLeave (after_all calls disk) call left → MayLeaveSince disk (calls ++ call ∷ []) (length calls) left
last_counts disk [] call left may = inl may
last_counts disk (x ∷ xs) call left may = last_counts (after x disk) xs call left may

pub now_only : (disk : Disk) (calls : List Call) (left : Left) → MayLeaveSince disk calls (length calls) left → MayLeave (after_all calls disk) rests left
now_only disk [] left may = may
now_only disk (x ∷ xs) left may = now_only (after x disk) xs left may

pub now_counts : (disk : Disk) (calls : List Call) (t : ℕ) (left : Left) → t ≤ length calls → MayLeave (after_all calls disk) rests left → MayLeaveSince disk calls t left
now_counts disk [] zero left within may = may
now_counts disk [] (suc t) left within may = absurd (omega arith)
now_counts disk (x ∷ xs) zero left within may = inr (now_counts (after x disk) xs zero left (omega arith) may)
now_counts disk (x ∷ xs) (suc t) left within may = now_counts (after x disk) xs t left (omega arith) may

pub since_earlier : (disk : Disk) (calls : List Call) (s t : ℕ) (left : Left) → s ≤ t → MayLeaveSince disk calls t left → MayLeaveSince disk calls s left
since_earlier disk [] zero zero left within may = may
since_earlier disk [] zero (suc t) left within may = absurd may
since_earlier disk [] (suc s) zero left within may = absurd (omega arith)
since_earlier disk [] (suc s) (suc t) left within may = absurd may
since_earlier disk (x ∷ xs) zero zero left within may = may
since_earlier disk (x ∷ xs) zero (suc t) left within may = inr (since_earlier (after x disk) xs zero t left (omega arith) may)
since_earlier disk (x ∷ xs) (suc s) zero left within may = absurd (omega arith)
since_earlier disk (x ∷ xs) (suc s) (suc t) left within may = since_earlier (after x disk) xs s t left (omega arith) may

-- what is left of a disk, after a step
pub record AfterDisk (disk : Disk) (Step : Left → Left → Type 0) (left : Left) : Type 0 where
  pub from : Left
  pub was : MayLeave disk rests from
  pub by : Step from left

pub after_disk : (disk : Disk) (calls : List Call) (Step : Left → Left → Type 0) (left : Left) → AfterDisk (after_all calls disk) Step left → After (disk_clock disk calls) Step left
after_disk disk calls Step left step = record { from = step.from; was = now_counts disk calls (length calls) step.from (omega arith) step.was; by = step.by }

-- One more call, given what a crash during it and after it leaves.
pub leads_call : (disk : Disk) (calls more : List Call) (call : Call) (Step : Left → Left → Type 0) → more ≡ calls ++ call ∷ []
    → ((left : Left) → MayLeave (after call (after_all calls disk)) rests left → AfterDisk (after_all calls disk) Step left)
    → Leads Step (disk_clock disk calls) (disk_clock disk more)
leads_call disk calls more call Step is ends = subst (λ (xs : List Call). Leads Step (disk_clock disk calls) (disk_clock disk xs)) (sym is) (λ left now.
    after_disk disk calls Step left (ends left (rw after_all-append at (now_only disk (calls ++ call ∷ []) left now))))

pub passes_call : (disk : Disk) (calls more : List Call) (call : Call) (Step : Left → Left → Type 0) → more ≡ calls ++ call ∷ []
    → ((left : Left) → MayLeave (after_all calls disk) call left → AfterDisk (after_all calls disk) Step left)
    → ((left : Left) → MayLeave (after call (after_all calls disk)) rests left → AfterDisk (after_all calls disk) Step left)
    → Passes Step (disk_clock disk calls) (disk_clock disk more)
passes_call disk calls more call Step is during ends = subst (λ (xs : List Call). Passes Step (disk_clock disk calls) (disk_clock disk xs)) (sym is) (record {
  later = simp length-append (omega arith);
  kept = λ t left within may. since_kept disk calls call t left may;
  each = λ t left within may. elim (since_split disk calls call t left within may) [ inl before ↦ inl before | inr last ↦ inr (elim last [ inl here ↦ after_disk disk calls Step left (during left here) | inr behind ↦ after_disk disk calls Step left (ends left behind) ]) ];
  ends = leads_call disk calls (calls ++ call ∷ []) call Step refl ends;
})

pub torn_same : (place count : ℕ) (bytes : List ℕ) → Torn place count bytes bytes
torn_same place count bytes = record { front = refl; back = refl; longer = omega arith; within = omega arith }

-- a write, at most past the end of what its file may be

pub write_before : (disk : Disk) (file : FileNo) (place count : ℕ) → place ≤ greatest_length (length (disk_file file disk).synced) (disk_file file disk).written
    → (left : Left) → MayLeave (after (writes file place count) disk) rests left → AfterDisk disk (InFile file (Torn place count)) left
write_before disk Zero place count within left may =
    let found : (from : List ℕ) × MayLeaveFile disk.zero from × Torn place count from left.file0 = torn_before disk.zero place count left.file0 within may.zero in
    record {
      from = record left { file0 = found.0 };
      was = record { zero = found.1; one = may.one; store = may.store; out = may.out };
      by = record { bytes = left.file0; step = found.2; rest = refl };
    }
write_before disk One place count within left may =
    let found : (from : List ℕ) × MayLeaveFile disk.one from × Torn place count from left.file1 = torn_before disk.one place count left.file1 within may.one in
    record {
      from = record left { file1 = found.0 };
      was = record { zero = may.zero; one = found.1; store = may.store; out = may.out };
      by = record { bytes = left.file1; step = found.2; rest = refl };
    }

-- What a crash during a write or a sync may leave, a crash before it may leave.
before_write : (disk : Disk) (file : FileNo) (place count : ℕ) (left : Left) → MayLeave disk (writes file place count) left → MayLeave disk rests left
before_write disk file place count left may = record { zero = may.zero; one = may.one; store = may.store; out = may.out }

pub before_sync : (disk : Disk) (file : FileNo) (bytes : List ℕ) (left : Left) → MayLeave disk (syncs file bytes) left → MayLeave disk rests left
before_sync disk file bytes left may = record { zero = may.zero; one = may.one; store = may.store; out = may.out }

pub torn_nothing : (file : FileNo) (place count : ℕ) (left : Left) → InFile file (Torn place count) left left
torn_nothing Zero place count left = record { bytes = left.file0; step = torn_same place count left.file0; rest = refl }
torn_nothing One place count left = record { bytes = left.file1; step = torn_same place count left.file1; rest = refl }

pub write_during : (disk : Disk) (file : FileNo) (place count : ℕ) (left : Left) → MayLeave disk (writes file place count) left → AfterDisk disk (InFile file (Torn place count)) left
write_during disk file place count left may = record { from = left; was = before_write disk file place count left may; by = torn_nothing file place count left }

-- a sync of a file that may be left as it is

pub sync_before : (disk : Disk) (file : FileNo) (bytes : List ℕ) → MayLeaveFile (disk_file file disk) bytes → (left : Left) → MayLeave (after (syncs file bytes) disk) rests left → AfterDisk disk Same left
sync_before disk Zero bytes here left may = record {
  from = left;
  was = record { zero = rw (settled_only bytes left.file0 may.zero) here; one = may.one; store = may.store; out = may.out };
  by = refl;
}
sync_before disk One bytes here left may = record {
  from = left;
  was = record { zero = may.zero; one = rw (settled_only bytes left.file1 may.one) here; store = may.store; out = may.out };
  by = refl;
}

pub synced_only : (disk : Disk) (file : FileNo) (bytes : List ℕ) (left : Left) → MayLeave (after (syncs file bytes) disk) rests left → file_in file left ≡ bytes
synced_only disk Zero bytes left may = settled_only bytes left.file0 may.zero
synced_only disk One bytes left may = settled_only bytes left.file1 may.one

-- a call of the device

pub store_during : (disk : Disk) (made : List Stored) (left : Left) → MayLeave disk (stores made made) left → AfterDisk disk (InStore (Becomes made)) left
store_during disk made left may = record {
  from = record left { store = disk.store };
  was = record { zero = may.zero; one = may.one; store = inl refl; out = may.out };
  by = record { store = left.store; step = may.store; rest = refl };
}

pub store_ends : (disk : Disk) (made : List Stored) (left : Left) → MayLeave (after (stores made made) disk) rests left → AfterDisk disk (InStore (Becomes made)) left
store_ends disk made left may = record {
  from = record left { store = disk.store };
  was = record { zero = may.zero; one = may.one; store = inl refl; out = may.out };
  by = record { store = left.store; step = inr (becomes_same made left.store may.store); rest = refl };
}

-- a print

pub print_during : (disk : Disk) (piece : List ℕ) (left : Left) → MayLeave disk (prints piece piece) left → AfterDisk disk (InOut (Begins piece)) left
print_during disk piece left may = record {
  from = record left { out = disk.out };
  was = record { zero = may.zero; one = may.one; store = may.store; out = nothing_begins [] disk.out };
  by = record { text = left.out; step = may.out; rest = refl };
}

pub print_appends : (disk : Disk) (piece : List ℕ) (left : Left) → MayLeave (after (prints piece piece) disk) rests left → AfterDisk disk (InOut (Appends piece)) left
print_appends disk piece left may = record {
  from = record left { out = disk.out };
  was = record { zero = may.zero; one = may.one; store = may.store; out = nothing_begins [] disk.out };
  by = record { text = left.out; step = begins_none (disk.out ++ piece) left.out may.out; rest = refl };
}

pub all_begins : (piece old new : List ℕ) → Appends piece old new → Begins piece old new
all_begins piece old new is = record { part = piece; missing = []; splits = append-nil piece; is = is }

pub print_ends : (disk : Disk) (piece : List ℕ) (left : Left) → MayLeave (after (prints piece piece) disk) rests left → AfterDisk disk (InOut (Begins piece)) left
print_ends disk piece left may =
    let ended : AfterDisk disk (InOut (Appends piece)) left = print_appends disk piece left may in
    record { from = ended.from; was = ended.was; by = record { text = ended.by.text; step = all_begins piece ended.from.out ended.by.text ended.by.step; rest = ended.by.rest } }
