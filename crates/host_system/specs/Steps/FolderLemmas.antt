-- What a crash leaves of a folder after one change, by what a crash before the change leaves.
use Rattle.std.specs.Prelude.{◌≡◌, ℕ, ◌+◌, ◌≤◌, ◌⊎◌, max, List, [], ◌∷◌, ◌++◌, length, take, Option, None, Some, refl}
use Rattle.std.proofs.Common.{sym, ap, subst, inl, inr, arith, length-take}
use Rattle.board_core.specs.DiskModel.{greatest_length, DiskFile, MayLeaveFile, with_range}
use Rattle.board_core.specs.Steps.DiskLemmas.{outside_front, outside_last, outside_more, greatest_length-more, overlay_more, torn_before, settled_left, settled_only}
use Rattle.board_core.specs.Steps.MomentLemmas.{torn_same}
use Rattle.board_core.specs.Stop.{Left, Same, InFile, InStore, InOut, Becomes, Begins}
use Rattle.board_core.specs.Told.{Torn, overlay}
use Rattle.board_core.specs.declared.board.FileNo.{FileNo}
use Rattle.board_core.specs.declared.board.FileNo.TheVariants.{Zero, One}
use Rattle.host_system.specs.declared.system.FileName.{FileName}
use Rattle.host_system.specs.declared.system.FileName.TheVariants.{Journal, Store, New}
use Rattle.host_system.specs.Folder.{FolderFile, NameEntry, Folder, entry_named, FileUse, shut, opened, locked, lost, after_writing, with_now, on_disk, renewed, used, settled_name, FolderChange, wrote, synced, made, opens, locks, loses, removed, renamed, synced_names, printed, change_name, folder_after, folder_after_all, Stopped, MayLeaveOne, MayLeaveName, MayLeaveFolder, settled_file_of, entry_from, settled_folder, bytes_now, here_in}
use Rattle.host_system.specs.FolderPast.{bytes_or}
use Rattle.host_system.specs.View.{store_in, seen_as}

abbrev pub empty_file : FolderFile
empty_file = settled_file_of []

abbrev pub after_syncing : FolderFile → FolderFile
after_syncing file = settled_file_of file.bytes

-- ---- what is there now may be left

abbrev pub IsConsistent : NameEntry → Type 0
IsConsistent entry = MayLeaveOne (on_disk entry.now) (bytes_now entry)

pub record AreConsistent (folder : Folder) : Type 0 where
  pub zero : IsConsistent folder.zero
  pub one : IsConsistent folder.one
  pub store : IsConsistent folder.store
  pub new : IsConsistent folder.new

-- A range may be made longer.
pub wider : (file : DiskFile) (place n count : ℕ) (bytes : List ℕ) → n ≤ count → MayLeaveFile (with_range place n file) bytes → MayLeaveFile (with_range place count file) bytes
wider file place n count bytes within may = record {
  stays = λ k below outside. may.stays k below (outside_more file.written (record { place = place; count = n }) k
      (outside_front file.written (record { place = place; count = count }) k outside)
      (elim (outside_last file.written (record { place = place; count = count }) k outside) [ inl front ↦ inl front | inr back ↦ inr (omega arith) ]));
  no_shorter = may.no_shorter;
  no_longer = (
      let less : greatest_length (length file.synced) (file.written ++ record { place = place; count = n } ∷ []) ≡ max (greatest_length (length file.synced) file.written) (place + n) = greatest_length-more (length file.synced) file.written (record { place = place; count = n }) in
      let more : greatest_length (length file.synced) (file.written ++ record { place = place; count = count } ∷ []) ≡ max (greatest_length (length file.synced) file.written) (place + count) = greatest_length-more (length file.synced) file.written (record { place = place; count = count }) in
      let a : length bytes ≤ greatest_length (length file.synced) (file.written ++ record { place = place; count = n } ∷ []) = may.no_longer in
      omega arith);
}

written_consistent : (place count : ℕ) (bytes : List ℕ) (file : FolderFile) → MayLeaveFile file.disk file.bytes → MayLeaveFile (after_writing place count bytes file).disk (after_writing place count bytes file).bytes
written_consistent place count bytes file may =
    wider file.disk place (length (take count bytes)) count (overlay place (take count bytes) file.bytes) (omega (arith, length-take count bytes)) (overlay_more file.disk place (take count bytes) file.bytes may)

wrote_now : (place count : ℕ) (bytes : List ℕ) (now : Option FolderFile) (others : List (Option DiskFile)) → IsConsistent (record { now = now; others = others; how = shut }) → IsConsistent (with_now (after_writing place count bytes) (record { now = now; others = others; how = shut }))
wrote_now place count bytes None others may = tt
wrote_now place count bytes (Some file) others may = written_consistent place count bytes file may

synced_now : (now : Option FolderFile) (others : List (Option DiskFile)) → IsConsistent (record { now = now; others = others; how = shut }) → IsConsistent (with_now after_syncing (record { now = now; others = others; how = shut }))
synced_now None others may = tt
synced_now (Some file) others may = settled_left file.bytes

one_entry : (name : FileName) (step : NameEntry → NameEntry) (folder : Folder) → AreConsistent folder → ((entry : NameEntry) → IsConsistent entry → IsConsistent (step entry)) → AreConsistent (change_name name step folder)
one_entry (Journal Zero) step folder are keeps = record { zero = keeps folder.zero are.zero; one = are.one; store = are.store; new = are.new }
one_entry (Journal One) step folder are keeps = record { zero = are.zero; one = keeps folder.one are.one; store = are.store; new = are.new }
one_entry Store step folder are keeps = record { zero = are.zero; one = are.one; store = keeps folder.store are.store; new = are.new }
one_entry New step folder are keeps = record { zero = are.zero; one = are.one; store = are.store; new = keeps folder.new are.new }

pub consistent_after : (change : FolderChange) (folder : Folder) → AreConsistent folder → AreConsistent (folder_after change folder)
consistent_after (wrote name place count bytes) folder are = one_entry name (with_now (after_writing place count bytes)) folder are (λ entry may. wrote_now place count bytes entry.now entry.others may)
consistent_after (synced name) folder are = one_entry name (with_now after_syncing) folder are (λ entry may. synced_now entry.now entry.others may)
consistent_after (made name) folder are = one_entry name (renewed (Some empty_file) opened) folder are (λ entry may. settled_left [])
consistent_after (opens name) folder are = one_entry name (used opened) folder are (λ entry may. may)
consistent_after (locks name) folder are = one_entry name (used locked) folder are (λ entry may. may)
consistent_after (loses name) folder are = one_entry name (used lost) folder are (λ entry may. may)
consistent_after (removed name) folder are = one_entry name (renewed None shut) folder are (λ entry may. tt)
consistent_after renamed folder are = record { zero = are.zero; one = are.one; store = are.new; new = tt }
consistent_after synced_names folder are = record { zero = are.zero; one = are.one; store = are.store; new = are.new }
consistent_after (printed piece) folder are = record { zero = are.zero; one = are.one; store = are.store; new = are.new }

pub consistent_after_all : (changes : List FolderChange) (folder : Folder) → AreConsistent folder → AreConsistent (folder_after_all changes folder)
consistent_after_all [] folder are = are
consistent_after_all (x ∷ xs) folder are = consistent_after_all xs (folder_after x folder) (consistent_after x folder are)

first_entry : (bytes : Option (List ℕ)) → IsConsistent (entry_from bytes)
first_entry None = tt
first_entry (Some bytes) = settled_left bytes

pub settled_consistent : (start : Stopped) → AreConsistent (settled_folder start)
settled_consistent start = record { zero = first_entry start.zero; one = first_entry start.one; store = first_entry start.store; new = first_entry start.new }

pub here_may : (folder : Folder) → AreConsistent folder → MayLeaveFolder folder (here_in folder)
here_may folder are = record { zero = inl are.zero; one = inl are.one; store = inl are.store; new = inl are.new; out = refl }

-- ---- what a stop after a change leaves, by what one before it leaves

pub record AfterFolder (folder : Folder) (Step : Left → Left → Type 0) (left : Stopped) : Type 0 where
  pub from : Stopped
  pub was : MayLeaveFolder folder from
  pub by : Step (seen_as from) (seen_as left)

-- A board doesn't see `rasd.new`.
pub new_before : (step : NameEntry → NameEntry) (folder : Folder) → AreConsistent folder → (left : Stopped) → MayLeaveFolder (record folder { new = step folder.new }) left → AfterFolder folder Same left
new_before step folder are left may = record {
  from = record left { new = bytes_now folder.new };
  was = record { zero = may.zero; one = may.one; store = may.store; new = inl are.new; out = may.out };
  by = refl;
}

pub used_before : (name : FileName) (how : FileUse) (folder : Folder) (left : Stopped) → MayLeaveFolder (change_name name (used how) folder) left → MayLeaveFolder folder left
used_before (Journal Zero) how folder left may = record { zero = may.zero; one = may.one; store = may.store; new = may.new; out = may.out }
used_before (Journal One) how folder left may = record { zero = may.zero; one = may.one; store = may.store; new = may.new; out = may.out }
used_before Store how folder left may = record { zero = may.zero; one = may.one; store = may.store; new = may.new; out = may.out }
used_before New how folder left may = record { zero = may.zero; one = may.one; store = may.store; new = may.new; out = may.out }

pub none_before : (Step : Left → Left → Type 0) → ((left : Left) → Step left left) → (folder : Folder) (left : Stopped) → MayLeaveFolder folder left → AfterFolder folder Step left
none_before Step same folder left may = record { from = left; was = may; by = same (seen_as left) }

-- The folder's names are durable.
settled_before : (entry : NameEntry) (left : Option (List ℕ)) → MayLeaveName (settled_name entry) left → MayLeaveName entry left
settled_before entry left (inl may) = inl may
settled_before entry left (inr may) = absurd may

pub names_before : (folder : Folder) (left : Stopped) → MayLeaveFolder (folder_after synced_names folder) left → MayLeaveFolder folder left
names_before folder left may = record {
  zero = settled_before folder.zero left.zero may.zero;
  one = settled_before folder.one left.one may.one;
  store = settled_before folder.store left.store may.store;
  new = settled_before folder.new left.new may.new;
  out = may.out;
}

-- A file is synced.
synced_before : (now : Option FolderFile) (others : List (Option DiskFile)) → IsConsistent (record { now = now; others = others; how = shut }) → (left : Option (List ℕ))
    → MayLeaveName (with_now after_syncing (record { now = now; others = others; how = shut })) left → MayLeaveName (record { now = now; others = others; how = shut }) left
synced_before None others is left may = may
synced_before (Some file) others is None (inl may) = absurd may
synced_before (Some file) others is (Some bytes) (inl may) = inl (subst (λ (b : List ℕ). MayLeaveFile file.disk b) (sym (settled_only file.bytes bytes may)) is)
synced_before (Some file) others is left (inr may) = inr may

pub sync_before : (name : FileName) (folder : Folder) → AreConsistent folder → (left : Stopped) → MayLeaveFolder (folder_after (synced name) folder) left → MayLeaveFolder folder left
sync_before (Journal Zero) folder are left may = record { zero = synced_before folder.zero.now folder.zero.others are.zero left.zero may.zero; one = may.one; store = may.store; new = may.new; out = may.out }
sync_before (Journal One) folder are left may = record { zero = may.zero; one = synced_before folder.one.now folder.one.others are.one left.one may.one; store = may.store; new = may.new; out = may.out }
sync_before Store folder are left may = record { zero = may.zero; one = may.one; store = synced_before folder.store.now folder.store.others are.store left.store may.store; new = may.new; out = may.out }
sync_before New folder are left may = record { zero = may.zero; one = may.one; store = may.store; new = synced_before folder.new.now folder.new.others are.new left.new may.new; out = may.out }

-- The new store takes the old store's name: a crash leaves one or the other.

left_of_settled : (bytes : List ℕ) (left : Option (List ℕ)) → MayLeaveOne (on_disk (Some (settled_file_of bytes))) left → left ≡ Some bytes
left_of_settled bytes None may = absurd may
left_of_settled bytes (Some found) may = ap Some (settled_only bytes found may)

renamed_by : (bytes : List ℕ) (folder : Folder) → folder.new.now ≡ Some (settled_file_of bytes) → AreConsistent folder → (left : Stopped)
    → MayLeaveFolder (folder_after renamed folder) left → MayLeaveOne (on_disk folder.new.now) left.store ⊎ MayLeaveName folder.store left.store → AfterFolder folder (InStore (Becomes (store_in (Some bytes)))) left
renamed_by bytes folder is are left may (inl moved) = record {
  from = record left { store = bytes_now folder.store; new = bytes_now folder.new };
  was = record { zero = may.zero; one = may.one; store = inl are.store; new = inl are.new; out = may.out };
  by = record {
    store = store_in left.store;
    step = inr (ap store_in (left_of_settled bytes left.store (subst (λ (now : Option FolderFile). MayLeaveOne (on_disk now) left.store) is moved)));
    rest = refl;
  };
}
renamed_by bytes folder is are left may (inr stayed) = record {
  from = record left { new = bytes_now folder.new };
  was = record { zero = may.zero; one = may.one; store = stayed; new = inl are.new; out = may.out };
  by = record { store = store_in left.store; step = inl refl; rest = refl };
}

pub rename_before : (bytes : List ℕ) (folder : Folder) → folder.new.now ≡ Some (settled_file_of bytes) → AreConsistent folder → (left : Stopped)
    → MayLeaveFolder (folder_after renamed folder) left → AfterFolder folder (InStore (Becomes (store_in (Some bytes)))) left
rename_before bytes folder is are left may = renamed_by bytes folder is are left may may.store

-- A piece is printed.
pub print_before : (piece part missing : List ℕ) (folder : Folder) → part ++ missing ≡ piece → (left : Stopped) → MayLeaveFolder (folder_after (printed part) folder) left → AfterFolder folder (InOut (Begins piece)) left
print_before piece part missing folder splits left may = record {
  from = record left { out = folder.out };
  was = record { zero = may.zero; one = may.one; store = may.store; new = may.new; out = refl };
  by = record { text = left.out; step = record { part = part; missing = missing; splits = splits; is = may.out }; rest = refl };
}

-- A write, at most at the end of its file.

record IsBefore (now : Option FolderFile) (others : List (Option DiskFile)) (place count : ℕ) (left : Option (List ℕ)) : Type 0 where
  from : Option (List ℕ)
  may : MayLeaveName (record { now = now; others = others; how = shut }) from
  torn : Torn place count (bytes_or from) (bytes_or left)

found_before : (file : DiskFile) (others : List (Option DiskFile)) (now : Option FolderFile) (place count : ℕ) (bytes : List ℕ) → on_disk now ≡ Some file → (from : List ℕ) × MayLeaveFile file from × Torn place count from bytes → IsBefore now others place count (Some bytes)
found_before file others now place count bytes is found = record {
  from = Some found.0;
  may = inl (subst (λ (d : Option DiskFile). MayLeaveOne d (Some found.0)) (sym is) found.1);
  torn = found.2;
}

written_before : (now : Option FolderFile) (others : List (Option DiskFile)) (place count : ℕ) (bytes : List ℕ) → IsConsistent (record { now = now; others = others; how = shut }) → place ≤ length (bytes_or (bytes_now (record { now = now; others = others; how = shut })))
    → (left : Option (List ℕ)) → MayLeaveName (with_now (after_writing place count bytes) (record { now = now; others = others; how = shut })) left → IsBefore now others place count left
written_before None others place count bytes is within left may = record { from = left; may = may; torn = torn_same place count (bytes_or left) }
written_before (Some file) others place count bytes is within None (inl may) = absurd may
written_before (Some file) others place count bytes is within (Some found) (inl may) =
    found_before file.disk others (Some file) place count found refl (torn_before file.disk place count found (omega (arith, is.no_longer)) may)
written_before (Some file) others place count bytes is within left (inr may) = record { from = left; may = inr may; torn = torn_same place count (bytes_or left) }

pub write_before : (file : FileNo) (folder : Folder) (place count : ℕ) (bytes : List ℕ) → AreConsistent folder → place ≤ length (bytes_or (bytes_now (entry_named (Journal file) folder))) → (left : Stopped)
    → MayLeaveFolder (folder_after (wrote (Journal file) place count bytes) folder) left → AfterFolder folder (InFile file (Torn place count)) left
write_before Zero folder place count bytes are within left may =
    let found : IsBefore folder.zero.now folder.zero.others place count left.zero = written_before folder.zero.now folder.zero.others place count bytes are.zero within left.zero may.zero in
    record {
      from = record left { zero = found.from };
      was = record { zero = found.may; one = may.one; store = may.store; new = may.new; out = may.out };
      by = record { bytes = bytes_or left.zero; step = found.torn; rest = refl };
    }
write_before One folder place count bytes are within left may =
    let found : IsBefore folder.one.now folder.one.others place count left.one = written_before folder.one.now folder.one.others place count bytes are.one within left.one may.one in
    record {
      from = record left { one = found.from };
      was = record { zero = may.zero; one = found.may; store = may.store; new = may.new; out = may.out };
      by = record { bytes = bytes_or left.one; step = found.torn; rest = refl };
    }

-- A missing file is made, and is empty.

made_bytes : (now : Option FolderFile) (others : List (Option DiskFile)) → bytes_now (record { now = now; others = others; how = shut }) ≡ None → (left : Option (List ℕ)) → MayLeaveName (renewed (Some empty_file) opened (record { now = now; others = others; how = shut })) left
    → (from : Option (List ℕ)) × MayLeaveName (record { now = now; others = others; how = shut }) from × (bytes_or left ≡ bytes_or from)
made_bytes None others missing None (inl may) = absurd may
made_bytes None others missing (Some bytes) (inl may) = (None, inl tt, settled_only [] bytes may)
made_bytes None others missing left (inr may) = (left, may, refl)
made_bytes (Some file) others missing left may = absurd (some_none file.bytes missing)
  where
    some_none : (bytes : List ℕ) → Some bytes ≡ None → ⊥
    some_none bytes e = cc

pub made_before : (file : FileNo) (folder : Folder) → bytes_now (entry_named (Journal file) folder) ≡ None → (left : Stopped) → MayLeaveFolder (folder_after (made (Journal file)) folder) left → AfterFolder folder Same left
made_before Zero folder missing left may =
    let found : (from : Option (List ℕ)) × MayLeaveName folder.zero from × (bytes_or left.zero ≡ bytes_or from) = made_bytes folder.zero.now folder.zero.others missing left.zero may.zero in
    record {
      from = record left { zero = found.0 };
      was = record { zero = found.1; one = may.one; store = may.store; new = may.new; out = may.out };
      by = ap (λ (bytes : List ℕ). record (seen_as left) { file0 = bytes }) found.2;
    }
made_before One folder missing left may =
    let found : (from : Option (List ℕ)) × MayLeaveName folder.one from × (bytes_or left.one ≡ bytes_or from) = made_bytes folder.one.now folder.one.others missing left.one may.one in
    record {
      from = record left { one = found.0 };
      was = record { zero = may.zero; one = found.1; store = may.store; new = may.new; out = may.out };
      by = ap (λ (bytes : List ℕ). record (seen_as left) { file1 = bytes }) found.2;
    }
