-- What a sync and a write of a board's file lead to.
use Rattle.std.proofs.Common.{length-append, length-take, drop, ◌+◌, ◌++◌, ◌≡◌, ℕ, ◌≤◌, [], List, length, take, Some, refl, ap, sym, ◌∙◌, subst, inl, inr, arith, OnOk}
use Rattle.std.specs.Prelude.{Option, None, IfSome, IsSome, Result, Ok, Err, OnErr}
use Rattle.std.specs.Option.{option_map}
use Rattle.std.proofs.lemmas.List.{take-append-le, take_all}
use Rattle.std.proofs.lemmas.Slice.{drop-append-drop}
use Rattle.board_core.specs.Steps.DiskLemmas.{length-overlay, settled_only}
use Rattle.board_core.specs.Steps.MomentLemmas.{torn_nothing}
use Rattle.board_core.specs.Clock.{Passes, IsSynced}
use Rattle.board_core.specs.DiskModel.{DiskFile}
use Rattle.board_core.specs.Stop.{Left, InFile, file_in, with_file_in}
use Rattle.board_core.specs.Told.{overlay, Torn}
use Rattle.board_core.specs.declared.board.FileNo.{FileNo}
use Rattle.board_core.specs.declared.board.FileNo.TheVariants.{Zero, One}
use Rattle.host_system.specs.declared.system.FileName.TheVariants.{Journal}
use Rattle.host_system.specs.BoardFile.{IsNamedIn, IsUsableIn, IsReadableIn, IsNamed, IsUsable, IsReadable, KeepsOthers}
use Rattle.host_system.specs.Steps.Calls.{SeesWritten, SeesTorn}
use Rattle.host_system.specs.Folder.{FolderFile, Folder, shut, with_now, after_writing, wrote, synced, folder_after, Stopped, MayLeaveAny, MayLeaveName, MayLeaveFolder, here_in, settled_folder}
use Rattle.host_system.specs.FolderPast.{FolderPast, Did, IfTold, changed_by, folder_of, MayWrite, file_bytes, bytes_or}
use Rattle.host_system.specs.Steps.FolderLemmas.{write_before, after_syncing}
use Rattle.host_system.specs.Steps.FolderPastLemmas.{consistent_of, folder_of-more, now_only}
use Rattle.host_system.specs.View.{seen_as, seen_now, clock_over}
use Rattle.host_system.proofs.FileLemmas.{did_by, may_by, of_wrote, Sees, sees_none, sees_still, sees_change}
use Rattle.host_system.proofs.UseLemmas.{after_did}

not_there : IsSome {T = List ℕ} None → ⊥
not_there e = cc

-- The bytes of a name's file are the bytes that a board sees.
pub bytes_seen : (file : FileNo) (p : FolderPast) → file_bytes (Journal file) p ≡ file_in file (seen_now p)
bytes_seen Zero p = refl
bytes_seen One p = refl

-- A sync.

synced_there : (now : Option FolderFile) → IsSome (option_map (λ (f : FolderFile). f.bytes) now) → IsSome (option_map (λ (f : FolderFile). f.bytes) (option_map after_syncing now))
synced_there None there = absurd (not_there there)
synced_there (Some file) there = refl

synced_goes : (file : FileNo) (f : Folder) → IsUsableIn file f → IsUsableIn file (folder_after (synced (Journal file)) f)
synced_goes Zero f was = record { there = synced_there f.zero.now was.there; named = was.named; is_locked = was.is_locked }
synced_goes One f was = record { there = synced_there f.one.now was.there; named = was.named; is_locked = was.is_locked }

pub synced_usable : {T E : Type 0} (file : FileNo) (result : Result T E) (old new : Option FolderPast) → IfSome old (IsUsable file) → OnOk result (Did (synced (Journal file)) old new) → OnOk result (IfSome new (IsUsable file))
synced_usable file (Ok x) old new was ok = after_did (synced (Journal file)) (IsUsableIn file) (IsUsableIn file) (synced_goes file) old new ok was
synced_usable file (Err e) old new was ok = ok

only_synced : (now : Option FolderFile) (others : List (Option DiskFile)) → others ≡ [] → (left : Option (List ℕ))
    → MayLeaveName (with_now after_syncing (record { now = now; others = others; how = shut })) left → left ≡ option_map (λ (f : FolderFile). f.bytes) now
only_synced None others named None (inl may) = refl
only_synced None others named (Some found) (inl may) = absurd may
only_synced None others named left (inr may) = absurd (subst (λ (o : List (Option DiskFile)). MayLeaveAny o left) named may)
only_synced (Some file) others named None (inl may) = absurd may
only_synced (Some file) others named (Some found) (inl may) = ap Some (settled_only file.bytes found may)
only_synced (Some file) others named left (inr may) = absurd (subst (λ (o : List (Option DiskFile)). MayLeaveAny o left) named may)

file_synced : (file : FileNo) (f : Folder) → IsNamedIn file f → (left : Stopped) → MayLeaveFolder (folder_after (synced (Journal file)) f) left → file_in file (seen_as left) ≡ file_in file (seen_as (here_in f))
file_synced Zero f named left may = ap bytes_or (only_synced f.zero.now f.zero.others named left.zero may.zero)
file_synced One f named left may = ap bytes_or (only_synced f.one.now f.one.others named left.one may.one)

left_synced : (file : FileNo) (past : FolderPast) → IsNamed file past → IsSynced file (file_in file (seen_now past)) (clock_over (Some (changed_by (synced (Journal file)) past)))
left_synced file past named left now =
    let may : MayLeaveFolder (folder_after (synced (Journal file)) (folder_of past)) now.stopped =
    subst (λ (f : Folder). MayLeaveFolder f now.stopped) (folder_of-more (synced (Journal file)) past) (now_only (settled_folder past.first) (changed_by (synced (Journal file)) past).changes now.stopped now.may) in
    ap (λ (l : Left). file_in file l) now.is ∙ file_synced file (folder_of past) named now.stopped may

abbrev IsSyncedAt : FileNo → Option FolderPast → Option FolderPast → Type 0
IsSyncedAt file old new = IfSome old (λ p. IsSynced file (file_in file (seen_now p)) (clock_over new))

pub is_synced_end : {T E : Type 0} (file : FileNo) (result : Result T E) (old new : Option FolderPast) → IfSome old (IsUsable file) → OnOk result (Did (synced (Journal file)) old new) → OnOk result (IsSyncedAt file old new)
is_synced_end file (Ok x) old new was ok = did_by (synced (Journal file)) (λ (o n : Option FolderPast). IfSome o (IsUsable file) → IsSyncedAt file o n) (λ w. tt) (λ past w. left_synced file past w.named) old new ok was
is_synced_end file (Err e) old new was ok = ok

-- A sync of a file that is only read.

readable_goes : (file : FileNo) (f : Folder) → IsReadableIn file f → IsReadableIn file (folder_after (synced (Journal file)) f)
readable_goes Zero f was = record { named = was.named; openable = was.openable }
readable_goes One f was = record { named = was.named; openable = was.openable }

pub synced_readable : {T E : Type 0} (file : FileNo) (result : Result T E) (old new : Option FolderPast) → IfSome old (IsReadable file) → OnOk result (Did (synced (Journal file)) old new) → OnOk result (IfSome new (IsReadable file))
synced_readable file (Ok x) old new was ok = after_did (synced (Journal file)) (IsReadableIn file) (IsReadableIn file) (readable_goes file) old new ok was
synced_readable file (Err e) old new was ok = ok

pub seen_synced_end : {T E : Type 0} (file : FileNo) (result : Result T E) (old new : Option FolderPast) → IfSome old (IsReadable file) → OnOk result (Did (synced (Journal file)) old new) → OnOk result (IsSyncedAt file old new)
seen_synced_end file (Ok x) old new was ok = did_by (synced (Journal file)) (λ (o n : Option FolderPast). IfSome o (IsReadable file) → IsSyncedAt file o n) (λ w. tt) (λ past w. left_synced file past w.named) old new ok was
seen_synced_end file (Err e) old new was ok = ok

-- A write.

wrote_there : (place count : ℕ) (bytes : List ℕ) (now : Option FolderFile) → IsSome (option_map (λ (f : FolderFile). f.bytes) now) → IsSome (option_map (λ (f : FolderFile). f.bytes) (option_map (after_writing place count bytes) now))
wrote_there place count bytes None there = absurd (not_there there)
wrote_there place count bytes (Some file) there = refl

wrote_goes : (file : FileNo) (place count : ℕ) (bytes : List ℕ) (f : Folder) → IsUsableIn file f → IsUsableIn file (folder_after (wrote (Journal file) place count bytes) f)
wrote_goes Zero place count bytes f was = record { there = wrote_there place count bytes f.zero.now was.there; named = was.named; is_locked = was.is_locked }
wrote_goes One place count bytes f was = record { there = wrote_there place count bytes f.one.now was.there; named = was.named; is_locked = was.is_locked }

written_bytes : (place count : ℕ) (bytes : List ℕ) (now : Option FolderFile) → IsSome (option_map (λ (f : FolderFile). f.bytes) now)
    → bytes_or (option_map (λ (f : FolderFile). f.bytes) (option_map (after_writing place count bytes) now)) ≡ overlay place (take count bytes) (bytes_or (option_map (λ (f : FolderFile). f.bytes) now))
written_bytes place count bytes None there = absurd (not_there there)
written_bytes place count bytes (Some file) there = refl

seen_wrote : (file : FileNo) (place count : ℕ) (bytes : List ℕ) (f : Folder) → IsUsableIn file f
    → seen_as (here_in (folder_after (wrote (Journal file) place count bytes) f)) ≡ with_file_in file (overlay place (take count bytes) (file_in file (seen_as (here_in f)))) (seen_as (here_in f))
seen_wrote Zero place count bytes f was = ap (λ (b : List ℕ). record (seen_as (here_in f)) { file0 = b }) (written_bytes place count bytes f.zero.now was.there)
seen_wrote One place count bytes f was = ap (λ (b : List ℕ). record (seen_as (here_in f)) { file1 = b }) (written_bytes place count bytes f.one.now was.there)

seen_written : (file : FileNo) (place count : ℕ) (bytes : List ℕ) (past : FolderPast) → IsUsable file past
    → seen_now (changed_by (wrote (Journal file) place count bytes) past) ≡ with_file_in file (overlay place (take count bytes) (file_in file (seen_now past))) (seen_now past)
seen_written file place count bytes past was = ap (λ (f : Folder). seen_as (here_in f)) (folder_of-more (wrote (Journal file) place count bytes) past) ∙ seen_wrote file place count bytes (folder_of past) was

-- A usable file, and an offset in it.
abbrev IsWithin : FileNo → ℕ → FolderPast → Type 0
IsWithin file place p = IsUsable file p × (place ≤ length (file_in file (seen_now p)))

within_now : (file : FileNo) (place : ℕ) (told : Option FolderPast) → IfSome told (IsUsable file) → IfSome told (λ p. place ≤ length (file_in file (seen_now p))) → IfSome told (IsWithin file place)
within_now file place None was within = tt
within_now file place (Some past) was within = (was, within)

change_sees : (file : FileNo) (place count : ℕ) (bytes : List ℕ) (R : FolderPast → FolderPast → Type 0) (past : FolderPast) → IsWithin file place past → R past (changed_by (wrote (Journal file) place count bytes) past)
    → Sees file R (InFile file (Torn place count)) (Some past) (Some (changed_by (wrote (Journal file) place count bytes) past))
change_sees file place count bytes R past was is =
    sees_change file (wrote (Journal file) place count bytes) (of_wrote file place count bytes) R (InFile file (Torn place count)) (λ l. torn_nothing file place count l) past is
    (λ left may. write_before file (folder_of past) place count bytes (consistent_of past) (subst (λ (b : List ℕ). place ≤ length b) (sym (bytes_seen file past)) was.1) left may)

abbrev SeesWrite : FileNo → ℕ → ℕ → (FolderPast → FolderPast → Type 0) → Option FolderPast → Option FolderPast → Type 0
SeesWrite file place count R = Sees file R (InFile file (Torn place count))

pub wrote_did : (file : FileNo) (place : ℕ) (bytes : List ℕ) (old new : Option FolderPast) → IfSome old (IsUsable file) → IfSome old (λ p. place ≤ length (file_in file (seen_now p))) → Did (wrote (Journal file) place (length bytes) bytes) old new → SeesWrite file place (length bytes) (SeesWritten file place bytes) old new
wrote_did file place bytes old new was within is =
    did_by (wrote (Journal file) place (length bytes) bytes) (λ (o n : Option FolderPast). IfSome o (IsWithin file place) → SeesWrite file place (length bytes) (SeesWritten file place bytes) o n)
    (λ w. sees_none file (SeesWritten file place bytes) (InFile file (Torn place (length bytes))) (λ l. torn_nothing file place (length bytes) l))
    (λ past w. change_sees file place (length bytes) bytes (SeesWritten file place bytes) past w (seen_written file place (length bytes) bytes past w.0
    ∙ ap (λ (b : List ℕ). with_file_in file (overlay place b (file_in file (seen_now past))) (seen_now past)) (take_all (length bytes) bytes (omega arith))))
    old new is (within_now file place old was within)

torn_here : (place count : ℕ) (bytes old : List ℕ) → place ≤ length old → Torn place count old (overlay place (take count bytes) old)
torn_here place count bytes old within =
    let came : length (take count bytes) ≤ count = omega (arith, length-take count bytes) in
    let first : length (take place old) ≡ place = omega (arith, length-take place old) in
    let both : length (take place old ++ take count bytes) ≡ place + length (take count bytes) = omega (arith, length-append (take place old) (take count bytes)) in
    record {
      front = take-append-le place (take place old ++ take count bytes) (drop (place + length (take count bytes)) old) (omega arith)
          ∙ (take-append-le place (take place old) (take count bytes) (omega arith) ∙ take_all place (take place old) (omega arith));
      back = drop-append-drop (place + length (take count bytes)) old (take place old ++ take count bytes) (place + count) (omega arith) both;
      longer = omega (arith, length-overlay place (take count bytes) old);
      within = omega (arith, length-overlay place (take count bytes) old);
    }

torn_wrote : (file : FileNo) (place count : ℕ) (bytes : List ℕ) (past : FolderPast) → IsWithin file place past → SeesTorn file place count past (changed_by (wrote (Journal file) place count bytes) past)
torn_wrote file place count bytes past was = record {
  bytes = overlay place (take count bytes) (file_in file (seen_now past));
  step = torn_here place count bytes (file_in file (seen_now past)) was.1;
  rest = seen_written file place count bytes past was.0;
}

may_wrote : (file : FileNo) (place count : ℕ) (x y : FolderPast) → MayWrite (Journal file) place count x y → IsWithin file place x → SeesWrite file place count (SeesTorn file place count) (Some x) (Some y)
may_wrote file place count x y (bytes, inl same) was =
    subst (λ (p : FolderPast). SeesWrite file place count (SeesTorn file place count) (Some x) (Some p)) (sym same)
    (sees_still file (SeesTorn file place count) (InFile file (Torn place count)) (λ l. torn_nothing file place count l) x (torn_nothing file place count (seen_now x)))
may_wrote file place count x y (bytes, inr did) was =
    subst (λ (p : FolderPast). SeesWrite file place count (SeesTorn file place count) (Some x) (Some p)) (sym did)
    (change_sees file place count bytes (SeesTorn file place count) x was (torn_wrote file place count bytes x was))

pub wrote_may : (file : FileNo) (place count : ℕ) (old new : Option FolderPast) → IfSome old (IsUsable file) → IfSome old (λ p. place ≤ length (file_in file (seen_now p))) → IfTold (MayWrite (Journal file) place count) old new → SeesWrite file place count (SeesTorn file place count) old new
wrote_may file place count old new was within is =
    may_by (MayWrite (Journal file) place count) (λ (o n : Option FolderPast). IfSome o (IsWithin file place) → SeesWrite file place count (SeesTorn file place count) o n)
    (λ w. sees_none file (SeesTorn file place count) (InFile file (Torn place count)) (λ l. torn_nothing file place count l))
    (λ x y done w. may_wrote file place count x y done w)
    old new is (within_now file place old was within)

usable_wrote : (file : FileNo) (place count : ℕ) (bytes : List ℕ) (x : FolderPast) → IsUsable file x → IsUsable file (changed_by (wrote (Journal file) place count bytes) x)
usable_wrote file place count bytes x was = subst (IsUsableIn file) (sym (folder_of-more (wrote (Journal file) place count bytes) x)) (wrote_goes file place count bytes (folder_of x) was)

usable_may : (file : FileNo) (place count : ℕ) (x y : FolderPast) → MayWrite (Journal file) place count x y → IsUsable file x → IsUsable file y
usable_may file place count x y (bytes, inl same) was = subst (IsUsable file) (sym same) was
usable_may file place count x y (bytes, inr did) was = subst (IsUsable file) (sym did) (usable_wrote file place count bytes x was)

pub wrote_usable : {T E : Type 0} (file : FileNo) (place : ℕ) (bytes : List ℕ) (result : Result T E) (old new : Option FolderPast) → IfSome old (IsUsable file) → OnOk result (Did (wrote (Journal file) place (length bytes) bytes) old new) → OnErr result (IfTold (MayWrite (Journal file) place (length bytes)) old new) → IfSome new (IsUsable file)
wrote_usable file place bytes (Ok x) old new was ok err = after_did (wrote (Journal file) place (length bytes) bytes) (IsUsableIn file) (IsUsableIn file) (wrote_goes file place (length bytes) bytes) old new ok was
wrote_usable file place bytes (Err e) old new was ok err =
    may_by (MayWrite (Journal file) place (length bytes)) (λ (o n : Option FolderPast). IfSome o (IsUsable file) → IfSome n (IsUsable file)) (λ w. tt) (λ x y done w. usable_may file place (length bytes) x y done w) old new err was

-- However the write ended.

pub wrote_told : {T E : Type 0} (file : FileNo) (place : ℕ) (bytes : List ℕ) (result : Result T E) (old new : Option FolderPast) → IfSome old (IsUsable file) → IfSome old (λ p. place ≤ length (file_in file (seen_now p))) → OnOk result (Did (wrote (Journal file) place (length bytes) bytes) old new) → OnOk result (IfTold (SeesWritten file place bytes) old new)
wrote_told file place bytes (Ok x) old new was within ok = (wrote_did file place bytes old new was within ok).told
wrote_told file place bytes (Err e) old new was within ok = ok

pub wrote_failed : {T E : Type 0} (file : FileNo) (place : ℕ) (bytes : List ℕ) (result : Result T E) (old new : Option FolderPast) → IfSome old (IsUsable file) → IfSome old (λ p. place ≤ length (file_in file (seen_now p))) → OnErr result (IfTold (MayWrite (Journal file) place (length bytes)) old new) → OnErr result (IfTold (SeesTorn file place (length bytes)) old new)
wrote_failed file place bytes (Ok x) old new was within err = err
wrote_failed file place bytes (Err e) old new was within err = (wrote_may file place (length bytes) old new was within err).told

-- What a write leaves unchanged, and what a crash during it leaves.
pub wrote_keeps : {T E : Type 0} (file : FileNo) (place : ℕ) (bytes : List ℕ) (result : Result T E) (old new : Option FolderPast) → IfSome old (IsUsable file) → IfSome old (λ p. place ≤ length (file_in file (seen_now p))) → OnOk result (Did (wrote (Journal file) place (length bytes) bytes) old new) → OnErr result (IfTold (MayWrite (Journal file) place (length bytes)) old new) → IfTold (KeepsOthers file) old new
wrote_keeps file place bytes (Ok x) old new was within ok err = (wrote_did file place bytes old new was within ok).keeps
wrote_keeps file place bytes (Err e) old new was within ok err = (wrote_may file place (length bytes) old new was within err).keeps

pub wrote_stops : {T E : Type 0} (file : FileNo) (place : ℕ) (bytes : List ℕ) (result : Result T E) (old new : Option FolderPast) → IfSome old (IsUsable file) → IfSome old (λ p. place ≤ length (file_in file (seen_now p))) → OnOk result (Did (wrote (Journal file) place (length bytes) bytes) old new) → OnErr result (IfTold (MayWrite (Journal file) place (length bytes)) old new) → Passes (InFile file (Torn place (length bytes))) (clock_over old) (clock_over new)
wrote_stops file place bytes (Ok x) old new was within ok err = (wrote_did file place bytes old new was within ok).stops
wrote_stops file place bytes (Err e) old new was within ok err = (wrote_may file place (length bytes) old new was within err).stops
