-- The laws of a board over a system. They hold for each past, whatever was done in it.
use Rattle.std.specs.Prelude.{◌≡◌, ℕ, ◌≤◌, List, [], length, Option, None, Some, refl}
use Rattle.std.specs.Option.{option_map}
use Rattle.std.proofs.Common.{sym, ◌∙◌, ap, subst, inl, inr, arith}
use Rattle.ras_base.specs.LittleEndian.{AreBytes}
use Rattle.board_core.specs.Clock.{LeftNow}
use Rattle.board_core.specs.Steps.DiskLemmas.{settled_only}
use Rattle.board_core.specs.DiskModel.{Range, DiskFile, MayLeaveFile}
use Rattle.board_core.specs.Stop.{Left}
use Rattle.host_system.specs.Folder.{FolderFile, NameEntry, shut, lost, on_disk, entry_from, Stopped, MayLeaveOne, MayLeaveAny, MayLeaveName, MayLeaveFolder, bytes_now, here_in, settled_folder}
use Rattle.host_system.specs.Steps.FolderLemmas.{IsConsistent}
use Rattle.host_system.specs.View.{IsDurable, told_over}
use Rattle.host_system.specs.BoardFile.{HasSettledStore, IsSettled}
use Rattle.host_system.specs.FolderPast.{FolderPast, folder_of, bytes_or}
use Rattle.host_system.specs.Steps.FolderPastLemmas.{consistent_of, here_left, now_only, now_counts, since_earlier}
use Rattle.host_system.specs.View.{MayBegin, store_in, seen_now, clock_over}

none_some : (t : Left) → None ≡ Some t → ⊥
none_some t e = cc

some_is : (s t : Left) → Some s ≡ Some t → s ≡ t
some_is s t e = cc

may_now : (past : FolderPast) (left : Left) (now : LeftNow (clock_over (Some past)) left) → MayLeaveFolder (folder_of past) now.stopped
may_now past left now = now_only (settled_folder past.first) past.changes now.stopped now.may

pub told_left : (past : Option FolderPast) (t : Left) → told_over past ≡ Some t → LeftNow (clock_over past) t
told_left None t is = absurd (none_some t is)
told_left (Some past) t is = record {
  stopped = here_in (folder_of past);
  may = now_counts (settled_folder past.first) past.changes (length past.changes) (here_in (folder_of past)) (omega arith) (here_left past);
  is = sym (some_is (seen_now past) t is);
}

pub text_left : (past : Option FolderPast) (t left : Left) → told_over past ≡ Some t → LeftNow (clock_over past) left → left.out ≡ t.out
text_left None t left is now = absurd (none_some t is)
text_left (Some past) t left is now =
    ap (λ (l : Left). l.out) now.is ∙ ((may_now past left now).out ∙ ap (λ (l : Left). l.out) (some_is (seen_now past) t is))

-- A file whose writes are all durable.

no_ranges : (synced : List ℕ) (written : List Range) (left : List ℕ) → written ≡ [] → MayLeaveFile (record { synced = synced; written = written }) left → left ≡ synced
no_ranges synced written left is may = settled_only synced left (subst (λ (ranges : List Range). MayLeaveFile (record { synced = synced; written = ranges }) left) is may)

only_now : (now : Option FolderFile) (left : Option (List ℕ)) → IsDurable now → MayLeaveOne (on_disk now) (option_map (λ (f : FolderFile). f.bytes) now) → MayLeaveOne (on_disk now) left → left ≡ option_map (λ (f : FolderFile). f.bytes) now
only_now None None is here_in may = refl
only_now None (Some bytes) is here_in may = absurd may
only_now (Some file) None is here_in may = absurd may
only_now (Some file) (Some bytes) is here_in may = ap Some (no_ranges file.disk.synced file.disk.written bytes is may ∙ sym (no_ranges file.disk.synced file.disk.written file.bytes is here_in))

only_here : (entry : NameEntry) (left : Option (List ℕ)) → IsSettled entry → IsConsistent entry → MayLeaveName entry left → left ≡ bytes_now entry
only_here entry left is here_in (inl may) = only_now entry.now left is.1 here_in may
only_here entry left is here_in (inr may) = absurd (subst (λ (others : List (Option DiskFile)). MayLeaveAny others left) is.0 may)

pub store_left : (past : FolderPast) (left : Left) → HasSettledStore past → LeftNow (clock_over (Some past)) left → left.store ≡ (seen_now past).store
store_left past left is now = ap (λ (l : Left). l.store) now.is ∙ ap store_in (only_here (folder_of past).store now.stopped.store is (consistent_of past).store (may_now past left now).store)

pub earlier_left : (past : Option FolderPast) (s t : ℕ) (left : Left) → s ≤ t → (clock_over past).may_leave_since t left → (clock_over past).may_leave_since s left
earlier_left None s t left within may = may
earlier_left (Some past) s t left within may = record { stopped = may.stopped; may = since_earlier (settled_folder past.first) past.changes s t may.stopped within may.may; is = may.is }

-- The folder that a crash has left, before any change.

shut_lost : shut ≡ lost → ⊥
shut_lost e = cc

begins_whole : (bytes : Option (List ℕ)) → IsDurable (entry_from bytes).now
begins_whole None = tt
begins_whole (Some bytes) = refl

begins_bytes : (bytes : Option (List ℕ)) → bytes_or bytes ≡ bytes_or (bytes_now (entry_from bytes))
begins_bytes None = refl
begins_bytes (Some bytes) = refl

pub may_begin : (start : Stopped) → AreBytes (bytes_or start.store) → MayBegin (record { first = start; changes = [] })
may_begin start bytes = record {
  zero = shut_lost;
  one = shut_lost;
  whole = begins_whole start.store;
  bytes = subst AreBytes (begins_bytes start.store) bytes;
}
