-- What a call on one of a board's files leads to, over a modelled system.
use Rattle.std.proofs.Common.{◌≡◌, ℕ, List, Some, refl, ap, sym, ◌∙◌, subst, inl, inr, ◌⊎◌, OnOk}
use Rattle.std.specs.Prelude.{Option, None, IfSome, IsSome, Result, Ok, Err, OnErr}
use Rattle.std.specs.Option.{option_map}
use Rattle.board_core.specs.Clock.{untold, Passes}
use Rattle.board_core.specs.Stop.{Left, Same}
use Rattle.board_core.specs.declared.board.FileNo.{FileNo}
use Rattle.board_core.specs.declared.board.FileNo.TheVariants.{Zero, One}
use Rattle.host_system.specs.declared.system.FileName.TheVariants.{Journal}
use Rattle.host_system.specs.BoardFile.{IsUsableAs, KeepsFileIn, other_than, KeepsOthersIn, KeepsOthers, SeesSame, IsSettled}
use Rattle.host_system.specs.Folder.{FolderFile, NameEntry, Folder, FileUse, opened, locked, lost, used, change_name, entry_named, FolderChange, wrote, synced, made, opens, locks, loses, synced_names, folder_after, Stopped, MayLeaveFolder, During, bytes_now, here_in}
use Rattle.host_system.specs.FolderPast.{FolderPast, Did, IfTold, changed_by, folder_of, MayDo, IsMissing, bytes_or}
use Rattle.host_system.specs.Steps.FolderLemmas.{AfterFolder, none_before, names_before, used_before, sync_before, made_before, after_syncing}
use Rattle.host_system.specs.Steps.FolderPastLemmas.{consistent_of, folder_of-more, passes_change, passes_then, stands}
use Rattle.host_system.specs.View.{IsDurable, seen_as, seen_now, clock_over}

-- ---- what was done, and what may have been, where a system tells

pub did_by : (change : FolderChange) (P : Option FolderPast → Option FolderPast → Type 0) → P None None → ((past : FolderPast) → P (Some past) (Some (changed_by change past))) → (old new : Option FolderPast) → Did change old new → P old new
did_by change P none some None new is = subst (P None) (sym is) none
did_by change P none some (Some past) new is = subst (P (Some past)) (sym is) (some past)

pub may_by : (Q : FolderPast → FolderPast → Type 0) (P : Option FolderPast → Option FolderPast → Type 0) → P None None → ((x y : FolderPast) → Q x y → P (Some x) (Some y)) → (old new : Option FolderPast) → IfTold Q old new → P old new
may_by Q P none some None new is = subst (P None) (sym is) none
may_by Q P none some (Some x) None is = absurd is
may_by Q P none some (Some x) (Some y) is = some x y is

pub told_then : (P : FolderPast → FolderPast → Type 0) → ((x y z : FolderPast) → P x y → P y z → P x z) → (a b c : Option FolderPast) → IfTold P a b → IfTold P b c → IfTold P a c
told_then P trans None b c first second = subst (λ (o : Option FolderPast). IfTold P o c) first second
told_then P trans (Some x) None c first second = absurd first
told_then P trans (Some x) (Some y) None first second = absurd second
told_then P trans (Some x) (Some y) (Some z) first second = trans x y z first second

pub weaker : (P Q : FolderPast → FolderPast → Type 0) → ((x y : FolderPast) → P x y → Q x y) → (old new : Option FolderPast) → IfTold P old new → IfTold Q old new
weaker P Q implies None new is = is
weaker P Q implies (Some x) None is = is
weaker P Q implies (Some x) (Some y) is = implies x y is

-- ---- files that stay as usable as they were

pub keeps_file : (file : FileNo) (x y : Folder) → entry_named (Journal file) y ≡ entry_named (Journal file) x → KeepsFileIn file x y
keeps_file file x y entry = record {
  named = λ is. ap (λ (e : NameEntry). e.others) entry ∙ is;
  held = λ is. record { there = subst (λ (e : NameEntry). IsSome (bytes_now e)) (sym entry) is.there; is_locked = ap (λ (e : NameEntry). e.how) entry ∙ is.is_locked };
  usable = λ is. subst IsUsableAs (sym entry) is;
  openable = λ is gone. is (sym (ap (λ (e : NameEntry). e.how) entry) ∙ gone);
}

pub keeps_others : (file : FileNo) (x y : Folder) → y.store ≡ x.store → entry_named (Journal (other_than file)) y ≡ entry_named (Journal (other_than file)) x → KeepsOthersIn file x y
keeps_others file x y store entry = record {
  same = ap bytes_now store;
  settled = λ is. subst IsSettled (sym store) is;
  whole = λ is. subst (λ (e : NameEntry). IsDurable e.now) (sym store) is;
  other = keeps_file (other_than file) x y entry;
}

keeps_then : (file : FileNo) (x y z : FolderPast) → KeepsOthers file x y → KeepsOthers file y z → KeepsOthers file x z
keeps_then file x y z first second = record {
  same = second.same ∙ first.same;
  settled = λ is. second.settled (first.settled is);
  whole = λ is. second.whole (first.whole is);
  other = record { named = λ is. second.other.named (first.other.named is); held = λ is. second.other.held (first.other.held is); usable = λ is. second.other.usable (first.other.usable is); openable = λ is. second.other.openable (first.other.openable is) };
}

-- A change of one file only.
pub record IsOf (file : FileNo) (change : FolderChange) : Type 0 where
  pub keeps : (f : Folder) → KeepsOthersIn file f (folder_after change f)
  pub during : (f : Folder) (left : Stopped) → During change f left → MayLeaveFolder f left ⊎ MayLeaveFolder (folder_after change f) left

of_made : (file : FileNo) → IsOf file (made (Journal file))
of_made Zero = record { keeps = λ f. keeps_others Zero f (folder_after (made (Journal Zero)) f) refl refl; during = λ f left may. may }
of_made One = record { keeps = λ f. keeps_others One f (folder_after (made (Journal One)) f) refl refl; during = λ f left may. may }

of_opens : (file : FileNo) → IsOf file (opens (Journal file))
of_opens Zero = record { keeps = λ f. keeps_others Zero f (folder_after (opens (Journal Zero)) f) refl refl; during = λ f left may. may }
of_opens One = record { keeps = λ f. keeps_others One f (folder_after (opens (Journal One)) f) refl refl; during = λ f left may. may }

of_locks : (file : FileNo) → IsOf file (locks (Journal file))
of_locks Zero = record { keeps = λ f. keeps_others Zero f (folder_after (locks (Journal Zero)) f) refl refl; during = λ f left may. may }
of_locks One = record { keeps = λ f. keeps_others One f (folder_after (locks (Journal One)) f) refl refl; during = λ f left may. may }

of_loses : (file : FileNo) → IsOf file (loses (Journal file))
of_loses Zero = record { keeps = λ f. keeps_others Zero f (folder_after (loses (Journal Zero)) f) refl refl; during = λ f left may. may }
of_loses One = record { keeps = λ f. keeps_others One f (folder_after (loses (Journal One)) f) refl refl; during = λ f left may. may }

of_synced : (file : FileNo) → IsOf file (synced (Journal file))
of_synced Zero = record { keeps = λ f. keeps_others Zero f (folder_after (synced (Journal Zero)) f) refl refl; during = λ f left may. may }
of_synced One = record { keeps = λ f. keeps_others One f (folder_after (synced (Journal One)) f) refl refl; during = λ f left may. may }

pub of_wrote : (file : FileNo) (place count : ℕ) (bytes : List ℕ) → IsOf file (wrote (Journal file) place count bytes)
of_wrote Zero place count bytes = record { keeps = λ f. keeps_others Zero f (folder_after (wrote (Journal Zero) place count bytes) f) refl refl; during = λ f left may. may }
of_wrote One place count bytes = record { keeps = λ f. keeps_others One f (folder_after (wrote (Journal One) place count bytes) f) refl refl; during = λ f left may. may }

named_keeps : (file : FileNo) (f : Folder) → KeepsFileIn file f (folder_after synced_names f)
named_keeps Zero f = record { named = λ is. refl; held = λ is. record { there = is.there; is_locked = is.is_locked }; usable = λ is. record { there = is.there; named = refl; is_locked = is.is_locked }; openable = λ is. is }
named_keeps One f = record { named = λ is. refl; held = λ is. record { there = is.there; is_locked = is.is_locked }; usable = λ is. record { there = is.there; named = refl; is_locked = is.is_locked }; openable = λ is. is }

of_names : (file : FileNo) → IsOf file synced_names
of_names file = record { keeps = λ f. record { same = refl; settled = λ is. (refl, is.1); whole = λ is. is; other = named_keeps (other_than file) f }; during = λ f left may. may }

-- ---- what a board sees of a call of one file

pub record Sees (file : FileNo) (R : FolderPast → FolderPast → Type 0) (Step : Left → Left → Type 0) (old new : Option FolderPast) : Type 0 where
  pub told : IfTold R old new
  pub keeps : IfTold (KeepsOthers file) old new
  pub stops : Passes Step (clock_over old) (clock_over new)

pub sees_none : (file : FileNo) (R : FolderPast → FolderPast → Type 0) (Step : Left → Left → Type 0) → ((l : Left) → Step l l) → Sees file R Step None None
sees_none file R Step same = record { told = refl; keeps = refl; stops = stands Step untold same }

pub sees_still : (file : FileNo) (R : FolderPast → FolderPast → Type 0) (Step : Left → Left → Type 0) → ((l : Left) → Step l l) → (past : FolderPast) → R past past → Sees file R Step (Some past) (Some past)
sees_still file R Step same past is = record {
  told = is;
  keeps = keeps_others file (folder_of past) (folder_of past) refl refl;
  stops = stands Step (clock_over (Some past)) same;
}

pub sees_change : (file : FileNo) (change : FolderChange) → IsOf file change → (R : FolderPast → FolderPast → Type 0) (Step : Left → Left → Type 0) → ((l : Left) → Step l l) → (past : FolderPast) → R past (changed_by change past)
    → ((left : Stopped) → MayLeaveFolder (folder_after change (folder_of past)) left → AfterFolder (folder_of past) Step left)
    → Sees file R Step (Some past) (Some (changed_by change past))
sees_change file change of R Step same past is behind = record {
  told = is;
  keeps = subst (KeepsOthersIn file (folder_of past)) (sym (folder_of-more change past)) (of.keeps (folder_of past));
  stops = passes_change past change Step
      (λ left may. elim (of.during (folder_of past) left may) [ inl before ↦ none_before Step same (folder_of past) left before | inr after ↦ behind left after ])
      behind;
}

abbrev SeesNone : FileNo → Option FolderPast → Option FolderPast → Type 0
SeesNone file = Sees file SeesSame Same

none_none : (file : FileNo) → SeesNone file None None
none_none file = sees_none file SeesSame Same (λ l. refl)

pub none_same : (file : FileNo) (old new : Option FolderPast) → new ≡ old → SeesNone file old new
none_same file None new is = subst (SeesNone file None) (sym is) (none_none file)
none_same file (Some past) new is = subst (SeesNone file (Some past)) (sym is) (sees_still file SeesSame Same (λ l. refl) past refl)

pub none_then : (file : FileNo) (a b c : Option FolderPast) → IfTold SeesSame a b → IfTold (KeepsOthers file) a b → Passes Same (clock_over a) (clock_over b) → SeesNone file b c → SeesNone file a c
none_then file a b c told keeps stops last = record {
  told = told_then SeesSame (λ x y z first second. second ∙ first) a b c told last.told;
  keeps = told_then (KeepsOthers file) (keeps_then file) a b c keeps last.keeps;
  stops = passes_then Same Same Same (clock_over a) (clock_over b) (clock_over c) (λ x y is. is) (λ x y z first second. second ∙ first) stops last.stops;
}

pub none_after : (file : FileNo) (a b c : Option FolderPast) → SeesNone file a b → SeesNone file b c → SeesNone file a c
none_after file a b c first last = none_then file a b c first.told first.keeps first.stops last

-- A change that a board doesn't see.
none_change : (file : FileNo) (change : FolderChange) → IsOf file change → (past : FolderPast) → seen_as (here_in (folder_after change (folder_of past))) ≡ seen_now past
    → ((left : Stopped) → MayLeaveFolder (folder_after change (folder_of past)) left → AfterFolder (folder_of past) Same left)
    → SeesNone file (Some past) (Some (changed_by change past))
none_change file change of past same behind = sees_change file change of SeesSame Same (λ l. refl) past (ap (λ (f : Folder). seen_as (here_in f)) (folder_of-more change past) ∙ same) behind

same_before : (folder : Folder) (left : Stopped) → MayLeaveFolder folder left → AfterFolder folder Same left
same_before folder left may = none_before Same (λ l. refl) folder left may

names_none : (file : FileNo) (past : FolderPast) → SeesNone file (Some past) (Some (changed_by synced_names past))
names_none file past = none_change file synced_names (of_names file) past refl (λ left may. same_before (folder_of past) left (names_before (folder_of past) left may))

-- A board doesn't see how a run has a file open.
seen_used : (file : FileNo) (how : FileUse) (folder : Folder) → seen_as (here_in (change_name (Journal file) (used how) folder)) ≡ seen_as (here_in folder)
seen_used Zero how folder = refl
seen_used One how folder = refl

opens_none : (file : FileNo) (past : FolderPast) → SeesNone file (Some past) (Some (changed_by (opens (Journal file)) past))
opens_none file past = none_change file (opens (Journal file)) (of_opens file) past (seen_used file opened (folder_of past)) (λ left may. same_before (folder_of past) left (used_before (Journal file) opened (folder_of past) left may))

locks_none : (file : FileNo) (past : FolderPast) → SeesNone file (Some past) (Some (changed_by (locks (Journal file)) past))
locks_none file past = none_change file (locks (Journal file)) (of_locks file) past (seen_used file locked (folder_of past)) (λ left may. same_before (folder_of past) left (used_before (Journal file) locked (folder_of past) left may))

loses_none : (file : FileNo) (past : FolderPast) → SeesNone file (Some past) (Some (changed_by (loses (Journal file)) past))
loses_none file past = none_change file (loses (Journal file)) (of_loses file) past (seen_used file lost (folder_of past)) (λ left may. same_before (folder_of past) left (used_before (Journal file) lost (folder_of past) left may))

seen_made : (file : FileNo) (folder : Folder) → bytes_now (entry_named (Journal file) folder) ≡ None → seen_as (here_in (folder_after (made (Journal file)) folder)) ≡ seen_as (here_in folder)
seen_made Zero folder missing = ap (λ (bytes : List ℕ). record (seen_as (here_in folder)) { file0 = bytes }) (sym (ap bytes_or missing))
seen_made One folder missing = ap (λ (bytes : List ℕ). record (seen_as (here_in folder)) { file1 = bytes }) (sym (ap bytes_or missing))

made_none : (file : FileNo) (past : FolderPast) → IsMissing (Journal file) past → SeesNone file (Some past) (Some (changed_by (made (Journal file)) past))
made_none file past missing = none_change file (made (Journal file)) (of_made file) past (seen_made file (folder_of past) missing) (λ left may. made_before file (folder_of past) missing left may)

synced_bytes : (now : Option FolderFile) → option_map (λ (f : FolderFile). f.bytes) (option_map after_syncing now) ≡ option_map (λ (f : FolderFile). f.bytes) now
synced_bytes None = refl
synced_bytes (Some file) = refl

seen_synced : (file : FileNo) (folder : Folder) → seen_as (here_in (folder_after (synced (Journal file)) folder)) ≡ seen_as (here_in folder)
seen_synced Zero folder = ap (λ (bytes : Option (List ℕ)). seen_as (record (here_in folder) { zero = bytes })) (synced_bytes folder.zero.now)
seen_synced One folder = ap (λ (bytes : Option (List ℕ)). seen_as (record (here_in folder) { one = bytes })) (synced_bytes folder.one.now)

synced_none : (file : FileNo) (past : FolderPast) → SeesNone file (Some past) (Some (changed_by (synced (Journal file)) past))
synced_none file past = none_change file (synced (Journal file)) (of_synced file) past (seen_synced file (folder_of past)) (λ left may. same_before (folder_of past) left (sync_before (Journal file) (folder_of past) (consistent_of past) left may))

-- ---- calls that went well or failed, of which nothing is seen

pub did_none : (file : FileNo) (change : FolderChange) → ((past : FolderPast) → SeesNone file (Some past) (Some (changed_by change past))) → (old new : Option FolderPast) → Did change old new → SeesNone file old new
did_none file change some old new is = did_by change (SeesNone file) (none_none file) some old new is

pub opened_end : {T E : Type 0} (file : FileNo) (result : Result T E) (old new : Option FolderPast) → OnOk result (Did (opens (Journal file)) old new) → OnErr result (new ≡ old) → SeesNone file old new
opened_end file (Ok x) old new ok err = did_none file (opens (Journal file)) (opens_none file) old new ok
opened_end file (Err e) old new ok err = none_same file old new err

pub locked_end : {T E : Type 0} (file : FileNo) (result : Result T E) (old new : Option FolderPast) → OnOk result (Did (locks (Journal file)) old new) → OnErr result (new ≡ old) → SeesNone file old new
locked_end file (Ok x) old new ok err = did_none file (locks (Journal file)) (locks_none file) old new ok
locked_end file (Err e) old new ok err = none_same file old new err

pub names_end : {T E : Type 0} (file : FileNo) (result : Result T E) (old new : Option FolderPast) → OnOk result (Did synced_names old new) → OnErr result (new ≡ old) → SeesNone file old new
names_end file (Ok x) old new ok err = did_none file synced_names (names_none file) old new ok
names_end file (Err e) old new ok err = none_same file old new err

pub synced_end : {T E : Type 0} (file : FileNo) (result : Result T E) (old new : Option FolderPast) → OnOk result (Did (synced (Journal file)) old new) → OnErr result (Did (loses (Journal file)) old new) → SeesNone file old new
synced_end file (Ok x) old new ok err = did_none file (synced (Journal file)) (synced_none file) old new ok
synced_end file (Err e) old new ok err = did_none file (loses (Journal file)) (loses_none file) old new err

made_did : (file : FileNo) (old new : Option FolderPast) → IfSome old (IsMissing (Journal file)) → Did (made (Journal file)) old new → SeesNone file old new
made_did file old new missing is =
    did_by (made (Journal file)) (λ (o n : Option FolderPast). IfSome o (IsMissing (Journal file)) → SeesNone file o n) (λ m. none_none file) (λ past m. made_none file past m) old new is missing

made_may : (file : FileNo) (old new : Option FolderPast) → IfSome old (IsMissing (Journal file)) → IfTold (MayDo (made (Journal file))) old new → SeesNone file old new
made_may file old new missing is =
    may_by (MayDo (made (Journal file))) (λ (o n : Option FolderPast). IfSome o (IsMissing (Journal file)) → SeesNone file o n) (λ m. none_none file)
    (λ x y done m. elim done [ inl same ↦ none_same file (Some x) (Some y) (ap Some same) | inr did ↦ subst (λ (p : FolderPast). SeesNone file (Some x) (Some p)) (sym did) (made_none file x m) ])
    old new is missing

pub made_end : {T E : Type 0} (file : FileNo) (result : Result T E) (old new : Option FolderPast) → IfSome old (IsMissing (Journal file)) → OnOk result (Did (made (Journal file)) old new) → OnErr result (IfTold (MayDo (made (Journal file))) old new) → SeesNone file old new
made_end file (Ok x) old new missing ok err = made_did file old new missing ok
made_end file (Err e) old new missing ok err = made_may file old new missing err
