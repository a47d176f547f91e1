-- Changes of `rasd.new`, and what they lead to over a modelled system.
use Rattle.std.proofs.Common.{◌≡◌, ℕ, ◌+◌, ◌++◌, [], List, length, take, drop, append-nil, Some, refl, ap, sym, ◌∙◌, subst, inl, inr, ◌⊎◌, arith}
use Rattle.std.specs.Prelude.{Option, None, IfSome, IsSome, Result, Ok, Err, OnOk, OnErr}
use Rattle.std.specs.Option.{option_map}
use Rattle.std.proofs.lemmas.List.{take_all, drop_all}
use Rattle.board_core.specs.Clock.{untold, Passes}
use Rattle.board_core.specs.Stop.{Left, Same, InStore, Becomes}
use Rattle.board_core.specs.Told.{overlay}
use Rattle.host_system.specs.declared.system.FileName.TheVariants.{New}
use Rattle.host_system.specs.Folder.{FolderFile, NameEntry, Folder, shut, opened, lost, with_now, renewed, used, settled_name, after_writing, FolderChange, wrote, synced, made, loses, removed, renamed, synced_names, folder_after, Stopped, MayLeaveFolder, During, settled_file_of, bytes_now}
use Rattle.host_system.specs.FolderPast.{FolderPast, Did, IfTold, changed_by, folder_of, MayDo, MayWrite, IsMissing, HasFile, IsOpen, MayBeWritten}
use Rattle.host_system.specs.Steps.FolderLemmas.{AfterFolder, new_before, none_before, names_before, rename_before, after_syncing, empty_file}
use Rattle.host_system.specs.Steps.FolderPastLemmas.{consistent_of, folder_of-more, passes_change, passes_then, stands}
use Rattle.host_system.specs.Steps.Quiet.{KeepsSeen, SeesNothing, Quiet, HasNew, Moved, HasMoved, Replaced, IsReplaced, MayHaveMoved}
use Rattle.host_system.specs.View.{store_in, clock_over}
use Rattle.host_system.proofs.FileLemmas.{told_then, weaker}

sees_then : (x y z : FolderPast) → SeesNothing x y → SeesNothing y z → SeesNothing x z
sees_then x y z first second = record { zero = second.zero ∙ first.zero; one = second.one ∙ first.one; store = second.store ∙ first.store; out = second.out ∙ first.out }

quiet_still : (told : Option FolderPast) → Quiet told told
quiet_still None = record { keeps = refl; stops = stands Same untold (λ l. refl) }
quiet_still (Some past) = record { keeps = record { zero = refl; one = refl; store = refl; out = refl }; stops = stands Same (clock_over (Some past)) (λ l. refl) }

pub quiet_same : (old new : Option FolderPast) → new ≡ old → Quiet old new
quiet_same old new is = subst (λ (o : Option FolderPast). Quiet old o) (sym is) (quiet_still old)

pub quiet_then : (a b c : Option FolderPast) → Quiet a b → Quiet b c → Quiet a c
quiet_then a b c first second = record {
  keeps = told_then SeesNothing sees_then a b c first.keeps second.keeps;
  stops = passes_then Same Same Same (clock_over a) (clock_over b) (clock_over c) (λ x y is. is) (λ x y z first second. second ∙ first) first.stops second.stops;
}

-- A change of `rasd.new` only.
pub record IsOfNew (change : FolderChange) : Type 0 where
  pub step : NameEntry → NameEntry
  pub is : (f : Folder) → folder_after change f ≡ record f { new = step f.new }
  pub during : (f : Folder) (left : Stopped) → During change f left → MayLeaveFolder f left ⊎ MayLeaveFolder (folder_after change f) left

pub of_make : IsOfNew (made New)
of_make = record { step = renewed (Some empty_file) opened; is = λ f. refl; during = λ f left may. may }

pub of_remove : IsOfNew (removed New)
of_remove = record { step = renewed None shut; is = λ f. refl; during = λ f left may. may }

pub of_write : (place count : ℕ) (bytes : List ℕ) → IsOfNew (wrote New place count bytes)
of_write place count bytes = record { step = with_now (after_writing place count bytes); is = λ f. refl; during = λ f left may. may }

pub of_sync : IsOfNew (synced New)
of_sync = record { step = with_now after_syncing; is = λ f. refl; during = λ f left may. may }

pub of_lose : IsOfNew (loses New)
of_lose = record { step = used lost; is = λ f. refl; during = λ f left may. may }

quiet_change : (change : FolderChange) → IsOfNew change → (past : FolderPast) → Quiet (Some past) (Some (changed_by change past))
quiet_change change of past =
    let behind : (left : Stopped) → MayLeaveFolder (folder_after change (folder_of past)) left → AfterFolder (folder_of past) Same left =
    λ left may. new_before of.step (folder_of past) (consistent_of past) left (subst (λ (f : Folder). MayLeaveFolder f left) (of.is (folder_of past)) may) in
    record {
      keeps = subst (λ (f : Folder). KeepsSeen (folder_of past) f) (sym (folder_of-more change past ∙ of.is (folder_of past))) (record { zero = refl; one = refl; store = refl; out = refl });
      stops = passes_change past change Same
          (λ left here_in. elim (of.during (folder_of past) left here_in) [ inl may ↦ none_before Same (λ l. refl) (folder_of past) left may | inr may ↦ behind left may ])
          behind;
    }

pub quiet_done : (change : FolderChange) → IsOfNew change → (old new : Option FolderPast) → Did change old new → Quiet old new
quiet_done change of None new is = quiet_same None new is
quiet_done change of (Some past) new is = subst (λ (o : Option FolderPast). Quiet (Some past) o) (sym is) (quiet_change change of past)

pub quiet_failed : (change : FolderChange) → IsOfNew change → (old new : Option FolderPast) → IfTold (MayDo change) old new → Quiet old new
quiet_failed change of None new is = quiet_same None new is
quiet_failed change of (Some old) None is = absurd is
quiet_failed change of (Some old) (Some new) (inl is) = quiet_same (Some old) (Some new) (ap Some is)
quiet_failed change of (Some old) (Some new) (inr is) = subst (λ (p : FolderPast). Quiet (Some old) (Some p)) (sym is) (quiet_change change of old)

pub quiet_wrote : (place count : ℕ) (old new : Option FolderPast) → IfTold (MayWrite New place count) old new → Quiet old new
quiet_wrote place count None new is = quiet_same None new is
quiet_wrote place count (Some old) None is = absurd is
quiet_wrote place count (Some old) (Some new) is = quiet_failed (wrote New place count is.0) (of_write place count is.0) (Some old) (Some new) is.1

-- ---- what `rasd.new` is

now_is : (change : FolderChange) (past : FolderPast) → (folder_of (changed_by change past)).new.now ≡ (folder_after change (folder_of past)).new.now
now_is change past = ap (λ (f : Folder). f.new.now) (folder_of-more change past)

told_after : (P : FolderPast → Type 0) (change : FolderChange) (old new : Option FolderPast) → Did change old new → ((past : FolderPast) → IfSome old (λ p. p ≡ past) → P (changed_by change past)) → IfSome new P
told_after P change None new is holds = subst (λ (o : Option FolderPast). IfSome o P) (sym is) tt
told_after P change (Some past) new is holds = subst (λ (o : Option FolderPast). IfSome o P) (sym is) (holds past refl)

use_is : (change : FolderChange) (past : FolderPast) → (folder_of (changed_by change past)).new.how ≡ (folder_after change (folder_of past)).new.how
use_is change past = ap (λ (f : Folder). f.new.how) (folder_of-more change past)

pub missing_removed : (old new : Option FolderPast) → Did (removed New) old new → IfSome new (IsMissing New)
missing_removed old new is = told_after (IsMissing New) (removed New) old new is (λ past was. ap (λ (f : Folder). bytes_now f.new) (folder_of-more (removed New) past))

pub new_made : (old new : Option FolderPast) → Did (made New) old new → IfSome new (HasNew empty_file)
new_made old new is = told_after (HasNew empty_file) (made New) old new is (λ past was. record { is = now_is (made New) past; is_open = use_is (made New) past })

new_holds : (file : FolderFile) (past : FolderPast) → HasNew file past → HasFile New past
new_holds file past new = subst (λ (now : Option FolderFile). IsSome (option_map (λ (f : FolderFile). f.bytes) now)) (sym new.is) refl

-- When `rasd.new` may be used.
pub record NewServes (told : Option FolderPast) : Type 0 where
  pub there : IfSome told (HasFile New)
  pub is_open : IfSome told (IsOpen New)
  pub writable : IfSome told (MayBeWritten New)

pub new_serves : (file : FolderFile) (told : Option FolderPast) → IfSome told (HasNew file) → NewServes told
new_serves file None is = record { there = tt; is_open = tt; writable = tt }
new_serves file (Some past) new = record { there = new_holds file past new; is_open = inl new.is_open; writable = new.is_open }

new_after : (change : FolderChange) (step : FolderFile → FolderFile) → ((f : Folder) → (folder_after change f).new.now ≡ option_map step f.new.now) → ((f : Folder) → (folder_after change f).new.how ≡ f.new.how) → (file : FolderFile) (old new : Option FolderPast) → IfSome old (HasNew file) → Did change old new → IfSome new (HasNew (step file))
new_after change step does keeps file None new was is = subst (λ (o : Option FolderPast). IfSome o (HasNew (step file))) (sym is) tt
new_after change step does keeps file (Some past) new was is = subst (λ (o : Option FolderPast). IfSome o (HasNew (step file))) (sym is) (record {
  is = now_is change past ∙ (does (folder_of past) ∙ ap (λ (now : Option FolderFile). option_map step now) was.is);
  is_open = use_is change past ∙ (keeps (folder_of past) ∙ was.is_open);
})

whole : (bytes : List ℕ) → overlay 0 (take (length bytes) bytes) [] ≡ bytes
whole bytes = ap (λ (b : List ℕ). [] ++ b ++ drop (0 + length b) []) (take_all (length bytes) bytes (omega arith)) ∙ (ap (λ (b : List ℕ). bytes ++ b) (drop_all (0 + length bytes) [] (omega arith)) ∙ append-nil bytes)

pub new_written : (bytes : List ℕ) (old new : Option FolderPast) → IfSome old (HasNew empty_file) → Did (wrote New 0 (length bytes) bytes) old new → IfSome new (HasNew (after_writing 0 (length bytes) bytes empty_file))
new_written bytes old new was is = new_after (wrote New 0 (length bytes) bytes) (after_writing 0 (length bytes) bytes) (λ f. refl) (λ f. refl) empty_file old new was is

pub new_synced : (bytes : List ℕ) (old new : Option FolderPast) → IfSome old (HasNew (after_writing 0 (length bytes) bytes empty_file)) → Did (synced New) old new → IfSome new (HasNew (settled_file_of bytes))
new_synced bytes old new was is = subst (λ (b : List ℕ). IfSome new (HasNew (settled_file_of b))) (whole bytes) (new_after (synced New) after_syncing (λ f. refl) (λ f. refl) (after_writing 0 (length bytes) bytes empty_file) old new was is)

-- ---- the rename and the sync of the folder

abbrev Step : List ℕ → Left → Left → Type 0
Step bytes = InStore (Becomes (store_in (Some bytes)))

stays : (bytes : List ℕ) (left : Left) → Step bytes left left
stays bytes left = record { store = left.store; step = inl refl; rest = refl }

same_then : (bytes : List ℕ) (x y z : Left) → Same x y → Step bytes y z → Step bytes x z
same_then bytes x y z is by = subst (λ (l : Left). Step bytes l z) is by

then_same : (bytes : List ℕ) (x y z : Left) → Step bytes x y → Same y z → Step bytes x z
then_same bytes x y z by is = subst (λ (l : Left). Step bytes x l) (sym is) by

pub passes_quiet : (bytes : List ℕ) (old new : Option FolderPast) → Quiet old new → Passes (Step bytes) (clock_over old) (clock_over new)
passes_quiet bytes old new quiet =
    passes_then Same Same (Step bytes) (clock_over old) (clock_over new) (clock_over new) (λ x y is. subst (λ (l : Left). Step bytes x l) (sym is) (stays bytes x))
    (λ x y z first second. subst (λ (l : Left). Step bytes x l) (sym (second ∙ first)) (stays bytes x)) quiet.stops (stands Same (clock_over new) (λ l. refl))

passes_renamed : (bytes : List ℕ) (old new : Option FolderPast) → IfSome old (HasNew (settled_file_of bytes)) → Did renamed old new → Passes (Step bytes) (clock_over old) (clock_over new)
passes_renamed bytes None new was is = subst (λ (o : Option FolderPast). Passes (Step bytes) untold (clock_over o)) (sym is) (stands (Step bytes) untold (stays bytes))
passes_renamed bytes (Some past) new was is = subst (λ (o : Option FolderPast). Passes (Step bytes) (clock_over (Some past)) (clock_over o)) (sym is)
    (passes_change past renamed (Step bytes)
    (λ left here_in. elim here_in [ inl may ↦ none_before (Step bytes) (stays bytes) (folder_of past) left may | inr may ↦ rename_before bytes (folder_of past) was.is (consistent_of past) left may ])
    (λ left may. rename_before bytes (folder_of past) was.is (consistent_of past) left may))

passes_names : (old new : Option FolderPast) → Did synced_names old new → Passes Same (clock_over old) (clock_over new)
passes_names None new is = subst (λ (o : Option FolderPast). Passes Same untold (clock_over o)) (sym is) (stands Same untold (λ l. refl))
passes_names (Some past) new is = subst (λ (o : Option FolderPast). Passes Same (clock_over (Some past)) (clock_over o)) (sym is)
    (passes_change past synced_names Same
    (λ left here_in. elim here_in [ inl may ↦ none_before Same (λ l. refl) (folder_of past) left may | inr may ↦ none_before Same (λ l. refl) (folder_of past) left (names_before (folder_of past) left may) ])
    (λ left may. none_before Same (λ l. refl) (folder_of past) left (names_before (folder_of past) left may)))

-- ---- the whole: written, renamed, and the folder synced

told_moved : (bytes : List ℕ) (x y : FolderPast) → SeesNothing x y → HasNew (settled_file_of bytes) y → HasMoved bytes x (changed_by renamed y)
told_moved bytes x y sees new =
    subst (Moved bytes (folder_of x)) (sym (folder_of-more renamed y)) (record { zero = sees.zero; one = sees.one; store = new.is; out = sees.out })

moved_told : (bytes : List ℕ) (a b c : Option FolderPast) → IfTold SeesNothing a b → IfSome b (HasNew (settled_file_of bytes)) → Did renamed b c → IfTold (HasMoved bytes) a c
moved_told bytes None b c sees new renames = renames ∙ ap (option_map (changed_by renamed)) sees
moved_told bytes (Some x) None c sees new renames = absurd sees
moved_told bytes (Some x) (Some y) c sees new renames = subst (IfTold (HasMoved bytes) (Some x)) (sym renames) (told_moved bytes x y sees new)

passes_moved : (bytes : List ℕ) (a b c : Option FolderPast) → Quiet a b → IfSome b (HasNew (settled_file_of bytes)) → Did renamed b c → Passes (Step bytes) (clock_over a) (clock_over c)
passes_moved bytes a b c quiet new renames =
    passes_then Same (Step bytes) (Step bytes) (clock_over a) (clock_over b) (clock_over c) (λ x y is. subst (λ (l : Left). Step bytes x l) (sym is) (stays bytes x)) (same_then bytes) quiet.stops (passes_renamed bytes b c new renames)

-- The replacement failed before the folder was synced.
pub record EndsBadly (bytes : List ℕ) (old new : Option FolderPast) : Type 0 where
  pub is : IfTold (MayHaveMoved bytes) old new
  pub stops : Passes (Step bytes) (clock_over old) (clock_over new)

pub badly_quiet : (bytes : List ℕ) (a b : Option FolderPast) → Quiet a b → EndsBadly bytes a b
badly_quiet bytes a b quiet = record { is = weaker SeesNothing (MayHaveMoved bytes) (λ x y sees. inl sees) a b quiet.keeps; stops = passes_quiet bytes a b quiet }

pub badly_moved : (bytes : List ℕ) (a b c : Option FolderPast) → Quiet a b → IfSome b (HasNew (settled_file_of bytes)) → Did renamed b c → EndsBadly bytes a c
badly_moved bytes a b c quiet new renames = record {
  is = weaker (HasMoved bytes) (MayHaveMoved bytes) (λ x y moved. inr moved) a c (moved_told bytes a b c quiet.keeps new renames);
  stops = passes_moved bytes a b c quiet new renames;
}

pub badly_may : (bytes : List ℕ) (a b c : Option FolderPast) → Quiet a b → IfSome b (HasNew (settled_file_of bytes)) → IfTold (MayDo renamed) b c → EndsBadly bytes a c
badly_may bytes a None c quiet new may = subst (EndsBadly bytes a) (sym may) (badly_quiet bytes a None quiet)
badly_may bytes a (Some y) None quiet new may = absurd may
badly_may bytes a (Some y) (Some z) quiet new (inl same) = subst (λ (p : FolderPast). EndsBadly bytes a (Some p)) (sym same) (badly_quiet bytes a (Some y) quiet)
badly_may bytes a (Some y) (Some z) quiet new (inr did) = badly_moved bytes a (Some y) (Some z) quiet new (ap Some did)

-- The replacement succeeded.
pub record EndsWell (bytes : List ℕ) (old new : Option FolderPast) : Type 0 where
  pub is : IfTold (IsReplaced bytes) old new
  pub stops : Passes (Step bytes) (clock_over old) (clock_over new)

told_named : (bytes : List ℕ) (x y : FolderPast) → HasMoved bytes x y → IsReplaced bytes x (changed_by synced_names y)
told_named bytes x y moved =
    subst (Replaced bytes (folder_of x)) (sym (folder_of-more synced_names y)) (record {
      zero = ap settled_name moved.zero;
      one = ap settled_name moved.one;
      store = moved.store;
      others = refl;
      out = moved.out;
    })

named_told : (bytes : List ℕ) (a c d : Option FolderPast) → IfTold (HasMoved bytes) a c → Did synced_names c d → IfTold (IsReplaced bytes) a d
named_told bytes None c d moved syncs = syncs ∙ ap (option_map (changed_by synced_names)) moved
named_told bytes (Some x) None d moved syncs = absurd moved
named_told bytes (Some x) (Some y) d moved syncs = subst (IfTold (IsReplaced bytes) (Some x)) (sym syncs) (told_named bytes x y moved)

pub well_named : (bytes : List ℕ) (a b c d : Option FolderPast) → Quiet a b → IfSome b (HasNew (settled_file_of bytes)) → Did renamed b c → Did synced_names c d → EndsWell bytes a d
well_named bytes a b c d quiet new renames syncs = record {
  is = named_told bytes a c d (moved_told bytes a b c quiet.keeps new renames) syncs;
  stops = passes_then (Step bytes) Same (Step bytes) (clock_over a) (clock_over c) (clock_over d) (λ x y by. by) (then_same bytes) (passes_moved bytes a b c quiet new renames) (passes_names c d syncs);
}

-- ---- a call at the end of a function, however it ended

pub may_end : {T E : Type 0} (change : FolderChange) → IsOfNew change → (result : Result T E) (old new : Option FolderPast) → OnOk result (Did change old new) → OnErr result (IfTold (MayDo change) old new) → Quiet old new
may_end change of (Ok x) old new ok err = quiet_done change of old new ok
may_end change of (Err e) old new ok err = quiet_failed change of old new err

pub sync_end : {T E : Type 0} (result : Result T E) (old new : Option FolderPast) → OnOk result (Did (synced New) old new) → OnErr result (Did (loses New) old new) → Quiet old new
sync_end (Ok x) old new ok err = quiet_done (synced New) of_sync old new ok
sync_end (Err e) old new ok err = quiet_done (loses New) of_lose old new err

pub missing_end : {T E : Type 0} (result : Result T E) (old new : Option FolderPast) → OnOk result (Did (removed New) old new) → OnOk result (IfSome new (IsMissing New))
missing_end (Ok x) old new ok = missing_removed old new ok
missing_end (Err e) old new ok = ok

pub new_end : {T E : Type 0} (bytes : List ℕ) (result : Result T E) (old new : Option FolderPast) → IfSome old (HasNew (after_writing 0 (length bytes) bytes empty_file)) → OnOk result (Did (synced New) old new) → OnOk result (IfSome new (HasNew (settled_file_of bytes)))
new_end bytes (Ok x) old new was ok = new_synced bytes old new was ok
new_end bytes (Err e) old new was ok = ok
