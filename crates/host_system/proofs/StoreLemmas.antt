-- What a board over a system sees after its store was replaced, by what it saw before.
use Rattle.std.proofs.Common.{◌≡◌, ℕ, [], List, Some, refl, ap, sym, ◌∙◌, subst, inl, inr, ◌⊎◌}
use Rattle.std.specs.Option.{option_map}
use Rattle.std.specs.Prelude.{true, false, Option, IfSome, IsSome, Result, Ok, Err, OnOk, OnErr}
use Rattle.std.specs.Result.{IsErr}
use Rattle.erst_store.specs.Store.{Stored}
use Rattle.board_core.specs.declared.board.FileNo.{FileNo}
use Rattle.board_core.specs.declared.board.FileNo.TheVariants.{Zero, One}
use Rattle.host_system.specs.declared.system.FileName.TheVariants.{Journal}
use Rattle.ras_base.specs.LittleEndian.{AreBytes}
use Rattle.host_system.specs.BoardFile.{KeepsFile, KeepsFileIn, SeesSame, IsSettled, with_store}
use Rattle.host_system.specs.Folder.{FolderFile, NameEntry, Folder, entry_named, renamed, synced_names, settled_file_of, settled_name, bytes_now, here_in}
use Rattle.host_system.specs.FolderPast.{FolderPast, Did, bytes_or, folder_of}
use Rattle.host_system.specs.Steps.Quiet.{SeesNothing, Quiet, HasNew, HasMoved, IsReplaced, MayHaveMoved}
use Rattle.host_system.specs.StoreFile.{SeesStore, HasReplaced, KeepsUsable, Replaces}
use Rattle.host_system.specs.View.{HasUsableStore, seen_as, store_in, IsDurable}
use Rattle.host_system.proofs.FileLemmas.{keeps_file, weaker}
use Rattle.host_system.proofs.QuietLemmas.{EndsBadly, EndsWell, badly_moved, well_named}

parts : (folder old : Folder) (store : List Stored) → bytes_now folder.zero ≡ bytes_now old.zero → bytes_now folder.one ≡ bytes_now old.one → store_in (bytes_now folder.store) ≡ store → folder.out ≡ old.out
    → seen_as (here_in folder) ≡ with_store store (seen_as (here_in old))
parts folder old store zero one stored out =
    ap (λ (b : Option (List ℕ)). record (seen_as (here_in folder)) { file0 = bytes_or b }) zero
    ∙ (ap (λ (b : Option (List ℕ)). record (seen_as (here_in folder)) { file0 = bytes_or (bytes_now old.zero); file1 = bytes_or b }) one
    ∙ (ap (λ (s : List Stored). record (seen_as (here_in folder)) { file0 = bytes_or (bytes_now old.zero); file1 = bytes_or (bytes_now old.one); store = s }) stored
    ∙ ap (λ (o : List ℕ). record (with_store store (seen_as (here_in old))) { out = o }) out))

-- A board sees nothing of a change.

nothing_usable : (x y : FolderPast) → SeesNothing x y → KeepsUsable x y
nothing_usable x y is = λ was. record {
  whole = subst (λ (e : NameEntry). IsDurable e.now) (sym is.store) was.whole;
  bytes = subst (λ (e : NameEntry). AreBytes (bytes_or (bytes_now e))) (sym is.store) was.bytes;
}

nothing_file : (file : FileNo) (x y : FolderPast) → SeesNothing x y → KeepsFile file x y
nothing_file Zero x y is = keeps_file Zero (folder_of x) (folder_of y) is.zero
nothing_file One x y is = keeps_file One (folder_of x) (folder_of y) is.one

nothing_seen : (x y : FolderPast) → SeesNothing x y → SeesSame x y
nothing_seen x y is = parts (folder_of y) (folder_of x) (store_in (bytes_now (folder_of x).store)) (ap bytes_now is.zero) (ap bytes_now is.one) (ap (λ (e : NameEntry). store_in (bytes_now e)) is.store) is.out

-- The store's file is the new one.

now_whole : (bytes : List ℕ) (now : Option FolderFile) → now ≡ Some (settled_file_of bytes) → IsDurable now
now_whole bytes now is = subst IsDurable (sym is) refl

now_usable : (bytes : List ℕ) (y : FolderPast) → AreBytes bytes → (folder_of y).store.now ≡ Some (settled_file_of bytes) → HasUsableStore y
now_usable bytes y are is = record {
  whole = now_whole bytes (folder_of y).store.now is;
  bytes = subst (λ (now : Option FolderFile). AreBytes (bytes_or (option_map (λ (f : FolderFile). f.bytes) now))) (sym is) are;
}

moved_file : (file : FileNo) (bytes : List ℕ) (x y : FolderPast) → HasMoved bytes x y → KeepsFile file x y
moved_file Zero bytes x y is = keeps_file Zero (folder_of x) (folder_of y) is.zero
moved_file One bytes x y is = keeps_file One (folder_of x) (folder_of y) is.one

moved_seen : (bytes : List ℕ) (x y : FolderPast) → HasMoved bytes x y → SeesStore bytes x y
moved_seen bytes x y is =
    parts (folder_of y) (folder_of x) (store_in (Some bytes)) (ap bytes_now is.zero) (ap bytes_now is.one) (ap (λ (now : Option FolderFile). store_in (option_map (λ (f : FolderFile). f.bytes) now)) is.store) is.out

-- The store's file is durable.

named_file : (file : FileNo) (x y : Folder) → entry_named (Journal file) y ≡ settled_name (entry_named (Journal file) x) → KeepsFileIn file x y
named_file file x y entry = record {
  named = λ is. ap (λ (e : NameEntry). e.others) entry;
  held = λ is. record { there = subst (λ (e : NameEntry). IsSome (bytes_now e)) (sym entry) is.there; is_locked = ap (λ (e : NameEntry). e.how) entry ∙ is.is_locked };
  usable = λ is. record {
    there = subst (λ (e : NameEntry). IsSome (bytes_now e)) (sym entry) is.there;
    named = ap (λ (e : NameEntry). e.others) entry;
    is_locked = ap (λ (e : NameEntry). e.how) entry ∙ is.is_locked;
  };
  openable = λ is gone. is (sym (ap (λ (e : NameEntry). e.how) entry) ∙ gone);
}

replaced_file : (file : FileNo) (bytes : List ℕ) (x y : FolderPast) → IsReplaced bytes x y → KeepsFile file x y
replaced_file Zero bytes x y is = named_file Zero (folder_of x) (folder_of y) is.zero
replaced_file One bytes x y is = named_file One (folder_of x) (folder_of y) is.one

replaced_settled : (bytes : List ℕ) (entry : NameEntry) → entry.others ≡ [] → entry.now ≡ Some (settled_file_of bytes) → IsSettled entry
replaced_settled bytes entry others now = (others, now_whole bytes entry.now now)

replaced_seen : (bytes : List ℕ) (x y : FolderPast) → IsReplaced bytes x y → HasReplaced bytes x y
replaced_seen bytes x y is = record {
  file = ap (option_map (λ (f : FolderFile). f.bytes)) is.store;
  seen = parts (folder_of y) (folder_of x) (store_in (Some bytes)) (ap bytes_now is.zero) (ap bytes_now is.one) (ap (λ (now : Option FolderFile). store_in (option_map (λ (f : FolderFile). f.bytes) now)) is.store) is.out;
  settled = replaced_settled bytes (folder_of y).store is.others is.store;
}

-- ---- however the call ended

may_usable : (bytes : List ℕ) → AreBytes bytes → (x y : FolderPast) → MayHaveMoved bytes x y → KeepsUsable x y
may_usable bytes are x y (inl sees) = nothing_usable x y sees
may_usable bytes are x y (inr moved) = λ was. now_usable bytes y are moved.store

may_file : (file : FileNo) (bytes : List ℕ) (x y : FolderPast) → MayHaveMoved bytes x y → KeepsFile file x y
may_file file bytes x y (inl sees) = nothing_file file x y sees
may_file file bytes x y (inr moved) = moved_file file bytes x y moved

may_seen : (bytes : List ℕ) (x y : FolderPast) → MayHaveMoved bytes x y → SeesSame x y ⊎ SeesStore bytes x y
may_seen bytes x y (inl sees) = inl (nothing_seen x y sees)
may_seen bytes x y (inr moved) = inr (moved_seen bytes x y moved)

err_replaces : {T E : Type 0} (bytes : List ℕ) → AreBytes bytes → (e : E) (old new : Option FolderPast) → EndsBadly bytes old new → Replaces {T = T} {E = E} bytes (Err e) old new
err_replaces bytes are e old new ends = record {
  usable = weaker (MayHaveMoved bytes) KeepsUsable (may_usable bytes are) old new ends.is;
  files = λ file. weaker (MayHaveMoved bytes) (KeepsFile file) (may_file file bytes) old new ends.is;
  ok = tt;
  err = weaker (MayHaveMoved bytes) (λ x y. SeesSame x y ⊎ SeesStore bytes x y) (may_seen bytes) old new ends.is;
  stops = ends.stops;
}

pub failed_replaces : {T E : Type 0} (bytes : List ℕ) → AreBytes bytes → (result : Result T E) (old new : Option FolderPast) → IsErr result → EndsBadly bytes old new → Replaces bytes result old new
failed_replaces bytes are (Ok v) old new failed ends = absurd (false_true failed)
  where
    false_true : false ≡ true → ⊥
    false_true e = cc
failed_replaces bytes are (Err e) old new failed ends = err_replaces bytes are e old new ends

done_replaces : {T E : Type 0} (bytes : List ℕ) → AreBytes bytes → (v : T) (old new : Option FolderPast) → EndsWell bytes old new → Replaces {T = T} {E = E} bytes (Ok v) old new
done_replaces bytes are v old new ends = record {
  usable = weaker (IsReplaced bytes) KeepsUsable (λ x y is was. now_usable bytes y are is.store) old new ends.is;
  files = λ file. weaker (IsReplaced bytes) (KeepsFile file) (replaced_file file bytes) old new ends.is;
  ok = weaker (IsReplaced bytes) (HasReplaced bytes) (replaced_seen bytes) old new ends.is;
  err = tt;
  stops = ends.stops;
}

pub ended_replaces : {T E : Type 0} (bytes : List ℕ) → AreBytes bytes → (result : Result T E) (a b c d : Option FolderPast) → Quiet a b → IfSome b (HasNew (settled_file_of bytes)) → Did renamed b c → OnOk result (Did synced_names c d) → OnErr result (d ≡ c) → Replaces bytes result a d
ended_replaces bytes are (Ok v) a b c d quiet new renames ok err = done_replaces bytes are v a d (well_named bytes a b c d quiet new renames ok)
ended_replaces bytes are (Err e) a b c d quiet new renames ok err = err_replaces bytes are e a d (subst (EndsBadly bytes a) (sym err) (badly_moved bytes a b c quiet new renames))
