-- What the opening of both files leads to.
use Rattle.std.proofs.Common.{◌≡◌, refl, ap, sym, ◌∙◌, subst, OnOk}
use Rattle.std.specs.Prelude.{Option, IfSome, Result, Ok, Err, OnErr}
use Rattle.board_core.specs.Clock.{Passes}
use Rattle.board_core.specs.Stop.{Same}
use Rattle.board_core.specs.declared.board.FileNo.{FileNo}
use Rattle.board_core.specs.declared.board.FileNo.TheVariants.{Zero, One}
use Rattle.host_system.specs.BoardFile.{IsUsableIn, IsOpenable, IsHeld, AreOpenable, AreOpened, AreNamed, KeepsStore, KeepsOthers, SeesSame, HasSettledStore, IsSettled}
use Rattle.host_system.specs.Folder.{NameEntry, Folder, settled_name, synced_names}
use Rattle.host_system.specs.FolderPast.{FolderPast, Did, IfTold, changed_by, folder_of}
use Rattle.host_system.specs.Steps.FolderPastLemmas.{folder_of-more, passes_then}
use Rattle.host_system.specs.View.{HasWholeStore, IsDurable, clock_over}
use Rattle.host_system.proofs.FileLemmas.{did_by, may_by, told_then, weaker, names_end}
use Rattle.host_system.proofs.UseLemmas.{named_goes}

-- A board sees the same, and both files may be opened again.
pub record BothKept (old new : Option FolderPast) : Type 0 where
  pub told : IfTold SeesSame old new
  pub store : IfTold KeepsStore old new
  pub stops : Passes Same (clock_over old) (clock_over new)
  pub openable : IfSome new AreOpenable

both_then : (a b c : Option FolderPast) → BothKept a b → BothKept b c → BothKept a c
both_then a b c first last = record {
  told = told_then SeesSame (λ x y z before after. after ∙ before) a b c first.told last.told;
  store = told_then KeepsStore (λ x y z before after. record { same = after.same ∙ before.same; settled = λ is. after.settled (before.settled is); whole = λ is. after.whole (before.whole is) }) a b c first.store last.store;
  stops = passes_then Same Same Same (clock_over a) (clock_over b) (clock_over c) (λ x y is. is) (λ x y z before after. after ∙ before) first.stops last.stops;
  openable = last.openable;
}

-- One of the files is opened.

both_openable : (file : FileNo) (x y : FolderPast) → KeepsOthers file x y → AreOpenable x → IsOpenable file y → AreOpenable y
both_openable Zero x y keeps was this = record { zero = this; one = keeps.other.openable was.one }
both_openable One x y keeps was this = record { zero = keeps.other.openable was.zero; one = this }

one_opened : (file : FileNo) (old new : Option FolderPast) → IfSome old AreOpenable → IfTold SeesSame old new → IfTold (KeepsOthers file) old new → Passes Same (clock_over old) (clock_over new) → IfSome new (IsOpenable file) → BothKept old new
one_opened file old new was told keeps stops this = record {
  told = told;
  store = weaker (KeepsOthers file) KeepsStore (λ x y kept. record { same = kept.same; settled = kept.settled; whole = kept.whole }) old new keeps;
  stops = stops;
  openable = may_by (KeepsOthers file) (λ (o n : Option FolderPast). IfSome o AreOpenable → IfSome n (IsOpenable file) → IfSome n AreOpenable) (λ w t. tt) (both_openable file) old new keeps was this;
}

-- The names of the files are made durable.

named_openable : (file : FileNo) (old new : Option FolderPast) → IfSome old AreOpenable → IfTold (KeepsOthers Zero) old new → IfTold (KeepsOthers One) old new → IfSome new (IsOpenable file)
named_openable file old new was zero one = may_by (KeepsOthers Zero) (λ (o n : Option FolderPast). IfSome o AreOpenable → IfTold (KeepsOthers One) o n → IfSome n (IsOpenable file)) (λ w k. tt) (kept file) old new zero was one
  where
    kept : (file : FileNo) (x y : FolderPast) → KeepsOthers Zero x y → AreOpenable x → KeepsOthers One x y → IsOpenable file y
    kept Zero x y zero was one = one.other.openable was.zero
    kept One x y zero was one = zero.other.openable was.one

both_named : {T E : Type 0} (result : Result T E) (old new : Option FolderPast) → IfSome old AreOpenable → OnOk result (Did synced_names old new) → OnErr result (new ≡ old) → BothKept old new
both_named result old new was ok err =
    one_opened Zero old new was (names_end Zero result old new ok err).told (names_end Zero result old new ok err).keeps (names_end Zero result old new ok err).stops
    (named_openable Zero old new was (names_end Zero result old new ok err).keeps (names_end One result old new ok err).keeps)

-- Both files are opened, and then their names are made durable.
pub both_opened : {T E : Type 0} (result : Result T E) (a b c d : Option FolderPast) → IfSome a AreOpenable
    → IfTold SeesSame a b → IfTold (KeepsOthers Zero) a b → Passes Same (clock_over a) (clock_over b) → IfSome b (IsOpenable Zero)
    → IfTold SeesSame b c → IfTold (KeepsOthers One) b c → Passes Same (clock_over b) (clock_over c) → IfSome c (IsOpenable One)
    → OnOk result (Did synced_names c d) → OnErr result (d ≡ c) → BothKept a d
both_opened result a b c d was told0 keeps0 stops0 zero told1 keeps1 stops1 one ok err =
    let first : BothKept a b = one_opened Zero a b was told0 keeps0 stops0 zero in
    let second : BothKept b c = one_opened One b c first.openable told1 keeps1 stops1 one in
    both_then a b d first (both_then b c d second (both_named result c d second.openable ok err))

still_held : (old new : Option FolderPast) → IfTold (KeepsOthers One) old new → IfSome old (IsHeld Zero) → IfSome new (IsHeld Zero)
still_held old new keeps was = may_by (KeepsOthers One) (λ (o n : Option FolderPast). IfSome o (IsHeld Zero) → IfSome n (IsHeld Zero)) (λ w. tt) (λ x y kept held. kept.other.held held) old new keeps was

-- The names of all files are durable.

whole_settles : (entry : NameEntry) → IsDurable entry.now → IsSettled (settled_name entry)
whole_settles entry whole = (refl, whole)

named_whole : (past : FolderPast) → HasWholeStore (changed_by synced_names past) → HasSettledStore (changed_by synced_names past)
named_whole past = subst (λ (f : Folder). IsDurable f.store.now → IsSettled f.store) (sym (folder_of-more synced_names past)) (whole_settles (folder_of past).store)

now_opened : (old new : Option FolderPast) → IfSome old (IsHeld Zero) → IfSome old (IsHeld One) → Did synced_names old new → IfSome new AreOpened
now_opened old new zero one is =
    did_by synced_names (λ (o n : Option FolderPast). IfSome o (IsHeld Zero) → IfSome o (IsHeld One) → IfSome n AreOpened) (λ z o. tt)
    (λ past z o. record {
      usable = record {
        zero = subst (IsUsableIn Zero) (sym (folder_of-more synced_names past)) (named_goes Zero (folder_of past) z);
        one = subst (IsUsableIn One) (sym (folder_of-more synced_names past)) (named_goes One (folder_of past) o);
      };
      settled = named_whole past;
    })
    old new is zero one

pub both_usable : {T E : Type 0} (result : Result T E) (b c d : Option FolderPast) → IfSome b (IsHeld Zero) → IfTold (KeepsOthers One) b c → IfSome c (IsHeld One) → OnOk result (Did synced_names c d) → OnOk result (IfSome d AreOpened)
both_usable (Ok x) b c d zero keeps one ok = now_opened c d (still_held b c keeps zero) one ok
both_usable (Err e) b c d zero keeps one ok = ok

pub names_named : {T E : Type 0} (result : Result T E) (old new : Option FolderPast) → OnOk result (Did synced_names old new) → OnOk result (IfSome new AreNamed)
names_named (Ok x) old new ok =
    did_by synced_names (λ (o n : Option FolderPast). IfSome n AreNamed) tt
    (λ past. record {
      zero = ap (λ (f : Folder). f.zero.others) (folder_of-more synced_names past);
      one = ap (λ (f : Folder). f.one.others) (folder_of-more synced_names past);
      settled = named_whole past;
    })
    old new ok
names_named (Err e) old new ok = ok
