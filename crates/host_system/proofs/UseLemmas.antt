-- When a board's file may be used after it was opened.
use Rattle.std.proofs.Common.{◌≡◌, Some, refl, sym, ◌∙◌, subst, inl, inr, OnOk}
use Rattle.std.specs.Prelude.{Option, None, IfSome, IsSome, Result, Ok, Err, OnErr}
use Rattle.board_core.specs.declared.board.FileNo.{FileNo}
use Rattle.board_core.specs.declared.board.FileNo.TheVariants.{Zero, One}
use Rattle.host_system.specs.declared.system.FileName.TheVariants.{Journal}
use Rattle.host_system.specs.BoardFile.{IsUsableIn, IsHeldIn, IsOpenable, IsHeld}
use Rattle.host_system.specs.Folder.{Folder, opened, locked, lost, entry_named, FolderChange, made, opens, locks, synced_names, folder_after, bytes_now}
use Rattle.host_system.specs.FolderPast.{FolderPast, Did, IfTold, changed_by, folder_of, MayDo, HasFile, IsOpen}
use Rattle.host_system.specs.Steps.FolderPastLemmas.{folder_of-more}
use Rattle.host_system.proofs.FileLemmas.{did_by, may_by}

opened_lost : opened ≡ lost → ⊥
opened_lost e = cc

locked_lost : locked ≡ lost → ⊥
locked_lost e = cc

pub kept_same : (P : FolderPast → Type 0) (old new : Option FolderPast) → new ≡ old → IfSome old P → IfSome new P
kept_same P old new is was = subst (λ (o : Option FolderPast). IfSome o P) (sym is) was

-- A property of a folder after a change, by a property before it.
pub after_did : (change : FolderChange) (P Q : Folder → Type 0) → ((f : Folder) → P f → Q (folder_after change f)) → (old new : Option FolderPast) → Did change old new → IfSome old (λ p. P (folder_of p)) → IfSome new (λ p. Q (folder_of p))
after_did change P Q goes old new is was =
    did_by change (λ (o n : Option FolderPast). IfSome o (λ p. P (folder_of p)) → IfSome n (λ p. Q (folder_of p))) (λ w. tt)
    (λ past w. subst Q (sym (folder_of-more change past)) (goes (folder_of past) w)) old new is was

abbrev Whatever : Folder → Type 0
Whatever folder = Unit {0}

whatever : (told : Option FolderPast) → IfSome told (λ p. Whatever (folder_of p))
whatever None = tt
whatever (Some past) = tt

-- ---- a file is found, opened or made, and locked

abbrev HasFileIn : FileNo → Folder → Type 0
HasFileIn file folder = IsSome (bytes_now (entry_named (Journal file) folder))

-- A file exists and is open, but isn't locked.
pub record IsOpenIn (file : FileNo) (folder : Folder) : Type 0 where
  pub there : HasFileIn file folder
  pub is : (entry_named (Journal file) folder).how ≡ opened

made_goes : (file : FileNo) (f : Folder) → Whatever f → IsOpenIn file (folder_after (made (Journal file)) f)
made_goes Zero f any = record { there = refl; is = refl }
made_goes One f any = record { there = refl; is = refl }

opens_goes : (file : FileNo) (f : Folder) → HasFileIn file f → IsOpenIn file (folder_after (opens (Journal file)) f)
opens_goes Zero f there = record { there = there; is = refl }
opens_goes One f there = record { there = there; is = refl }

locks_goes : (file : FileNo) (f : Folder) → HasFileIn file f → IsHeldIn file (folder_after (locks (Journal file)) f)
locks_goes Zero f there = record { there = there; is_locked = refl }
locks_goes One f there = record { there = there; is_locked = refl }

pub named_goes : (file : FileNo) (f : Folder) → IsHeldIn file f → IsUsableIn file (folder_after synced_names f)
named_goes Zero f held = record { there = held.there; named = refl; is_locked = held.is_locked }
named_goes One f held = record { there = held.there; named = refl; is_locked = held.is_locked }

abbrev IsOpenNow : FileNo → FolderPast → Type 0
IsOpenNow file past = IsOpenIn file (folder_of past)

pub if_some : (P Q : FolderPast → Type 0) → ((p : FolderPast) → P p → Q p) → (told : Option FolderPast) → IfSome told P → IfSome told Q
if_some P Q implies None was = tt
if_some P Q implies (Some past) was = implies past was

is_opened : (file : FileNo) (p : FolderPast) → IsOpenNow file p → IsOpen (Journal file) p
is_opened file p was = inl was.is

is_openable : (file : FileNo) (p : FolderPast) → IsOpenNow file p → IsOpenable file p
is_openable file p was = λ gone. opened_lost (sym was.is ∙ gone)

-- what is known of a file once it is open
pub record Opened (file : FileNo) (told : Option FolderPast) : Type 0 where
  pub there : IfSome told (HasFile (Journal file))
  pub opened : IfSome told (IsOpen (Journal file))
  pub openable : IfSome told (IsOpenable file)

opened_now : (file : FileNo) (told : Option FolderPast) → IfSome told (IsOpenNow file) → Opened file told
opened_now file told was = record {
  there = if_some (IsOpenNow file) (HasFile (Journal file)) (λ p was. was.there) told was;
  opened = if_some (IsOpenNow file) (IsOpen (Journal file)) (is_opened file) told was;
  openable = if_some (IsOpenNow file) (IsOpenable file) (is_openable file) told was;
}

pub made_opened : (file : FileNo) (old new : Option FolderPast) → Did (made (Journal file)) old new → Opened file new
made_opened file old new is = opened_now file new (after_did (made (Journal file)) Whatever (IsOpenIn file) (made_goes file) old new is (whatever old))

pub opens_opened : (file : FileNo) (old new : Option FolderPast) → IfSome old (HasFile (Journal file)) → Did (opens (Journal file)) old new → Opened file new
opens_opened file old new there is = opened_now file new (after_did (opens (Journal file)) (HasFileIn file) (IsOpenIn file) (opens_goes file) old new is there)

pub made_may_openable : (file : FileNo) (old new : Option FolderPast) → IfSome old (IsOpenable file) → IfTold (MayDo (made (Journal file))) old new → IfSome new (IsOpenable file)
made_may_openable file old new was is =
    may_by (MayDo (made (Journal file))) (λ (o n : Option FolderPast). IfSome o (IsOpenable file) → IfSome n (IsOpenable file)) (λ w. tt)
    (λ x y done w. elim done [ inl same ↦ subst (IsOpenable file) (sym same) w | inr did ↦ subst (IsOpenable file) (sym did) ((made_opened file (Some x) (Some (changed_by (made (Journal file)) x)) refl).openable) ])
    old new is was

locks_held : (file : FileNo) (old new : Option FolderPast) → IfSome old (HasFile (Journal file)) → Did (locks (Journal file)) old new → IfSome new (IsHeld file)
locks_held file old new there is = after_did (locks (Journal file)) (HasFileIn file) (IsHeldIn file) (locks_goes file) old new is there

pub held_end : {T E : Type 0} (file : FileNo) (result : Result T E) (old new : Option FolderPast) → IfSome old (HasFile (Journal file)) → OnOk result (Did (locks (Journal file)) old new) → OnOk result (IfSome new (IsHeld file))
held_end file (Ok x) old new there ok = locks_held file old new there ok
held_end file (Err e) old new there ok = ok

pub locked_openable : {T E : Type 0} (file : FileNo) (result : Result T E) (old new : Option FolderPast) → IfSome old (HasFile (Journal file)) → IfSome old (IsOpenable file) → OnOk result (Did (locks (Journal file)) old new) → OnErr result (new ≡ old) → IfSome new (IsOpenable file)
locked_openable file (Ok x) old new there was ok err = if_some (IsHeld file) (IsOpenable file) (λ p held gone. locked_lost (sym held.is_locked ∙ gone)) new (locks_held file old new there ok)
locked_openable file (Err e) old new there was ok err = kept_same (IsOpenable file) old new err was

-- ---- a call at the end of an opening, however it ended

pub opens_openable : {T E : Type 0} (file : FileNo) (result : Result T E) (old new : Option FolderPast) → IfSome old (HasFile (Journal file)) → IfSome old (IsOpenable file) → OnOk result (Did (opens (Journal file)) old new) → OnErr result (new ≡ old) → IfSome new (IsOpenable file)
opens_openable file (Ok x) old new there was ok err = (opens_opened file old new there ok).openable
opens_openable file (Err e) old new there was ok err = kept_same (IsOpenable file) old new err was

pub opens_there : {T E : Type 0} (file : FileNo) (result : Result T E) (old new : Option FolderPast) → IfSome old (HasFile (Journal file)) → OnOk result (Did (opens (Journal file)) old new) → OnOk result (IfSome new (HasFile (Journal file)))
opens_there file (Ok x) old new there ok = (opens_opened file old new there ok).there
opens_there file (Err e) old new there ok = ok

pub opens_open : {T E : Type 0} (file : FileNo) (result : Result T E) (old new : Option FolderPast) → IfSome old (HasFile (Journal file)) → OnOk result (Did (opens (Journal file)) old new) → OnOk result (IfSome new (IsOpen (Journal file)))
opens_open file (Ok x) old new there ok = (opens_opened file old new there ok).opened
opens_open file (Err e) old new there ok = ok

pub made_openable : {T E : Type 0} (file : FileNo) (result : Result T E) (old new : Option FolderPast) → IfSome old (IsOpenable file) → OnOk result (Did (made (Journal file)) old new) → OnErr result (IfTold (MayDo (made (Journal file))) old new) → IfSome new (IsOpenable file)
made_openable file (Ok x) old new was ok err = (made_opened file old new ok).openable
made_openable file (Err e) old new was ok err = made_may_openable file old new was err

pub made_there : {T E : Type 0} (file : FileNo) (result : Result T E) (old new : Option FolderPast) → OnOk result (Did (made (Journal file)) old new) → OnOk result (IfSome new (HasFile (Journal file)))
made_there file (Ok x) old new ok = (made_opened file old new ok).there
made_there file (Err e) old new ok = ok

pub made_open : {T E : Type 0} (file : FileNo) (result : Result T E) (old new : Option FolderPast) → OnOk result (Did (made (Journal file)) old new) → OnOk result (IfSome new (IsOpen (Journal file)))
made_open file (Ok x) old new ok = (made_opened file old new ok).opened
made_open file (Err e) old new ok = ok
