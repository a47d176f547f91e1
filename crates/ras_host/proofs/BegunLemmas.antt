-- How a board begins: the device and the files before their first use.
use Rattle.std.proofs.Common.{◌≡◌, ℕ, ◌≤◌, List, length, take, Some, sym, ap, subst, ◌∙◌, arith}
use Rattle.std.specs.Prelude.{Bool, true, false, ◌==◌, if◌then◌else◌, Option, None, IfSome, IfOk, Result, Ok, Err}
use Rattle.std.specs.Option.{option_map}
use Rattle.std.specs.Result.{result_or}
use Rattle.std.proofs.lemmas.List.{take_all}
use Rattle.erst_store.specs.Store.{IsStore}
use Rattle.erst_store.specs.StoreReading.{store_at}
use Rattle.erst_store.specs.Steps.KeptLemmas.{IsDevice-new}
use Rattle.erst_store.specs.Steps.StoreLemmas.{IsStore-nil}
use Rattle.board_core.specs.declared.board.FileNo.{FileNo}
use Rattle.board_core.specs.declared.board.FileNo.TheVariants.{Zero, One}
use Rattle.host_system.specs.BoardFile.{AreOpenable, IsOpenable, IsUsable}
use Rattle.host_system.specs.Folder.{locked, lost}
use Rattle.host_system.specs.FolderPast.{FolderPast, bytes_named, bytes_or, length_told}
use Rattle.host_system.specs.View.{HasUsableStore, HasWholeStore, MayBeRead, MayBegin, seen_now, store_in}
use Rattle.host_system.specs.declared.system.FileName.TheVariants.{Store}
use Rattle.ras_host.specs.Blame.{AreAllSound}
use Rattle.ras_host.specs.BoardState.{kept_for}
use Rattle.ras_host.specs.JournalFiles.{AreHeld, files_for}
use Rattle.ras_host.specs.Steps.KeptDevice.{IsInStep, IsOff}
use Rattle.ras_host.specs.Steps.Settled.{IsSettledBy}
use Rattle.ras_host.specs.declared.journal.JournalFiles.{JournalFiles}
use Rattle.ras_host.specs.declared.journal.JournalFiles.TheVariants.{Shut, Open, Unread as NotRead, Seen}
use Rattle.ras_host.specs.declared.kept.Kept.{Kept}
use Rattle.ras_host.specs.declared.kept.Kept.TheVariants.{Unread, Unreadable}

pub store_kept : (AreBytes : List ℕ → Type 0) → ((bytes : List ℕ) → AreBytes bytes → IsStore (store_at bytes)) → (o : Option (List ℕ)) → AreBytes (bytes_or o) → IsStore (store_in o)
store_kept AreBytes law None are = IsStore-nil
store_kept AreBytes law (Some bytes) are = law bytes are

begun_unread : ((p : FolderPast) → MayBegin p → IsStore (seen_now p).store) → (p : FolderPast) → MayBegin p → IsInStep Unread p
begun_unread law p may = record {
  filed = tt;
  over = tt;
  device = IsDevice-new (seen_now p).store 0 (law p may) (omega arith);
  usable = record { whole = may.whole; bytes = may.bytes };
}

begun_unused : ((p : FolderPast) → MayBegin p → IsStore (seen_now p).store) → (p : FolderPast) → MayBegin p → IsInStep Unreadable p
begun_unused law p may = record {
  filed = tt;
  over = tt;
  device = IsDevice-new (seen_now p).store 0 (law p may) (omega arith);
  usable = record { whole = may.whole; bytes = may.bytes };
}

of_kept : (P : Kept → Type 0) (is_run : Bool) → P Unread → P Unreadable → P (if is_run then Unread else Unreadable)
of_kept P true run report = run
of_kept P false run report = report

pub in_step_begun : ((p : FolderPast) → MayBegin p → IsStore (seen_now p).store) → (how : ℕ) (told : Option FolderPast) → IfSome told MayBegin → IfSome told (IsInStep (kept_for how))
in_step_begun law how None may = tt
in_step_begun law how (Some p) may = of_kept (λ k. IsInStep k p) (how == 1) (begun_unread law p may) (begun_unused law p may)

pub off_begun : (how : ℕ) → how ≡ 0 → IsOff (kept_for how)
off_begun how is = subst (λ (h : ℕ). IsOff (kept_for h)) (sym is) tt

-- A property of a run's files and of a report's.
of_files : (P : JournalFiles → Type 0) (is_run : Bool) → P Shut → P NotRead → P (if is_run then Shut else NotRead)
of_files P true run report = run
of_files P false run report = report

pub held_begun : (how : ℕ) (told : Option FolderPast) → IfSome told MayBegin → IfSome told (AreHeld (files_for how))
held_begun how None may = tt
held_begun how (Some p) may = of_files (λ f. AreHeld f p) (how == 1) (record { zero = may.zero; one = may.one }) (record { zero = may.zero; one = may.one })

pub settled_begun : (how : ℕ) (kept : Kept) (told : Option FolderPast) → IfSome told (IsSettledBy (files_for how) kept)
settled_begun how kept None = tt
settled_begun how kept (Some p) = of_files (λ f. IsSettledBy f kept p) (how == 1) (λ never. absurd never) (λ never. absurd never)

-- ---- how it ends

not_both : locked ≡ lost → ⊥
not_both e = cc

usable_openable : (file : FileNo) (p : FolderPast) → IsUsable file p → IsOpenable file p
usable_openable file p is gone = not_both (sym is.is_locked ∙ gone)

-- No sync of a file failed.
openable : (files : JournalFiles) (p : FolderPast) → AreHeld files p → AreAllSound files → AreOpenable p
openable Shut p held sound = held
openable (Open flags) p held sound = record { zero = usable_openable Zero p (held.zero sound.0); one = usable_openable One p (held.one sound.1) }
openable NotRead p held sound = held
openable (Seen read flags) p held sound = record { zero = (held.readable.zero sound.0).openable; one = (held.readable.one sound.1).openable }

pub openable_ended : (files : JournalFiles) (told : Option FolderPast) → IfSome told (AreHeld files) → AreAllSound files → IfSome told AreOpenable
openable_ended files None held sound = tt
openable_ended files (Some p) held sound = openable files p held sound

pub usable_ended : (kept : Kept) (told : Option FolderPast) → IfSome told (IsInStep kept) → IfSome told HasUsableStore
usable_ended kept None is = tt
usable_ended kept (Some p) is = is.usable

-- ---- the store's file is read

whole : (most n : ℕ) (o : Option (List ℕ)) → Some n ≡ option_map length o → n ≤ most → option_map (take most) o ≡ o
whole most n None is within = absurd (none_is is)
  where
    none_is : Some n ≡ None → ⊥
    none_is e = cc
whole most n (Some bytes) is within = ap Some (take_all most bytes (short is))
  where
    short : Some n ≡ Some (length bytes) → length bytes ≤ most
    short e = let count : n ≡ length bytes = cc in omega arith

pub if_or : {T E F : Type 0} (P : T → Type 0) (r : Result T E) (f : F) → IfOk r P → IfOk (result_or r (Err f)) P
if_or P (Ok x) f is = is
if_or P (Err e) f is = tt

pub read_whole : {V E : Type 0} (items : V → List ℕ) (result : Result (Option V) E) (most n : ℕ) (a b : Option FolderPast) → b ≡ a → IfSome a HasWholeStore
    → IfSome a (λ p. Some n ≡ length_told Store p) → n ≤ most
    → IfOk result (λ found. IfSome b (λ p. MayBeRead Store p → option_map items found ≡ option_map (take most) (bytes_named Store p)))
    → IfOk result (λ found. IfSome a (λ p. option_map items found ≡ bytes_named Store p))
read_whole items (Err e) most n a b same settled is within read = tt
read_whole items (Ok found) most n None b same settled is within read = tt
read_whole items (Ok found) most n (Some p) b same settled is within read =
    (subst (λ (o : Option FolderPast). IfSome o (λ p. MayBeRead Store p → option_map items found ≡ option_map (take most) (bytes_named Store p))) same read) settled
    ∙ whole most n (bytes_named Store p) is within
