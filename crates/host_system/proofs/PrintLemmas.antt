-- What a print leads to, over a modelled system.
use Rattle.std.proofs.Common.{append_assoc, append-nil, ◌++◌, ◌≡◌, ℕ, [], List, Some, refl, ap, sym, ◌∙◌, subst, OnOk}
use Rattle.std.specs.Prelude.{Option, Result, Ok, Err, OnErr}
use Rattle.board_core.specs.Clock.{untold, Passes, Leads}
use Rattle.board_core.specs.Stop.{Left, InOut, Begins, Appends}
use Rattle.board_core.specs.declared.board.FileNo.{FileNo}
use Rattle.board_core.specs.declared.board.FileNo.TheVariants.{Zero, One}
use Rattle.host_system.specs.BoardFile.{KeepsOthersIn, KeepsOthers}
use Rattle.host_system.specs.Steps.Calls.{SeesPrinted, SeesBegun}
use Rattle.host_system.specs.Folder.{Folder, printed, folder_after, Stopped, MayLeaveFolder, here_in}
use Rattle.host_system.specs.FolderPast.{FolderPast, Did, IfTold, changed_by, folder_of, MayPrint}
use Rattle.host_system.specs.Steps.FolderLemmas.{AfterFolder, print_before}
use Rattle.host_system.specs.Steps.FolderPastLemmas.{folder_of-more, leads_change, passes_change, stands}
use Rattle.host_system.specs.View.{seen_as, seen_now, clock_over}
use Rattle.host_system.proofs.FileLemmas.{did_by, may_by, keeps_others}

printed_keeps : (file : FileNo) (part : List ℕ) (past : FolderPast) → KeepsOthers file past (changed_by (printed part) past)
printed_keeps Zero part past = subst (KeepsOthersIn Zero (folder_of past)) (sym (folder_of-more (printed part) past)) (keeps_others Zero (folder_of past) (folder_after (printed part) (folder_of past)) refl refl)
printed_keeps One part past = subst (KeepsOthersIn One (folder_of past)) (sym (folder_of-more (printed part) past)) (keeps_others One (folder_of past) (folder_after (printed part) (folder_of past)) refl refl)

printed_seen : (part : List ℕ) (past : FolderPast) → SeesPrinted part past (changed_by (printed part) past)
printed_seen part past = ap (λ (f : Folder). seen_as (here_in f)) (folder_of-more (printed part) past)

nothing_begun : (piece : List ℕ) (left : Left) → InOut (Begins piece) left left
nothing_begun piece left = record { text = left.out; step = record { part = []; missing = piece; splits = refl; is = sym (append-nil left.out) }; rest = refl }

printed_stops : (piece part missing : List ℕ) (past : FolderPast) → part ++ missing ≡ piece → Passes (InOut (Begins piece)) (clock_over (Some past)) (clock_over (Some (changed_by (printed part) past)))
printed_stops piece part missing past splits =
    passes_change past (printed part) (InOut (Begins piece))
    (λ left may. print_before piece may.0 (may.1 ++ missing) (folder_of past) (sym (append_assoc may.0 may.1 missing) ∙ (ap (λ (p : List ℕ). p ++ missing) may.2 ∙ splits)) left may.3)
    (λ left may. print_before piece part missing (folder_of past) splits left may)

appended : (piece : List ℕ) (folder : Folder) (left : Stopped) → MayLeaveFolder (folder_after (printed piece) folder) left → AfterFolder folder (InOut (Appends piece)) left
appended piece folder left may = record {
  from = record left { out = folder.out };
  was = record { zero = may.zero; one = may.one; store = may.store; new = may.new; out = refl };
  by = record { text = left.out; step = may.out; rest = refl };
}

part_seen : (piece part missing : List ℕ) (past : FolderPast) → part ++ missing ≡ piece → SeesBegun piece past (changed_by (printed part) past)
part_seen piece part missing past splits = record {
  text = (seen_now past).out ++ part;
  step = record { part = part; missing = missing; splits = splits; is = refl };
  rest = printed_seen part past;
}

-- However the print ended.

pub print_told : {T E : Type 0} (piece : List ℕ) (result : Result T E) (old new : Option FolderPast) → OnOk result (Did (printed piece) old new) → OnOk result (IfTold (SeesPrinted piece) old new)
print_told piece (Ok x) old new ok = did_by (printed piece) (IfTold (SeesPrinted piece)) refl (λ past. printed_seen piece past) old new ok
print_told piece (Err e) old new ok = ok

pub print_failed : {T E : Type 0} (piece : List ℕ) (result : Result T E) (old new : Option FolderPast) → OnErr result (IfTold (MayPrint piece) old new) → OnErr result (IfTold (SeesBegun piece) old new)
print_failed piece (Ok x) old new err = err
print_failed piece (Err e) old new err =
    may_by (MayPrint piece) (IfTold (SeesBegun piece)) refl (λ x y done. subst (SeesBegun piece x) (sym done.3) (part_seen piece done.0 done.1 x done.2)) old new err

pub print_keeps : {T E : Type 0} (file : FileNo) (piece : List ℕ) (result : Result T E) (old new : Option FolderPast) → OnOk result (Did (printed piece) old new) → OnErr result (IfTold (MayPrint piece) old new) → IfTold (KeepsOthers file) old new
print_keeps file piece (Ok x) old new ok err = did_by (printed piece) (IfTold (KeepsOthers file)) refl (λ past. printed_keeps file piece past) old new ok
print_keeps file piece (Err e) old new ok err = may_by (MayPrint piece) (IfTold (KeepsOthers file)) refl (λ x y done. subst (KeepsOthers file x) (sym done.3) (printed_keeps file done.0 x)) old new err

abbrev PassesPiece : List ℕ → Option FolderPast → Option FolderPast → Type 0
PassesPiece piece old new = Passes (InOut (Begins piece)) (clock_over old) (clock_over new)

pub print_stops : {T E : Type 0} (piece : List ℕ) (result : Result T E) (old new : Option FolderPast) → OnOk result (Did (printed piece) old new) → OnErr result (IfTold (MayPrint piece) old new) → PassesPiece piece old new
print_stops piece (Ok x) old new ok err = did_by (printed piece) (PassesPiece piece) (stands (InOut (Begins piece)) untold (nothing_begun piece)) (λ past. printed_stops piece piece [] past (append-nil piece)) old new ok
print_stops piece (Err e) old new ok err =
    may_by (MayPrint piece) (PassesPiece piece) (stands (InOut (Begins piece)) untold (nothing_begun piece))
    (λ x y done. subst (λ (p : FolderPast). PassesPiece piece (Some x) (Some p)) (sym done.3) (printed_stops piece done.0 done.1 x done.2)) old new err

abbrev LeadsOver : List ℕ → Option FolderPast → Option FolderPast → Type 0
LeadsOver piece old new = Leads (InOut (Appends piece)) (clock_over old) (clock_over new)

pub print_leads : {T E : Type 0} (piece : List ℕ) (result : Result T E) (old new : Option FolderPast) → OnOk result (Did (printed piece) old new) → OnOk result (LeadsOver piece old new)
print_leads piece (Ok x) old new ok = did_by (printed piece) (LeadsOver piece) (λ left now. absurd now) (λ past. leads_change past (printed piece) (InOut (Appends piece)) (appended piece (folder_of past))) old new ok
print_leads piece (Err e) old new ok = ok
