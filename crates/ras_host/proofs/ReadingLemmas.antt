-- A report's changes of the folder: it only prints and syncs.
use Rattle.std.proofs.Common.{◌≡◌, ℕ, List, [], ◌∷◌, ◌++◌, append-nil, append_assoc, Some, refl, sym, ap, subst, ◌∙◌, OnOk}
use Rattle.std.specs.Prelude.{Option, None, IfSome, IsSomeAnd, Result, Ok, Err, OnErr}
use Rattle.board_core.specs.declared.board.FileNo.{FileNo}
use Rattle.host_system.specs.Folder.{FolderChange, synced, loses, synced_names, printed}
use Rattle.host_system.specs.FolderPast.{AllAre, Did, FolderPast, GoesOnBy, IfTold, MayPrint, PrintsOrSyncs}
use Rattle.host_system.specs.declared.system.FileName.TheVariants.{Journal}
use Rattle.ras_host.specs.Steps.KeptDevice.{IsOff, IsReading, StaysOff}
use Rattle.ras_host.specs.declared.kept.Kept.{Kept}
use Rattle.ras_host.proofs.ToldLemmas.{since_then}

abbrev pub GoesOn : FolderPast → FolderPast → Type 0
GoesOn = GoesOnBy PrintsOrSyncs

all_both : (xs ys : List FolderChange) → AllAre PrintsOrSyncs xs → AllAre PrintsOrSyncs ys → AllAre PrintsOrSyncs (xs ++ ys)
all_both [] ys first second = second
all_both (x ∷ xs) ys first second = (first.0, all_both xs ys first.1 second)

goes_then : (x y z : FolderPast) → GoesOn x y → GoesOn y z → GoesOn x z
goes_then x y z first second = record {
  more = first.more ++ second.more;
  first = second.first ∙ first.first;
  changes = second.changes ∙ (ap (λ (l : List FolderChange). l ++ second.more) first.changes ∙ append_assoc x.changes first.more second.more);
  each = all_both first.more second.more first.each second.each;
}

goes_still : (p : FolderPast) → GoesOn p p
goes_still p = record { more = []; first = refl; changes = sym (append-nil p.changes); each = tt }

pub goes_same : (before after : Option FolderPast) → after ≡ before → IfTold GoesOn before after
goes_same None after same = same
goes_same (Some p) after same = subst (λ (o : Option FolderPast). IfTold GoesOn (Some p) o) (sym same) (goes_still p)

goes_did : (change : FolderChange) → PrintsOrSyncs change → (before after : Option FolderPast) → Did change before after → IfTold GoesOn before after
goes_did change is None after did = did
goes_did change is (Some p) after did =
    subst (λ (o : Option FolderPast). IfTold GoesOn (Some p) o) (sym did) (record { more = change ∷ []; first = refl; changes = refl; each = (is, tt) })

pub goes_names : {T E : Type 0} (result : Result T E) (before after : Option FolderPast) → OnOk result (Did synced_names before after) → OnErr result (after ≡ before) → IfTold GoesOn before after
goes_names (Ok x) before after ok err = goes_did synced_names tt before after ok
goes_names (Err e) before after ok err = goes_same before after err

pub goes_synced : {T E : Type 0} (file : FileNo) (result : Result T E) (before after : Option FolderPast) → OnOk result (Did (synced (Journal file)) before after) → OnErr result (Did (loses (Journal file)) before after) → IfTold GoesOn before after
goes_synced file (Ok x) before after ok err = goes_did (synced (Journal file)) tt before after ok
goes_synced file (Err e) before after ok err = goes_did (loses (Journal file)) tt before after err

goes_begun : (piece : List ℕ) (before after : Option FolderPast) → IfTold (MayPrint piece) before after → IfTold GoesOn before after
goes_begun piece None after may = may
goes_begun piece (Some p) None may = may
goes_begun piece (Some p) (Some q) may = goes_did (printed may.0) tt (Some p) (Some q) (ap Some may.3)

pub goes_printed : {T E : Type 0} (piece : List ℕ) (result : Result T E) (before after : Option FolderPast) → OnOk result (Did (printed piece) before after) → OnErr result (IfTold (MayPrint piece) before after) → IfTold GoesOn before after
goes_printed piece (Ok x) before after ok err = goes_did (printed piece) tt before after ok
goes_printed piece (Err e) before after ok err = goes_begun piece before after err

-- ---- a board of a report

pub reading_then : (kept : Kept) (found before after : Option FolderPast) → IsReading kept found before → IfTold GoesOn before after → IsReading kept found after
reading_then kept found before after was now = record { off = was.off; goes = since_then GoesOn goes_then found before after was.goes now }

pub reading_off : (old new : Kept) (found before after : Option FolderPast) → IsReading old found before → (IsOff old → StaysOff old new before after) → IsReading new found after
reading_off old new found before after was stays =
    let still = stays was.off in
    record { off = still.off; goes = since_then GoesOn goes_then found before after was.goes (goes_same before after still.told) }

pub reading_begun : (kept : Kept) (found now : Option FolderPast) → IsOff kept → IfSome found (λ past. now ≡ Some past) → IsReading kept found now
reading_begun kept None now off is = record { off = off; goes = tt }
reading_begun kept (Some past) now off is = record { off = off; goes = subst (λ (o : Option FolderPast). IsSomeAnd o (GoesOn past)) (sym is) (goes_still past) }
