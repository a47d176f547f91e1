-- What a call of the system means for a board: what the board sees of it, and what a crash leaves meanwhile.
use Rattle.std.proofs.Common.{◌≡◌, ℕ, ◌≤◌, List, length, subst, sym, inr}
use Rattle.std.specs.Prelude.{Option, IfSome, OnOk, OnErr, Result}
use Rattle.board_core.specs.Stop.{file_in}
use Rattle.board_core.specs.declared.board.FileNo.{FileNo}
use Rattle.board_core.specs.declared.board.FileNo.TheVariants.{Zero}
use Rattle.host_system.specs.declared.system.FileName.TheVariants.{Journal}
use Rattle.host_system.specs.BoardFile.{IsReadable, IsUsable}
use Rattle.host_system.specs.Folder.{wrote, synced, loses, synced_names, printed}
use Rattle.host_system.specs.FolderPast.{FolderPast, Did, HasFile, IfTold, IsOpen, MayBeWritten, MayPrint, MayWrite, file_bytes}
use Rattle.host_system.specs.Steps.Calls.{PrintsPiece, Syncs, SyncsNames, WritesFile}
use Rattle.host_system.specs.View.{seen_now}
use Rattle.host_system.proofs.FileLemmas.{names_end, synced_end}
use Rattle.host_system.proofs.OpenLemmas.{names_named}
use Rattle.host_system.proofs.PrintLemmas.{print_failed, print_keeps, print_leads, print_stops, print_told}
use Rattle.host_system.proofs.UseLemmas.{if_some}
use Rattle.host_system.proofs.WriteLemmas.{bytes_seen, is_synced_end, seen_synced_end, synced_readable, synced_usable, wrote_failed, wrote_keeps, wrote_stops, wrote_told, wrote_usable}

-- ---- a usable file may be asked for

pub is_there : (file : FileNo) (told : Option FolderPast) → IfSome told (IsUsable file) → IfSome told (HasFile (Journal file))
is_there file told is = if_some (IsUsable file) (HasFile (Journal file)) (λ p usable. usable.there) told is

pub is_open : (file : FileNo) (told : Option FolderPast) → IfSome told (IsUsable file) → IfSome told (IsOpen (Journal file))
is_open file told is = if_some (IsUsable file) (IsOpen (Journal file)) (λ p usable. inr usable.is_locked) told is

pub may_be_written : (file : FileNo) (told : Option FolderPast) → IfSome told (IsUsable file) → IfSome told (MayBeWritten (Journal file))
may_be_written file told is = if_some (IsUsable file) (MayBeWritten (Journal file)) (λ p usable. usable.is_locked) told is

pub is_within : (file : FileNo) (place : ℕ) (told : Option FolderPast) → IfSome told (λ p. place ≤ length (file_in file (seen_now p)))
    → IfSome told (λ p. place ≤ length (file_bytes (Journal file) p))
is_within file place told is =
    if_some (λ p. place ≤ length (file_in file (seen_now p))) (λ p. place ≤ length (file_bytes (Journal file) p))
    (λ p within. subst (λ (b : List ℕ). place ≤ length b) (sym (bytes_seen file p)) within) told is

-- ---- however a call ended

pub writes : {T E : Type 0} (file : FileNo) (place : ℕ) (bytes : List ℕ) (result : Result T E) (old new : Option FolderPast)
    → IfSome old (IsUsable file) → IfSome old (λ p. place ≤ length (file_in file (seen_now p)))
    → OnOk result (Did (wrote (Journal file) place (length bytes) bytes) old new)
    → OnErr result (IfTold (MayWrite (Journal file) place (length bytes)) old new) → WritesFile file place bytes result old new
writes file place bytes result old new usable within ok err = record {
  told = wrote_told file place bytes result old new usable within ok;
  failed = wrote_failed file place bytes result old new usable within err;
  keeps = wrote_keeps file place bytes result old new usable within ok err;
  stops = wrote_stops file place bytes result old new usable within ok err;
  usable = wrote_usable file place bytes result old new usable ok err;
}

pub syncs : {T E : Type 0} (file : FileNo) (result : Result T E) (old new : Option FolderPast) → IfSome old (IsUsable file)
    → OnOk result (Did (synced (Journal file)) old new) → OnErr result (Did (loses (Journal file)) old new)
    → Syncs IsUsable file result old new
syncs file result old new usable ok err =
    let ends = synced_end file result old new ok err in
    record {
      told = ends.told;
      keeps = ends.keeps;
      stops = ends.stops;
      synced = is_synced_end file result old new usable ok;
      usable = synced_usable file result old new usable ok;
    }

pub syncs_read : {T E : Type 0} (file : FileNo) (result : Result T E) (old new : Option FolderPast) → IfSome old (IsReadable file)
    → OnOk result (Did (synced (Journal file)) old new) → OnErr result (Did (loses (Journal file)) old new)
    → Syncs IsReadable file result old new
syncs_read file result old new readable ok err =
    let ends = synced_end file result old new ok err in
    record {
      told = ends.told;
      keeps = ends.keeps;
      stops = ends.stops;
      synced = seen_synced_end file result old new readable ok;
      usable = synced_readable file result old new readable ok;
    }

pub names : {T E : Type 0} (result : Result T E) (old new : Option FolderPast) → OnOk result (Did synced_names old new)
    → OnErr result (new ≡ old) → SyncsNames result old new
names result old new ok err =
    let ends = names_end Zero result old new ok err in
    record {
      told = ends.told;
      keeps = λ file. (names_end file result old new ok err).keeps;
      stops = ends.stops;
      named = names_named result old new ok;
    }

pub prints : {T E : Type 0} (piece : List ℕ) (result : Result T E) (old new : Option FolderPast) → OnOk result (Did (printed piece) old new)
    → OnErr result (IfTold (MayPrint piece) old new) → PrintsPiece piece result old new
prints piece result old new ok err = record {
  told = print_told piece result old new ok;
  failed = print_failed piece result old new err;
  keeps = λ file. print_keeps file piece result old new ok err;
  stops = print_stops piece result old new ok err;
  printed = print_leads piece result old new ok;
}
