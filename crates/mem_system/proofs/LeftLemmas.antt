-- A crash may leave what is computed for a name and for a file.
use Rattle.std.proofs.Common.{◌≡◌, ℕ, zero, suc, ◌+◌, ◌-◌, ◌<◌, ◌≤◌, ◌++◌, ◌∷◌, [], List, length, map, take, get_or, max, min, refl, ap, sym, ◌∙◌, subst, inl, inr, arith, length-append}
use Rattle.std.specs.Prelude.{Option, None, Some, Result, Ok, Err, IfOk, OnErr, Vec}
use Rattle.std.specs.List.{AllZip}
use Rattle.std.specs.declared.alloc.Global.{Global}
use Rattle.std.specs.Option.{option_map}
use Rattle.std.proofs.lemmas.List.{get_or_append_left, map_more, map_push}
use Rattle.board_core.specs.DiskModel.{Range, DiskFile, MayLeaveFile, greatest_length}
use Rattle.board_core.specs.Steps.DiskLemmas.{outside_front, outside_last, greatest_length-more, length-overlay, overlay_outside}
use Rattle.board_core.specs.Told.{overlay}
use Rattle.mem_system.specs.declared.mem_files.MemFile.{MemFile}
use Rattle.mem_system.specs.declared.mem_files.MemWrite.{MemWrite}
use Rattle.host_system.specs.Folder.{FolderFile, on_disk, MayLeaveOne, MayLeaveAny}
use Rattle.host_system.specs.Steps.FolderLemmas.{wider}
use Rattle.mem_system.specs.Steps.LeftFolder.{IsLaid, IsPadded}
use Rattle.mem_system.specs.MemSystem.{items_in}
use Rattle.mem_system.specs.Steps.MemFiles.{other_seen, range_of, synced_or, file_seen}

-- A file that the name referred to.
pub stood_once : (files : List (Option MemFile)) (i : ℕ) (file : Option MemFile) (left : Option (List ℕ)) → i < length files → file ≡ get_or files i file → MayLeaveOne (other_seen file) left → MayLeaveAny (map other_seen files) left
stood_once [] i file left below is may = absurd (omega arith)
stood_once (x ∷ xs) zero file left below is may = inl (subst (λ (f : Option MemFile). MayLeaveOne (other_seen f) left) is may)
stood_once (x ∷ xs) (suc i) file left below is may = inr (stood_once xs i file left (omega arith) is may)

-- A write none of which arrived.
pub unwritten : (range : Range) (bytes : List ℕ) → IsLaid range bytes bytes
unwritten range bytes file may = record {
  stays = λ k below outside. may.stays k below (outside_front file.written (record { place = range.place; count = range.count }) k outside);
  no_shorter = may.no_shorter;
  no_longer = (
      let more : greatest_length (length file.synced) (file.written ++ record { place = range.place; count = range.count } ∷ []) ≡ max (greatest_length (length file.synced) file.written) (range.place + range.count) = greatest_length-more (length file.synced) file.written (record { place = range.place; count = range.count }) in
      let a : length bytes ≤ greatest_length (length file.synced) file.written = may.no_longer in
      omega arith);
}

-- A write, maybe past the end of what is left.
pub laid : (place : ℕ) (bytes old padded : List ℕ) → IsPadded place old padded → IsLaid (record { place = place; count = length bytes }) old (overlay place bytes padded)
laid place bytes old padded is file may =
    let size : length padded ≡ length old + length is.gap = ap length is.is ∙ length-append old is.gap in
    let all : length (overlay place bytes padded) ≡ min place (length padded) + length bytes + (length padded - (place + length bytes)) = length-overlay place bytes padded in
    let least : length file.synced ≤ length old = may.no_shorter in
    record {
      stays = λ k below outside.
          overlay_outside place bytes padded k (omega arith) (outside_last file.written (record { place = place; count = length bytes }) k outside)
          ∙ (ap (λ (b : List ℕ). get_or b k 0) is.is ∙ (get_or_append_left old is.gap 0 k (omega arith)
          ∙ may.stays k below (outside_front file.written (record { place = place; count = length bytes }) k outside)));
      no_shorter = omega (arith, is.enough);
      no_longer = (
          let more : greatest_length (length file.synced) (file.written ++ record { place = place; count = length bytes } ∷ []) ≡ max (greatest_length (length file.synced) file.written) (place + length bytes) = greatest_length-more (length file.synced) file.written (record { place = place; count = length bytes }) in
          let a : length old ≤ greatest_length (length file.synced) file.written = may.no_longer in
          omega (arith, is.enough, is.within));
    }

-- A write of which less arrived.
pub less_laid : (place n count : ℕ) (old new : List ℕ) → n ≤ count → IsLaid (record { place = place; count = n }) old new → IsLaid (record { place = place; count = count }) old new
less_laid place n count old new within laid file may = wider file place n count new within (laid file may)

-- One more write.
pub laid_on : (synced : List ℕ) (written : List MemWrite) (i : ℕ) (write : MemWrite) (left next : List ℕ) → i < length written → write ≡ get_or written i write
    → MayLeaveFile (record { synced = synced; written = map range_of (take i written) }) left → IsLaid (range_of write) left next → MayLeaveFile (record { synced = synced; written = map range_of (take (i + 1) written) }) next
laid_on synced written i write left next within is may step =
    let more : map range_of (take (i + 1) written) ≡ map range_of (take i written) ++ range_of write ∷ [] = map_more range_of written i write within ∙ ap (λ (w : MemWrite). map range_of (take i written) ++ range_of w ∷ []) (sym is) in
    subst (λ (ranges : List Range). MayLeaveFile (record { synced = synced; written = ranges }) next) (sym more) (step (record { synced = synced; written = map range_of (take i written) }) may)

pub copied_ranges : (xs ys : List MemWrite) → AllZip (λ (v w : MemWrite). range_of w ≡ range_of v) xs ys → map range_of ys ≡ map range_of xs
copied_ranges [] [] all = refl
copied_ranges [] (y ∷ ys) all = absurd all
copied_ranges (x ∷ xs) [] all = absurd all
copied_ranges (x ∷ xs) (y ∷ ys) all = ap (λ (r : Range). r ∷ map range_of ys) all.0 ∙ ap (λ (rs : List Range). range_of x ∷ rs) (copied_ranges xs ys all.1)

pub lay_ok : {E : Type 0} (made : Result (Vec ℕ Global) E) (place : ℕ) (bytes old padded seen : List ℕ) → seen ≡ padded → IsPadded place old padded → IfOk made (λ v. v.items ≡ overlay place bytes seen)
    → IfOk made (λ v. IsLaid (record { place = place; count = length bytes }) old v.items)
lay_ok (Ok v) place bytes old padded seen same is made = subst (λ (b : List ℕ). IsLaid (record { place = place; count = length bytes }) old b) (sym (made ∙ ap (overlay place bytes) same)) (laid place bytes old padded is)
lay_ok (Err e) place bytes old padded seen same is made = tt

pub less_ok : {E : Type 0} (made : Result (Vec ℕ Global) E) (place n count : ℕ) (old : List ℕ) → n ≤ count → IfOk made (λ v. IsLaid (record { place = place; count = n }) old v.items) → IfOk made (λ v. IsLaid (record { place = place; count = count }) old v.items)
less_ok (Ok v) place n count old within laid = less_laid place n count old v.items within laid
less_ok (Err e) place n count old within laid = tt

-- ---- a file's copy

abbrev bytes_else : List ℕ → Option (List ℕ) → List ℕ
bytes_else bytes None = bytes
bytes_else bytes (Some synced) = synced

synced_else : (synced : Option (Vec ℕ Global)) (bytes : List ℕ) → synced_or synced bytes ≡ bytes_else bytes (items_in synced)
synced_else None bytes = refl
synced_else (Some synced) bytes = refl

abbrev seen_with : List ℕ → List ℕ → List Range → FolderFile
seen_with bytes synced written = record { bytes = bytes; disk = record { synced = synced; written = written } }

pub copied_file : (file copied : MemFile) → copied.bytes.items ≡ file.bytes.items → items_in copied.synced ≡ items_in file.synced → map range_of copied.written.items ≡ map range_of file.written.items → file_seen copied ≡ file_seen file
copied_file file copied bytes synced written =
    ap (λ (b : List ℕ). seen_with b (synced_or copied.synced b) (map range_of copied.written.items)) bytes
    ∙ (ap (λ (s : List ℕ). seen_with file.bytes.items s (map range_of copied.written.items)) (synced_else copied.synced file.bytes.items ∙ (ap (bytes_else file.bytes.items) synced ∙ sym (synced_else file.synced file.bytes.items)))
    ∙ ap (seen_with file.bytes.items (synced_or file.synced file.bytes.items)) written)

-- A call that has room doesn't fail for lack of it.
pub never : {T E : Type 0} (r : Result T E) (P : Type 0) (len room : ℕ) → len + 1 ≤ room → OnErr r (room ≤ len) → OnErr r P
never (Ok v) P len room has full = tt
never (Err e) P len room has full = absurd (omega arith)

-- One more file that a name referred to.
pub copied_on : (others : List (Option MemFile)) (i : ℕ) (other made : Option MemFile) (copied next : List (Option MemFile)) → i < length others → other ≡ get_or others i other
    → map other_seen copied ≡ map other_seen (take i others) → next ≡ copied ++ made ∷ [] → option_map file_seen made ≡ option_map file_seen other → map other_seen next ≡ map other_seen (take (i + 1) others)
copied_on others i other made copied next within is so_far step same =
    ap (map other_seen) step
    ∙ (map_push other_seen copied made
    ∙ (ap (λ (fs : List (Option DiskFile)). fs ++ other_seen made ∷ []) so_far
    ∙ (ap (λ (f : Option FolderFile). map other_seen (take i others) ++ on_disk f ∷ []) same
    ∙ sym (map_more other_seen others i other within ∙ ap (λ (f : Option MemFile). map other_seen (take i others) ++ other_seen f ∷ []) (sym is)))))
