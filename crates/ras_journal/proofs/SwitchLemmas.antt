-- What becomes of the journal if the file that isn't current changes.
use Rattle.std.proofs.Common.{◌≡◌, ◌∙◌, ℕ, ◌≤◌, List, length, take, drop, Option, None, Some, Ok, refl, sym, ap}
use Rattle.std.specs.Prelude.{Bool, true, false, ◌&&◌, if◌then◌else◌, nat_le, not}
use Rattle.std.specs.Option.{option_and_then}
use Rattle.ras_base.specs.LittleEndian.{number_at}
use Rattle.board_core.specs.declared.board.FileNo.{FileNo}
use Rattle.board_core.specs.declared.board.FileNo.TheVariants.{Zero, One}
use Rattle.board_core.specs.Stop.{Left, with_file_in}
use Rattle.ras_journal.specs.declared.limits.TheConstants.{LONGEST_FILE, LAST_GENERATION}
use Rattle.ras_journal.specs.Fields.{some_or, field, generation_of, is_generation, is_taken}
use Rattle.ras_journal.specs.File.{FileFront, front_of}
use Rattle.ras_journal.specs.Recovered.{JournalFile, greater, generation_in, journal_of, other}
use Rattle.ras_journal.proofs.PartLemmas.{field_made, field_within, part_within}
use Rattle.ras_journal.proofs.FrontLemmas.{first_parts, first_whole, front_parts, front_whole, walk_continues}
use Rattle.ras_journal.proofs.JournalLemmas.{both_whole, counts}

-- ---- a file is read alike, whatever generation other than its own is taken

swap : (b t u : Bool) → (b && not t) ≡ true → u ≡ false → (b && not u) ≡ true
swap true t u is free = rw free refl
swap false t u is free = absurd cc

regenerated : (taken other : Option ℕ) (bytes : List ℕ) (generation : ℕ) → generation_of taken bytes ≡ Some generation → is_taken other generation ≡ false → generation_of other bytes ≡ Some generation
regenerated taken other bytes generation e free = by (is_generation taken (number_at 0 8 bytes)) refl e
  where
    n : ℕ
    n = number_at 0 8 bytes

    by : (b : Bool) → is_generation taken (number_at 0 8 bytes) ≡ b → ◌≡◌ {A = Option ℕ} (if b then Some (number_at 0 8 bytes) else None) (Some generation) → generation_of other bytes ≡ Some generation
    by false is e = absurd cc
    by true is e =
        let same : number_at 0 8 bytes ≡ generation = cc in
        let free_here : is_taken other (number_at 0 8 bytes) ≡ false = ap (λ (m : ℕ). is_taken other m) same ∙ free in
        let test : is_generation other (number_at 0 8 bytes) ≡ true =
        swap (nat_le 1 (number_at 0 8 bytes) && nat_le (number_at 0 8 bytes) LAST_GENERATION) (is_taken taken (number_at 0 8 bytes)) (is_taken other (number_at 0 8 bytes)) is free_here in
        rw test (ap (λ (m : ℕ). Some m) same)

other_field : (taken other : Option ℕ) (file : List ℕ) (generation : ℕ) → field (generation_of taken) 9 8 file ≡ Ok generation → is_taken other generation ≡ false → field (generation_of other) 9 8 file ≡ Ok generation
unfolding field
other_field taken other file generation e free =
    let within = field_within (generation_of taken) 9 8 file generation e in
    let made = regenerated taken other (take 8 (drop 9 file)) generation (field_made (generation_of taken) 9 8 file generation e) free in
    ap (λ (found : Option (List ℕ)). some_or 9 (option_and_then (generation_of other) found)) (part_within 9 8 file within)
    ∙ ap (λ (o : Option ℕ). some_or 9 o) made

pub taken_other : (taken other : Option ℕ) (file : List ℕ) (front : FileFront) → front_of taken file ≡ Ok (Some front) → is_taken other front.generation ≡ false → front_of other file ≡ Ok (Some front)
taken_other taken other file front e free =
    let s = front_parts taken file front e in
    let p = first_parts taken file s.first s.begins in
    let kept = walk_continues (length file) s.first front file s.walks in
    let free_first : is_taken other s.first.generation ≡ false = ap (λ (m : ℕ). is_taken other m) (sym kept.generation) ∙ free in
    front_whole other file front (record {
      first = s.first;
      open_gate = s.open_gate;
      begins = first_whole other file s.first (record {
        count = p.count;
        magic = p.magic;
        generation = other_field taken other file s.first.generation p.generation free_first;
        size = p.size;
        checkpoint = p.checkpoint;
        gate = p.gate;
        links = p.links;
      });
      walks = s.walks;
    })

-- ---- the other file changes

-- the generation that the other file can't have
abbrev pub taken_for_other : FileNo → FileFront → Option ℕ
taken_for_other Zero front = Some front.generation
taken_for_other One front = None

-- the current file, given the fronts of both files
abbrev pub greater_with : FileNo → FileFront → Option FileFront → Option JournalFile
greater_with Zero front changed = greater (Some front) changed
greater_with One front changed = greater changed (Some front)

-- The other file has another generation, or isn't valid.
abbrev pub IsApart : FileFront → Option FileFront → Type 0
IsApart front changed = is_taken (generation_in changed) front.generation ≡ false

pub other_changed : (file : FileNo) (left : Left) (front : FileFront) → journal_of left.file0 left.file1 ≡ Ok (Some (record { file = file; front = front })) → (bytes : List ℕ) → length bytes ≤ LONGEST_FILE
    → (changed : Option FileFront) → front_of (taken_for_other file front) bytes ≡ Ok changed → IsApart front changed
    → journal_of (with_file_in (other file) bytes left).file0 (with_file_in (other file) bytes left).file1 ≡ Ok (greater_with file front changed)
other_changed Zero left front e bytes short changed reads apart =
    let c = counts left (record { file = Zero; front = front }) e in
    both_whole left.file0 bytes (record {
      zero = Some front;
      one = changed;
      reads_zero = taken_other c.taken None left.file0 front c.reads refl;
      reads_one = reads;
      short_zero = c.short;
      short_one = short;
    })
other_changed One left front e bytes short changed reads apart =
    let c = counts left (record { file = One; front = front }) e in
    both_whole bytes left.file1 (record {
      zero = changed;
      one = Some front;
      reads_zero = reads;
      reads_one = taken_other c.taken (generation_in changed) left.file1 front c.reads apart;
      short_zero = short;
      short_one = c.short;
    })
