-- The laws of two journal files.
use Rattle.std.proofs.Common.{◌≡◌, ◌∙◌, ℕ, ◌≤◌, ◌<◌, List, length, take, drop, Option, None, Some, Result, Ok, Err, refl, sym, ap, arith}
use Rattle.std.specs.Prelude.{Bool, true, false, ◌||◌, ◌&&◌, if◌then◌else◌, nat_eq, nat_le, not}
use Rattle.std.specs.Option.{option_and_then}
use Rattle.std.proofs.lemmas.Bool.Decides.{nat_tests}
use Rattle.ras_base.specs.LittleEndian.{number_at}
use Rattle.board_core.specs.declared.board.FileNo.TheVariants.{Zero, One}
use Rattle.ras_account.specs.History.{empty}
use Rattle.ras_account.specs.Account.{account_of}
use Rattle.ras_journal.specs.declared.limits.TheConstants.{LONGEST_FILE, LAST_GENERATION}
use Rattle.ras_journal.specs.Fields.{some_or, field, generation_of, is_generation}
use Rattle.ras_journal.specs.File.{FileFront, first_front, front_of, has_open_gate}
use Rattle.ras_journal.specs.Recovered.{Refusal, too_long, damaged, in_file, JournalFile, generation_in, is_file_too_long, journal_of, recovered}
use Rattle.ras_journal.proofs.PartLemmas.{bind_of, bind_err, field_made, field_within, part_within}
use Rattle.ras_journal.proofs.FrontLemmas.{FirstFront, first_parts, front_parts, walk_continues}
use Rattle.ras_journal.proofs.JournalLemmas.{both_whole}

-- If the journal is rejected, so is the account.
refused : (file0 file1 : List ℕ) (why : Refusal) → journal_of file0 file1 ≡ Err why → recovered file0 file1 ≡ Err why
unfolding recovered
refused file0 file1 why e = bind_err (journal_of file0 file1) _ why e

long_test : (file : List ℕ) → LONGEST_FILE < length file → is_file_too_long file ≡ true
long_test file long = grind (arith, nat_tests)

short_test : (file : List ℕ) → length file ≤ LONGEST_FILE → is_file_too_long file ≡ false
short_test file short = grind (arith, nat_tests)

either : (b : Bool) (r : Result (Option JournalFile) Refusal) → (if b || true then Err too_long else r) ≡ Err too_long
either true r = refl
either false r = refl

journal_zero_long : (file0 file1 : List ℕ) → LONGEST_FILE < length file0 → journal_of file0 file1 ≡ Err too_long
unfolding journal_of
journal_zero_long file0 file1 long = rw (long_test file0 long) refl

journal_one_long : (file0 file1 : List ℕ) → LONGEST_FILE < length file1 → journal_of file0 file1 ≡ Err too_long
unfolding journal_of
journal_one_long file0 file1 long = rw (long_test file1 long) (either (is_file_too_long file0) _)

pub zero_long : (file0 file1 : List ℕ) → LONGEST_FILE < length file0 → recovered file0 file1 ≡ Err too_long
zero_long file0 file1 long = refused file0 file1 too_long (journal_zero_long file0 file1 long)

pub one_long : (file0 file1 : List ℕ) → LONGEST_FILE < length file1 → recovered file0 file1 ≡ Err too_long
one_long file0 file1 long = refused file0 file1 too_long (journal_one_long file0 file1 long)

pub none_stands : (file0 file1 : List ℕ) → length file0 ≤ LONGEST_FILE → length file1 ≤ LONGEST_FILE → front_of None file0 ≡ Ok None → front_of None file1 ≡ Ok None → recovered file0 file1 ≡ Ok (account_of empty)
unfolding recovered
none_stands file0 file1 short0 short1 zero one =
    bind_of (journal_of file0 file1) _ None (both_whole file0 file1 (record {
      zero = None;
      one = None;
      reads_zero = zero;
      reads_one = one;
      short_zero = short0;
      short_one = short1;
    }))

zero_refused : (file0 file1 : List ℕ) (place : ℕ) → length file0 ≤ LONGEST_FILE → length file1 ≤ LONGEST_FILE → front_of None file0 ≡ Err place → journal_of file0 file1 ≡ Err (damaged Zero place)
unfolding journal_of
zero_refused file0 file1 place short0 short1 e =
    rw (short_test file0 short0) (rw (short_test file1 short1) (bind_err _ _ (damaged Zero place) (ap (λ (r : Result (Option FileFront) ℕ). in_file Zero r) e)))

pub zero_damaged : (file0 file1 : List ℕ) (place : ℕ) → length file0 ≤ LONGEST_FILE → length file1 ≤ LONGEST_FILE → front_of None file0 ≡ Err place → recovered file0 file1 ≡ Err (damaged Zero place)
zero_damaged file0 file1 place short0 short1 e = refused file0 file1 (damaged Zero place) (zero_refused file0 file1 place short0 short1 e)

one_refused : (file0 file1 : List ℕ) (zero : Option FileFront) (place : ℕ) → length file0 ≤ LONGEST_FILE → length file1 ≤ LONGEST_FILE → front_of None file0 ≡ Ok zero → front_of (generation_in zero) file1 ≡ Err place
    → journal_of file0 file1 ≡ Err (damaged One place)
unfolding journal_of
one_refused file0 file1 zero place short0 short1 e0 e1 =
    rw (short_test file0 short0) (rw (short_test file1 short1) (bind_of _ _ zero (ap (λ (r : Result (Option FileFront) ℕ). in_file Zero r) e0)
    ∙ bind_err _ _ (damaged One place) (ap (λ (r : Result (Option FileFront) ℕ). in_file One r) e1)))

pub one_damaged : (file0 file1 : List ℕ) (zero : Option FileFront) (place : ℕ) → length file0 ≤ LONGEST_FILE → length file1 ≤ LONGEST_FILE → front_of None file0 ≡ Ok zero → front_of (generation_in zero) file1 ≡ Err place
    → recovered file0 file1 ≡ Err (damaged One place)
one_damaged file0 file1 zero place short0 short1 e0 e1 = refused file0 file1 (damaged One place) (one_refused file0 file1 zero place short0 short1 e0 e1)

-- A test for a generation that file 0 doesn't have.
not_taken : (b : Bool) → (b && false) ≡ false
not_taken true = refl
not_taken false = refl

taken_number : (bytes : List ℕ) (generation : ℕ) → number_at 0 8 bytes ≡ generation → generation_of (Some generation) bytes ≡ None
taken_number bytes generation same =
    let n = number_at 0 8 bytes in
    let taken : nat_eq generation n ≡ true = grind (arith, nat_tests) in
    let test : is_generation (Some generation) n ≡ false = ap (λ (b : Bool). (nat_le 1 n && nat_le n LAST_GENERATION) && not b) taken ∙ not_taken (nat_le 1 n && nat_le n LAST_GENERATION) in
    rw test refl

number_made : (bytes : List ℕ) (generation : ℕ) → generation_of None bytes ≡ Some generation → number_at 0 8 bytes ≡ generation
number_made bytes generation e = by (is_generation None (number_at 0 8 bytes)) e
  where
    by : (b : Bool) → ◌≡◌ {A = Option ℕ} (if b then Some (number_at 0 8 bytes) else None) (Some generation) → number_at 0 8 bytes ≡ generation
    by false e = absurd cc
    by true e = cc

taken_field : (file : List ℕ) (generation : ℕ) → field (generation_of None) 9 8 file ≡ Ok generation → field (generation_of (Some generation)) 9 8 file ≡ Err 9
unfolding field
taken_field file generation e =
    let within = field_within (generation_of None) 9 8 file generation e in
    let made = number_made (take 8 (drop 9 file)) generation (field_made (generation_of None) 9 8 file generation e) in
    ap (λ (found : Option (List ℕ)). some_or 9 (option_and_then (generation_of (Some generation)) found)) (part_within 9 8 file within)
    ∙ ap (λ (made : Option ℕ). some_or 9 made) (taken_number (take 8 (drop 9 file)) generation made)

taken_first : (file : List ℕ) (first : FileFront) → FirstFront None file first → first_front (Some first.generation) file ≡ Err 9
unfolding first_front
taken_first file first parts = bind_of _ _ _ parts.magic ∙ bind_err _ _ 9 (taken_field file first.generation parts.generation)

taken_front : (file : List ℕ) (taken : Option ℕ) → has_open_gate file ≡ true → first_front taken file ≡ Err 9 → front_of taken file ≡ Err 9
unfolding front_of
taken_front file taken open_gate e = rw open_gate (bind_err _ _ 9 e)

pub one_generation : (file0 file1 : List ℕ) (zero one : FileFront) → length file0 ≤ LONGEST_FILE → length file1 ≤ LONGEST_FILE → front_of None file0 ≡ Ok (Some zero) → front_of None file1 ≡ Ok (Some one) → zero.generation ≡ one.generation
    → recovered file0 file1 ≡ Err (damaged One 9)
one_generation file0 file1 zero one short0 short1 e0 e1 same =
    let s = front_parts None file1 one e1 in
    let kept = walk_continues (length file1) s.first one file1 s.walks in
    let generation : s.first.generation ≡ zero.generation = sym kept.generation ∙ sym same in
    let first : first_front (Some zero.generation) file1 ≡ Err 9 = ap (λ (n : ℕ). first_front (Some n) file1) (sym generation) ∙ taken_first file1 s.first (first_parts None file1 s.first s.begins) in
    one_damaged file0 file1 (Some zero) 9 short0 short1 e0 (taken_front file1 (Some zero.generation) s.open_gate first)
