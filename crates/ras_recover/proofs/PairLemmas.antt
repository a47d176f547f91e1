-- What two files contain together, each read separately.
use Rattle.std.proofs.Common.{◌≡◌, ◌∙◌, ℕ, ◌≤◌, List, length, Option, None, Some, Result, Ok, Err, refl, sym, ap, subst, arith}
use Rattle.std.specs.Prelude.{false, IfSome, ◌<◌}
use Rattle.std.specs.Option.{option_map}
use Rattle.std.proofs.lemmas.Bool.Decides.{nat_tests}
use Rattle.ras_base.specs.Chaining.{◌>>=◌}
use Rattle.board_core.specs.declared.board.FileNo.TheVariants.{Zero, One}
use Rattle.board_core.specs.Told.{Told}
use Rattle.ras_journal.specs.declared.limits.TheConstants.{LONGEST_FILE}
use Rattle.ras_journal.specs.File.{FileFront, front_of}
use Rattle.ras_journal.specs.Recovered.{Refusal, too_long, in_file, JournalFile, greater, generation_in, is_file_too_long, journal_of, account_of_journal, recovered, standing_of, standing_in, position_of}
use Rattle.ras_journal.proofs.PartLemmas.{bind_of, bind_err}
use Rattle.ras_journal.proofs.PairLemmas.{zero_long, one_long}
use Rattle.ras_recover.specs.declared.refused.OpenRefused.{OpenRefused}
use Rattle.ras_recover.specs.declared.refused.OpenRefused.TheVariants.{Disk, TooLong, Damaged, NoMemory}
use Rattle.ras_recover.specs.Recovering.{RefusesHeld}

-- A refusal of a part is a refusal of the whole.
refuses_on : {A B : Type 0} (refused : OpenRefused) (held : Result A Refusal) (f : A → Result B Refusal) → RefusesHeld refused held → RefusesHeld refused (held >>= f)
refuses_on Disk held f refuses = tt
refuses_on TooLong held f refuses = bind_err held f _ refuses
refuses_on (Damaged file place) held f refuses = record { file = refuses.file; number_is = refuses.number_is; is = bind_err held f _ refuses.is }
refuses_on NoMemory held f refuses = tt

both : List ℕ → List ℕ → Result (Option JournalFile) Refusal
both file0 file1 = in_file Zero (front_of None file0) >>= λ zero. in_file One (front_of (generation_in zero) file1) >>= λ one. Ok (greater zero one)

journal_is : (file0 file1 : List ℕ) → length file0 ≤ LONGEST_FILE → length file1 ≤ LONGEST_FILE → journal_of file0 file1 ≡ both file0 file1
unfolding journal_of both
journal_is file0 file1 short0 short1 =
    let test0 : is_file_too_long file0 ≡ false = grind (arith, nat_tests) in
    let test1 : is_file_too_long file1 ≡ false = grind (arith, nat_tests) in
    rw test0 (rw test1 refl)

pub zero_fails : (refused : OpenRefused) (file0 file1 : List ℕ) → length file0 ≤ LONGEST_FILE → length file1 ≤ LONGEST_FILE → RefusesHeld refused (in_file Zero (front_of None file0)) → RefusesHeld refused (journal_of file0 file1)
unfolding both
zero_fails refused file0 file1 short0 short1 refuses =
    subst (λ (r : Result (Option JournalFile) Refusal). RefusesHeld refused r) (sym (journal_is file0 file1 short0 short1)) (refuses_on refused (in_file Zero (front_of None file0)) _ refuses)

pub one_fails : (refused : OpenRefused) (file0 file1 : List ℕ) (zero : Option FileFront) (taken : Option ℕ) → length file0 ≤ LONGEST_FILE → length file1 ≤ LONGEST_FILE
    → in_file Zero (front_of None file0) ≡ Ok zero → taken ≡ generation_in zero → RefusesHeld refused (in_file One (front_of taken file1)) → RefusesHeld refused (journal_of file0 file1)
unfolding both
one_fails refused file0 file1 zero taken short0 short1 e same refuses =
    subst (λ (r : Result (Option JournalFile) Refusal). RefusesHeld refused r) (sym (journal_is file0 file1 short0 short1 ∙ bind_of (in_file Zero (front_of None file0)) _ zero e))
    (refuses_on refused (in_file One (front_of (generation_in zero) file1)) _ (subst (λ (t : Option ℕ). RefusesHeld refused (in_file One (front_of t file1))) same refuses))

pub both_read : (file0 file1 : List ℕ) (zero one : Option FileFront) (taken : Option ℕ) → length file0 ≤ LONGEST_FILE → length file1 ≤ LONGEST_FILE
    → in_file Zero (front_of None file0) ≡ Ok zero → taken ≡ generation_in zero → in_file One (front_of taken file1) ≡ Ok one → journal_of file0 file1 ≡ Ok (greater zero one)
unfolding both
both_read file0 file1 zero one taken short0 short1 e0 same e1 =
    journal_is file0 file1 short0 short1
    ∙ (bind_of (in_file Zero (front_of None file0)) _ zero e0 ∙ bind_of (in_file One (front_of (generation_in zero) file1)) _ one (ap (λ (t : Option ℕ). in_file One (front_of t file1)) (sym same) ∙ e1))

-- ---- the account, and the journal's position

pub recovers_fails : (refused : OpenRefused) (file0 file1 : List ℕ) → RefusesHeld refused (journal_of file0 file1) → RefusesHeld refused (recovered file0 file1)
unfolding recovered
recovers_fails refused file0 file1 refuses = refuses_on refused (journal_of file0 file1) _ refuses

pub recovers : (file0 file1 : List ℕ) (journal : Option JournalFile) → journal_of file0 file1 ≡ Ok journal → recovered file0 file1 ≡ Ok (account_of_journal journal)
unfolding recovered
recovers file0 file1 journal e = bind_of (journal_of file0 file1) _ journal e

pub position : (file0 file1 : List ℕ) (journal : Option JournalFile) → journal_of file0 file1 ≡ Ok journal → position_of file0 file1 ≡ option_map (standing_of file0 file1) journal
unfolding position_of
position file0 file1 journal e = ap (λ (r : Result (Option JournalFile) Refusal). standing_in file0 file1 r) e

-- ---- a file that is too long

pub long_zero : (told : Option Told) → IfSome told (λ t. LONGEST_FILE < length t.here.file0) → IfSome told (λ t. recovered t.here.file0 t.here.file1 ≡ Err too_long)
long_zero None long = tt
long_zero (Some t) long = zero_long t.here.file0 t.here.file1 long

pub long_one : (told : Option Told) → IfSome told (λ t. LONGEST_FILE < length t.here.file1) → IfSome told (λ t. recovered t.here.file0 t.here.file1 ≡ Err too_long)
long_one None long = tt
long_one (Some t) long = one_long t.here.file0 t.here.file1 long
