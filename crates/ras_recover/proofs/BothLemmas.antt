-- Both files of a board, read one after the other.
use Rattle.std.proofs.Common.{◌≡◌, ℕ, ◌≤◌, length, Option, None, Some, Ok, sym, subst, arith}
use Rattle.std.specs.Prelude.{IfSome}
use Rattle.std.specs.Option.{option_map}
use Rattle.board_core.specs.declared.board.FileNo.TheVariants.{Zero, One}
use Rattle.board_core.specs.Stop.{Left}
use Rattle.board_core.specs.Told.{Told}
use Rattle.ras_journal.specs.declared.limits.TheConstants.{LONGEST_FILE}
use Rattle.ras_journal.specs.File.{FileFront, front_of}
use Rattle.ras_journal.specs.Recovered.{JournalFile, in_file, greater, generation_in, journal_of, recovered}
use Rattle.ras_recover.specs.declared.refused.OpenRefused.{OpenRefused}
use Rattle.ras_recover.specs.Recovering.{RefusesHeld}
use Rattle.ras_recover.proofs.KeepingLemmas.{before}
use Rattle.ras_recover.proofs.PairLemmas.{zero_fails, one_fails, both_read, recovers_fails}

pub zero_refused : (refused : OpenRefused) (m n : ℕ) (told : Option Told) → (m ≤ LONGEST_FILE) × (n ≤ LONGEST_FILE) → IfSome told (λ t. (m ≡ length t.here.file0) × (n ≡ length t.here.file1))
    → IfSome told (λ t. RefusesHeld refused (in_file Zero (front_of None t.here.file0))) → IfSome told (λ t. RefusesHeld refused (journal_of t.here.file0 t.here.file1))
zero_refused refused m n None short sizes refuses = tt
zero_refused refused m n (Some t) short sizes refuses =
    let a : m ≤ LONGEST_FILE = short.0 in
    let b : n ≤ LONGEST_FILE = short.1 in
    let c : m ≡ length t.here.file0 = sizes.0 in
    let d : n ≡ length t.here.file1 = sizes.1 in
    zero_fails refused t.here.file0 t.here.file1 (omega arith) (omega arith) refuses

one_refused_here : (refused : OpenRefused) (m n : ℕ) (zero : Option FileFront) (taken : Option ℕ) (told : Option Told) → (m ≤ LONGEST_FILE) × (n ≤ LONGEST_FILE) → IfSome told (λ t. (m ≡ length t.here.file0) × (n ≡ length t.here.file1))
    → IfSome told (λ t. in_file Zero (front_of None t.here.file0) ≡ Ok zero) → taken ≡ generation_in zero → IfSome told (λ t. RefusesHeld refused (in_file One (front_of taken t.here.file1)))
    → IfSome told (λ t. RefusesHeld refused (journal_of t.here.file0 t.here.file1))
one_refused_here refused m n zero taken None short sizes is same refuses = tt
one_refused_here refused m n zero taken (Some t) short sizes is same refuses =
    let a : m ≤ LONGEST_FILE = short.0 in
    let b : n ≤ LONGEST_FILE = short.1 in
    let c : m ≡ length t.here.file0 = sizes.0 in
    let d : n ≡ length t.here.file1 = sizes.1 in
    one_fails refused t.here.file0 t.here.file1 zero taken (omega arith) (omega arith) is same refuses

pub one_refused : (refused : OpenRefused) (m n : ℕ) (zero : Option FileFront) (taken : Option ℕ) (old new : Option Told) → option_map (λ (t : Told). t.here) new ≡ option_map (λ (t : Told). t.here) old → (m ≤ LONGEST_FILE) × (n ≤ LONGEST_FILE)
    → IfSome old (λ t. (m ≡ length t.here.file0) × (n ≡ length t.here.file1)) → IfSome old (λ t. in_file Zero (front_of None t.here.file0) ≡ Ok zero) → taken ≡ generation_in zero
    → IfSome new (λ t. RefusesHeld refused (in_file One (front_of taken t.here.file1))) → IfSome old (λ t. RefusesHeld refused (journal_of t.here.file0 t.here.file1))
one_refused refused m n zero taken old new here short sizes is same refuses =
    one_refused_here refused m n zero taken old short sizes is same (before (λ (l : Left). RefusesHeld refused (in_file One (front_of taken l.file1))) old new here refuses)

both_here : (m n : ℕ) (zero one : Option FileFront) (taken : Option ℕ) (told : Option Told) → (m ≤ LONGEST_FILE) × (n ≤ LONGEST_FILE) → IfSome told (λ t. (m ≡ length t.here.file0) × (n ≡ length t.here.file1))
    → IfSome told (λ t. in_file Zero (front_of None t.here.file0) ≡ Ok zero) → taken ≡ generation_in zero → IfSome told (λ t. in_file One (front_of taken t.here.file1) ≡ Ok one)
    → IfSome told (λ t. journal_of t.here.file0 t.here.file1 ≡ Ok (greater zero one))
both_here m n zero one taken None short sizes is same also = tt
both_here m n zero one taken (Some t) short sizes is same also =
    let a : m ≤ LONGEST_FILE = short.0 in
    let b : n ≤ LONGEST_FILE = short.1 in
    let c : m ≡ length t.here.file0 = sizes.0 in
    let d : n ≡ length t.here.file1 = sizes.1 in
    both_read t.here.file0 t.here.file1 zero one taken (omega arith) (omega arith) is same also

pub both_told : (m n : ℕ) (zero one : Option FileFront) (taken : Option ℕ) (journal : Option JournalFile) (old new : Option Told) → option_map (λ (t : Told). t.here) new ≡ option_map (λ (t : Told). t.here) old → (m ≤ LONGEST_FILE) × (n ≤ LONGEST_FILE)
    → IfSome old (λ t. (m ≡ length t.here.file0) × (n ≡ length t.here.file1)) → IfSome old (λ t. in_file Zero (front_of None t.here.file0) ≡ Ok zero) → taken ≡ generation_in zero
    → IfSome new (λ t. in_file One (front_of taken t.here.file1) ≡ Ok one) → journal ≡ greater zero one → IfSome old (λ t. journal_of t.here.file0 t.here.file1 ≡ Ok journal)
both_told m n zero one taken journal old new here short sizes is same also journal_is =
    subst (λ (j : Option JournalFile). IfSome old (λ t. journal_of t.here.file0 t.here.file1 ≡ Ok j)) (sym journal_is)
    (both_here m n zero one taken old short sizes is same (before (λ (l : Left). in_file One (front_of taken l.file1) ≡ Ok one) old new here also))

-- ---- what both files contain

fails_here : (refused : OpenRefused) (told : Option Told) → IfSome told (λ t. RefusesHeld refused (journal_of t.here.file0 t.here.file1)) → IfSome told (λ t. RefusesHeld refused (recovered t.here.file0 t.here.file1))
fails_here refused None refuses = tt
fails_here refused (Some t) refuses = recovers_fails refused t.here.file0 t.here.file1 refuses

pub fails_told : (refused : OpenRefused) (old new : Option Told) → option_map (λ (t : Told). t.here) new ≡ option_map (λ (t : Told). t.here) old → IfSome new (λ t. RefusesHeld refused (journal_of t.here.file0 t.here.file1))
    → IfSome old (λ t. RefusesHeld refused (recovered t.here.file0 t.here.file1))
fails_told refused old new here refuses = before (λ (l : Left). RefusesHeld refused (recovered l.file0 l.file1)) old new here (fails_here refused new refuses)
