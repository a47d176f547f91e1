-- What the two files of a journal contain together.
use Rattle.std.specs.Prelude.{◌≡◌, ℕ, Bool, nat_lt, nat_eq, ◌&&◌, ◌||◌, not, if◌then◌else◌, List, length, slice_index, Option, None, Some, Result, Ok, Err}
use Rattle.std.specs.Option.{option_map}
use Rattle.ras_base.specs.Chaining.{◌>>=◌}
use Rattle.board_core.specs.declared.board.FileNo.{FileNo}
use Rattle.board_core.specs.declared.board.FileNo.TheVariants.{Zero, One}
use Rattle.board_core.specs.Stop.{Left}
use Rattle.ras_account.specs.History.{empty}
use Rattle.ras_account.specs.Account.{State, account_of}
use Rattle.ras_journal.specs.declared.limits.TheConstants.{LONGEST_FILE, OPEN_GATE}
use Rattle.ras_journal.specs.declared.standing.Standing.{Standing}
use Rattle.ras_journal.specs.File.{AreLinksFew, FileFront, front_of, account_by}

-- Why nothing is recovered: a file is too long, or a file is damaged at an offset.
pub data Refusal : Type 0 where
  too_long : Refusal
  damaged : FileNo → ℕ → Refusal

-- damage at an offset, as damage of this file
abbrev pub in_file : {A : Type 0} → FileNo → Result A ℕ → Result A Refusal
in_file file (Ok x) = Ok x
in_file file (Err place) = Err (damaged file place)

-- the current file and its front
pub record JournalFile : Type 0 where
  pub file : FileNo
  pub front : FileFront

-- Of two valid files, the file with the greater generation is current.
abbrev pub greater : Option FileFront → Option FileFront → Option JournalFile
greater None None = None
greater (Some zero) None = Some (record { file = Zero; front = zero })
greater None (Some one) = Some (record { file = One; front = one })
greater (Some zero) (Some one) =
    if nat_lt zero.generation one.generation then Some (record { file = One; front = one })
    else Some (record { file = Zero; front = zero })

abbrev pub generation_in : Option FileFront → Option ℕ
generation_in front = option_map (λ (f : FileFront). f.generation) front

abbrev pub is_file_too_long : List ℕ → Bool
is_file_too_long file = nat_lt LONGEST_FILE (length file)

-- File 0 is read before file 1. If both are valid and have one generation, file 1 is damaged at its generation. Damage
-- in the file with the lesser generation counts too.
unfoldable pub journal_of : List ℕ → List ℕ → Result (Option JournalFile) Refusal
journal_of file0 file1 =
    if is_file_too_long file0 || is_file_too_long file1 then Err too_long else (do
      zero ← in_file Zero (front_of None file0)
      one ← in_file One (front_of (generation_in zero) file1)
      Ok (greater zero one))

-- the account of a journal; the empty account if there is no journal
abbrev pub account_of_journal : Option JournalFile → State
account_of_journal None = account_of empty
account_of_journal (Some journal) = account_by journal.front.version journal.front.account

-- what is recovered from two files
unfoldable pub recovered : List ℕ → List ℕ → Result State Refusal
recovered file0 file1 = do
  journal ← journal_of file0 file1
  Ok (account_of_journal journal)

-- whether a file is longer than 1 byte and its byte 0 isn't an open gate
abbrev pub is_shut : List ℕ → Bool
is_shut file = nat_lt 1 (length file) && not (nat_eq (slice_index file 0) OPEN_GATE)

-- the other of the two files, and its bytes
abbrev pub other : FileNo → FileNo
other Zero = One
other One = Zero

abbrev pub other_of : FileNo → List ℕ → List ℕ → List ℕ
other_of Zero file0 file1 = file1
other_of One file0 file1 = file0

-- the position of a journal, its length being the offset of its closed gate
abbrev pub standing_of : List ℕ → List ℕ → JournalFile → Standing
standing_of file0 file1 journal = record {
  file = journal.file;
  version = journal.front.version;
  generation = journal.front.generation;
  length = journal.front.gate;
  links = journal.front.links;
  shut = is_shut (other_of journal.file file0 file1);
}

-- The position of the journal of two files, or None if no file is valid or the files are rejected.
abbrev pub standing_in : List ℕ → List ℕ → Result (Option JournalFile) Refusal → Option Standing
standing_in file0 file1 (Ok journal) = option_map (standing_of file0 file1) journal
standing_in file0 file1 (Err why) = None

-- the position of the journal of these two files, if a file is valid
unfoldable pub position_of : List ℕ → List ℕ → Option Standing
position_of file0 file1 = standing_in file0 file1 (journal_of file0 file1)

-- ---- what a crash leaves

-- The files give this account.
pub record Recovers (account : State) (left : Left) : Type 0 where
  pub is : recovered left.file0 left.file1 ≡ Ok account

-- The files give this account, and this is their journal's position.
pub record IsAt (standing : Standing) (account : State) (left : Left) : Type 0 where
  pub recovers : recovered left.file0 left.file1 ≡ Ok account
  pub position : position_of left.file0 left.file1 ≡ Some standing

-- No valid file has more than 256 links.
pub record HasFewLinks (left : Left) : Type 0 where
  pub zero : AreLinksFew left.file0
  pub one : AreLinksFew left.file1
