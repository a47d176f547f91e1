-- What opening a journal leaves.
use Rattle.std.specs.Prelude.{◌≡◌, ℕ, ◌+◌, ◌⊎◌, List, [], length, None, Option, Some, Result, Ok, Err, unwrap_or, ⊤}
use Rattle.board_core.specs.declared.board.FileNo.TheVariants.{Zero}
use Rattle.board_core.specs.Clock.{Clock, LeftNow}
use Rattle.board_core.specs.Doing.{Act}
use Rattle.board_core.specs.Stop.{Left, with_file_in}
use Rattle.board_core.specs.Told.{Told}
use Rattle.ras_account.specs.History.{empty}
use Rattle.ras_account.specs.Account.{State, account_of}
use Rattle.entry_format.specs.declared.version.Version.TheVariants.{Two}
use Rattle.journal_format.specs.Checkpoints.{checkpoint_bytes}
use Rattle.ras_journal.specs.declared.standing.Standing.{Standing}
use Rattle.ras_journal.specs.Recovered.{HasFewLinks, JournalFile, Refusal, journal_of, recovered, position_of, is_shut, Recovers}
use Rattle.ras_journal.specs.Appending.{Before}
use Rattle.ras_recover.specs.Formatting.{behind_gate, formatting_acts}
use Rattle.ras_recover.specs.declared.refused.OpenRefused.{OpenRefused}
use Rattle.ras_recover.specs.declared.refused.OpenRefused.TheVariants.{Damaged, TooLong}

-- No file is valid: this account is recovered, and there is no position.
pub record HoldsNone (account : State) (here : Left) : Type 0 where
  pub recovers : recovered here.file0 here.file1 ≡ Ok account
  pub none : position_of here.file0 here.file1 ≡ None

-- While file 0 is formatted, because no file is valid, whatever a crash leaves gives the empty account, and no valid
-- file has more than 256 links. Everything except file 0 is unchanged.
pub record FormatsFirst (here left : Left) : Type 0 where
  pub none : HoldsNone (account_of empty) here
  pub recovers : Recovers (account_of empty) left
  pub few : HasFewLinks left
  pub rest : left ≡ with_file_in Zero left.file0 here

-- What holds if an opening is rejected because of what the files contain.
abbrev pub OnRefusal : OpenRefused → Type 0 → Type 0
OnRefusal TooLong P = P
OnRefusal (Damaged file place) P = P
OnRefusal why P = ⊤

-- During an opening, a crash leaves what a crash before may have left, or file 0 is being formatted.
abbrev pub Opening : Clock → Left → Left → Type 0
Opening clock here left = LeftNow clock left ⊎ FormatsFirst here left

-- Once both files are synced, a crash leaves everything unchanged, or file 0 is being formatted.
abbrev pub OpeningSynced : Left → Left → Type 0
OpeningSynced here left = (left ≡ here) ⊎ FormatsFirst here left

-- The files give this account at this position, and a crash leaves exactly what the model says.
pub record IsOpened (standing : Standing) (account : State) (told : Option Told) (clock : Clock) : Type 0 where
  pub there : Told
  pub before : Before standing account there told clock

-- ---- what is written

-- After its recovery an opening formats file 0 with the empty account as generation 1, if no file is valid.
-- Otherwise it writes nothing.
abbrev pub acts_behind : Left → Result (Option JournalFile) Refusal → List Act
acts_behind here (Ok None) =
    formatting_acts Zero (is_shut here.file0) (behind_gate 1 (checkpoint_bytes Two (account_of empty)))
acts_behind here (Ok (Some journal)) = []
acts_behind here (Err why) = []

abbrev pub opening_acts : Left → List Act
opening_acts here = acts_behind here (journal_of here.file0 here.file1)

-- ---- the journal's position

-- the first generation in file 0, with the empty account as its checkpoint, beside this file 1
abbrev pub first_standing : List ℕ → Standing
first_standing file1 = record {
  file = Zero;
  version = Two;
  generation = 1;
  length = 25 + length (checkpoint_bytes Two (account_of empty));
  links = 0;
  shut = is_shut file1;
}

-- the position of the two files, or the first generation if no file is valid
abbrev pub standing_opened : List ℕ → List ℕ → Standing
standing_opened file0 file1 = unwrap_or (position_of file0 file1) (first_standing file1)
