-- What a switch of the journal to the other file does, and what a crash leaves of it at every point.
use Rattle.std.specs.Prelude.{◌≡◌, ℕ, ◌+◌, ◌<◌, ◌≤◌, Bool, true, false, nat_lt, nat_le, ◌||◌, IsTrue, List, length, Result, Ok, Err}
use Rattle.board_core.specs.Cause.{disk_call}
use Rattle.board_core.specs.Doing.{Act, Ended, after_acts, broke, ended_by, gave_up}
use Rattle.board_core.specs.Stop.{Left, file_in, with_file_in}
use Rattle.board_core.specs.Told.{Told}
use Rattle.ras_account.specs.Account.{State}
use Rattle.entry_format.specs.declared.version.Version.TheVariants.{Two}
use Rattle.journal_format.specs.Checkpoints.{IsCheckpoint, checkpoint_bytes}
use Rattle.ras_journal.specs.declared.limits.TheConstants.{LONGEST_FILE, LAST_GENERATION}
use Rattle.ras_journal.specs.declared.standing.Standing.{Standing}
use Rattle.ras_journal.specs.Recovered.{other, Recovers}
use Rattle.ras_journal.specs.Appending.{length_with}
use Rattle.ras_journal.specs.View.{JournalView}
use Rattle.ras_recover.specs.declared.refused.SwitchRefused.{SwitchRefused}
use Rattle.ras_recover.specs.declared.refused.SwitchRefused.TheVariants.{Full, Disk, NoMemory}
use Rattle.ras_recover.specs.Formatting.{behind_gate, formatting_acts}

-- the journal's position after a switch: in the other file, with the next generation, after the checkpoint of
-- the account, with no link
abbrev pub switched : Standing → State → Standing
switched standing account = record {
  file = other standing.file;
  version = Two;
  generation = standing.generation + 1;
  length = 25 + length (checkpoint_bytes Two account);
  links = 0;
  shut = false;
}

-- the bytes after the gate at the front of the other file
abbrev pub next_bytes : Standing → State → List ℕ
next_bytes standing account = behind_gate (standing.generation + 1) (checkpoint_bytes Two account)

-- the acts of a switch: the other file is formatted
abbrev pub switch_acts : Standing → State → List Act
switch_acts standing account = formatting_acts (other standing.file) standing.shut (next_bytes standing account)

-- the model after a switch
abbrev pub after_switch : Standing → State → Told → Told
after_switch standing account t = after_acts (switch_acts standing account) t

-- There is no room for a switch if the journal has the last generation, or if the other file with this link
-- would be too long.
abbrev pub has_no_room : Standing → State → List ℕ → Bool
has_no_room standing account link =
    nat_le LAST_GENERATION standing.generation
    || nat_lt LONGEST_FILE (length_with (switched standing account) link)

-- Full is returned if and only if there is no room.
abbrev pub IsFullBy : {T : Type 0} → Result T SwitchRefused → Bool → Type 0
IsFullBy (Err Full) lacks = IsTrue lacks
IsFullBy result lacks = ¬ IsTrue lacks

-- Full and NoMemory are returned before any call, Disk if a disk call failed.
abbrev pub switch_refused_end : SwitchRefused → Ended
switch_refused_end Full = gave_up
switch_refused_end Disk = broke disk_call
switch_refused_end NoMemory = gave_up

abbrev pub switch_end : Result (Unit {0}) SwitchRefused → Ended
switch_end result = ended_by switch_refused_end result

-- What a switch does to a journal, if `next` is the journal's next position: if a disk call failed, the journal has
-- failed.
abbrev pub MovesOver : Result (Unit {0}) SwitchRefused → Standing → JournalView → JournalView → Type 0
MovesOver (Ok done) next old new = new ≡ record { standing = next; failed = false }
MovesOver (Err Full) next old new = new ≡ old
MovesOver (Err NoMemory) next old new = new ≡ old
MovesOver (Err Disk) next old new = new ≡ record old { failed = true }

-- A switch can be made: there is a next generation, room for the account, and a checkpoint of it.
pub record CanSwitch (standing : Standing) (account : State) : Type 0 where
  pub generation : standing.generation < LAST_GENERATION
  pub room : 27 + length (checkpoint_bytes Two account) ≤ LONGEST_FILE
  pub is : IsCheckpoint Two account (checkpoint_bytes Two account)

-- While a journal is switched, whatever a crash leaves gives the account. Everything except the other file is
-- unchanged.
pub record Switching (standing : Standing) (account : State) (here left : Left) : Type 0 where
  pub recovers : Recovers account left
  pub rest : left ≡ with_file_in (other standing.file) (file_in (other standing.file) left) here
