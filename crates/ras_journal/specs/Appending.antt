-- What an append of a link does, and what a crash at any point of it leaves.
use Rattle.std.specs.Prelude.{◌≡◌, ℕ, ◌+◌, ◌-◌, ◌^◌, ◌<◌, ◌≤◌, ◌⊎◌, min, Bool, true, false, nat_lt, nat_le, ◌||◌, List, [], ◌∷◌, ◌++◌, length, Result, Ok, Err, Option}
use Rattle.board_core.specs.Clock.{Clock, Rests}
use Rattle.board_core.specs.Stop.{Left, file_in, with_file_in}
use Rattle.board_core.specs.Told.{Told}
use Rattle.board_core.specs.Cause.{disk_call}
use Rattle.board_core.specs.Doing.{Act, Ended, after_acts, broke, ended_by, gave_up, through}
use Rattle.ras_facts.specs.declared.entry.Entry.{Entry}
use Rattle.ras_account.specs.Account.{State}
use Rattle.ras_account.specs.Continued.{account_after_all}
use Rattle.ras_account.specs.Numbers.{StaysWithin}
use Rattle.entry_format.specs.declared.version.Version.{Version}
use Rattle.entry_format.specs.declared.version.Version.TheVariants.{One, Two}
use Rattle.journal_format.specs.Links.{link_bytes, CanLink}
use Rattle.ras_journal.specs.declared.limits.TheConstants.{OPEN_GATE, CLOSED_GATE, LONGEST_FILE, MOST_LINKS}
use Rattle.ras_journal.specs.declared.standing.Standing.{Standing}
use Rattle.ras_journal.specs.declared.refused.AppendRefused.{AppendRefused}
use Rattle.ras_journal.specs.declared.refused.AppendRefused.TheVariants.{Full, Disk}
use Rattle.ras_journal.specs.Recovered.{Recovers, IsAt}
use Rattle.ras_journal.specs.View.{JournalView}

-- The length of a file with a link of these bytes at its closed gate, and the next closed gate.
abbrev pub length_with : Standing → List ℕ → ℕ
length_with standing link = standing.length + 1 + length link + 1

-- a position with one more link of these bytes (links are counted up to 2^64 - 1)
abbrev pub standing_with : Standing → List ℕ → Standing
standing_with standing link = record standing {
  length = standing.length + 1 + length link;
  links = min (standing.links + 1) (2 ^ 64 - 1);
}

-- An append: the link with the next closed gate is written after the closed gate and synced, and
-- then that gate is opened and synced.
abbrev pub append_acts : Standing → List ℕ → List Act
append_acts standing link =
    through standing.file (standing.length + 1) (link ++ CLOSED_GATE ∷ [])
    ∷ through standing.file standing.length (OPEN_GATE ∷ []) ∷ []

-- the model after an append
abbrev pub after_append : Standing → List ℕ → Told → Told
after_append standing link t = after_acts (append_acts standing link) t

-- Full is returned before any call, and Disk if a disk call failed.
abbrev pub append_refused_end : AppendRefused → Ended
append_refused_end Full = gave_up
append_refused_end Disk = broke disk_call

-- how an append ends
abbrev pub append_end : Result (Unit {0}) AppendRefused → Ended
append_end result = ended_by append_refused_end result

-- What an append does to a journal, if this is the journal's next position: if a disk call failed, the journal has
-- failed.
abbrev pub MovesOn : Result (Unit {0}) AppendRefused → Standing → JournalView → JournalView → Type 0
MovesOn (Ok done) next old new = new ≡ record { standing = next; failed = false }
MovesOn (Err Full) next old new = new ≡ old
MovesOn (Err Disk) next old new = new ≡ record old { failed = true }

-- Full is returned if and only if the file would be too long.
abbrev pub IsFullBy : Result (Unit {0}) AppendRefused → ℕ → Type 0
IsFullBy (Err Full) count = LONGEST_FILE < count
IsFullBy result count = count ≤ LONGEST_FILE

-- whether a file is of version 1
abbrev pub is_first_version : Version → Bool
is_first_version One = true
is_first_version Two = false

-- Whether the journal has to be switched before this link is appended: its chain has 256 or more links, its file would
-- be too long, or the file is of version 1.
abbrev pub needs_switch : Standing → List ℕ → Bool
needs_switch standing link =
    nat_le MOST_LINKS standing.links || nat_lt LONGEST_FILE (length_with standing link)
    || is_first_version standing.version

-- There is room for this link in a file of version 2.
pub record HasRoom (standing : Standing) (link : List ℕ) : Type 0 where
  pub version : standing.version ≡ Two
  pub room : length_with standing link ≤ LONGEST_FILE

-- These bytes are the link of these entries, which can continue the account.
pub record Links (account : State) (entries : List Entry) (link : List ℕ) : Type 0 where
  pub can : CanLink Two entries
  pub bytes : link ≡ link_bytes entries
  pub within : StaysWithin account entries

-- Before the append the files are modelled and durable, and contain this account at this position.
pub record Before (standing : Standing) (account : State) (t : Told) (told : Option Told) (clock : Clock) : Type 0 where
  pub rests : Rests t told clock
  pub at : IsAt standing account t.here

-- From whatever a crash during the append leaves, the account is recovered without the link or with it. Everything
-- except the journal's file is unchanged.
pub record Appending (standing : Standing) (account : State) (entries : List Entry) (here left : Left) : Type 0 where
  pub recovers : Recovers account left ⊎ Recovers (account_after_all account entries) left
  pub rest : left ≡ with_file_in standing.file (file_in standing.file left) here
