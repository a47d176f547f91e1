-- How a link is appended to the journal, after a switch to its other file if one is due, and what a crash at any point
-- leaves.
use Rattle.std.specs.Prelude.{◌≡◌, ◌⊎◌, Bool, true, false, ◌&&◌, IsTrue, if◌then◌else◌, List, [], ◌++◌, ℕ, Option, IfSome, Result, Ok, Err}
use Rattle.board_core.specs.Cause.{disk_call}
use Rattle.board_core.specs.Clock.{Clock}
use Rattle.board_core.specs.Doing.{Act, Ended, after_acts, broke, ended_by, gave_up}
use Rattle.board_core.specs.Stop.{Left}
use Rattle.board_core.specs.Told.{Told}
use Rattle.ras_account.specs.Account.{State}
use Rattle.ras_account.specs.Continued.{account_after_all}
use Rattle.ras_facts.specs.declared.entry.Entry.{Entry}
use Rattle.ras_journal.specs.declared.standing.Standing.{Standing}
use Rattle.ras_journal.specs.Recovered.{IsAt, Recovers}
use Rattle.ras_journal.specs.Appending.{Before, Links, append_acts, needs_switch, standing_with}
use Rattle.ras_recover.specs.Switching.{CanSwitch, has_no_room, switch_acts, switched}
use Rattle.ras_run.specs.declared.ledger.Ledger.{Ledger}
use Rattle.ras_run.specs.declared.refused.KeepRefused.{KeepRefused}
use Rattle.ras_run.specs.declared.refused.KeepRefused.TheVariants.{Full, Disk, NoMemory}

-- A board that is modelled contains this account at this position, and a crash now leaves exactly that.
abbrev pub Stands : Standing → State → Option Told → Clock → Type 0
Stands standing account told clock = IfSome told (λ t. Before standing account t told clock)

-- the journal's position once there is room for a link in its file
abbrev pub standing_roomy : Standing → State → List ℕ → Standing
standing_roomy standing account link =
    if needs_switch standing link then switched standing account else standing

-- the journal's position once the link is appended
abbrev pub standing_kept : Standing → State → List ℕ → Standing
standing_kept standing account link = standing_with (standing_roomy standing account link) link

-- Whether a switch is due and has no room.
abbrev pub lacks_room : Standing → State → List ℕ → Bool
lacks_room standing account link = needs_switch standing link && has_no_room standing account link

-- the acts of the switch that makes room for a link, if one is due
abbrev pub room_acts : Standing → State → List ℕ → List Act
room_acts standing account link = if needs_switch standing link then switch_acts standing account else []

-- The acts that keep a link: the acts of the switch, if one is due, and then the acts of the append.
abbrev pub keeping_acts : Standing → State → List ℕ → List Act
keeping_acts standing account link =
    room_acts standing account link ++ append_acts (standing_roomy standing account link) link

-- the model once the link is kept
abbrev pub after_keeping : Standing → State → List ℕ → Told → Told
after_keeping standing account link t = after_acts (keeping_acts standing account link) t

-- Full and NoMemory are returned before any call, and Disk if a disk call failed.
abbrev pub keep_refused_end : KeepRefused → Ended
keep_refused_end Full = gave_up
keep_refused_end Disk = broke disk_call
keep_refused_end NoMemory = gave_up

-- how keeping a link ends
abbrev pub keep_end : Result (Unit {0}) KeepRefused → Ended
keep_end result = ended_by keep_refused_end result

-- A switch that is due can be made.
abbrev pub CanMake : Standing → State → List ℕ → Type 0
CanMake standing account link = IsTrue (needs_switch standing link) → CanSwitch standing account

-- A link of these entries can be appended: a switch that is due can be made and has room, and the files contain the
-- account at this position.
pub record CanKeep (standing : Standing) (account : State) (entries : List Entry) (link : List ℕ) (t : Told) : Type 0 where
  pub can : CanMake standing account link
  pub room : ¬ IsTrue (lacks_room standing account link)
  pub links : Links account entries link
  pub at : IsAt standing account t.here

-- What appending a link does to the ledger, if this is the journal's next position: the account doesn't change, and if
-- a disk call failed the journal has failed.
abbrev pub KeepsLedger : Result (Unit {0}) KeepRefused → Standing → Ledger → Ledger → Type 0
KeepsLedger (Ok done) next old new =
    (new.account ≡ old.account) × (new.journal ≡ record { standing = next; failed = false })
KeepsLedger (Err Disk) next old new = (new.account ≡ old.account) × (new.journal.failed ≡ true)
KeepsLedger (Err why) next old new = new ≡ old

-- The printed text and the record store are unchanged.
pub record SameBeside (here left : Left) : Type 0 where
  pub out : left.out ≡ here.out
  pub store : left.store ≡ here.store

-- From whatever a crash meanwhile leaves, the account is recovered without the link or with it.
pub record Keeping (account : State) (entries : List Entry) (here left : Left) : Type 0 where
  pub recovers : Recovers account left ⊎ Recovers (account_after_all account entries) left
  pub beside : SameBeside here left

-- Full is returned if and only if a switch is due and has no room.
abbrev pub IsFullBy : Result (Unit {0}) KeepRefused → Bool → Type 0
IsFullBy (Err Full) lacks = IsTrue lacks
IsFullBy result lacks = ¬ IsTrue lacks
