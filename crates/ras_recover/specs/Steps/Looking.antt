-- Disk calls during which the rest of the model is unchanged, or all of it except one file.
use Rattle.std.specs.Prelude.{◌≡◌, ℕ, ◌+◌, ◌-◌, ◌^◌, ◌≤◌, ◌<◌, min, Bool, List, [], ◌∷◌, length, All, Any, Result, OnOk}
use Rattle.ras_base.specs.Prefix.{IsPrefixOf}
use Rattle.board_core.specs.declared.board.FileNo.{FileNo}
use Rattle.board_core.specs.declared.board.FileNo.TheVariants.{Zero, One}
use Rattle.board_core.specs.declared.board.DiskCall.{DiskCall}
use Rattle.board_core.specs.declared.board.DiskCall.TheVariants.{Sync}
use Rattle.board_core.specs.Cause.{Faults}
use Rattle.board_core.specs.Doing.{Ended, Raises, Seen, broke, gave_up, went_well}
use Rattle.board_core.specs.Told.{Relates, Told, with_file}
use Rattle.ras_account.specs.Account.{State}
use Rattle.entry_format.specs.declared.version.Version.TheVariants.{Two}
use Rattle.journal_format.specs.Checkpoints.{checkpoint_bytes}
use Rattle.ras_journal.specs.declared.standing.Standing.{Standing}
use Rattle.ras_recover.specs.DiskCalls.{Calls, IsReading, ReadsPlace, with_calls}
use Rattle.ras_recover.specs.Recovering.{KeepsTold}

-- Both files were synced, or the syncs ended early.
pub record AreSyncs {T E : Type 0} (result : Result T E) (calls : List DiskCall) : Type 0 where
  pub begins : IsPrefixOf calls (Sync Zero ∷ Sync One ∷ [])
  pub done : OnOk result (calls ≡ Sync Zero ∷ Sync One ∷ [])

-- ---- calls that only read

-- what holds if all calls succeeded
abbrev pub IfWell : Ended → Type 0 → Type 0
IfWell went_well P = P
IfWell (broke kind) P = Unit {0}
IfWell gave_up P = Unit {0}

-- A failed call counts one fault of its kind; otherwise no fault is counted.
abbrev pub Counts : Ended → Faults → Faults → Type 0
Counts went_well old new = new ≡ old
Counts (broke kind) old new = Raises kind old new
Counts gave_up old new = new ≡ old

-- These are Size and ReadAt calls, with this property if all succeeded.
pub record AreReads (ended : Ended) (Done : List DiskCall → Type 0) (calls : List DiskCall) : Type 0 where
  pub alone : All IsReading calls
  pub done : IfWell ended (Done calls)

-- Only Size and ReadAt calls were made, with this property if all succeeded.
pub record Looks (ended : Ended) (Done : Told → List DiskCall → Type 0) (old new : Seen) : Type 0 where
  pub keeps : KeepsTold old.told old.clock new.told new.clock
  pub calls : Relates (λ t. Calls (AreReads ended (Done t)) t) old.told new.told
  pub faults : Counts ended old.faults new.faults

-- The reads cover each offset of a file in this range.
abbrev pub ReadsPart : FileNo → ℕ → ℕ → List DiskCall → Type 0
ReadsPart file from end calls = (place : ℕ) → from ≤ place → place < end → Any (ReadsPlace file place) calls

-- Disk calls of this kind were made, and in the model only this file changed.
pub record WritesIn (file : FileNo) (Are : List DiskCall → Type 0) (old new : Told) : Type 0 where
  pub bytes : List ℕ
  pub made : List DiskCall
  pub is : new ≡ with_calls made (with_file file bytes old)
  pub are : Are made

-- the journal's position after the checkpoint of this account, with numbers of 64 bits
abbrev pub standing_begun : State → Bool → Standing
standing_begun account shut = record {
  file = Zero;
  version = Two;
  generation = 1;
  length = min (2 ^ 64 - 1) (25 + min (2 ^ 64 - 1) (length (checkpoint_bytes Two account)));
  links = 0;
  shut = shut;
}
