-- What recovery returns, and what a crash leaves of the files.
use Rattle.std.specs.Prelude.{◌≡◌, ℕ, ◌⊎◌, List, [], ◌∷◌, IsSomeAnd, Option, Result, Ok, Err}
use Rattle.std.specs.Option.{option_map}
use Rattle.board_core.specs.declared.board.FileNo.{FileNo}
use Rattle.board_core.specs.declared.board.FileNo.TheVariants.{Zero, One}
use Rattle.board_core.specs.declared.board.DiskCall.{DiskCall}
use Rattle.board_core.specs.declared.board.DiskCall.TheVariants.{Sync}
use Rattle.board_core.specs.Clock.{Clock, LeftNow, Adds, Rests}
use Rattle.board_core.specs.Cause.{disk_call}
use Rattle.board_core.specs.Doing.{Ended, Seen, broke, ended_by, gave_up}
use Rattle.board_core.specs.Stop.{Left}
use Rattle.board_core.specs.Told.{Told}
use Rattle.ras_journal.specs.Recovered.{Refusal, too_long, damaged}
use Rattle.ras_base.specs.Prefix.{IsPrefixOf}
use Rattle.ras_recover.specs.DiskCalls.{Calls, with_calls}
use Rattle.ras_recover.specs.declared.refused.OpenRefused.{OpenRefused}
use Rattle.ras_recover.specs.declared.refused.OpenRefused.TheVariants.{Disk, TooLong, Damaged, NoMemory}

-- the number of a file
abbrev pub file_number : FileNo → ℕ
file_number Zero = 0
file_number One = 1

-- The file with this number is damaged at this offset.
pub record IsDamagedAt {A : Type 0} (number place : ℕ) (held : Result A Refusal) : Type 0 where
  pub file : FileNo
  pub number_is : number ≡ file_number file
  pub is : held ≡ Err (damaged file place)

-- A refusal is what the files' bytes say, unless a disk call failed or memory ran out.
abbrev pub RefusesHeld : {A : Type 0} → OpenRefused → Result A Refusal → Type 0
RefusesHeld TooLong held = held ≡ Err too_long
RefusesHeld (Damaged file place) held = IsDamagedAt file place held
RefusesHeld Disk held = Unit {0}
RefusesHeld NoMemory held = Unit {0}

-- A recovery returns this view of what the files contain, or why they are rejected.
abbrev pub TellsHeld : {T A : Type 0} → (T → A) → Result T OpenRefused → Result A Refusal → Type 0
TellsHeld view (Ok x) held = held ≡ Ok (view x)
TellsHeld view (Err refused) held = RefusesHeld refused held

-- ---- what a recovery leaves

-- The board's model of files, store and text is unchanged. Whatever a crash leaves is what a crash before may have
-- left.
pub record KeepsTold (told_old : Option Told) (old : Clock) (told_new : Option Told) (new : Clock) : Type 0 where
  pub here : option_map (λ (t : Told). t.here) told_new ≡ option_map (λ (t : Told). t.here) told_old
  pub stops : Adds (LeftNow old) old new
  pub ends : (left : Left) → LeftNow new left → LeftNow old left

-- A crash now leaves exactly this, and the board's model says so.
pub record RestsHere (here : Left) (told : Option Told) (clock : Clock) : Type 0 where
  pub there : Told
  pub same : there.here ≡ here
  pub rests : Rests there told clock

abbrev pub both_syncs : List DiskCall
both_syncs = Sync Zero ∷ Sync One ∷ []

-- Both files were synced before any other call, over what the model said. Until both syncs had returned Ok, a crash
-- left what a crash before may have left. Then it left exactly what the model said, and afterwards something with this
-- property.
pub record SyncsFirst {X : Type 0} (see : X → Seen) (P : Left → Type 0) (before : Told) (old new : X) : Type 0 where
  -- the board when both syncs had returned Ok
  pub synced : X
  pub rests : Rests (with_calls both_syncs before) (see synced).told (see synced).clock
  pub until : Adds (LeftNow (see old).clock) (see old).clock (see synced).clock
  pub since : Adds P (see synced).clock (see new).clock

-- At most the two syncs were called, and a crash leaves what a crash before may have left.
pub record SyncsAtMost {X : Type 0} (see : X → Seen) (before : Told) (old new : X) : Type 0 where
  pub calls : IsSomeAnd (see new).told (Calls (λ made. IsPrefixOf made both_syncs) before)
  pub stops : Adds (LeftNow (see old).clock) (see old).clock (see new).clock

abbrev pub MaySync : {X : Type 0} → (X → Seen) → (Left → Type 0) → Told → X → X → Type 0
MaySync see P before old new = SyncsFirst see P before old new ⊎ SyncsAtMost see before old new

-- After Ok, both files were synced first. Otherwise they were, or at most the two syncs were called.
abbrev pub SyncsBy : {X T E : Type 0} → (X → Seen) → (Left → Type 0) → Told → Result T E → X → X → Type 0
SyncsBy see P before (Ok x) old new = SyncsFirst see P before old new
SyncsBy see P before (Err why) old new = MaySync see P before old new

-- what holds if no disk call failed
abbrev pub UnlessDisk : {T : Type 0} → Result T OpenRefused → Type 0 → Type 0
UnlessDisk (Err Disk) P = Unit {0}
UnlessDisk result P = P

-- Only a failed disk call counts as a fault of the disk.
abbrev pub open_failure : {T : Type 0} → Result T OpenRefused → Result (Unit {0}) OpenRefused
open_failure (Ok x) = Ok tt
open_failure (Err Disk) = Err Disk
open_failure (Err TooLong) = Ok tt
open_failure (Err (Damaged file place)) = Ok tt
open_failure (Err NoMemory) = Ok tt

-- Disk is returned if a disk call failed. Before any other refusal no call failed.
abbrev pub open_refused_end : OpenRefused → Ended
open_refused_end Disk = broke disk_call
open_refused_end TooLong = gave_up
open_refused_end (Damaged file place) = gave_up
open_refused_end NoMemory = gave_up

-- how a recovery or an opening ended
abbrev pub open_end : {T : Type 0} → Result T OpenRefused → Ended
open_end result = ended_by open_refused_end result
