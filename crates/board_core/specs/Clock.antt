-- What a crash at each point may leave, and how a call changes it.
use Rattle.std.specs.Prelude.{◌≡◌, ℕ, ◌≤◌, ◌⊎◌, List, Option, Some}
use Rattle.board_core.specs.declared.board.FileNo.{FileNo}
use Rattle.erst_store.specs.Store.{Stored}
use Rattle.board_core.specs.Stop.{Left, file_in}
use Rattle.board_core.specs.Told.{Told}

-- A clock, which never goes back: the number of the present moment, and what a crash at or after the moment t may
-- leave.
pub record Clock : Type 1 where
  pub now : ℕ
  pub may_leave_since : ℕ → Left → Type 0

-- the clock of a board that isn't modelled
abbrev pub untold : Clock
untold = record { now = 0; may_leave_since = λ _ _. ⊥ }

-- what a crash now may leave
abbrev pub LeftNow : Clock → Left → Type 0
LeftNow clock left = clock.may_leave_since clock.now left

-- what a crash before might have left, changed by a step
pub record After (old : Clock) (Step : Left → Left → Type 0) (left : Left) : Type 0 where
  pub from : Left
  pub was : LeftNow old from
  pub by : Step from left

-- A crash now leaves what a crash before the call might have left, changed by this step.
abbrev pub Leads : (Left → Left → Type 0) → Clock → Clock → Type 0
Leads Step old new = (left : Left) → LeftNow new left → After old Step left

-- One call was made. A crash during it leaves what a crash before it might have left, changed by this step, and so does
-- a crash now. What a crash at an earlier point may have left stays exactly the same.
pub record Passes (Step : Left → Left → Type 0) (old new : Clock) : Type 0 where
  pub later : old.now ≤ new.now
  pub kept : (t : ℕ) (left : Left) → t ≤ old.now → old.may_leave_since t left → new.may_leave_since t left
  pub each : (t : ℕ) (left : Left) → t ≤ old.now → new.may_leave_since t left → old.may_leave_since t left ⊎ After old Step left
  pub ends : Leads Step old new

-- Whatever a crash now leaves, this file has these bytes.
abbrev pub IsSynced : FileNo → List ℕ → Clock → Type 0
IsSynced file bytes clock = (left : Left) → LeftNow clock left → file_in file left ≡ bytes

-- Whatever a crash now leaves, the record store is this one.
abbrev pub IsStored : List Stored → Clock → Type 0
IsStored store clock = (left : Left) → LeftNow clock left → left.store ≡ store

-- A crash now leaves the record store that the model has. Says nothing of a board that isn't modelled.
abbrev pub StoreIsLeft : Option Told → Clock → Type 0
StoreIsLeft told clock = (t : Told) → told ≡ Some t → IsStored t.here.store clock

-- Calls were made, one or several. Whatever a crash during them or now leaves has this property, and a crash at an
-- earlier point may leave no more than before.
pub record Adds (P : Left → Type 0) (old new : Clock) : Type 0 where
  pub later : old.now ≤ new.now
  pub each : (t : ℕ) (left : Left) → t ≤ old.now → new.may_leave_since t left → old.may_leave_since t left ⊎ P left

-- The board's model says this, and a crash now leaves exactly that.
pub record Rests (t : Told) (told : Option Told) (clock : Clock) : Type 0 where
  pub is : told ≡ Some t
  pub only : (left : Left) → LeftNow clock left → left ≡ t.here

-- Whatever a crash at or after the moment t may leave has this property.
abbrev pub Always : Clock → ℕ → (Left → Type 0) → Type 0
Always clock t P = (left : Left) → clock.may_leave_since t left → P left
