-- The error record device and its store stay unchanged.
use Rattle.std.specs.Prelude.{◌≡◌, List, None, Some, Option, IsSomeAnd, ⊤}
use Rattle.erst_store.specs.Store.{Stored}
use Rattle.board_core.specs.Clock.{Clock, Adds, IsStored}
use Rattle.board_core.specs.Told.{Told}

-- The device with its record store, and the list of accesses to it, are unchanged.
pub record KeepsDevice (before now : Told) : Type 0 where
  pub store : now.here.store ≡ before.here.store
  pub volatile : now.volatile ≡ before.volatile
  pub accesses : now.accesses ≡ before.accesses

-- From the old board to the new one a crash leaves this record store, and no other.
pub record LeavesStore (store : List Stored) (old new : Clock) : Type 0 where
  pub since : Adds (λ left. left.store ≡ store) old new
  pub now : IsStored store new

-- The model of the device doesn't change. If a crash before would leave the record store that the model has, so would a
-- crash at any point since. Says nothing of a board that isn't modelled.
abbrev pub LeavesDevice : Option Told → Option Told → Clock → Clock → Type 0
LeavesDevice None told old new = ⊤
LeavesDevice (Some before) told old new =
    IsSomeAnd told (KeepsDevice before)
    × (IsStored before.here.store old → LeavesStore before.here.store old new)
