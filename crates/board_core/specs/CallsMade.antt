-- Calls of a board in a row, and which ranges of a file they wrote.
use Rattle.std.specs.Prelude.{◌≡◌, List, [], ◌∷◌}
use Rattle.std.specs.List.{flat_map}
use Rattle.board_core.specs.declared.board.FileNo.{FileNo}
use Rattle.board_core.specs.declared.board.FileNo.TheVariants.{Zero, One}
use Rattle.board_core.specs.Clock.{Clock, LeftNow, Passes, Leads, IsSynced, IsStored}
use Rattle.board_core.specs.Doing.{Seen}
use Rattle.board_core.specs.DiskModel.{Range, Disk, MayLeave, Call, writes, syncs, stores, prints, rests}
use Rattle.board_core.specs.Stop.{Left, Same, InFile, InStore, InOut, Becomes, Begins, Appends}
use Rattle.board_core.specs.Told.{Torn}

-- This call was made, according to the clauses of the trait.
abbrev pub IsMade : Call → Clock → Clock → Type 0
IsMade (writes file place count) old new = Passes (InFile file (Torn place count)) old new
IsMade (syncs file bytes) old new = Passes Same old new × IsSynced file bytes new
IsMade (stores made store) old new = Passes (InStore (Becomes made)) old new × IsStored store new
IsMade (prints piece part) old new = Passes (InOut (Begins piece)) old new × Leads (InOut (Appends part)) old new
IsMade rests old new = Passes Same old new

-- These calls of a board were made, one after another.
abbrev pub AreMade : {B : Type 0} → (B → Seen) → List Call → B → B → Type 0
AreMade see [] first last = last ≡ first
AreMade {B} see (call ∷ calls) first last = (next : B) × IsMade call (see first).clock (see next).clock × AreMade see calls next last

-- A crash now leaves only what the disk model says of this disk.
abbrev pub KeepsDisk : Disk → Clock → Type 0
KeepsDisk disk clock = (left : Left) → LeftNow clock left → MayLeave disk rests left

-- the ranges of a file that these calls wrote
abbrev pub range_in : FileNo → Call → List Range
range_in Zero (writes Zero place count) = record { place = place; count = count } ∷ []
range_in One (writes One place count) = record { place = place; count = count } ∷ []
range_in file call = []

abbrev pub ranges_in : FileNo → List Call → List Range
ranges_in file calls = flat_map (range_in file) calls
