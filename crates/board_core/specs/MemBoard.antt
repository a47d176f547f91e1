-- A board in memory: what was done to it since it was new, and which calls fail.
use Rattle.std.specs.Prelude.{◌≡◌, ℕ, ◌-◌, ◌^◌, ◌≤◌, ◌⊎◌, Bool, true, false, ◌||◌, List, [], ◌∷◌, ◌++◌, length, ltb, Result, Ok, Err}
use Rattle.erst_store.specs.Store.{Stored}
use Rattle.erst_store.specs.Device.{volatile_of, new_device}
use Rattle.board_core.specs.declared.board.Access.{Access}
use Rattle.board_core.specs.declared.board.DiskCall.{DiskCall}
use Rattle.board_core.specs.declared.board.DiskCall.TheVariants.{Sync}
use Rattle.board_core.specs.Cause.{Faults, Kind, count_of, with_count}
use Rattle.board_core.specs.Clock.{Clock}
use Rattle.board_core.specs.DiskModel.{Disk, settled_file, Call, writes as writes_range, syncs, stores, prints as prints_part, rests, after_all, disk_clock}
use Rattle.board_core.specs.Doing.{Act, through, writes, prints, calls, device, after_act, after_acts, after_device}
use Rattle.board_core.specs.MemSource.{next_count, is_chosen}
use Rattle.board_core.specs.Stop.{Left}
use Rattle.board_core.specs.Told.{Told, file_of, after_write}

-- the first model, and the acts since that succeeded and weren't reads, in order
pub record Past : Type 0 where
  pub first : Told
  pub acts : List Act

abbrev pub new_past : Told → Past
new_past first = record { first = first; acts = [] }

abbrev pub with_act : Act → Past → Past
with_act act past = record past { acts = past.acts ++ act ∷ [] }

-- the past after a call, with this act if the call succeeded, else unchanged
abbrev pub past_after : {T E : Type 0} → Result T E → Act → Past → Past
past_after (Ok value) act past = with_act act past
past_after (Err error) act past = past

-- the calls that an act makes, as the disk sees them
abbrev pub steps_of : Act → Told → List Call
steps_of (through file place bytes) t =
    writes_range file place (length bytes) ∷ syncs file (file_of file (after_write file place bytes t)) ∷ []
steps_of (writes file place bytes) t = writes_range file place (length bytes) ∷ []
steps_of (prints bytes) t = prints_part bytes bytes ∷ []
steps_of (calls (Sync file)) t = syncs file (file_of file t) ∷ []
steps_of (calls call) t = rests ∷ []
steps_of (device call) t = stores (after_device call t).here.store (after_device call t).here.store ∷ []

abbrev pub steps_of_all : List Act → Told → List Call
steps_of_all [] t = []
steps_of_all (act ∷ acts) t = steps_of act t ++ steps_of_all acts (after_act act t)

-- a disk on which everything is as a read returns it
abbrev pub settled_disk : Left → Disk
settled_disk here = record {
  zero = settled_file here.file0;
  one = settled_file here.file1;
  store = here.store;
  out = here.out;
}

-- the model now, which lists only these acts, and the disk now
abbrev pub now_of : Past → Told
now_of past = after_acts past.acts past.first

abbrev pub disk_of : Past → Disk
disk_of past = after_all (steps_of_all past.acts past.first) (settled_disk past.first.here)

-- Points in time are counted by the calls that the disk sees. A crash may leave exactly what the disk model says of
-- these calls.
abbrev pub clock_of : Past → Clock
clock_of past = disk_clock (settled_disk past.first.here) (steps_of_all past.acts past.first)

-- The board's past, the calls that it lists, the numbers of the calls that fail, how many calls succeed at most, how
-- many calls were made, in how many of them memory ran out, and the faults.
pub record State : Type 0 where
  pub past : Past
  pub disk_calls : List DiskCall
  pub accesses : List Access
  pub fails : List ℕ
  pub allowed : ℕ
  pub made : ℕ
  pub starved : ℕ
  pub faults : Faults

-- the model of a board in memory
abbrev pub told_of : State → Told
told_of s = record (now_of s.past) { disk_calls = s.disk_calls; accesses = s.accesses }

-- the model of a new board with these files and this store: nothing is printed, and the device is new
abbrev pub new_told : List ℕ → List ℕ → List Stored → ℕ → Told
new_told file0 file1 store slow = record {
  here = record { file0 = file0; file1 = file1; store = store; out = [] };
  volatile = volatile_of (new_device store slow);
  disk_calls = [];
  accesses = [];
}

abbrev pub no_faults : Faults
no_faults = record { disk = 0; registers = 0; prints = 0 }

-- a new board, with no faults
abbrev pub new_board : List ℕ → List ℕ → List Stored → ℕ → State
new_board file0 file1 store slow = record {
  past = new_past (new_told file0 file1 store slow);
  disk_calls = [];
  accesses = [];
  fails = [];
  allowed = 2 ^ 64 - 1;
  made = 0;
  starved = 0;
  faults = no_faults;
}

-- ---- a call

-- Whether the next call fails, by its number or because enough calls have succeeded.
abbrev pub fails_next : State → Bool
fails_next s = is_chosen (next_count s.made) s.fails || ltb s.allowed (next_count s.made)

-- A board that has counted a call, a board that has listed a disk call, and a board that has listed an access.
abbrev pub counted : State → State
counted s = record s { made = next_count s.made }

abbrev pub listing : DiskCall → State → State
listing call s = record s { disk_calls = s.disk_calls ++ call ∷ [] }

abbrev pub listing_access : Access → State → State
listing_access access s = record s { accesses = s.accesses ++ access ∷ [] }

-- One more fault of this kind.
pub record Faulted (kind : Kind) (old new : State) : Type 0 where
  pub is : new ≡ record old { faults = with_count kind (next_count (count_of kind old.faults)) old.faults }
  pub later : count_of kind old.faults ≤ count_of kind new.faults

-- a board with one more call in which memory ran out
abbrev pub with_refusal : State → State
with_refusal s = record s { starved = next_count s.starved }

-- A call was made, and is counted. If it succeeded, it wasn't chosen to fail, is listed, and this is the past after
-- it. If it failed, it was chosen to fail and is listed, or memory ran out for the list or for the change; and nothing
-- else changed except the count of its kind of fault. `listed` is the board that has listed the call.
abbrev pub Performs : {T E : Type 0} → Kind → State → Past → State → State → Result T E → Type 0
Performs kind listed past old new (Ok value) =
    (fails_next old ≡ false) × (new ≡ record (counted listed) { past = past })
Performs kind listed past old new (Err error) =
    ((fails_next old ≡ true) × Faulted kind (counted listed) new)
    ⊎ (Faulted kind (with_refusal (counted old)) new ⊎ Faulted kind (with_refusal (counted listed)) new)
