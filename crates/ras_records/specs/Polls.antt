-- What a poll does to the record store: its records are listed and read, and then the readable ones are cleared.
use Rattle.std.specs.Prelude.{◌≡◌, ◌≢◌, ◌≤◌, ℕ, Bool, false, ◌&&◌, not, nat_eq, IsTrue, List, ◌++◌, length, Result, Ok, Err}
use Rattle.erst_store.specs.Store.{Stored, ids, most_records}
use Rattle.board_core.specs.Doing.{DeviceCall}
use Rattle.board_core.specs.Told.{Told, device_of}
use Rattle.dimm_topology.specs.declared.row.Row.{Row}
use Rattle.erst_interp.specs.declared.entries.InstructionEntry.{InstructionEntry}
use Rattle.erst_driver.specs.declared.refusals.DriverRefused.{DriverRefused}
use Rattle.erst_driver.specs.declared.refusals.DriverRefused.TheVariants.{Busy, Status as EndedWith}
use Rattle.erst_driver.specs.Answers.{read_calls}
use Rattle.erst_driver.specs.Operations.{is_free_in_time, list_calls}
use Rattle.ras_events.specs.Making.{polled}
use Rattle.ras_events.specs.Sizes.{IsFit}
use Rattle.ras_events.specs.Stores.{readable, without_first}
use Rattle.ras_records.specs.declared.looking.Looked.{Looked}
use Rattle.ras_records.specs.Each.{after_calls, each_calls}

-- ---- a look: the store's records are listed, and then each is read

-- the device calls that list and read the records of the device's store
abbrev pub look_calls : List (List InstructionEntry) → Told → List DeviceCall
look_calls lists t =
    list_calls lists (device_of t)
    ++ each_calls (read_calls lists) (ids t.here.store) (after_calls (list_calls lists (device_of t)) t)

-- the identifiers of the readable records of a store
abbrev pub readable_ids : List Stored → List ℕ
readable_ids store = ids (readable store)

-- Whether a device is too slow for its store to be read. For an empty store the device isn't checked.
abbrev pub is_busy_for_reads : ℕ → List Stored → Bool
is_busy_for_reads slow store = not (is_free_in_time slow) && not (nat_eq (length store) 0)

-- Each record has a piece, and the readable records are listed.
pub record HasLooked (rows : List Row) (seconds : ℕ) (t : Told) (looked : Looked) : Type 0 where
  pub made : looked.made ≡ polled rows seconds t.here.store
  pub readable : looked.readable.items ≡ readable_ids t.here.store
  pub free : is_busy_for_reads t.volatile.slow t.here.store ≡ false

-- How a look ends over a device with this store: each record that is listed can be found.
abbrev pub Looks : List Row → ℕ → Result Looked DriverRefused → Told → Type 0
Looks rows seconds (Ok looked) t = HasLooked rows seconds t looked
Looks rows seconds (Err Busy) t = IsTrue (is_busy_for_reads t.volatile.slow t.here.store)
Looks rows seconds (Err (EndedWith status)) t = ⊥
Looks rows seconds (Err why) t = Unit {0}

-- What holds of listing and reading on every board: the pieces can be one link, and a returned status isn't 0.
abbrev pub IsBounded : Result Looked DriverRefused → Type 0
IsBounded (Ok looked) = IsFit looked.made × (length looked.readable.items ≤ most_records)
IsBounded (Err (EndedWith status)) = status ≢ 0
IsBounded (Err why) = Unit {0}

-- ---- clears of the readable records

-- A store lacks the first readable records of another.
pub record LacksFirst (old new : List Stored) : Type 0 where
  pub count : ℕ
  pub is : new ≡ without_first count old
