-- Which bytes of a record store can be read as a record.
use Rattle.std.specs.Prelude.{ℕ, ◌-◌, ◌==◌, List, ◌++◌, length, replicate, Result, Ok, Err, if◌then◌else◌}
use Rattle.cper_records.specs.Header.{record_id}
use Rattle.cper_records.specs.Records.{record_of}
use Rattle.cper_records.specs.declared.refusals.RecordRefused.{RecordRefused}
use Rattle.cper_records.specs.declared.refusals.Unreadable.{Unreadable}
use Rattle.cper_records.specs.declared.refusals.Unreadable.TheVariants.{NoRecord, OtherId}

-- the bytes that a store returns for a stored record: with zeros after them, 16,384 in all
abbrev pub filled : List ℕ → List ℕ
filled bytes = bytes ++ replicate (16384 - length bytes) 0

-- the record that was read, if it has this identifier
abbrev pub own_under : ℕ → Result (List ℕ) RecordRefused → Result (List ℕ) Unreadable
own_under id (Ok own) = if record_id own == id then Ok own else Err OtherId
own_under id (Err why) = Err (NoRecord why)

-- The record at the front of the bytes that a store returned under an identifier, or why there is no record.
abbrev pub read_under : ℕ → List ℕ → Result (List ℕ) Unreadable
read_under id buffer = own_under id (record_of buffer)
