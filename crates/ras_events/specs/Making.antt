-- The pieces of an event, in order: each is an entry for the account or a record that can't be read.
use Rattle.std.specs.Prelude.{ℕ, List, [], ◌∷◌, map, Option, None, Some, Result, Ok, Err}
use Rattle.std.specs.List.{filter_map}
use Rattle.cper_records.specs.declared.refusals.Unreadable.{Unreadable as Why}
use Rattle.dimm_topology.specs.declared.row.Row.{Row}
use Rattle.erst_store.specs.Store.{Stored}
use Rattle.ras_facts.specs.declared.entry.Entry.{Entry}
use Rattle.ras_facts.specs.declared.entry.Entry.TheVariants.{Fact}
use Rattle.ras_facts.specs.declared.details.Report.{Report}
use Rattle.ras_panic.specs.Reading.{stored_report}
use Rattle.ras_events.specs.declared.made.Piece.{Piece}
use Rattle.ras_events.specs.declared.made.Piece.TheVariants.{Counted, Unread}
use Rattle.ras_events.specs.Stores.{read_stored}

-- the entry of a piece, if it has one, and the entries of pieces in order
abbrev pub entry_in : Piece → Option Entry
entry_in (Counted entry details) = Some entry
entry_in (Unread id why) = None

abbrev pub entries_in : List Piece → List Entry
entries_in pieces = filter_map entry_in pieces

-- the piece of an entry without details
abbrev pub made_of_entry : Entry → List Piece
made_of_entry entry = Counted entry [] ∷ []

-- the piece of a report, and the pieces of an event with this report
abbrev pub piece_of_report : Report → Piece
piece_of_report report = Counted (Fact report.fact) report.details

abbrev pub made_by_report : Report → List Piece
made_by_report report = piece_of_report report ∷ []

-- the piece that a poll makes from what it read under an identifier at this time, by the machine description
abbrev pub piece_of : List Row → ℕ → ℕ → Result (List ℕ) Why → Piece
piece_of rows seconds id (Ok own) = piece_of_report (stored_report rows seconds own)
piece_of rows seconds id (Err why) = Unread id why

-- the pieces that a poll makes from the records of a store, in their order
abbrev pub polled : List Row → ℕ → List Stored → List Piece
polled rows seconds store = map (λ (r : Stored). piece_of rows seconds r.id (read_stored r)) store
