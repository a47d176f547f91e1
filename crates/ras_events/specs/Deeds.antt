-- What an event does. All kinds of events are described by one type, Deed.
use Rattle.std.specs.Prelude.{ℕ, Bool, true, false, List, [], Option, None, Some, Result, Ok, unwrap_or}
use Rattle.dimm_topology.specs.declared.row.Row.{Row}
use Rattle.erst_store.specs.Store.{Stored}
use Rattle.ras_events.specs.declared.event.Event.{Event}
use Rattle.ras_events.specs.declared.event.Event.TheVariants.{Settled, Counted, Put, Saved, Polled, Reopened}
use Rattle.ras_events.specs.declared.event.LineRefusal.{LineRefusal}
use Rattle.ras_events.specs.declared.made.Piece.{Piece}
use Rattle.ras_events.specs.Making.{polled}

-- What an event does first: nothing; it puts a record into the record store by one call, or saves one there by the
-- table's write operation; it reads the store's records, at a time in seconds; or it opens the journal again.
pub data Asking : Type 0 where
  nothing : Asking
  puts : Stored → Asking
  saves : Stored → Asking
  polls : ℕ → Asking
  reopens : Asking

-- What an event does: its first operation, the pieces that its line reports, if any, and whether it ends with a done
-- line.
pub record Deed : Type 0 where
  pub asks : Asking
  pub reported : Option (List Piece)
  pub has_done_line : Bool

abbrev pub asking : Asking → Deed
asking asks = record { asks = asks; reported = None; has_done_line = true }

abbrev pub no_deed : Deed
no_deed = record { asks = nothing; reported = None; has_done_line = false }

-- The deed of each kind of event. A line that asks for nothing does nothing, and neither does a rejected line.
abbrev pub deed_of : Result Event LineRefusal → Deed
deed_of (Ok Settled) = asking nothing
deed_of (Ok (Counted made)) = record { asks = nothing; reported = Some made; has_done_line = true }
deed_of (Ok (Put id bytes)) = asking (puts (record { id = id; bytes = bytes }))
deed_of (Ok (Saved id bytes)) = asking (saves (record { id = id; bytes = bytes }))
deed_of (Ok (Polled seconds)) = asking (polls seconds)
deed_of (Ok Reopened) = asking reopens
deed_of event = no_deed

-- The pieces that an event counts: those that its line reports, or those that a poll makes from the store's records,
-- by the machine description at that time.
abbrev pub counted_in : List Row → List Stored → Asking → Option (List Piece) → Option (List Piece)
counted_in rows store nothing reported = reported
counted_in rows store (polls seconds) reported = Some (polled rows seconds store)
counted_in rows store asks reported = None

-- the pieces of an event, by the machine description and the store's records at that time
abbrev pub made_in : List Row → List Stored → Result Event LineRefusal → List Piece
made_in rows store event = unwrap_or (counted_in rows store (deed_of event).asks (deed_of event).reported) []
