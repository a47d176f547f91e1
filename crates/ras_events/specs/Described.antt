-- The machine description that a script's lines give, and what a line asks for under it.
use Rattle.std.specs.Prelude.{ℕ, List, [], ◌∷◌, Option, None, Some, Result, Ok, Err}
use Rattle.std.specs.List.{filter_map}
use Rattle.apei_sources.specs.Hest.{Sources, hest_of}
use Rattle.dimm_topology.specs.declared.row.Row.{Row}
use Rattle.erst_interp.specs.Table.{erst_of}
use Rattle.ras_script.specs.declared.line.Line.{Line}
use Rattle.ras_script.specs.declared.line.Line.TheVariants as asks
use Rattle.ras_script.specs.declared.line.LineRefused.{LineRefused}
use Rattle.ras_script.specs.declared.line.Table.TheVariants.{Hest, Erst}
use Rattle.ras_events.specs.declared.event.Event.{Event}
use Rattle.ras_events.specs.declared.event.LineRefusal.{LineRefusal}
use Rattle.ras_events.specs.declared.event.LineRefusal.TheVariants.{Bad}
use Rattle.ras_exit.specs.declared.reason.Reason.TheVariants as reason
use Rattle.ras_events.specs.declared.settings.Settings.{Settings}
use Rattle.ras_events.specs.Events.{Lists, admitted_in, event_of, settings_after}

-- a line's number, and what the line asks for or why it can't be read
abbrev pub NumberedLine : Type 0
NumberedLine = ℕ × Result Line LineRefused

-- the row of the machine description that a line gives, and the rows that lines give, in order
abbrev pub row_by : NumberedLine → Option Row
row_by (number, Ok (asks.Row row)) = Some row
row_by read = None

abbrev pub rows_told : List NumberedLine → List Row
rows_told reads = filter_map row_by reads

-- the error sources that a line gives: the sources of a table that can be read
abbrev pub sources_in_table : {E : Type 0} → Result Sources E → Option Sources
sources_in_table (Ok sources) = Some sources
sources_in_table (Err why) = None

abbrev pub sources_by : NumberedLine → Option Sources
sources_by (number, Ok (asks.Table (Hest bytes))) = sources_in_table (hest_of bytes)
sources_by read = None

-- the lists that a line gives for driving the record store: the lists of a table that can be read and is admitted
abbrev pub driver_by : NumberedLine → Option Lists
driver_by (number, Ok (asks.Table (Erst bytes))) = admitted_in (erst_of bytes)
driver_by read = None

-- the last item of a list
abbrev pub last_of : {X : Type 0} → List X → Option X
last_of [] = None
last_of (x ∷ []) = Some x
last_of (x ∷ y ∷ xs) = last_of (y ∷ xs)

-- the machine description that lines give: their rows, the sources of the last table among them, and the lists of the
-- last table that drives the record store
abbrev pub settings_told : List NumberedLine → Settings
settings_told reads = record {
  topology = rows_told reads;
  sources = last_of (filter_map sources_by reads);
  driver = last_of (filter_map driver_by reads);
}

-- The machine description after a line. A line that can't be read changes nothing.
abbrev pub settings_read : Settings → NumberedLine → Settings
settings_read settings (number, Ok line) = settings_after settings line
settings_read settings (number, Err refused) = settings

-- what a line asks for under a machine description, or why it is rejected
abbrev pub event_read : Settings → NumberedLine → Result Event LineRefusal
event_read settings (number, Ok line) = event_of settings line
event_read settings (number, Err refused) = Err (Bad (reason.Line refused))
