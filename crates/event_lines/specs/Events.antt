-- Whether a line of a trace tells of a hardware error.
use Rattle.std.specs.Prelude.{ℕ, Bool, true, false, List}
use Rattle.event_lines.specs.Driver.{any_event_of}
use Rattle.event_lines.specs.Traced.{line_event_of}
use Rattle.event_lines.specs.declared.traced.LineEvent.{LineEvent}
use Rattle.event_lines.specs.declared.traced.LineEvent.TheVariants.{Absent}

abbrev pub is_there : LineEvent → Bool
is_there Absent = false
is_there event = true

-- whether a line has an event's name behind a clock, whether the event can be read or not
abbrev pub tells_event : List ℕ → Bool
tells_event line = is_there (line_event_of line)

-- the same, given whether every driver's event of a memory controller is a memory error
abbrev pub tells_any : Bool → List ℕ → Bool
tells_any drivers line = is_there (any_event_of drivers line)
