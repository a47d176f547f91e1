-- The lines of a script that a run takes, and its events.
use Rattle.std.specs.Prelude.{ℕ, Bool, List, map, filter}
use Rattle.std.specs.List.{enumerate_from}
use Rattle.ras_script.specs.Line.{is_asking, line_of}
use Rattle.ras_script.specs.Lines.{script_lines}
use Rattle.ras_events.specs.Described.{NumberedLine}
use Rattle.ras_run.specs.Sites.{Start, first_site}
use Rattle.ras_run.specs.Places.{Place, places_from}
use Rattle.ras_run.specs.Status.{places_before_refusal}

-- what lines ask for, numbered from 1
abbrev pub reads_in : List (List ℕ) → List NumberedLine
reads_in lines = enumerate_from 1 (map line_of lines)

-- the lines of a script, up to where its list of lines ends
abbrev pub reads_of : List ℕ → List NumberedLine
reads_of script = reads_in (script_lines script).whole

-- An empty line and a comment aren't events. A line that can't be parsed is an event that ends the run.
abbrev pub is_event : Place → Bool
is_event place = is_asking place.1.1

-- the lines of a script at their places, and the places before the first rejected line
abbrev pub places_of : Start → List ℕ → List Place
places_of start script = places_from (first_site start) (reads_of script)

abbrev pub places_taken : Start → List ℕ → List Place
places_taken start script = places_before_refusal (places_of start script)

-- the events among the places before the first rejected line
abbrev pub events_of : Start → List ℕ → List Place
events_of start script = filter is_event (places_taken start script)
