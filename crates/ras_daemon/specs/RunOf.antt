-- The run of a script from its start, as events.
use Rattle.std.specs.Prelude.{List, [], ◌∷◌, ◌++◌, ℕ, map, filter, Option, None, Some}
use Rattle.ras_exit.specs.declared.exit.Exit.{Exit}
use Rattle.ras_exit.specs.declared.exit.Exit.TheVariants.{BadLine, ErstRefused}
use Rattle.ras_run.specs.Sites.{Start}
use Rattle.ras_run.specs.Places.{Place, deed_at, entries_at, site_at}
use Rattle.ras_daemon.specs.Script.{events_of, is_event, reads_of, places_taken}
use Rattle.ras_texts.specs.Orders.{standing_lines}
use Rattle.ras_events.specs.Deeds.{Asking}
use Rattle.ras_events.specs.Deeds as asking
use Rattle.ras_run.specs.Output.{output_at}
use Rattle.ras_daemon.specs.Machine.{Run, RunEvent, StoreChange, clears, keeps, puts}
use Rattle.ras_daemon.specs.RunOutput.{closing_line}
use Rattle.ras_daemon.specs.RunStatus.{run_exit, script_refused}

-- what an event does to the record store, by what it asks for: a poll clears the store
abbrev pub change_by : Asking → StoreChange
change_by (asking.puts r) = puts r
change_by (asking.saves r) = puts r
change_by (asking.polls seconds) = clears
change_by asked = keeps

abbrev pub change_at : Place → StoreChange
change_at place = change_by (deed_at place).asks

-- the event of a line at its place
abbrev pub run_event_at : Place → RunEvent
run_event_at place = record {
  reports = entries_at place;
  change = change_at place;
  prints = output_at place;
}

-- The events that a run begins: all before the first rejected line, and then the rejected line, unless it is rejected
-- with `BadLine` or `ErstRefused`.
abbrev pub begun_by : Option (Place × Exit) → List Place
begun_by (Some (place, BadLine number why)) = []
begun_by (Some (place, ErstRefused number)) = []
begun_by (Some (place, exit)) = place ∷ []
begun_by None = []

abbrev pub begun_of : Start → List ℕ → List Place
begun_of start script =
    filter is_event (places_taken start script ++ begun_by (script_refused start script))

-- The run prints the outstanding orders first, then what the events of the script print, and then the last
-- line.
abbrev pub run_of : Start → List ℕ → Run
run_of start script = record {
  account = start.account;
  store = start.store;
  opening = standing_lines start.account;
  does = map run_event_at (events_of start script);
  begins = map run_event_at (begun_of start script);
  closing = closing_line (site_at start (reads_of script)).account (run_exit start script);
}
