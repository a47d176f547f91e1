-- What a run prints.
use Rattle.std.specs.Prelude.{ℕ, List, ◌++◌, take}
use Rattle.std.specs.List.{flat_map}
use Rattle.ras_account.specs.Account.{State}
use Rattle.ras_events.specs.Described.{NumberedLine}
use Rattle.ras_run.specs.Sites.{Start, first_site}
use Rattle.ras_run.specs.Places.{places_from, site_at}
use Rattle.ras_daemon.specs.Script.{events_of, reads_of}
use Rattle.ras_texts.specs.Orders.{standing_lines}
use Rattle.ras_texts.specs.Text.{end_line}
use Rattle.ras_exit.specs.declared.exit.Exit.{Exit}
use Rattle.ras_exit.specs.declared.exit.Exit.TheVariants.{Done}
use Rattle.ras_run.specs.Output.{output_at}
use Rattle.ras_run.specs.Status.{places_before_refusal}
use Rattle.ras_exit.specs.StopLine.{stop_line}
use Rattle.ras_daemon.specs.RunStatus.{run_exit}

-- the last line of a run, given how the run ends
abbrev pub closing_line : State → Exit → List ℕ
closing_line account Done = end_line account
closing_line account exit = stop_line exit

-- what lines print, up to the first rejected one
abbrev pub lines_output : Start → List NumberedLine → List ℕ
lines_output start reads = flat_map output_at (places_before_refusal (places_from (first_site start) reads))

-- What a run over a script prints: the outstanding orders at its start, what each event prints, and the last
-- line.
abbrev pub run_output : Start → List ℕ → List ℕ
run_output start script =
    standing_lines start.account
    ++ (lines_output start (reads_of script)
    ++ closing_line (site_at start (reads_of script)).account (run_exit start script))

-- what a run has printed once its first n events are done
abbrev pub output_upto : Start → List ℕ → ℕ → List ℕ
output_upto start script n =
    standing_lines start.account ++ flat_map output_at (take n (events_of start script))
