-- How a call ends after all its lines were processed: as the list of its script's lines ends.
use Rattle.std.specs.Prelude.{ℕ, ◌+◌, List, length}
use Rattle.ras_script.specs.Lines.{Ending, script_lines, script_ended, line_too_long, script_too_long}
use Rattle.ras_exit.specs.declared.exit.Exit.{Exit}
use Rattle.ras_exit.specs.declared.exit.Exit.TheVariants.{Done, BadLine, TooLong}
use Rattle.ras_exit.specs.declared.reason.Reason.TheVariants.{LongLine}

-- How a call ends after this number of lines, by how their list ends: with the script, or at a line that is too long,
-- or because the script is too long.
abbrev pub ending_exit : ℕ → Ending → Exit
ending_exit count script_ended = Done
ending_exit count line_too_long = BadLine (count + 1) LongLine
ending_exit count script_too_long = TooLong

-- how a call ends that processes all lines of this script
abbrev pub script_exit : List ℕ → Exit
script_exit script = ending_exit (length (script_lines script).whole) (script_lines script).ending
