-- The lines so far are those of the reports so far, and the number is the last report's.
use Rattle.std.proofs.Common.{◌≡◌, ◌++◌, map, string_bytes}
use Rattle.ras_load.specs.LoadScript.{bank_lines, generated}
use Rattle.ras_script.specs.LineLaws.{line_text}
use Rattle.ras_script.specs.SplittingLaws.{script_of}
use Rattle.ras_load.proofs.script.push_banks.Given as goal

abbrev pub invariant-loop-done : goal.invariant-loop-done
invariant-loop-done l =
    (string_bytes l.script ≡ string_bytes l.fn.script ++ script_of (map line_text (bank_lines l.done)))
    × (l.number ≡ generated l.done)
