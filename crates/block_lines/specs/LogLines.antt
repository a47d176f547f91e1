-- The lines of a kernel log that belong to a firmware's report: `{<number>}[Hardware Error]: ` comes before
-- their text, and the number counts the reports since the boot.
use Rattle.std.specs.Prelude.{ℕ, ◌^◌, ◌-◌, ◌==◌, ◌&&◌, ◌||◌, Bool, false, List, [], ◌∷◌, codes, length, nat_eq, take, Option, None, Some, is_some, if◌then◌else◌}
use Rattle.std.specs.List.{ends_with}
use Rattle.std.specs.Option.{option_map}
use Rattle.ras_klog.specs.Reading.{read_then}
use Rattle.ras_script.specs.Number.{decimal_of}
use Rattle.bank_lines.specs.LogHeads.{after, is_own, up_to}
use Rattle.bank_lines.specs.LogLines.{log_stamp_of}
use Rattle.bank_lines.specs.Parts.{value_after}
use Rattle.block_lines.specs.declared.log_line.ReportLogLine.{ReportLogLine}
use Rattle.block_lines.specs.declared.log_line.Marking.{Marking}
use Rattle.block_lines.specs.declared.log_line.Marking.TheVariants.{Unmarked, Foreign, Own}
use Rattle.block_lines.specs.declared.log_line.OwnLine.{OwnLine}
use Rattle.block_lines.specs.Lines.{report_line_of}

-- the prefix of the text, after the brace
abbrev pub error_mark : List ℕ
error_mark = codes "[Hardware Error]: "

-- what a line says if the kernel itself printed it, from what follows the brace before its number
abbrev pub marked_line_of : List ℕ → Option OwnLine
marked_line_of text =
    read_then (decimal_of (2 ^ 64 - 1) (up_to 125 text)) (λ number.
    option_map (λ words. record { report = number; line = report_line_of words }) (value_after error_mark (after 125 text)))

-- whether a report's number and the prefix follow one of a text's braces
abbrev pub has_mark : List ℕ → Bool
has_mark [] = false
has_mark (b ∷ text) = b == 123 && is_some (marked_line_of text) || has_mark text

-- A line, given its head, the text after the head's brace, and what this text says. The kernel's own heads have no
-- brace.
abbrev pub own_by : List ℕ → List ℕ → Option OwnLine → Marking
own_by head text (Some line) = if is_own head then Own line else Foreign
own_by head text None = if has_mark text then Foreign else Unmarked

abbrev pub own_after : List ℕ → List ℕ → Marking
own_after head text = own_by head text (marked_line_of text)

-- a line, split at its first brace
abbrev pub own_line_of : List ℕ → Marking
own_line_of line = own_after (up_to 123 line) (after 123 line)

-- a line without the carriage return that a serial console puts at its end
abbrev pub without_return : List ℕ → List ℕ
without_return line = if ends_with nat_eq line (13 ∷ []) then take (length line - 1) line else line

-- when a line was printed, if the text before its first brace says so, and whether it is a report's
abbrev pub report_log_line : List ℕ → ReportLogLine
report_log_line line = record { stamp = log_stamp_of (up_to 123 line); marking = own_line_of (without_return line) }
