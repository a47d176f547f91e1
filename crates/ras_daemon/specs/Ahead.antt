-- How far ahead a run reads its source.
use Rattle.std.specs.Prelude.{◌≡◌, ℕ, ◌+◌, ◌-◌, ◌≤◌, ◌==◌, ◌&&◌, Bool, List, [], ◌∷◌, ◌++◌, length, Option, None, Some, IfSome, IsSomeAnd, if◌then◌else◌, filter}
use Rattle.std.specs.Option.{option_map}
use Rattle.board_core.specs.Told.{Told}
use Rattle.ras_script.specs.declared.reader.TheConstants.{LONGEST_LINE}
use Rattle.line_filters.specs.Feeds.{TakesInput}
use Rattle.line_filters.specs.Filters.{TakesOf}
use Rattle.bank_lines.specs.Saved.Printing.{TakesRecord}
use Rattle.ras_script.specs.Line.{is_asking, line_of}
use Rattle.ras_script.specs.Splitting.{lines_of}
use Rattle.ras_events.specs.DoneLines.{done_count, ended_lines}
use Rattle.ras_exit.specs.declared.exit.Exit.{Exit}
use Rattle.ras_exit.specs.declared.exit.Exit.TheVariants.{SourceFault}

-- whether a line is an event, whichever lines are before it
abbrev pub is_event_line : List ℕ → Bool
is_event_line line = is_asking (line_of line)

-- the number of bytes up to the end of the event that has n events before it, each line with its line feed; `None` if
-- there is no such event
abbrev pub end_of_event : ℕ → List (List ℕ) → Option ℕ
end_of_event n [] = None
end_of_event n (line ∷ lines) =
    if is_event_line line && (n == 0) then Some (length line + 1)
    else option_map (λ end. length line + 1 + end) (end_of_event (if is_event_line line then n - 1 else n) lines)

-- how many lines are events
abbrev pub events_in : List (List ℕ) → ℕ
events_in lines = length (filter is_event_line lines)

-- What was taken of a script, of which `left` remains, reaches at most 40,001 bytes past the end of the first
-- event that isn't done by what was printed. If the source failed, every event whose line was taken with its
-- line feed is done.
pub record TakesAhead (exit : Exit) (script left : List ℕ) (before now : Told) : Type 0 where
  pub taken : List ℕ
  pub splits : taken ++ left ≡ script
  pub printed : List ℕ
  pub text : now.here.out ≡ before.here.out ++ printed
  pub bound :
      IfSome (end_of_event (done_count printed) (lines_of script))
      (λ end. length taken ≤ end + (LONGEST_LINE + 1))
  pub done : exit ≡ SourceFault → events_in (ended_lines taken) ≤ done_count printed

-- What a command that ends with this exit takes of its source, if the source is modelled: at most 67,108,865 bytes,
-- and the whole source if the command succeeds.
abbrev pub TakesBy : Exit → Option (List ℕ) → Option (List ℕ) → Type 0
TakesBy exit first now = IfSome first (λ script. IsSomeAnd now (TakesOf exit script))

-- What a command that reads an input of any length takes of its source, if the source is modelled: a beginning of it, and
-- if the command succeeds, the whole source.
abbrev pub TakesInputBy : Exit → Option (List ℕ) → Option (List ℕ) → Type 0
TakesInputBy exit first now = IfSome first (λ input. IsSomeAnd now (TakesInput exit input))

-- What a command that reads a saved record takes of its source, if the source is modelled: at most 129 bytes, and if
-- the command succeeds, the whole source or 129 bytes.
abbrev pub TakesRecordBy : Exit → Option (List ℕ) → Option (List ℕ) → Type 0
TakesRecordBy exit first now = IfSome first (λ input. IsSomeAnd now (TakesRecord exit input))
