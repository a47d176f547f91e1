-- What a filter prints for a script, how its call ends, and how far ahead it reads.
use Rattle.std.specs.Prelude.{◌≡◌, ℕ, ◌+◌, ◌≤◌, ◌==◌, List, [], ◌∷◌, ◌++◌, length, map, take, filter as keeping, Option, None, Some, IsSomeAnd, Result, Ok, Err, ⊤}
use Rattle.std.specs.List.{flat_map}
use Rattle.board_core.specs.Clock.{Adds, Clock}
use Rattle.board_core.specs.Told.{Told}
use Rattle.ras_script.specs.declared.line.LineRefused.{LineRefused}
use Rattle.ras_script.specs.declared.reader.TheConstants.{LONGEST_LINE, LONGEST_SCRIPT}
use Rattle.ras_base.specs.Prefix.{IsPrefixOf}
use Rattle.ras_script.specs.Lines.{Lines, script_lines}
use Rattle.ras_script.specs.SplittingLaws.{script_of}
use Rattle.ras_exit.specs.declared.exit.Exit.{Exit}
use Rattle.ras_exit.specs.declared.exit.Exit.TheVariants.{Done, BadLine, SourceFault, PrintFault, NoMemory, TooLong}
use Rattle.ras_exit.specs.Endings.{unread_exit}
use Rattle.ras_exit.specs.ScriptEnd.{ending_exit}
use Rattle.ras_exit.specs.StopLine.{stop_line}
use Rattle.ras_exit.specs.Telling.{OnlyText, PrintMoment, Tells}
use Rattle.line_filters.specs.Filter.{Filter}

-- how a call ends, given how its lines ended: if all were taken, the call succeeds
abbrev pub exit_of : Result (Unit {0}) Exit → Exit
exit_of (Ok done) = Done
exit_of (Err exit) = exit

-- the texts before the first rejected line
abbrev pub texts_in : List (Result (List ℕ) LineRefused) → List (List ℕ)
texts_in [] = []
texts_in (Ok text ∷ answers) = text ∷ texts_in answers
texts_in (Err why ∷ answers) = []

-- the first rejection among the answers
abbrev pub refusal_in : List (Result (List ℕ) LineRefused) → Option LineRefused
refusal_in [] = None
refusal_in (Ok text ∷ answers) = refusal_in answers
refusal_in (Err why ∷ answers) = Some why

-- ---- the exit

-- the exit for a rejection of the line with this number, or `exit` if no line is rejected
abbrev pub exit_unless : Option LineRefused → ℕ → Exit → Exit
exit_unless None number exit = exit
exit_unless (Some why) number exit = unread_exit number why

-- how a call ends that took `count` lines, with these lines to come
abbrev pub exit_among : ℕ → Filter → Lines → Exit
exit_among count filter lines =
    let answers = filter.answers lines.whole in
    exit_unless (refusal_in answers) (count + length (texts_in answers) + 1)
    (ending_exit (count + length lines.whole) lines.ending)

-- The call ends at the first rejected line, or as the list of the script's lines ends.
abbrev pub filter_exit : Filter → List ℕ → Exit
filter_exit filter script = exit_among 0 filter (script_lines script)

-- ---- the text

-- what is printed after the lines' texts: the last text, or the `stop` line of a rejection
abbrev pub closing_text : Filter → List (List ℕ) → Exit → List ℕ
closing_text filter taken Done = filter.rest taken ++ filter.last taken
closing_text filter taken exit = filter.rest taken ++ stop_line exit

-- what is printed for the lines to come, after `count` lines
abbrev pub output_among : ℕ → Filter → Lines → List ℕ
output_among count filter lines =
    let texts = texts_in (filter.answers lines.whole) in
    let taken = take (length texts) lines.whole in
    flat_map (λ text. text) texts ++ closing_text filter taken (exit_among count filter lines)

-- all that a filter prints for a script
abbrev pub filter_output : Filter → List ℕ → List ℕ
filter_output filter script = output_among 0 filter (script_lines script)

-- ---- how far ahead

-- how many line feeds a text has, which is how many of its lines end with one
abbrev pub line_feeds : List ℕ → ℕ
line_feeds text = length (keeping (λ byte. byte == 10) text)

-- How far a script was read when this text was printed: no line's text waits while the source is read.
pub record PrintsOn (Failed : Type 0) (filter : Filter) (script taken printed : List ℕ) : Type 0 where
  -- the first lines of the script, none of which is rejected, and their texts
  pub lines : List (List ℕ)
  pub first : IsPrefixOf lines (script_lines script).whole
  pub texts : List (List ℕ)
  pub made : filter.answers lines ≡ map Ok texts
  -- These texts are printed,
  pub more : List ℕ
  pub text : printed ≡ flat_map (λ text. text) texts ++ more
  -- and at most 40,001 bytes were read past the ends of these lines.
  pub ahead : length taken ≤ length (script_of lines) + (LONGEST_LINE + 1)
  -- If the source failed, these are all lines whose line feeds were read.
  pub all : Failed → line_feeds taken ≤ length lines

-- ---- a call

-- What a filter's call prints for a script, of which `left` isn't read, and how the call ends. In the model only the
-- printed text changes.
pub record Filters (filter : Filter) (result : Exit) (script left : List ℕ) (before now : Told) : Type 0 where
  pub tells : Tells (filter_exit filter script) (filter_output filter script) result before now
  pub only : OnlyText before now
  pub taken : List ℕ
  pub splits : taken ++ left ≡ script
  pub printed : List ℕ
  pub text : now.here.out ≡ before.here.out ++ printed
  pub ahead : PrintsOn (result ≡ SourceFault) filter script taken printed

-- If source and board are modelled, they stay modelled, and `P` holds of both.
abbrev pub OfBoth : (List ℕ → List ℕ → Told → Told → Type 0)
    → Option (List ℕ) → Option (List ℕ) → Option Told → Option Told → Type 0
OfBoth P (Some script) left (Some before) now =
    IsSomeAnd left (λ rest. IsSomeAnd now (P script rest before))
OfBoth P script left before now = ⊤

-- A crash during a call leaves, as its only new text, a beginning of what is printed for the script. Says nothing of
-- a source or a board that isn't modelled.
abbrev pub StopsFiltering : Filter → Option (List ℕ) → Option Told → Clock → Clock → Type 0
StopsFiltering filter (Some script) (Some before) old new =
    Adds (PrintMoment old (filter_output filter script)) old new
StopsFiltering filter script before old new = ⊤

-- The bytes that a call reads of a script, of which `left` isn't read: at most one byte past the longest script, and
-- the whole script if the call succeeds.
pub record TakesOf (result : Exit) (script left : List ℕ) : Type 0 where
  pub taken : List ℕ
  pub splits : taken ++ left ≡ script
  pub few : length taken ≤ LONGEST_SCRIPT + 1
  pub all : result ≡ Done → left ≡ []

-- how a filter's call may end
abbrev pub IsFilterExit : Exit → Type 0
IsFilterExit Done = ⊤
IsFilterExit (BadLine line reason) = ⊤
IsFilterExit SourceFault = ⊤
IsFilterExit PrintFault = ⊤
IsFilterExit NoMemory = ⊤
IsFilterExit TooLong = ⊤
IsFilterExit exit = ⊥
