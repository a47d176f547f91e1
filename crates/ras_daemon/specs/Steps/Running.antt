-- How many of its lines a run has processed, and what a crash leaves of the run.
use Rattle.std.specs.Prelude.{◌≡◌, ℕ, ◌⊎◌, List, [], ◌∷◌, ◌++◌, Option, ⊤, ◌+◌, ◌≤◌, length, IsSomeAnd, Some}
use Rattle.std.specs.List.{AllByRecursion, flat_map}
use Rattle.board_core.specs.Clock.{Clock, LeftNow}
use Rattle.board_core.specs.Stop.{Left, Begins}
use Rattle.board_core.specs.Told.{Told}
use Rattle.erst_store.specs.Store.{Stored}
use Rattle.ras_account.specs.Accounts.{IsAccount}
use Rattle.ras_journal.specs.Recovered.{Recovers}
use Rattle.ras_run.specs.declared.ledger.Ledger.{Ledger}
use Rattle.ras_events.specs.Described.{NumberedLine}
use Rattle.ras_run.specs.Sites.{IsBoardAt, Start, first_site}
use Rattle.ras_run.specs.Places.{event_at, places_from, site_at}
use Rattle.ras_daemon.specs.Script.{reads_in, reads_of, places_taken}
use Rattle.ras_script.specs.declared.reader.TheConstants.{LONGEST_LINE}
use Rattle.ras_script.specs.Splitting.{lines_of}
use Rattle.ras_script.specs.SplittingLaws.{script_of}
use Rattle.ras_texts.specs.Orders.{standing_lines}
use Rattle.ras_exit.specs.declared.exit.Exit.{Exit}
use Rattle.ras_exit.specs.Endings.{CallEnding, answered, ending_of, faulted}
use Rattle.ras_exit.specs.ScriptEnd.{script_exit}
use Rattle.ras_run.specs.Output.{output_at}
use Rattle.ras_run.specs.Moments.{CourseMoment, course_at, refused_store}
use Rattle.ras_run.specs.Status.{refusal_at}
use Rattle.ras_run.specs.Taking.{IsAccepted}
use Rattle.ras_daemon.specs.Headline.{AtOpening}
use Rattle.ras_daemon.specs.RunOutput.{closing_line}
use Rattle.ras_events.specs.DoneLines.{ended_lines}
use Rattle.ras_daemon.specs.Ahead.{events_in}
use Rattle.ras_daemon.specs.RunStatus.{run_exit}

-- whether each of these lines is accepted at its place
abbrev pub AreAccepted : Start → List NumberedLine → Type 0
AreAccepted start reads = AllByRecursion IsAccepted (places_from (first_site start) reads)

-- what these lines print
abbrev pub outputs : Start → List NumberedLine → List ℕ
outputs start reads = flat_map output_at (places_from (first_site start) reads)

-- These are the first lines of a script, and each is accepted.
pub record AreFirst (start : Start) (script : List ℕ) (before : List NumberedLine) : Type 0 where
  pub rest : List NumberedLine
  pub splits : before ++ rest ≡ reads_of script
  pub accepted : AreAccepted start before

-- These are all lines before the line at which a run ends with this exit.
pub record AreAll (start : Start) (script : List ℕ) (exit : Exit) (before : List NumberedLine) : Type 0 where
  pub first : AreFirst start script before
  pub all : places_taken start script ≡ places_from (first_site start) before
  pub exit_is : run_exit start script ≡ exit

-- ---- what a crash leaves; the text is the one before the lines

-- what a crash leaves between two lines, and while a line is processed or rejected
pub record BetweenLines (start : Start) (script : List ℕ) (out : List ℕ) (left : Left) : Type 0 where
  pub before : List NumberedLine
  pub first : AreFirst start script before
  pub recovers : Recovers (site_at start before).account left
  pub store : left.store ≡ (site_at start before).store
  pub text : left.out ≡ out ++ outputs start before

pub record AtLine (start : Start) (script : List ℕ) (out : List ℕ) (left : Left) : Type 0 where
  pub before : List NumberedLine
  pub read : NumberedLine
  pub rest : List NumberedLine
  pub splits : before ++ read ∷ rest ≡ reads_of script
  pub accepted : AreAccepted start before
  pub course : CourseMoment (IsAccepted (site_at start before, read)) (course_at (site_at start before, read)) (out ++ outputs start before) left

abbrev pub LinesMoment : Start → List ℕ → List ℕ → Left → Type 0
LinesMoment start script out left = BetweenLines start script out left ⊎ AtLine start script out left

-- The store at the end of a run: what these lines left, if no line is rejected; or what the rejected line after them
-- left.
pub record LeftByRefused (start : Start) (script : List ℕ) (before : List NumberedLine) (exit : Exit) (store : List Stored) : Type 0 where
  pub read : NumberedLine
  pub rest : List NumberedLine
  pub splits : before ++ read ∷ rest ≡ reads_of script
  pub refused : refusal_at (site_at start before, read) ≡ Some exit
  pub is : store ≡ refused_store exit (event_at (site_at start before, read)) (site_at start before).store

abbrev pub StoreAtEnd : Start → List ℕ → List NumberedLine → Exit → List Stored → Type 0
StoreAtEnd start script before exit store =
    ((exit ≡ script_exit script) × (store ≡ (site_at start before).store)) ⊎ LeftByRefused start script before exit store

-- what a crash leaves while the outstanding orders are printed at the start, and while the last line is printed
pub record AtStart (start : Start) (out : List ℕ) (left : Left) : Type 0 where
  pub recovers : Recovers start.account left
  pub store : left.store ≡ start.store
  pub text : Begins (standing_lines start.account) out left.out

pub record AtEnd (start : Start) (script : List ℕ) (out : List ℕ) (left : Left) : Type 0 where
  pub before : List NumberedLine
  pub exit : Exit
  pub all : AreAll start script exit before
  pub recovers : Recovers (site_at start before).account left
  pub store : StoreAtEnd start script before exit left.store
  pub text : Begins (closing_line (site_at start before).account exit) (out ++ outputs start before) left.out

-- the text before the lines' text: the outstanding orders were printed after `out`
abbrev pub lines_from : Start → List ℕ → List ℕ
lines_from start out = out ++ standing_lines start.account

-- what a crash leaves once the journal is open
abbrev pub OpenMoment : Start → List ℕ → List ℕ → Left → Type 0
OpenMoment start script out left =
    AtStart start out left
    ⊎ (LinesMoment start script (lines_from start out) left ⊎ AtEnd start script (lines_from start out) left)

-- What a crash leaves of a run: what a crash at its start may have left, or the state at a moment of the run. Once
-- the journal is open, its account is a valid one (`IsAccount`).
abbrev pub RunMoment : Clock → Start → List ℕ → Left → Left → Type 0
RunMoment clock start script here left =
    LeftNow clock left
    ⊎ (AtOpening start here.out left ⊎ (IsAccount start.account × OpenMoment start script here.out left))

-- a run begins at this start with this ledger, on a board with this model
pub record IsStart (start : Start) (ledger : Ledger) (t : Told) : Type 0 where
  pub account : ledger.account.state ≡ start.account
  pub standing : ledger.journal.standing ≡ start.standing
  pub board : IsBoardAt (first_site start) t

-- ---- how a run ends; `out` is the text before the run

-- If memory ran out or the source failed, some first lines were taken, or not even the outstanding orders were
-- printed.
pub record EndsEarly (start : Start) (script out : List ℕ) (now : Told) : Type 0 where
  pub before : List NumberedLine
  pub first : AreFirst start script before
  pub recovers : Recovers (site_at start before).account now.here
  pub store : now.here.store ≡ (site_at start before).store
  pub text :
      (IsAccount start.account
      × (now.here.out ≡ out ++ (standing_lines start.account ++ outputs start before)))
      ⊎ ((now.here.out ≡ out) × (before ≡ []))

-- If a run ends with an answer, its last line was printed.
pub record EndsSo (start : Start) (script : List ℕ) (exit : Exit) (out : List ℕ) (now : Told) : Type 0 where
  pub before : List NumberedLine
  pub all : AreAll start script exit before
  pub account : IsAccount start.account
  pub recovers : Recovers (site_at start before).account now.here
  pub store : StoreAtEnd start script before exit now.here.store
  pub text : now.here.out ≡ out ++ (standing_lines start.account ++ (outputs start before ++ closing_line (site_at start before).account exit))

abbrev pub EndsIn : Start → List ℕ → Exit → CallEnding → List ℕ → Told → Type 0
EndsIn start script exit answered out now = EndsSo start script exit out now
EndsIn start script exit (faulted kind) out now = ⊤
EndsIn start script exit ending out now = EndsEarly start script out now

abbrev pub RunEnds : Start → List ℕ → Exit → List ℕ → Told → Type 0
RunEnds start script exit out now = EndsIn start script exit (ending_of exit) out now

-- ---- how far the source was read

-- the length of the first of these lines, with its line feed
abbrev pub first_size : List (List ℕ) → ℕ
first_size [] = 0
first_size (line ∷ lines) = length line + 1

-- The first lines of a script were done, and their text is printed after `from`. What was read of the script reaches
-- at most 40,001 bytes past the line after them. If the source failed, these lines have all events whose line feeds
-- were read.
pub record ReadAhead (Fault : Type 0) (start : Start) (script from left : List ℕ) (now : Told) : Type 0 where
  pub done : List (List ℕ)
  pub more : List (List ℕ)
  pub lines : lines_of script ≡ done ++ more
  pub first : AreFirst start script (reads_in done)
  pub text : (part : List ℕ) × (now.here.out ≡ (from ++ outputs start (reads_in done)) ++ part)
  pub bound : length script ≤ length (script_of done) + first_size more + (LONGEST_LINE + 1) + length left
  pub taken : List ℕ
  pub splits : taken ++ left ≡ script
  pub whole : Fault → events_in (ended_lines taken) ≤ events_in done

-- Source and board are modelled at the end, and the first lines were done in this way.
abbrev pub EndsAhead : Type 0 → Start → List ℕ → List ℕ → Option (List ℕ) → Option Told → Type 0
EndsAhead Fault start script from left told =
    IsSomeAnd left (λ rest. IsSomeAnd told (ReadAhead Fault start script from rest))
