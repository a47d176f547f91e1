-- Which acts the parts of a run did, given how they ended.
use Rattle.std.specs.Prelude.{◌≡◌, ◌≢◌, ℕ, ◌⊎◌, ⊤, List, [], ◌∷◌, ◌++◌, IfErr, IsSomeAnd, Option, Result, Ok, Err}
use Rattle.board_core.specs.Cause.{Faults, disk_call, print_call}
use Rattle.board_core.specs.Clock.{Adds, Rests}
use Rattle.board_core.specs.Doing.{Act, Breaks, GoesWell, Seen, after_acts}
use Rattle.board_core.specs.Told.{Told}
use Rattle.ras_recover.specs.Opening.{Opening, OpeningSynced}
use Rattle.ras_recover.specs.OpeningActs.{LeavesUnopened}
use Rattle.ras_recover.specs.OpeningCalls.{AfterOpening, MakesOpening}
use Rattle.ras_recover.specs.Recovering.{MaySync, SyncsFirst}
use Rattle.ras_events.specs.Described.{NumberedLine}
use Rattle.ras_run.specs.Sites.{IsRunAt, Start, first_site}
use Rattle.ras_run.specs.Places.{event_at, places_from, site_at}
use Rattle.ras_daemon.specs.Script.{reads_of, places_taken}
use Rattle.ras_exit.specs.Acts.{AreStill, ended_with, print_acts}
use Rattle.ras_exit.specs.Causes.{BoardCause, Causes, SourceCause}
use Rattle.ras_exit.specs.Endings.{CallEnding, EndsBy, IsAnswer, IsCut, IsLineExit, OnlyFault, answered, ending_of, faulted}
use Rattle.ras_exit.specs.ScriptEnd.{script_exit}
use Rattle.ras_exit.specs.declared.exit.Exit.{Exit}
use Rattle.ras_exit.specs.declared.exit.Exit.TheVariants.{DiskFault, Done, ErstBusy, NoMemory, PrintFault, SourceFault}
use Rattle.ras_run.specs.declared.run.Run.{Run}
use Rattle.ras_run.specs.LineActs.{CanAsk, HoldsAt, asking_acts}
use Rattle.ras_daemon.specs.RunActs.{AreActsAlong, AreDoneAlong, AreScriptActs, last_acts, orders_acts, script_asked}
use Rattle.ras_daemon.specs.Steps.Running.{AreAll, AreFirst, EndsAhead, lines_from}

-- After these acts a line only read, perhaps nothing, and then memory ran out or the source failed. With what the
-- line did they are the first of all acts that `Are` describes.
pub record DoesPart {X : Type 0} (see : X → Seen) (Are : List Act → Type 0) (t : Told) (acts : List Act) (old new : X) : Type 0 where
  pub done : List Act
  pub later : List Act
  pub are : Are ((acts ++ done) ++ later)
  pub still : AreStill done (after_acts acts t)
  pub does : GoesWell (acts ++ done) (see old) (see new)

abbrev pub DoesFirst : {X : Type 0} → (X → Seen) → (List Act → Type 0) → Told → List Act → CallEnding → X → X → Type 0
DoesFirst see Are t acts answered old new = GoesWell acts (see old) (see new)
DoesFirst see Are t acts (faulted kind) old new = Breaks kind acts (see old) (see new)
DoesFirst see Are t acts ending old new = DoesPart see Are t acts old new

-- ---- lines

-- the acts of all lines, up to the first rejected one
pub record AreLinesActs (start : Start) (script : List ℕ) (t : Told) (acts : List Act) : Type 0 where
  pub along : List Act
  pub lines : AreActsAlong (places_taken start script) t along
  pub is : acts ≡ along ++ script_asked start script (after_acts along t)

-- What the record store was asked after these lines: nothing, or what the next line asks, given the model by then.
pub record IsAsked (start : Start) (script : List ℕ) (before : List NumberedLine) (t : Told) (asked : List Act) : Type 0 where
  pub read : NumberedLine
  pub rest : List NumberedLine
  pub splits : before ++ read ∷ rest ≡ reads_of script
  pub can : CanAsk (event_at (site_at start before, read)) t
  pub is : asked ≡ asking_acts (site_at start before, read) t

abbrev pub MayAsk : Start → List ℕ → List NumberedLine → Told → List Act → Type 0
MayAsk start script before t asked = (asked ≡ []) ⊎ IsAsked start script before t asked

-- These lines are all that a run takes: the next line asks and is rejected, or there is no next line.
pub record AreAllAsked (start : Start) (script : List ℕ) (exit : Exit) (before : List NumberedLine) (t : Told) (asked : List Act) : Type 0 where
  pub all : AreAll start script exit before
  pub is : asked ≡ script_asked start script t
  pub ends : ((exit ≡ script_exit script) × (asked ≡ [])) ⊎ IsAsked start script before t asked

-- If a run ends with an answer among its lines, these lines are all that it takes. If memory ran out there, or the
-- source failed, nothing was asked after these lines.
abbrev pub AsksBy : Start → List ℕ → List NumberedLine → Told → List Act → Exit → CallEnding → Type 0
AsksBy start script before t asked exit answered = AreAllAsked start script exit before t asked
AsksBy start script before t asked exit (faulted kind) = ⊤
AsksBy start script before t asked exit ending = asked ≡ []

abbrev pub EndsBehind : Start → List ℕ → List NumberedLine → Told → List Act → Result (Unit {0}) Exit → Run → Type 0
EndsBehind start script before t asked (Ok done) run = AreAllAsked start script Done before t asked × IsRunAt (site_at start before) run
EndsBehind start script before t asked (Err exit) run = AsksBy start script before t asked exit (ending_of exit)

-- The first lines of a script did their acts, or the last of these lines was cut short.
pub record DoesLines {X : Type 0} (see : X → Seen) (start : Start) (script : List ℕ) (t : Told) (result : Result (Unit {0}) Exit) (run : Run) (old new : X) : Type 0 where
  pub before : List NumberedLine
  pub first : AreFirst start script before
  pub acts : List Act
  pub along : AreDoneAlong (places_from (first_site start) before) t acts
  pub asked : List Act
  pub asks : MayAsk start script before (after_acts acts t) asked
  pub does : DoesFirst see (AreLinesActs start script t) t (acts ++ asked) (ended_with result) old new
  pub ends : EndsBehind start script before (after_acts acts t) asked result run

-- The lines did that, and the source was read no further than they need.
pub record ComesLines {X : Type 0} (see : X → Seen) (start : Start) (script : List ℕ) (t : Told) (result : Result (Unit {0}) Exit) (run : Run) (left : Option (List ℕ)) (old new : X) : Type 0 where
  pub does : DoesLines see start script t result run old new
  pub ahead : EndsAhead (result ≡ Err SourceFault) start script t.here.out left (see new).told

-- how the lines end, and why
pub record EndsLines (result : Result (Unit {0}) Exit) (count count' : ℕ) (faults faults' : Faults) : Type 0 where
  pub stop : IfErr result IsLineExit
  pub source : Causes SourceCause result count count'
  pub board : Causes BoardCause result faults faults'

-- ---- the last line

-- A last line was printed, or printing it failed, or memory ran out before it. The last line for a device that was
-- busy for too long allocates nothing.
abbrev pub Says : {X : Type 0} → (X → Seen) → Exit → Exit → List ℕ → X → X → Type 0
Says see exit result line old new =
    ((result ≡ exit) × GoesWell (print_acts line) (see old) (see new))
    ⊎ (((result ≡ PrintFault) × Breaks print_call (print_acts line) (see old) (see new))
    ⊎ ((result ≡ NoMemory) × (new ≡ old) × (exit ≢ ErstBusy)))

-- A run that is to end with `exit` prints its last line, or was cut short and prints no last line.
abbrev pub Ends : {X : Type 0} → (X → Seen) → Exit → Exit → List ℕ → X → X → Type 0
Ends see exit result line old new =
    (IsAnswer exit × Says see exit result line old new) ⊎ (IsCut exit × (result ≡ exit) × (new ≡ old))

-- ---- a script, over a journal that was opened

-- What was asked after these lines left the record store unchanged: nothing was asked, or the asking line was
-- rejected, though not because the device was busy for too long.
abbrev pub KeepsStore : Start → List ℕ → List NumberedLine → Told → List Act → Type 0
KeepsStore start script before t asked =
    (asked ≡ []) ⊎ ((end : Exit) × AreAllAsked start script end before t asked × (end ≢ ErstBusy))

-- What is printed after these lines: the last line, if the run got that far.
abbrev pub IsLastBy : Start → List ℕ → List NumberedLine → Told → List Act → Exit → CallEnding → List Act → Type 0
IsLastBy start script before t asked exit answered last =
    AreAllAsked start script exit before t asked × (last ≡ last_acts start before exit)
IsLastBy start script before t asked exit (faulted kind) last =
    (last ≡ []) ⊎ ((end : Exit) × AreAllAsked start script end before t asked × (last ≡ last_acts start before end))
IsLastBy start script before t asked exit ending last = (last ≡ []) × KeepsStore start script before t asked

-- The orders at the start were printed, then lines did their acts, and then the last line was printed, as far as the
-- run got.
pub record DoesScript {X : Type 0} (see : X → Seen) (start : Start) (script : List ℕ) (t : Told) (exit : Exit) (old new : X) : Type 0 where
  pub before : List NumberedLine
  pub first : AreFirst start script before
  pub along : List Act
  pub lines : AreDoneAlong (places_from (first_site start) before) (after_acts (orders_acts start) t) along
  pub asked : List Act
  pub asks : MayAsk start script before (after_acts along (after_acts (orders_acts start) t)) asked
  pub last : List Act
  pub ends : IsLastBy start script before (after_acts along (after_acts (orders_acts start) t)) asked exit (ending_of exit) last
  pub does : DoesFirst see (AreScriptActs start script t) t (orders_acts start ++ (along ++ (asked ++ last))) (ending_of exit) old new

-- Memory ran out before all acts, or the script did its acts.
abbrev pub TakesScript : {X : Type 0} → (X → Seen) → Start → List ℕ → Told → Exit → X → X → Type 0
TakesScript see start script t exit old new = ((exit ≡ NoMemory) × (new ≡ old)) ⊎ DoesScript see start script t exit old new

-- The script did that, and its source was left alone, or lines were read from it after the orders.
pub record ComesScript {X : Type 0} (see : X → Seen) (Same : Type 0) (start : Start) (script : List ℕ) (t : Told) (exit : Exit) (left : Option (List ℕ)) (old new : X) : Type 0 where
  pub does : TakesScript see start script t exit old new
  pub reads : Same ⊎ EndsAhead (exit ≡ SourceFault) start script (lines_from start t.here.out) left (see new).told

-- ---- a run over files that give an account

-- The journal wasn't opened: a disk call failed, or memory ran out.
pub record DoesNotOpen {X : Type 0} (see : X → Seen) (exit : Exit) (t : Told) (old new : X) : Type 0 where
  pub cut : EndsBy ⊥ (Unit {0}) (OnlyFault disk_call) (ending_of exit)
  pub told : IsSomeAnd (see new).told (AfterOpening t)
  pub unopened : IsSomeAnd (see new).told (LeavesUnopened (exit ≡ DiskFault) t)
  pub stops : Adds (Opening (see old).clock t.here) (see old).clock (see new).clock
  pub syncs : MaySync see (OpeningSynced t.here) t old new

-- The journal was opened, and then the script was processed.
pub record Opens {X : Type 0} (see : X → Seen) (start : Start) (script : List ℕ) (exit : Exit) (t : Told) (old new : X) : Type 0 where
  pub mid : X
  pub there : Told
  pub makes : MakesOpening t there
  pub text : there.here.out ≡ t.here.out
  pub stops : Adds (Opening (see old).clock t.here) (see old).clock (see mid).clock
  pub syncs : SyncsFirst see (OpeningSynced t.here) t old mid
  pub rests : Rests there (see mid).told (see mid).clock
  pub holds : HoldsAt (first_site start) there
  pub takes : TakesScript see start script there exit mid new

abbrev pub DoesRun : {X : Type 0} → (X → Seen) → Start → List ℕ → Exit → Told → X → X → Type 0
DoesRun see start script exit t old new = DoesNotOpen see exit t old new ⊎ Opens see start script exit t old new

-- The run did that, and its source was left alone, or the journal was opened and lines were read.
pub record Comes {X : Type 0} (see : X → Seen) (Same : Type 0) (start : Start) (script : List ℕ) (exit : Exit) (t : Told) (left : Option (List ℕ)) (old new : X) : Type 0 where
  pub does : DoesRun see start script exit t old new
  pub reads :
      Same
      ⊎ (Opens see start script exit t old new
      × EndsAhead (exit ≡ SourceFault) start script (lines_from start t.here.out) left (see new).told)
