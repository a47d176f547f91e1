-- What a run does to the board, as a list of acts, and how many of these were done.
use Rattle.std.specs.List.{AllByRecursion}
use Rattle.std.specs.Prelude.{◌≡◌, ℕ, List, [], ◌∷◌, ◌++◌, Option, None, Some}
use Rattle.board_core.specs.declared.board.DiskCall.{DiskCall}
use Rattle.board_core.specs.Doing.{Act, FailsActs, accesses_of, after_acts, calls_of}
use Rattle.board_core.specs.Told.{Told}
use Rattle.ras_base.specs.Prefix.{IsPrefixOf}
use Rattle.ras_recover.specs.OpeningActs.{AreOpeningActs}
use Rattle.ras_events.specs.Described.{NumberedLine}
use Rattle.ras_run.specs.Sites.{Start, first_site}
use Rattle.ras_run.specs.Places.{Place, event_at, places_from, site_at}
use Rattle.ras_daemon.specs.Script.{reads_of, places_taken}
use Rattle.ras_exit.specs.Acts.{print_acts}
use Rattle.ras_exit.specs.Endings.{CallEnding, answered, faulted}
use Rattle.ras_exit.specs.declared.exit.Exit.{Exit}
use Rattle.ras_run.specs.LineActs.{AreLineActs, CanAsk, HoldsAt, asking_acts}
use Rattle.ras_run.specs.Taking.{IsAccepted}
use Rattle.ras_texts.specs.Orders.{standing_lines}
use Rattle.ras_daemon.specs.RunOutput.{closing_line}
use Rattle.ras_daemon.specs.RunStatus.{run_exit, script_refused}

-- the acts of lines at their places, one line after another, each line over the model after the lines before it
abbrev pub AreAlong : (Place → Told → List Act → Type 0) → List Place → Told → List Act → Type 0
AreAlong Are [] t acts = acts ≡ []
AreAlong Are (place ∷ places) t acts =
    (here : List Act) × (rest : List Act) × (acts ≡ here ++ rest)
    × Are place t here × AreAlong Are places (after_acts here t) rest

abbrev pub AreActsAlong : List Place → Told → List Act → Type 0
AreActsAlong = AreAlong AreLineActs

-- The acts of a line that is done. If the line calls the device, the calls show that the model's device is one.
abbrev pub IsDoneAt : Place → Told → List Act → Type 0
IsDoneAt place t acts = CanAsk (event_at place) t × AreLineActs place t acts

abbrev pub AreDoneAlong : List Place → Told → List Act → Type 0
AreDoneAlong = AreAlong IsDoneAt

-- the print of the outstanding orders at the start, and the print of the last line after these lines
abbrev pub orders_acts : Start → List Act
orders_acts start = print_acts (standing_lines start.account)

abbrev pub last_acts : Start → List NumberedLine → Exit → List Act
last_acts start before exit = print_acts (closing_line (site_at start before).account exit)

-- the acts of the first rejected line, given the model by then: the line asks the record store, if lines of its kind
-- do
abbrev pub refused_acts : Option (Place × Exit) → Told → List Act
refused_acts None t = []
refused_acts (Some (place, why)) t = asking_acts place t

abbrev pub script_asked : Start → List ℕ → Told → List Act
script_asked start script t = refused_acts (script_refused start script) t

-- The acts after the journal is open: the orders are printed, the lines before the first rejected one are processed,
-- the rejected line asks the store, and the last line is printed.
pub record AreScriptActs (start : Start) (script : List ℕ) (t : Told) (acts : List Act) : Type 0 where
  pub along : List Act
  pub lines : AreActsAlong (places_taken start script) (after_acts (orders_acts start) t) along
  pub is :
      acts
      ≡ orders_acts start
      ++ (along
      ++ (script_asked start script (after_acts along (after_acts (orders_acts start) t))
      ++ last_acts start (reads_of script) (run_exit start script)))

-- the acts of a run over a board with this model
pub record AreRunActs (start : Start) (script : List ℕ) (t : Told) (acts : List Act) : Type 0 where
  pub first : List Act
  pub rest : List Act
  pub opens : AreOpeningActs t.here first
  pub takes : AreScriptActs start script (after_acts first t) rest
  pub is : acts ≡ first ++ rest

-- all disk calls of a run
abbrev pub AreRunCalls : Start → List ℕ → Told → List DiskCall → Type 0
AreRunCalls start script t made = (acts : List Act) × AreRunActs start script t acts × (made ≡ calls_of acts)

-- If a run wasn't cut short, all of these acts were done. If a call of the board failed, it is one of these acts: the
-- acts before it were done, and no act after it. Otherwise the first few were done.
abbrev pub DidOf : List Act → CallEnding → Told → Told → Type 0
DidOf acts answered old now = now ≡ after_acts acts old
DidOf acts (faulted kind) old now = FailsActs kind acts old now
DidOf acts ending old now = (done : List Act) × IsPrefixOf done acts × (now ≡ after_acts done old)

-- A run that wasn't cut short took all lines before the first rejected one, over an open journal. Each line was
-- accepted at its place, and if it called the device, its calls showed that the model's device is one.
pub record TookAll (start : Start) (script : List ℕ) (t now : Told) : Type 0 where
  pub before : List NumberedLine
  pub rest : List NumberedLine
  pub splits : before ++ rest ≡ reads_of script
  pub all : places_taken start script ≡ places_from (first_site start) before
  pub accepted : AllByRecursion IsAccepted (places_from (first_site start) before)
  pub along : List Act
  pub lines : AreDoneAlong (places_from (first_site start) before) (after_acts (orders_acts start) t) along
  pub is :
      now
      ≡ after_acts
      (orders_acts start
      ++ (along
      ++ (script_asked start script (after_acts along (after_acts (orders_acts start) t))
      ++ last_acts start (reads_of script) (run_exit start script)))) t

-- Before the lines, the journal was opened and gave the account. So the laws of lines hold of each line.
pub record DidAll (start : Start) (script : List ℕ) (old now : Told) : Type 0 where
  pub first : List Act
  pub opens : AreOpeningActs old.here first
  pub holds : HoldsAt (first_site start) (after_acts first old)
  pub takes : TookAll start script (after_acts first old) now

-- A run did its acts, by how it ended: all of them, or some of the acts of such a run.
abbrev pub DidRun : Start → List ℕ → CallEnding → Told → Told → Type 0
DidRun start script answered old now = DidAll start script old now
DidRun start script ending old now = (acts : List Act) × AreRunActs start script old acts × DidOf acts ending old now

-- the model lists the accesses of the run's acts after the earlier accesses, and no others
pub record ListsAccesses (start : Start) (script : List ℕ) (old now : Told) : Type 0 where
  pub acts : List Act
  pub are : AreRunActs start script old acts
  pub listed : now.accesses ≡ old.accesses ++ accesses_of acts old
