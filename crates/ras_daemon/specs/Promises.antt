-- What `rasd` promises about a run, about a run over files that are damaged or too long, and about faults: one record
-- for each clause.
use Rattle.std.specs.Prelude.{◌≡◌, ℕ, ◌≤◌, ◌⊎◌, List, ◌++◌, Option, Some, IfSome, IsSomeAnd, ⊤}
use Rattle.board_core.specs.declared.board.DiskCall.{DiskCall}
use Rattle.board_core.specs.Cause.{Faults, Kind, Rose, count_of}
use Rattle.board_core.specs.Clock.{Adds, Always, Clock, LeftNow}
use Rattle.board_core.specs.Doing.{Seen}
use Rattle.board_core.specs.Device.{LeavesDevice}
use Rattle.board_core.specs.Told.{Told}
use Rattle.ras_journal.specs.Recovered.{HasFewLinks}
use Rattle.ras_recover.specs.DiskCalls.{IsBeginning, Makes}
use Rattle.ras_recover.specs.OpeningCalls.{IsOpening, IsRecovery}
use Rattle.ras_exit.specs.Causes.{BoardCause, SourceCause}
use Rattle.ras_exit.specs.Endings.{OnAnswer, OnWhole, ending_of}
use Rattle.ras_exit.specs.StopLine.{stop_line}
use Rattle.ras_exit.specs.Telling.{PrintsPart, Tells}
use Rattle.ras_exit.specs.declared.exit.Exit.{Exit}
use Rattle.ras_exit.specs.declared.exit.Exit.TheVariants.{DiskFault, NoMemory, PrintFault}
use Rattle.ras_daemon.specs.Reporting.{ReportMoment}
use Rattle.ras_run.specs.Files.{KeepsFiles, files_refusal}
use Rattle.ras_run.specs.Sites.{Start}
use Rattle.ras_texts.specs.Orders.{standing_lines}
use Rattle.ras_daemon.specs.Ahead.{TakesAhead}
use Rattle.ras_daemon.specs.Headline.{Headline, IsWhole, NeverOpens, Settles, StopsRecover}
use Rattle.ras_daemon.specs.RunActs.{DidRun}
use Rattle.ras_daemon.specs.RunOf.{run_of}
use Rattle.ras_daemon.specs.RunOutput.{run_output}
use Rattle.ras_daemon.specs.RunStatus.{run_exit}
use Rattle.ras_daemon.specs.declared.word.Task.{Task}
use Rattle.ras_daemon.specs.declared.word.Task.TheVariants.{Run}

-- ---- a run over files that give an account

-- The journal was opened before anything else: all disk calls of an opening were made first, and the
-- outstanding orders were printed before any other text.
pub record HasOpened (start : Start) (before now : Told) : Type 0 where
  pub opening : List DiskCall
  pub are : IsOpening before.here opening
  pub later : List DiskCall
  pub listed : now.disk_calls ≡ before.disk_calls ++ (opening ++ later)
  pub more : List ℕ
  pub ordered : now.here.out ≡ before.here.out ++ (standing_lines start.account ++ more)

-- What a run does, over a board whose model said `before` at the run's start and says `now` at its end; `left`
-- remains of the script. `Same` says that the source is unchanged.
pub record Ran (exit : Exit) (Same : Type 0) (start : Start) (script : List ℕ) (before : Told) (left : List ℕ) (now : Told) : Type 0 where
  -- The exit and the printed text are functions of the script, the account, the record store and the
  -- journal's position at the start, and of how slow the store's device is. A fault or lack of memory cuts
  -- the text short.
  pub status : OnAnswer exit (exit ≡ run_exit start script)
  pub output : OnAnswer exit (now.here.out ≡ before.here.out ++ run_output start script)
  pub begun : PrintsPart (run_output start script) before.here.out now.here.out
  -- Unless a call of the board failed, only whole events were done.
  pub whole : OnWhole exit (IsWhole (run_of start script) exit before now)
  -- The run's acts were done in this order: the opening; the print of the outstanding orders; the acts of each line
  -- before the first rejected one; the acts by which the rejected line asks the record store, if lines of its kind
  -- do; the print of the last line. If no fault or lack of memory cut the run short, all were done and each of these
  -- lines was accepted. If a call of the board failed, it is one of these acts. Otherwise the first few were done.
  pub acts : DidRun start script (ending_of exit) before now
  -- No more was taken of the source than needed: at most 40,001 bytes past the first event that isn't done.
  -- If the source failed, every event whose whole line was taken is done.
  pub ahead : TakesAhead exit script left before now
  -- The source was read only once the journal was open and its orders were printed.
  pub opened : Same ⊎ HasOpened start before now

-- What crashes of the machine leave of a run, from the old board to the new one, both modelled and with a
-- clock.
pub record RunStops {X : Type 0} (see : X → Seen) (exit : Exit) (Same : Type 0) (start : Start) (script : List ℕ) (t : Told) (old new : X) : Type 0 where
  -- The number of calls never falls. So what the board's model says at the end is among what a crash since
  -- the start may leave.
  pub later : (see old).clock.now ≤ (see new).clock.now
  -- If a crash at the start leaves this account and this record store, a crash at any point leaves the account at the
  -- start and a beginning of what this run reports, with each event that is done by what was printed. Of the record
  -- store it leaves what these events left, or a state while the next event changes the store.
  pub once : StopsRecover start (see old).clock → Always (see new).clock (see old).clock.now (Headline (run_of start script) t.here)
  -- Without that premise, the headline holds from the point at which both syncs of the journal's opening had returned
  -- `Ok`. If the journal was never open, the source is left alone.
  pub settled : Settles see start script t old new ⊎ NeverOpens see exit Same start t old new
  -- If no file at the start has more than 256 links, neither has any file that a crash leaves, except for
  -- what a crash at the start may have left.
  pub few : HasFewLinks t.here → Always (see new).clock (see old).clock.now (λ left. LeftNow (see old).clock left ⊎ HasFewLinks left)

-- Source and board are modelled at the end, and `P` holds of them.
abbrev pub StillTell : (List ℕ → Told → Type 0) → Option (List ℕ) → Option Told → Type 0
StillTell P left now = IsSomeAnd left (λ rest. IsSomeAnd now (P rest))

-- ---- a run over files that are damaged or too long

-- The run ends for this reason, or with a fault of the disk or of a print, or because memory ran out.
abbrev pub EndsRefused : Exit → Exit → Type 0
EndsRefused why exit = (exit ≡ why) ⊎ ((exit ≡ DiskFault) ⊎ ((exit ≡ PrintFault) ⊎ (exit ≡ NoMemory)))

-- The run reports the reason, and leaves the files as they were.
pub record Refuses (exit : Exit) (Same : Type 0) (old new : Clock) (why : Exit) (before now : Told) : Type 0 where
  pub ends : EndsRefused why exit
  pub tells : Tells why (stop_line why) exit before now
  pub files : KeepsFiles before now
  -- A crash at any point leaves what a crash at the start may have left, or everything as the model said at the
  -- start, with a beginning of the `stop` line printed.
  pub stops : Adds (ReportMoment old (stop_line why) before.here) old new
  -- The disk calls are the calls of a recovery, or the first few of them.
  pub calls : Makes (IsBeginning IsRecovery) before now
  pub device : LeavesDevice (Some before) (Some now) old new
  -- The source is left alone.
  pub unread : Same

-- `P` holds, provided that the arguments ask for a run, the board is modelled, and its files are damaged or too long.
abbrev pub OverRefused : (Exit → Told → Told → Type 0) → Option Task → Option Told → Option Told → Type 0
OverRefused P (Some Run) (Some before) now = IfSome (files_refusal before.here) (λ why. IsSomeAnd now (P why before))
OverRefused P task before now = ⊤

-- ---- every call, over every source and board

-- If a count of faults rose, the exit is that fault, and every other count is unchanged.
pub record Caused (exit : Exit) (count count' : ℕ) (faults faults' : Faults) : Type 0 where
  pub source : SourceCause exit count count'
  pub board : BoardCause exit faults faults'

-- a source's count of faults didn't rise
abbrev pub IsQuiet : ℕ → ℕ → Type 0
IsQuiet before now = ¬ Rose before now

-- no count of a board's faults rose
abbrev pub IsQuietBoard : Faults → Faults → Type 0
IsQuietBoard before now = (kind : Kind) → IsQuiet (count_of kind before) (count_of kind now)
