-- What each command prints, and how it may end.
use Rattle.std.specs.Prelude.{◌≡◌, ◌≢◌, ℕ, ◌⊎◌, List, Option, None, Some, IfSome, ⊤}
use Rattle.board_core.specs.Clock.{Adds, Clock}
use Rattle.board_core.specs.Device.{LeavesDevice}
use Rattle.board_core.specs.Told.{Relates, Told}
use Rattle.ras_exit.specs.declared.exit.Exit.{Exit}
use Rattle.ras_exit.specs.declared.exit.Exit.TheVariants.{Done, ErstStatus, NoMemory, PrintFault, Usage}
use Rattle.ras_exit.specs.StopLine.{stop_line}
use Rattle.ras_exit.specs.Telling.{OnlyText, PrintMoment, Tells}
use Rattle.bank_lines.specs.LogFilter.{log_filter}
use Rattle.bank_lines.specs.Filter.{trace_filter}
use Rattle.cper_pcie.specs.Filter.{pcie_filter}
use Rattle.event_lines.specs.Filter.{report_filter}
use Rattle.line_filters.specs.Feeds.{Feeds, IsFeedExit, StopsFeeding}
use Rattle.line_filters.specs.Filters.{Filters, IsFilterExit, OfBoth, StopsFiltering}
use Rattle.log_lines.specs.LogWithDimms.{log_with_dimms}
use Rattle.log_lines.specs.TraceWithDimms.{trace_with_dimms}
use Rattle.bank_lines.specs.Saved.Printing.{IsRecordExit, PrintsText, StopsPrinting}
use Rattle.bank_lines.specs.Saved.Records.{record_output}
use Rattle.ras_klog.specs.Klog.{klog_filter}
use Rattle.ras_daemon.specs.Reporting.{IsReportExit, ReportMoment, Reports, report_output}
use Rattle.ras_daemon.specs.Help.{help_text, version_line}
use Rattle.ras_daemon.specs.Loading.{load_output}
use Rattle.ras_daemon.specs.declared.word.Task.{Task}
use Rattle.ras_daemon.specs.declared.word.Task.TheVariants.{Run, Report, Load, Pcie, Klog, TraceFeed, LogFeed, TraceLines, KlogLines, GhesLines, MceLine, Help, Version}

-- A command that only prints ends with this exit and this text. Nothing else in the model changes.
pub record OnlyTells (exit : Exit) (text : List ℕ) (result : Exit) (before now : Told) : Type 0 where
  pub tells : Tells exit text result before now
  pub only : OnlyText before now

-- What a command other than a run does, and what a crash of the machine at any point of it leaves. The
-- command leaves the device alone.
pub record Leaves (Tells Stops : Type 0) (before now : Option Told) (old new : Clock) : Type 0 where
  pub tells : Tells
  pub stops : Stops
  pub device : LeavesDevice before now old new

-- What a command does, given what was left of its source and what the board's model said, before and now; and what a
-- crash leaves: only a beginning of the command's text is new. Runs have separate clauses. Unrecognized arguments
-- print the usage line.
abbrev pub ByTask : Exit → Option Task
    → Option (List ℕ) → Option (List ℕ) → Option Told → Option Told → Clock → Clock → Type 0
ByTask exit None script left before now old new =
    Leaves (Relates (OnlyTells Usage (stop_line Usage) exit) before now)
    (Adds (PrintMoment old (stop_line Usage)) old new) before now old new
ByTask exit (Some Run) script left before now old new = ⊤
ByTask exit (Some (Report listing)) script left before now old new =
    Leaves (Relates (Reports listing exit) before now)
    (IfSome before (λ t. Adds (ReportMoment old (report_output listing t.here) t.here) old new)) before now old new
ByTask exit (Some (Load n)) script left before now old new =
    Leaves (Relates (OnlyTells Done (load_output n) exit) before now)
    (Adds (PrintMoment old (load_output n)) old new) before now old new
ByTask exit (Some Pcie) script left before now old new =
    Leaves (OfBoth (Filters pcie_filter exit) script left before now)
    (StopsFiltering pcie_filter script before old new) before now old new
ByTask exit (Some (Klog boot cap)) script left before now old new =
    Leaves (OfBoth (Filters (klog_filter boot cap) exit) script left before now)
    (StopsFiltering (klog_filter boot cap) script before old new) before now old new
ByTask exit (Some (TraceFeed boot cap began drivers)) script left before now old new =
    Leaves (OfBoth (Feeds (trace_with_dimms boot cap began drivers) exit) script left before now)
    (StopsFeeding (trace_with_dimms boot cap began drivers) script before old new) before now old new
ByTask exit (Some (LogFeed boot cap began borders)) script left before now old new =
    Leaves (OfBoth (Feeds (log_with_dimms boot cap began borders) exit) script left before now)
    (StopsFeeding (log_with_dimms boot cap began borders) script before old new) before now old new
ByTask exit (Some (TraceLines boot)) script left before now old new =
    Leaves (OfBoth (Filters (trace_filter boot) exit) script left before now)
    (StopsFiltering (trace_filter boot) script before old new) before now old new
ByTask exit (Some (KlogLines boot cap)) script left before now old new =
    Leaves (OfBoth (Filters (log_filter boot cap) exit) script left before now)
    (StopsFiltering (log_filter boot cap) script before old new) before now old new
ByTask exit (Some (GhesLines boot began)) script left before now old new =
    Leaves (OfBoth (Filters (report_filter boot began) exit) script left before now)
    (StopsFiltering (report_filter boot began) script before old new) before now old new
ByTask exit (Some (MceLine boot)) script left before now old new =
    Leaves (IfSome script (λ input. Relates (PrintsText (record_output boot input) exit) before now))
    (StopsPrinting boot script old new) before now old new
ByTask exit (Some Help) script left before now old new =
    Leaves (Relates (OnlyTells Done help_text exit) before now)
    (Adds (PrintMoment old help_text) old new) before now old new
ByTask exit (Some Version) script left before now old new =
    Leaves (Relates (OnlyTells Done version_line exit) before now)
    (Adds (PrintMoment old version_line) old new) before now old new

-- how a run over a made-up script may end
abbrev pub IsLoadExit : Exit → Type 0
IsLoadExit exit = (exit ≡ Done) ⊎ ((exit ≡ PrintFault) ⊎ (exit ≡ NoMemory))

-- how a run may end: never with the usage line, and with a status of its device only if that isn't 0
abbrev pub IsRunExit : Exit → Type 0
IsRunExit Usage = ⊥
IsRunExit (ErstStatus code) = code ≢ 0
IsRunExit exit = ⊤

-- how a command may end, over every source and board
abbrev pub MayEnd : Option Task → Exit → Type 0
MayEnd None exit = (exit ≡ Usage) ⊎ (exit ≡ PrintFault)
MayEnd (Some Run) exit = IsRunExit exit
MayEnd (Some (Report listing)) exit = IsReportExit exit
MayEnd (Some (Load n)) exit = IsLoadExit exit
MayEnd (Some Pcie) exit = IsFilterExit exit
MayEnd (Some (Klog boot cap)) exit = IsFilterExit exit
MayEnd (Some (TraceFeed boot cap began drivers)) exit = IsFeedExit exit
MayEnd (Some (LogFeed boot cap began borders)) exit = IsFeedExit exit
MayEnd (Some (TraceLines boot)) exit = IsFilterExit exit
MayEnd (Some (KlogLines boot cap)) exit = IsFilterExit exit
MayEnd (Some (GhesLines boot began)) exit = IsFilterExit exit
MayEnd (Some (MceLine boot)) exit = IsRecordExit exit
MayEnd (Some Help) exit = (exit ≡ Done) ⊎ (exit ≡ PrintFault)
MayEnd (Some Version) exit = (exit ≡ Done) ⊎ (exit ≡ PrintFault)
