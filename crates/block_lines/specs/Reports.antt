-- A report while its lines are read, and what a line changes.
use Rattle.std.specs.Prelude.{ℕ, ◌+◌, ◌-◌, ◌≤◌, ◌==◌, ◌&&◌, ◌||◌, Bool, true, false, not, List, [], ◌∷◌, ◌++◌, length, nat_lt, Option, None, Some, unwrap_or, if◌then◌else◌}
use Rattle.std.specs.Option.{option_map_or}
use Rattle.bank_lines.specs.declared.log_line.TheConstants.{LAST_SECOND}
use Rattle.block_lines.specs.Sources.{sources_with}
use Rattle.block_lines.specs.declared.log_line.ReportLogLine.{ReportLogLine}
use Rattle.block_lines.specs.declared.log_line.Marking.{Marking}
use Rattle.block_lines.specs.declared.log_line.Marking.TheVariants.{Unmarked, Foreign, Own}
use Rattle.block_lines.specs.declared.memory.MemoryError.{MemoryError}
use Rattle.block_lines.specs.declared.memory.MemoryField.{MemoryField}
use Rattle.block_lines.specs.declared.memory.MemoryField.TheVariants.{Physical, Mask, At, Kind}
use Rattle.block_lines.specs.declared.report.Remark.{Remark}
use Rattle.block_lines.specs.declared.report.Remark.TheVariants as remarks
use Rattle.block_lines.specs.declared.report.OpenReport.{OpenReport}
use Rattle.block_lines.specs.declared.report.OpenSection.{OpenSection}
use Rattle.block_lines.specs.declared.report.OpenSection.TheVariants.{Absent, Begun, Memory, LeftOut}
use Rattle.block_lines.specs.declared.report.TheConstants.{LONGEST_PAUSE, MOST_ERRORS}
use Rattle.block_lines.specs.declared.report_line.ReportLine.{ReportLine}
use Rattle.block_lines.specs.declared.report_line.ReportLine.TheVariants as lines
use Rattle.block_lines.specs.declared.sources.TheConstants.{MOST_SOURCES}

-- ---- a section

-- an error of which only the severity is known
abbrev pub blank_error : ℕ → MemoryError
blank_error severity = record {
  severity = severity;
  physical = None;
  mask = None;
  location = record { node = None; card = None; «module» = None };
  kind = None;
}

abbrev pub error_with : MemoryError → MemoryField → MemoryError
error_with error (Physical address) = record error { physical = Some address }
error_with error (Mask mask) = record error { mask = Some mask }
error_with error (At location) = record error { location = location }
error_with error (Kind kind) = record error { kind = Some kind }

abbrev pub section_with : OpenSection → MemoryField → OpenSection
section_with (Memory error) field = Memory (error_with error field)
section_with section field = section

-- the error of a section that ends
abbrev pub section_errors : OpenSection → List MemoryError
section_errors (Memory error) = error ∷ []
section_errors section = []

-- the severity of the section whose type comes now, in a report of this severity: without a line ` Error` of its own, which
-- got lost, a section has the report's
abbrev pub typed_severity : ℕ → OpenSection → ℕ
typed_severity severity (Begun own) = own
typed_severity severity section = severity

-- the section about memory that begins after this one, if this many errors ended before: a report stores at most 12
abbrev pub typed_section : ℕ → ℕ → OpenSection → OpenSection
typed_section count severity section =
    if nat_lt (count + length (section_errors section)) MOST_ERRORS
    then Memory (blank_error (typed_severity severity section)) else LeftOut

-- the section after a line of its report, which has this severity, and of which this many errors ended before
abbrev pub section_after : ℕ → ℕ → OpenSection → ReportLine → OpenSection
section_after count severity section (lines.Error own) = Begun own
section_after count severity section lines.MemoryType = typed_section count severity section
section_after count severity section lines.OtherType = LeftOut
section_after count severity section (lines.Field (Some field)) = section_with section field
section_after count severity section line = section

-- whether a section ends before its type is known, or no section began
abbrev pub ends_early : OpenSection → Bool
ends_early Absent = true
ends_early (Begun severity) = true
ends_early section = false

-- ---- a report

abbrev pub severity_after : ℕ → ReportLine → ℕ
severity_after severity (lines.Event told) = told
severity_after severity line = severity

-- a report after one of its lines, with this time stamp, if this many of its errors ended before
abbrev pub report_after : ℕ → OpenReport → Option ℕ → ReportLine → OpenReport
report_after count report stamp line = record report {
  last = unwrap_or stamp report.last;
  severity = severity_after report.severity line;
  section = section_after count report.severity report.section line;
}

-- the errors that ended with a line: a type ends the section before it too, if the line ` Error` between them got lost
abbrev pub errors_after : List MemoryError → OpenSection → ReportLine → List MemoryError
errors_after errors section (lines.Error severity) = errors ++ section_errors section
errors_after errors section lines.MemoryType = errors ++ section_errors section
errors_after errors section lines.OtherType = errors ++ section_errors section
errors_after errors section line = errors

-- A report after its first line. As long as no line says its severity, the severity is 3.
abbrev pub report_from : ℕ → ℕ → ℕ → OpenReport
report_from number source stamp = record {
  number = number;
  source = source;
  begun = stamp;
  last = stamp;
  severity = 3;
  section = Absent;
}

-- ---- where a report ends

-- Another line may come among a report's lines, but not more than a tenth of a second later.
abbrev pub is_late : OpenReport → Option ℕ → Bool
is_late report None = false
is_late report (Some stamp) = nat_lt LONGEST_PAUSE (stamp - report.last)

abbrev pub is_start : ReportLine → Bool
is_start (lines.Start source) = true
is_start line = false

-- a line ends the report before it; among lines with the report's number, only a line that begins a report does
abbrev pub is_ended_by : OpenReport → Option ℕ → Marking → Bool
is_ended_by report stamp (Own own) = not (own.report == report.number) || is_start own.line
is_ended_by report stamp marking = is_late report stamp

-- ---- what a trace has too

-- whether a trace that has the firmware's memory errors from this time stamp on has a report too: by a fatal one the
-- kernel crashes, so no trace is kept of it
abbrev pub left_to_trace : Option ℕ → OpenReport → Bool
left_to_trace None report = false
left_to_trace (Some border) report = not (nat_lt report.begun border) && not (report.severity == 1)

-- ---- what is printed about a line

-- the remark about a line that begins a section, if the section before it is cut
abbrev pub begun_remark : ℕ → ℕ → OpenSection → Remark
begun_remark source begun (Begun severity) = remarks.Partial source begun
begun_remark source begun section = remarks.Nothing

-- the remark about a line that says that a section is about memory: without a line ` Error` before it the severity
-- isn't known
abbrev pub type_remark : ℕ → OpenSection → Remark
type_remark count (Begun severity) =
    if nat_lt count MOST_ERRORS then remarks.Nothing else remarks.LeftOut
type_remark count section = remarks.Unread

-- the remark about a field that can't be read; sections that no block gets have fields of these names too
abbrev pub field_remark : OpenSection → Remark
field_remark (Memory error) = remarks.Unread
field_remark section = remarks.Nothing

abbrev pub remark_in : ℕ → OpenReport → ReportLine → Remark
remark_in count report (lines.Error severity) = begun_remark report.source report.begun report.section
remark_in count report lines.MemoryType = type_remark count report.section
remark_in count report lines.OtherType = remarks.LeftOut
remark_in count report (lines.Field None) = field_remark report.section
remark_in count report lines.Unread = remarks.Unread
remark_in count report line = remarks.Nothing

-- ---- the state of a filter

-- the boot and the second at which it began; the open report and its errors whose sections ended; and the
-- sources of the table printed last
pub record Reporting : Type 0 where
  pub boot : ℕ
  pub began : ℕ
  pub work : Option OpenReport
  pub errors : List MemoryError
  pub sources : List ℕ

abbrev pub no_reports : ℕ → ℕ → Reporting
no_reports boot began =
    record { boot = boot; began = began; work = None; errors = []; sources = [] }

-- a report that begins; without a time stamp it has no name
abbrev pub begun_work : ℕ → ℕ → Option ℕ → Option OpenReport
begun_work number source None = None
begun_work number source (Some stamp) = Some (report_from number source stamp)

abbrev pub begun_at : Reporting → ℕ → ℕ → Option ℕ → Reporting
begun_at r number source stamp = record r { work = begun_work number source stamp; errors = [] }

-- the state after a line that begins no report, whether one is open or not
abbrev pub gone_on : Reporting → Option OpenReport → Option ℕ → ReportLine → Reporting
gone_on r None stamp line = r
gone_on r (Some report) stamp line = record r {
  work = Some (report_after (length r.errors) report stamp line);
  errors = errors_after r.errors report.section line;
}

-- the state after a line that the kernel itself printed
abbrev pub own_taken : Reporting → ℕ → Option ℕ → ReportLine → Reporting
own_taken r number stamp (lines.Start source) = begun_at r number source stamp
own_taken r number stamp line = gone_on r r.work stamp line

-- the state after any line
abbrev pub marking_taken : Reporting → Option ℕ → Marking → Reporting
marking_taken r stamp (Own own) = own_taken r own.report stamp own.line
marking_taken r stamp marking = r

abbrev pub line_taken : Reporting → ReportLogLine → Reporting
line_taken r line = marking_taken r line.stamp line.marking

-- the remark about a line that begins a report: without a time stamp the line can't begin one
abbrev pub start_remark : Option ℕ → Remark
start_remark None = remarks.Unread
start_remark (Some stamp) = remarks.Nothing

-- the remark about any other line, whether a report is open or not
abbrev pub going_remark : ℕ → Option OpenReport → ReportLine → Remark
going_remark count None line = remarks.Unread
going_remark count (Some report) line = remark_in count report line

-- the remark about a line that the kernel itself printed
abbrev pub own_remark : Reporting → Option ℕ → ReportLine → Remark
own_remark r stamp (lines.Start source) = start_remark stamp
own_remark r stamp line = going_remark (length r.errors) r.work line

-- the remark about any line
abbrev pub marking_remark : Reporting → Option ℕ → Marking → Remark
marking_remark r stamp (Own own) = own_remark r stamp own.line
marking_remark r stamp Foreign = remarks.Unread
marking_remark r stamp Unmarked = remarks.Nothing

abbrev pub line_remark : Reporting → ReportLogLine → Remark
line_remark r line = marking_remark r line.stamp line.marking

-- ---- the end of a report

abbrev pub has_error : List MemoryError → OpenSection → Bool
has_error errors (Memory error) = true
has_error errors section = not (length errors == 0)

abbrev pub sources_after : Reporting → OpenReport → List ℕ
sources_after r report =
    if has_error r.errors report.section then sources_with r.sources report.source else r.sources

abbrev pub after_report : Reporting → Option OpenReport → Reporting
after_report r None = r
after_report r (Some report) =
    record r { work = None; errors = []; sources = sources_after r report }

-- the state after a block of this source that no line of a report gives: the open report stays
abbrev pub with_source : Reporting → ℕ → Reporting
with_source r source = record r { sources = sources_with r.sources source }

-- without the last table: the next block brings a table of its own source
abbrev pub without_sources : Reporting → Reporting
without_sources r = record r { sources = [] }

-- whether a line ends the open report, if there is one
abbrev pub is_end : Reporting → ReportLogLine → Bool
is_end r line = option_map_or (λ report. is_ended_by report line.stamp line.marking) r.work false

abbrev pub ended_at : Reporting → ReportLogLine → Reporting
ended_at r line = if is_end r line then after_report r r.work else r

abbrev pub reporting_after : Reporting → ReportLogLine → Reporting
reporting_after r line = line_taken (ended_at r line) line

-- ---- the invariant

-- the error of the last section of the open report, if there is one
abbrev pub work_errors : Option OpenReport → List MemoryError
work_errors work = option_map_or (λ (report : OpenReport). section_errors report.section) work []

-- A filter stores no more errors and sources than its limits.
pub record IsReporting (r : Reporting) : Type 0 where
  pub errors : length (r.errors ++ work_errors r.work) ≤ MOST_ERRORS
  pub sources : length r.sources ≤ MOST_SOURCES
  pub began : r.began ≤ LAST_SECOND
