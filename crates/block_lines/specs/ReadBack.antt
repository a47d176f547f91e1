-- What the filter's blocks and lines are read as.
use Rattle.std.specs.Prelude.{◌+◌, ◌/◌, ◌^◌, ◌<◌, ◌≤◌, List, ◌++◌, None, IfSome}
use Rattle.cper_sections.specs.declared.memory.MemSection.{MemSection}
use Rattle.ras_facts.specs.declared.name.Name.{Name}
use Rattle.ras_facts.specs.declared.name.Name.TheVariants as names
use Rattle.ras_script.specs.declared.line.ErrorReport.TheVariants.{Block}
use Rattle.ras_script.specs.declared.line.Line.{Line}
use Rattle.ras_script.specs.declared.line.Line.TheVariants as asks
use Rattle.bank_lines.specs.declared.log_line.TheConstants.{LAST_SECOND, MICROSECONDS}
use Rattle.block_lines.specs.Blocks.{block_bytes}
use Rattle.block_lines.specs.Reports.{Reporting, section_errors}
use Rattle.block_lines.specs.declared.memory.ErrorLocation.{ErrorLocation}
use Rattle.block_lines.specs.declared.memory.MemoryError.{MemoryError}
use Rattle.block_lines.specs.declared.report.OpenReport.{OpenReport}

-- the numbers of a location fit their types
pub record IsLocation (at : ErrorLocation) : Type 0 where
  pub node : IfSome at.node (λ n. n < 2 ^ 16)
  pub card : IfSome at.card (λ n. n < 2 ^ 16)
  pub «module» : IfSome at.«module» (λ n. n < 2 ^ 16)

-- the numbers of an error fit their types
pub record IsError (error : MemoryError) : Type 0 where
  pub severity : error.severity < 2 ^ 32
  pub physical : IfSome error.physical (λ n. n < 2 ^ 64)
  pub mask : IfSome error.mask (λ n. n < 2 ^ 64)
  pub location : IsLocation error.location
  pub kind : IfSome error.kind (λ n. n < 2 ^ 8)

-- the memory section of an error: what the lines of a report say, and nothing else
abbrev pub section_told : MemoryError → MemSection
section_told error = record {
  physical = error.physical;
  mask = error.mask;
  node = error.location.node;
  card = error.location.card;
  «module» = error.location.«module»;
  bank = None;
  row = None;
  rank = None;
  kind = error.kind;
}

-- ---- the line of a report's block

-- the errors of a report: of the sections that ended, and of its last section
abbrev pub report_errors : Reporting → OpenReport → List MemoryError
report_errors r report = r.errors ++ section_errors report.section

-- the report's name and its time are in their ranges
pub record IsNamed (r : Reporting) (report : OpenReport) : Type 0 where
  pub boot : r.boot < 2 ^ 64
  pub began : r.began ≤ LAST_SECOND
  pub source : report.source < 2 ^ 16
  pub begun : report.begun < 2 ^ 64

-- the name under which the report counts
abbrev pub block_name : Reporting → OpenReport → Name
block_name r report = names.Block r.boot report.source report.begun

-- what the report's line asks of a run: the block of these errors, under the report's source and time stamp
abbrev pub block_asked : Reporting → OpenReport → Line
block_asked r report =
    asks.Report (Block r.boot (r.began + report.begun / MICROSECONDS) report.source report.begun
    (block_bytes report.severity (report_errors r report)))
