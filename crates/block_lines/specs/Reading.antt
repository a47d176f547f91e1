-- What the texts of a report say of its errors, one text after another.
use Rattle.std.specs.Prelude.{ℕ, List, [], ◌∷◌, ◌++◌, length}
use Rattle.block_lines.specs.Lines.{report_line_of}
use Rattle.block_lines.specs.Reports.{errors_after, section_after, section_errors}
use Rattle.block_lines.specs.declared.memory.MemoryError.{MemoryError}
use Rattle.block_lines.specs.declared.report.OpenSection.{OpenSection}
use Rattle.block_lines.specs.declared.report_line.ReportLine.{ReportLine}

-- the errors of a report whose sections ended, and its last section
pub record ErrorsRead : Type 0 where
  pub ended : List MemoryError
  pub section : OpenSection

-- the errors read after a line of the report, which has this severity
abbrev pub line_read : ℕ → ErrorsRead → ReportLine → ErrorsRead
line_read severity read line = record {
  ended = errors_after read.ended read.section line;
  section = section_after (length read.ended) severity read.section line;
}

-- the errors read after texts
abbrev pub texts_read : ℕ → ErrorsRead → List (List ℕ) → ErrorsRead
texts_read severity read [] = read
texts_read severity read (text ∷ texts) = texts_read severity (line_read severity read (report_line_of text)) texts

-- all errors of the report so far
abbrev pub errors_read : ErrorsRead → List MemoryError
errors_read read = read.ended ++ section_errors read.section
