-- The lines printed of a report, and about lines that are in no report.
use Rattle.std.specs.Prelude.{ℕ, ◌+◌, ◌/◌, List, [], ◌∷◌, ◌++◌, codes, decimal, Option, if◌then◌else◌}
use Rattle.std.specs.Option.{option_map_or}
use Rattle.ras_script.specs.LineLaws.{line_text}
use Rattle.ras_script.specs.declared.line.ErrorReport.TheVariants.{Block}
use Rattle.ras_script.specs.declared.line.Line.TheVariants as asks
use Rattle.ras_script.specs.declared.line.Table.TheVariants.{Hest}
use Rattle.bank_lines.specs.declared.log_line.TheConstants.{MICROSECONDS}
use Rattle.block_lines.specs.Blocks.{block_bytes}
use Rattle.block_lines.specs.Reports.{Reporting, section_errors, has_error, ends_early, is_end, left_to_trace, line_remark, ended_at}
use Rattle.block_lines.specs.Sources.{is_listed, kept_sources, table_bytes}
use Rattle.block_lines.specs.declared.log_line.ReportLogLine.{ReportLogLine}
use Rattle.block_lines.specs.declared.report.Remark.{Remark}
use Rattle.block_lines.specs.declared.report.Remark.TheVariants.{Nothing, Unread, LeftOut, Partial}
use Rattle.block_lines.specs.declared.report.OpenReport.{OpenReport}

-- ---- lines, without their line feeds

-- the line of a table of these sources
abbrev pub hest_line : List ℕ → List ℕ
hest_line sources = line_text (asks.Table (Hest (table_bytes sources)))

-- The line of a report's block. Its number is the time stamp of its first line in microseconds since the
-- boot, and its time is the time of that line.
abbrev pub ghes_line : Reporting → OpenReport → List ℕ
ghes_line r report =
    line_text (asks.Report (Block r.boot (r.began + report.begun / MICROSECONDS) report.source
    report.begun (block_bytes report.severity (r.errors ++ section_errors report.section))))

-- The comments: for a report that is cut, for a line that can't be read or is in no report, and for a section that no
-- block gets.
abbrev pub cut_report_line : ℕ → ℕ → List ℕ
cut_report_line source number =
    codes "# partial source=" ++ decimal source ++ codes " number=" ++ decimal number

abbrev pub unread_report_line : ℕ → List ℕ
unread_report_line number = codes "# unread " ++ decimal number

abbrev pub left_out_line : ℕ → List ℕ
left_out_line number = codes "# left out " ++ decimal number

-- ---- texts: a line feed ends each line

-- what is printed about the line with this number
abbrev pub remark_text : ℕ → Remark → List ℕ
remark_text number Nothing = []
remark_text number Unread = unread_report_line number ++ 10 ∷ []
remark_text number LeftOut = left_out_line number ++ 10 ∷ []
remark_text number (Partial source begun) = cut_report_line source begun ++ 10 ∷ []

-- the table, at the first report of a source that the last table doesn't have
abbrev pub table_text : List ℕ → ℕ → List ℕ
table_text sources source =
    if is_listed sources source then [] else hest_line (kept_sources sources ++ source ∷ []) ++ 10 ∷ []

-- the text of a block of any source, after its table if one is due; the block's number is its time stamp, and its
-- time is the boot's second plus the time stamp
abbrev pub source_block_text : Reporting → ℕ → ℕ → List ℕ → List ℕ
source_block_text r source number block =
    table_text r.sources source
    ++ line_text (asks.Report (Block r.boot (r.began + number / MICROSECONDS) source number block)) ++ 10 ∷ []

-- the text of a report's block, if the report has errors, after its table if one is due
abbrev pub block_text : Reporting → OpenReport → List ℕ
block_text r report =
    if has_error r.errors report.section
    then table_text r.sources report.source ++ ghes_line r report ++ 10 ∷ [] else []

-- the comment of a report that is cut
abbrev pub cut_text : OpenReport → List ℕ
cut_text report =
    if ends_early report.section then cut_report_line report.source report.begun ++ 10 ∷ [] else []

-- the text of a report that ends: its block, if it has errors, and whether it is cut
abbrev pub report_text : Reporting → OpenReport → List ℕ
report_text r report = block_text r report ++ cut_text report

-- the text of the open report, if there is one
abbrev pub end_text : Reporting → List ℕ
end_text r = option_map_or (report_text r) r.work []

-- The text after all lines. The log may have less of the open report than the kernel printed, so the report gets no
-- block.
abbrev pub rest_text : Reporting → List ℕ
rest_text r =
    option_map_or (λ (report : OpenReport). cut_report_line report.source report.begun ++ 10 ∷ []) r.work []

-- the text printed at the line with this number: of the report that the line ends, and about the line itself
abbrev pub blocks_text_at : Reporting → ℕ → ReportLogLine → List ℕ
blocks_text_at r number line =
    (if is_end r line then end_text r else []) ++ remark_text number (line_remark (ended_at r line) line)

-- ---- beside a trace that has the firmware's memory errors from a time stamp on

-- the text of a report that ends: without its block and its table, if the trace has it
abbrev pub report_text_beside : Option ℕ → Reporting → OpenReport → List ℕ
report_text_beside border r report =
    if left_to_trace border report then cut_text report else report_text r report

-- the same of the open report, if there is one
abbrev pub end_text_beside : Option ℕ → Reporting → List ℕ
end_text_beside border r = option_map_or (report_text_beside border r) r.work []

-- the text of the line with this number
abbrev pub blocks_text_beside : Option ℕ → Reporting → ℕ → ReportLogLine → List ℕ
blocks_text_beside border r number line =
    (if is_end r line then end_text_beside border r else []) ++ remark_text number (line_remark (ended_at r line) line)
