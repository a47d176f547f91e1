-- The texts of reports are whole lines.
use Rattle.std.proofs.Common.{ℕ, ◌+◌, ◌/◌, Bool, true, false, List, [], ◌∷◌, ◌++◌, refl, sym, ap, ◌∙◌, subst, append_assoc, append-nil, inl, inr, Option, None, Some, if◌then◌else◌}
use Rattle.std.specs.Option.{option_map_or}
use Rattle.ras_script.specs.LineLaws.{line_text}
use Rattle.ras_script.specs.declared.line.ErrorReport.TheVariants.{Block}
use Rattle.ras_script.specs.declared.line.Line.TheVariants as asks
use Rattle.bank_lines.specs.declared.log_line.TheConstants.{MICROSECONDS}
use Rattle.block_lines.specs.LogLines.{report_log_line}
use Rattle.block_lines.specs.Reports.{Reporting, ended_at, ends_early, has_error, is_end, left_to_trace, line_remark}
use Rattle.block_lines.specs.Sources.{is_listed, kept_sources}
use Rattle.block_lines.specs.Texts.{block_text, blocks_text_beside, cut_report_line, cut_text, end_text_beside, ghes_line, hest_line, left_out_line, remark_text, report_text, report_text_beside, rest_text, source_block_text, table_text, unread_report_line}
use Rattle.block_lines.specs.Whole.{AreWholeLines}
use Rattle.block_lines.specs.declared.log_line.ReportLogLine.{ReportLogLine}
use Rattle.block_lines.specs.declared.report.OpenReport.{OpenReport}
use Rattle.block_lines.specs.declared.report.Remark.{Remark}
use Rattle.block_lines.specs.declared.report.Remark.TheVariants.{LeftOut, Nothing, Partial, Unread}

pub ends : (front : List ℕ) → AreWholeLines (front ++ 10 ∷ [])
ends front = inr (front, refl)

pub both : (a b : List ℕ) → AreWholeLines a → AreWholeLines b → AreWholeLines (a ++ b)
both a b one (inl none) = subst AreWholeLines (sym (ap (λ (rest : List ℕ). a ++ rest) none ∙ append-nil a)) one
both a b one (inr (front, is)) = inr (a ++ front, ap (λ (rest : List ℕ). a ++ rest) is ∙ sym (append_assoc a front (10 ∷ [])))

remark_whole : (number : ℕ) (remark : Remark) → AreWholeLines (remark_text number remark)
remark_whole number Nothing = inl refl
remark_whole number Unread = ends (unread_report_line number)
remark_whole number LeftOut = ends (left_out_line number)
remark_whole number (Partial source begun) = ends (cut_report_line source begun)

pub table_whole : (sources : List ℕ) (source : ℕ) → AreWholeLines (table_text sources source)
table_whole sources source = by (is_listed sources source)
  where
    by : (is : Bool) → AreWholeLines (if is then [] else hest_line (kept_sources sources ++ source ∷ []) ++ 10 ∷ [])
    by true = inl refl
    by false = ends (hest_line (kept_sources sources ++ source ∷ []))

-- the line of a block of any source
abbrev pub source_line : Reporting → ℕ → ℕ → List ℕ → List ℕ
source_line r source number block = line_text (asks.Report (Block r.boot (r.began + number / MICROSECONDS) source number block))

pub source_block_whole : (r : Reporting) (source number : ℕ) (block : List ℕ) → AreWholeLines (source_block_text r source number block)
source_block_whole r source number block = ends (table_text r.sources source ++ source_line r source number block)

block_whole : (r : Reporting) (report : OpenReport) → AreWholeLines (block_text r report)
block_whole r report = by (has_error r.errors report.section)
  where
    by : (has : Bool) → AreWholeLines (if has then table_text r.sources report.source ++ ghes_line r report ++ 10 ∷ [] else [])
    by true = ends (table_text r.sources report.source ++ ghes_line r report)
    by false = inl refl

cut_whole : (report : OpenReport) → AreWholeLines (cut_text report)
cut_whole report = by (ends_early report.section)
  where
    by : (early : Bool) → AreWholeLines (if early then cut_report_line report.source report.begun ++ 10 ∷ [] else [])
    by true = ends (cut_report_line report.source report.begun)
    by false = inl refl

report_whole : (border : Option ℕ) (r : Reporting) (report : OpenReport) → AreWholeLines (report_text_beside border r report)
report_whole border r report = by (left_to_trace border report)
  where
    by : (left : Bool) → AreWholeLines (if left then cut_text report else report_text r report)
    by true = cut_whole report
    by false = both (block_text r report) (cut_text report) (block_whole r report) (cut_whole report)

open_whole : (border : Option ℕ) (r : Reporting) (work : Option OpenReport) → AreWholeLines (option_map_or (report_text_beside border r) work [])
open_whole border r None = inl refl
open_whole border r (Some report) = report_whole border r report

told_whole : (border : Option ℕ) (r : Reporting) (number : ℕ) (told : ReportLogLine) → AreWholeLines (blocks_text_beside border r number told)
told_whole border r number told =
    both _ (remark_text number (line_remark (ended_at r told) told)) (by (is_end r told)) (remark_whole number (line_remark (ended_at r told) told))
  where
    by : (is : Bool) → AreWholeLines (if is then end_text_beside border r else [])
    by true = open_whole border r r.work
    by false = inl refl

pub blocks_whole : (border : Option ℕ) (r : Reporting) (number : ℕ) (line : List ℕ)
    → AreWholeLines (blocks_text_beside border r number (report_log_line line))
blocks_whole border r number line = told_whole border r number (report_log_line line)

pub rest_whole : (r : Reporting) → AreWholeLines (rest_text r)
rest_whole r = by r.work
  where
    by : (work : Option OpenReport) → AreWholeLines (option_map_or (λ (report : OpenReport). cut_report_line report.source report.begun ++ 10 ∷ []) work [])
    by None = inl refl
    by (Some report) = ends (cut_report_line report.source report.begun)
