-- What the filter of PCI Express sections prints for its next lines, given the reports that count so far. A new
-- filter prints what each line gives at its place (specs/Filter.antt).
use Rattle.std.specs.Prelude.{ℕ, ◌+◌, ◌*◌, ◌≤◌, List, [], ◌∷◌, ◌++◌, Option, None, Some, Result, Ok, Err, if◌then◌else◌}
use Rattle.std.specs.List.{flat_map, list_any}
use Rattle.std.specs.Option.{option_map_or}
use Rattle.line_filters.specs.Filter.{Filter}
use Rattle.ras_facts.specs.Names.{same_name}
use Rattle.ras_facts.specs.declared.name.Name.{Name}
use Rattle.ras_script.specs.Line.{line_of}
use Rattle.ras_script.specs.declared.line.Line.{Line}
use Rattle.ras_script.specs.declared.line.LineRefused.{LineRefused}
use Rattle.row_tables.specs.Tables.{updated_rows}
use Rattle.cper_pcie.specs.Bits.{error_count}
use Rattle.cper_pcie.specs.Devices.{same_device}
use Rattle.cper_pcie.specs.Reports.{FirmwareReport, Taken, line_report, pcie_name, pcie_sections, report_read}
use Rattle.cper_pcie.specs.Texts.{read_sections, section_line, totals_text}
use Rattle.cper_pcie.specs.Totals.{Totals}
use Rattle.cper_pcie.specs.declared.counts.ErrorCounts.{ErrorCounts}
use Rattle.cper_pcie.specs.declared.section.PcieSection.{PcieSection}

abbrev pub no_errors : ErrorCounts
no_errors = record { uncor = 0; cor = 0 }

-- errors with the errors of one more section
abbrev pub sums_with : ErrorCounts → PcieSection → ErrorCounts
sums_with errors section = record {
  uncor = errors.uncor + error_count section.uncor;
  cor = errors.cor + error_count section.cor;
}

abbrev pub totals_with : Totals → PcieSection → Totals
totals_with totals section = record {
  rows = updated_rows same_device section.device (sums_with no_errors section)
      (λ errors. sums_with errors section) totals.rows;
  sections = totals.sections + 1;
}

abbrev pub totals_after : Totals → List PcieSection → Totals
totals_after totals [] = totals
totals_after totals (section ∷ sections) = totals_after (totals_with totals section) sections

-- the reports that count so far: their names, and the totals of their sections
pub record Counted : Type 0 where
  pub names : List Name
  pub totals : Totals

-- the names with one more at the end, unless it is among them
abbrev pub names_with : List Name → Option Name → List Name
names_with names None = names
names_with names (Some name) = if list_any (same_name name) names then names else names ++ name ∷ []

-- the sections that are taken of a report, given the names of the reports that count
abbrev pub fresh_sections : List Name → FirmwareReport → List Taken
fresh_sections names report =
    if list_any (same_name report.name) names then [] else pcie_sections report

abbrev pub counted_with : Counted → FirmwareReport → Counted
counted_with counted report = record {
  names = names_with counted.names (pcie_name report);
  totals = totals_after counted.totals (read_sections (fresh_sections counted.names report));
}

abbrev pub counted_after : Counted → Option FirmwareReport → Counted
counted_after counted report = option_map_or (counted_with counted) report counted

abbrev pub sections_lines : List Taken → List ℕ
sections_lines taken = flat_map section_line taken

abbrev pub text_with : List Name → Option FirmwareReport → List ℕ
text_with names report = option_map_or (λ r. sections_lines (fresh_sections names r)) report []

abbrev pub line_answer : List Name → Result Line LineRefused → Result (List ℕ) LineRefused
line_answer names (Ok line) = Ok (text_with names (line_report line))
line_answer names (Err why) = Err why

-- an answer, and the answers after it unless it is a rejection
abbrev pub then_answers : Result (List ℕ) LineRefused → List (Result (List ℕ) LineRefused) → List (Result (List ℕ) LineRefused)
then_answers (Ok text) answers = Ok text ∷ answers
then_answers (Err why) answers = Err why ∷ []

abbrev pub answers_from : Counted → List (List ℕ) → List (Result (List ℕ) LineRefused)
answers_from counted [] = []
answers_from counted (line ∷ lines) =
    then_answers (line_answer counted.names (line_of line))
    (answers_from (counted_after counted (report_read (line_of line))) lines)

abbrev pub counted_from : Counted → List (List ℕ) → Counted
counted_from counted [] = counted
counted_from counted (line ∷ lines) =
    counted_from (counted_after counted (report_read (line_of line))) lines

abbrev pub last_from : Counted → List (List ℕ) → List ℕ
last_from counted lines = totals_text (counted_from counted lines).totals

-- what is printed for lines, after earlier lines whose reports count
abbrev pub filter_from : Counted → Filter
filter_from counted = record {
  answers = answers_from counted;
  rest = λ lines. [];
  last = last_from counted;
}

-- the reports that count so far, and how many lines were taken
pub record Filtering : Type 0 where
  pub counted : Counted
  pub taken : ℕ

-- a line has at most 65,536 sections
abbrev pub IsFiltering : Filtering → Type 0
IsFiltering filtering = filtering.counted.totals.sections ≤ 65536 * filtering.taken
