-- Which lines of a script are reports of firmware, and which of their sections are taken.
use Rattle.std.specs.Prelude.{ℕ, nat_le, Bool, List, [], length, map, Option, None, Some, Result, Ok, Err, if◌then◌else◌}
use Rattle.std.specs.List.{filter_map, flat_map, list_any, range_with_len}
use Rattle.std.specs.Option.{option_and_then, option_map_or}
use Rattle.std.specs.Str.{bytes_eq}
use Rattle.cper_records.specs.Descriptors.{section_bytes, section_guid, section_severity}
use Rattle.cper_records.specs.Header.{section_count}
use Rattle.cper_records.specs.Readable.{filled, read_under}
use Rattle.cper_records.specs.declared.refusals.Unreadable.{Unreadable}
use Rattle.apei_sources.specs.Blocks.{BlockParts, block_of}
use Rattle.apei_sources.specs.Entries.{entry_data, entry_guid, entry_severity}
use Rattle.apei_sources.specs.declared.refusals.BlockRefused.{BlockRefused}
use Rattle.ras_base.specs.Places.{places}
use Rattle.ras_facts.specs.Names.{same_name}
use Rattle.ras_facts.specs.declared.name.Name.{Name}
use Rattle.ras_facts.specs.declared.name.Name.TheVariants as names
use Rattle.ras_script.specs.Line.{line_of}
use Rattle.ras_script.specs.declared.line.ErrorReport.TheVariants.{Block}
use Rattle.ras_script.specs.declared.line.Line.{Line}
use Rattle.ras_script.specs.declared.line.Line.TheVariants.{Put, Report as Reported}
use Rattle.ras_script.specs.declared.line.LineRefused.{LineRefused}
use Rattle.cper_pcie.specs.Section.{pcie_guid}
use Rattle.cper_pcie.specs.declared.reports.TheConstants.{STORED_LENGTH}

-- ---- the reports

-- a section of a report
pub record Found : Type 0 where
  pub guid : List ℕ
  pub severity : ℕ
  pub bytes : List ℕ

-- a report: its name, and its sections in order
pub record FirmwareReport : Type 0 where
  pub name : Name
  pub sections : List Found

abbrev pub record_section : List ℕ → ℕ → Found
record_section own i = record {
  guid = section_guid own i;
  severity = section_severity own i;
  bytes = section_bytes own i;
}

abbrev pub record_sections : List ℕ → List Found
record_sections own = map {B = Found} (record_section own) (range_with_len 0 (section_count own))

abbrev pub block_section : List ℕ → Found
block_section entry = record {
  guid = entry_guid entry;
  severity = entry_severity entry;
  bytes = entry_data entry;
}

abbrev pub block_sections : BlockParts → List Found
block_sections block = map {B = Found} block_section block.entries

-- the report of a record, if it could be read under its identifier
abbrev pub report_in_record : ℕ → Result (List ℕ) Unreadable → Option FirmwareReport
report_in_record id (Ok own) = Some (record { name = names.Record id; sections = record_sections own })
report_in_record id (Err why) = None

-- A record to be stored is a report if it fits the store and can be read back under its identifier: the store returns
-- it with zeros after it.
abbrev pub report_in_store : ℕ → List ℕ → Option FirmwareReport
report_in_store id bytes =
    if nat_le (length bytes) STORED_LENGTH then report_in_record id (read_under id (filled bytes))
    else None

-- the report of a block with this name, if the block can be read
abbrev pub report_in_block : Name → Result BlockParts BlockRefused → Option FirmwareReport
report_in_block name (Ok block) = Some (record { name = name; sections = block_sections block })
report_in_block name (Err why) = None

-- A line is a report if it stores such a record, or has a block that can be read, whichever error sources the
-- firmware has. No other line is a report.
abbrev pub line_report : Line → Option FirmwareReport
line_report (Put id bytes) = report_in_store id bytes
line_report (Reported (Block boot seconds source number bytes)) =
    report_in_block (names.Block boot source number) (block_of bytes)
line_report line = None

abbrev pub report_read : Result Line LineRefused → Option FirmwareReport
report_read (Ok line) = line_report line
report_read (Err why) = None

abbrev pub line_report_in : List ℕ → Option FirmwareReport
line_report_in line = report_read (line_of line)

-- ---- the sections that are taken

-- a section that is taken: the name of its report, its severity and its bytes
pub record Taken : Type 0 where
  pub name : Name
  pub severity : ℕ
  pub bytes : List ℕ

abbrev pub is_pcie : Found → Bool
is_pcie found = bytes_eq found.guid pcie_guid

abbrev pub pcie_section : Name → Found → Option Taken
pcie_section name found =
    if is_pcie found then Some (record { name = name; severity = found.severity; bytes = found.bytes })
    else None

-- the PCI Express sections of a report, in order
abbrev pub pcie_sections : FirmwareReport → List Taken
pcie_sections report = filter_map (pcie_section report.name) report.sections

-- the name of a report that has a PCI Express section
abbrev pub pcie_name : FirmwareReport → Option Name
pcie_name report = if list_any is_pcie report.sections then Some report.name else None

-- the name of a line's report, if the report has a PCI Express section
abbrev pub line_name : List ℕ → Option Name
line_name line = option_and_then pcie_name (line_report_in line)

-- a line of a script, with all lines before it
abbrev pub LinePlace : Type 0
LinePlace = List (List ℕ) × List ℕ

-- whether one of these lines is a report with this name that has a PCI Express section
abbrev pub is_known : List (List ℕ) → Name → Bool
is_known lines name = list_any (same_name name) (filter_map line_name lines)

-- All PCI Express sections of a line's report are taken if it is the first report with its name that has such a
-- section; otherwise no section is taken.
abbrev pub first_sections : List (List ℕ) → FirmwareReport → List Taken
first_sections before report = if is_known before report.name then [] else pcie_sections report

-- the sections that are taken of a line, given the lines before it
abbrev pub taken_at : LinePlace → List Taken
taken_at place = option_map_or (first_sections place.0) (line_report_in place.1) []

-- all sections that are taken of a script's lines
abbrev pub taken_of : List (List ℕ) → List Taken
taken_of lines = flat_map taken_at (places lines)
