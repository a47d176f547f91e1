-- Which records are panic records, and which report each has.
use Rattle.std.specs.Prelude.{ℕ, ◌==◌, ◌&&◌, Bool, List, length, drop, slice_index, unwrap_or, Option, Some, None, if◌then◌else◌}
use Rattle.std.specs.List.{list_all}
use Rattle.std.specs.Option.{option_and_then, option_map_or}
use Rattle.std.specs.Str.{bytes_eq}
use Rattle.ras_base.specs.LittleEndian.{number_at}
use Rattle.mca_status.specs.Registers.{valid}
use Rattle.cper_sections.specs.Guids.{guid_of, x64_guid}
use Rattle.cper_records.specs.Header.{record_id, section_count}
use Rattle.cper_records.specs.Descriptors.{section_guid, section_bytes}
use Rattle.dimm_topology.specs.declared.row.Row.{Row}
use Rattle.ras_facts.specs.Facts.{status_in, bank_fact, bank_name}
use Rattle.ras_facts.specs.Reported.{record_fact}
use Rattle.ras_facts.specs.Reports.{bank_report, record_report}
use Rattle.ras_facts.specs.declared.bank.BankReport.{BankReport}
use Rattle.ras_facts.specs.declared.details.Report.{Report}
use Rattle.ras_facts.specs.declared.fact.Fact.{Fact}
use Rattle.ras_facts.specs.declared.name.Name.{Name}
use Rattle.ras_facts.specs.declared.name.Name.TheVariants.{Record}
use Rattle.ras_panic.specs.Panics.{report_type, saved_bytes}

-- the report in a section of 72 bytes
abbrev pub report_in : List ℕ → BankReport
report_in bytes = record {
  boot = number_at 0 8 bytes;
  seconds = number_at 8 8 bytes;
  tsc = number_at 16 8 bytes;
  cap = number_at 24 8 bytes;
  mcg = number_at 32 8 bytes;
  status = number_at 40 8 bytes;
  addr = number_at 48 8 bytes;
  misc = number_at 56 8 bytes;
  cpu = number_at 64 2 bytes;
  bank = slice_index bytes 66;
}

-- whether a section is a report of an error: it has 72 bytes, the last five of them 0, and VAL is 1
abbrev pub is_report : List ℕ → Bool
is_report bytes =
    (length bytes == 72) && list_all (λ byte. byte == 0) (drop 67 bytes) && valid (status_in (report_in bytes))

-- whether a record is a panic record: two sections, a report and then an IA32/X64 section with the
-- registers of that report
unfoldable pub is_panic : List ℕ → Bool
is_panic own =
    (section_count own == 2)
    && bytes_eq (section_guid own 0) (guid_of report_type) && is_report (section_bytes own 0)
    && bytes_eq (section_guid own 1) x64_guid && bytes_eq (section_bytes own 1) (saved_bytes (report_in (section_bytes own 0)))

-- The report of a panic record. Every other record has no report.
abbrev pub panic_report : List ℕ → Option BankReport
panic_report own = if is_panic own then Some (report_in (section_bytes own 0)) else None

-- The fact of a stored record that was read at this time. The fact of a panic record is the bank's own, with the
-- seconds of the report.
abbrev pub stored_fact : List Row → ℕ → List ℕ → Fact
stored_fact rows seconds own =
    unwrap_or (option_and_then (λ report. bank_fact report rows) (panic_report own)) (record_fact rows seconds own)

-- The name under which a stored record is counted. The name of a panic record is the bank's own.
abbrev pub stored_name : List ℕ → Name
stored_name own = option_map_or bank_name (panic_report own) (Record (record_id own))

-- The report of a stored record that was read at this time. The report of a panic record is the bank's own.
abbrev pub stored_report : List Row → ℕ → List ℕ → Report
stored_report rows seconds own =
    unwrap_or (option_and_then (λ bank. bank_report bank rows) (panic_report own)) (record_report rows seconds own)
