-- A panic record is a record that contains its report.
use Rattle.std.proofs.Common.{◌≡◌, ◌<◌, ◌^◌, ℕ, IsTrue, List, [], ◌++◌, length, Ok, refl, subst}
use Rattle.ras_base.specs.LittleEndian.{u16_bytes, u32_bytes, u64_bytes, number_at}
use Rattle.ras_base.specs.Steps.LittleEndianLemmas.{number_at-u64_bytes}
use Rattle.cper_sections.specs.Guids.{memory_guid, processor_guid, x64_guid, section_type_of}
use Rattle.cper_sections.specs.Sections.{section_of}
use Rattle.cper_records.specs.Header.{record_id}
use Rattle.cper_records.specs.Descriptors.{is_out, is_section_refused, some_below}
use Rattle.cper_records.specs.Records.{sections_of, record_of}
use Rattle.cper_records.proofs.LaidLemmas.{IsAnswer, answered, reads}
use Rattle.ras_facts.specs.declared.bank.BankReport.{BankReport}
use Rattle.ras_panic.specs.Runs.{with_run}
use Rattle.ras_facts.specs.Facts.{status_in}
use Rattle.mca_status.specs.Registers.{valid}
use Rattle.ras_panic.specs.Reports.{HoldsReport}
use Rattle.ras_panic.specs.Panics.{report_type, x64_type, report_bytes, saved_bytes, panic_bytes}

pub is_read : (id : ℕ) (bank : BankReport) → record_of (panic_bytes id bank) ≡ Ok (panic_bytes id bank)
unfolding
    record_of sections_of is_out is_section_refused some_below section_of section_type_of memory_guid processor_guid x64_guid
    number_at u16_bytes u32_bytes u64_bytes with_run panic_bytes report_bytes saved_bytes report_type x64_type
is_read id bank = refl

-- A panic record before other bytes is read.
pub is_read_first : (id : ℕ) (bank : BankReport) (rest : List ℕ) → record_of (panic_bytes id bank ++ rest) ≡ Ok (panic_bytes id bank)
is_read_first id bank rest =
    let own : List ℕ = panic_bytes id bank in
    let whole : IsAnswer own (Ok own) = subst (IsAnswer own) (is_read id bank) (answered own) in
    reads (own ++ rest) own (rest, refl) whole.1

pub is_named : (id : ℕ) (bank : BankReport) → id < 2 ^ 64 → record_id (panic_bytes id bank) ≡ id
unfolding number_at u16_bytes u32_bytes u64_bytes with_run panic_bytes report_bytes saved_bytes report_type x64_type
is_named id bank fits = number_at-u64_bytes id [] fits

-- The sections of a panic record are the report's.
pub is_held : (id : ℕ) (bank : BankReport) → IsTrue (valid (status_in bank)) → HoldsReport (panic_bytes id bank) bank
unfolding number_at u16_bytes u32_bytes u64_bytes with_run panic_bytes report_bytes saved_bytes report_type x64_type x64_guid
is_held id bank held = record { two = refl; report_type = refl; report = refl; valid = held; saved_type = refl; saved = refl }

-- A panic record has the length that its header says.
pub has_length : (id : ℕ) (bank : BankReport) → length (panic_bytes id bank) ≡ 456
unfolding u16_bytes u32_bytes u64_bytes with_run panic_bytes report_bytes saved_bytes report_type x64_type
has_length id bank = refl

pub tells_length : (id : ℕ) (bank : BankReport) → number_at 20 4 (panic_bytes id bank) ≡ 456
unfolding number_at u16_bytes u32_bytes u64_bytes with_run panic_bytes report_bytes saved_bytes report_type x64_type
tells_length id bank = refl
