-- Which records contain a report, by their layout: the bytes of their sections.
use Rattle.std.specs.Prelude.{ℕ, ◌≡◌, ◌<◌, ◌^◌, List, IsTrue}
use Rattle.mca_status.specs.Registers.{valid}
use Rattle.cper_sections.specs.Guids.{guid_of, x64_guid}
use Rattle.cper_records.specs.Header.{section_count}
use Rattle.cper_records.specs.Descriptors.{section_guid, section_bytes}
use Rattle.ras_facts.specs.Facts.{status_in}
use Rattle.ras_facts.specs.declared.bank.BankReport.{BankReport}
use Rattle.ras_panic.specs.Panics.{report_type, report_bytes, saved_bytes}

-- Each number of a report fits its field.
pub record FitsFields (snapshot : BankReport) : Type 0 where
  pub boot : snapshot.boot < 2 ^ 64
  pub seconds : snapshot.seconds < 2 ^ 64
  pub cpu : snapshot.cpu < 2 ^ 16
  pub bank : snapshot.bank < 2 ^ 8
  pub tsc : snapshot.tsc < 2 ^ 64
  pub cap : snapshot.cap < 2 ^ 64
  pub mcg : snapshot.mcg < 2 ^ 64
  pub status : snapshot.status < 2 ^ 64
  pub addr : snapshot.addr < 2 ^ 64
  pub misc : snapshot.misc < 2 ^ 64

-- A record contains this report: it has two sections, the report's 72 bytes, in which VAL is 1, and the 112 bytes of
-- an IA32/X64 section with its registers.
pub record HoldsReport (own : List ℕ) (bank : BankReport) : Type 0 where
  pub two : section_count own ≡ 2
  pub report_type : section_guid own 0 ≡ guid_of report_type
  pub report : section_bytes own 0 ≡ report_bytes bank
  pub valid : IsTrue (valid (status_in bank))
  pub saved_type : section_guid own 1 ≡ x64_guid
  pub saved : section_bytes own 1 ≡ saved_bytes bank
