-- What a filter finds in its input.
use Rattle.std.specs.Prelude.{ℕ, ◌-◌, ◌<◌, ◌==◌, ◌&&◌, ◌^◌, Bool, true, false, List, [], ◌∷◌, if◌then◌else◌}
use Rattle.std.specs.List.{flat_map}
use Rattle.mca_status.specs.Registers.{address_valid, valid}
use Rattle.ras_facts.specs.Facts.{status_in}
use Rattle.ras_facts.specs.declared.bank.BankReport.{BankReport}
use Rattle.ras_script.specs.LineLaws.{IsBankInRange}
use Rattle.bank_lines.specs.declared.found.Finding.{Finding}
use Rattle.bank_lines.specs.declared.found.Finding.TheVariants.{Nothing, Whole, Torn, Full, Partial, Foreign, Firmware, Unread}
use Rattle.bank_lines.specs.declared.found.TheConstants.{FIRMWARE_BANK}

-- The finding of a whole report of an Intel processor: `found` if its bank holds an error, else nothing. No processor
-- has bank 255: Linux makes up a report of it for each memory error that the firmware reports.
abbrev pub held : BankReport → Finding → Finding
held report found =
    if valid (status_in report)
    then (if report.bank == FIRMWARE_BANK then Firmware report.cpu else found) else Nothing

-- the finding of a whole report of a trace
abbrev pub found_of : BankReport → Finding
found_of report = held report (Whole report)

-- ---- a report of a log that lacks its address

-- whether the status says that there is an address, and no address came
abbrev pub lacks_address : BankReport → Bool
lacks_address report = address_valid (status_in report) && report.addr == 0

-- the report with ADDRV, bit 58 of its status, set to 0
abbrev pub without_address : BankReport → BankReport
without_address report = record report { status = report.status - 2 ^ 58 }

abbrev pub torn_or_whole : BankReport → Finding
torn_or_whole report = if lacks_address report then Torn (without_address report) else Whole report

abbrev pub is_torn : Finding → Bool
is_torn (Torn report) = true
is_torn found = false

-- the finding of a whole report of a log
abbrev pub log_found_of : BankReport → Finding
log_found_of report = held report (torn_or_whole report)

-- ---- all that was found

-- a finding, and the number of the line at which it was made
pub record Numbered : Type 0 where
  pub number : ℕ
  pub found : Finding

-- the whole report of a finding, if it has one
abbrev pub report_in : Finding → List BankReport
report_in (Whole report) = report ∷ []
report_in (Torn report) = report ∷ []
report_in (Full report) = report ∷ []
report_in found = []

-- the whole reports of findings, in order
abbrev pub reports_in : List Numbered → List BankReport
reports_in founds = flat_map (λ (numbered : Numbered). report_in numbered.found) founds

-- whether the numbers of a finding fit their types
abbrev pub IsInTypes : Finding → Type 0
IsInTypes Nothing = Unit {0}
IsInTypes (Whole report) = IsBankInRange report
IsInTypes (Torn report) = IsBankInRange report
IsInTypes (Full report) = IsBankInRange report
IsInTypes (Partial cpu bank) = (cpu < 2 ^ 16) × (bank < 2 ^ 8)
IsInTypes (Foreign vendor cpu bank) = (vendor < 2 ^ 64) × (cpu < 2 ^ 16) × (bank < 2 ^ 8)
IsInTypes (Firmware cpu) = cpu < 2 ^ 16
IsInTypes Unread = Unit {0}

abbrev pub IsFoundInRange : Numbered → Type 0
IsFoundInRange numbered = (numbered.number < 2 ^ 64) × IsInTypes numbered.found
