-- Which machine checks wait for the name of a DIMM.
use Rattle.std.specs.Prelude.{◌^◌, ◌/◌, ◌%◌, ◌==◌, Bool, false}
use Rattle.ras_facts.specs.declared.bank.BankReport.{BankReport}
use Rattle.bank_lines.specs.declared.found.Finding.{Finding}
use Rattle.bank_lines.specs.declared.found.Finding.TheVariants.{Whole}

-- whether a report's status says that the address is valid (ADDRV, bit 58)
abbrev pub has_address : BankReport → Bool
has_address report = report.status / 2 ^ 58 % 2 == 1

-- whether a finding is a whole report with an address
abbrev pub waits : Finding → Bool
waits (Whole report) = has_address report
waits found = false
