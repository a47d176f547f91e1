-- The counts of a list of sections: for each function, in the order in which the functions were first seen, how many
-- errors its own sections report.
use Rattle.std.specs.Prelude.{ℕ, ◌+◌, ◌-◌, ◌^◌, min, Option, Some, List}
use Rattle.std.specs.List.{sum_by}
use Rattle.row_tables.specs.Tables.{table, updated_rows}
use Rattle.cper_pcie.specs.declared.section.PcieDevice.{PcieDevice}
use Rattle.cper_pcie.specs.declared.section.PcieSection.{PcieSection}
use Rattle.cper_pcie.specs.declared.counts.ErrorCounts.{ErrorCounts}
use Rattle.cper_pcie.specs.Bits.{error_count}
use Rattle.cper_pcie.specs.Devices.{same_device}

-- the key of a section: the function that it names, if any
abbrev pub counted_device : PcieSection → Option (Option PcieDevice)
counted_device section = Some section.device

-- a sum in 64 bits, at most the greatest number
abbrev pub in_64_bits : ℕ → ℕ
in_64_bits sum = min sum (2 ^ 64 - 1)

-- the errors that sections report: how many bits are set in all of a kind of status
unfoldable pub errors_in : List PcieSection → ErrorCounts
errors_in sections = record {
  uncor = in_64_bits (sum_by (λ (s : PcieSection). error_count s.uncor) sections);
  cor = in_64_bits (sum_by (λ (s : PcieSection). error_count s.cor) sections);
}

-- the counts of a list of sections: each function, in the order in which the functions were first seen, with the
-- errors that its own sections report
abbrev pub counts_of : List PcieSection → List (Option PcieDevice × ErrorCounts)
counts_of sections = table same_device counted_device errors_in sections

-- errors with the errors of one more section
unfoldable pub errors_with : ErrorCounts → PcieSection → ErrorCounts
errors_with errors section = record {
  uncor = in_64_bits (errors.uncor + error_count section.uncor);
  cor = in_64_bits (errors.cor + error_count section.cor);
}

-- counts with one more section: its function's row grows, or a row is added at the end
abbrev pub pcie_counts_with : List (Option PcieDevice × ErrorCounts) → PcieSection → List (Option PcieDevice × ErrorCounts)
pcie_counts_with rows section =
    updated_rows same_device section.device (errors_with (record { uncor = 0; cor = 0 }) section)
    (λ errors. errors_with errors section) rows
