-- The totals of sections: for each function the sums of their errors, and how many sections there are.
use Rattle.std.specs.Prelude.{ℕ, length, List, Option}
use Rattle.std.specs.List.{sum_by}
use Rattle.row_tables.specs.Tables.{table}
use Rattle.cper_pcie.specs.declared.section.PcieDevice.{PcieDevice}
use Rattle.cper_pcie.specs.declared.section.PcieSection.{PcieSection}
use Rattle.cper_pcie.specs.declared.counts.ErrorCounts.{ErrorCounts}
use Rattle.cper_pcie.specs.Bits.{error_count}
use Rattle.cper_pcie.specs.Counts.{counted_device}
use Rattle.cper_pcie.specs.Devices.{same_device}

-- each function, in the order in which the functions were first seen, with the sums of its errors; and the number of
-- sections
pub record Totals : Type 0 where
  pub rows : List (Option PcieDevice × ErrorCounts)
  pub sections : ℕ

-- the sums of the errors that sections report
abbrev pub sums_in : List PcieSection → ErrorCounts
sums_in sections = record {
  uncor = sum_by (λ (s : PcieSection). error_count s.uncor) sections;
  cor = sum_by (λ (s : PcieSection). error_count s.cor) sections;
}

abbrev pub totals_of : List PcieSection → Totals
totals_of sections = record {
  rows = table same_device counted_device sums_in sections;
  sections = length sections;
}
