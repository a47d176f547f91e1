-- The steps of the filter of PCI Express sections.
use Rattle.std.specs.Prelude.{ℕ, ◌*◌, ◌≤◌, List, [], Option}
use Rattle.std.specs.List.{AllByRecursion, filter_map}
use Rattle.ras_facts.specs.declared.name.Name.{Name}
use Rattle.cper_pcie.specs.Reports.{Found, Taken, block_sections, pcie_section, record_sections}
use Rattle.cper_pcie.specs.Totals.{Totals}
use Rattle.cper_pcie.specs.declared.counts.ErrorCounts.{ErrorCounts}
use Rattle.cper_pcie.specs.declared.reports.Sections.{Sections}
use Rattle.cper_pcie.specs.declared.reports.Sections.TheVariants as sections
use Rattle.cper_pcie.specs.declared.section.PcieDevice.{PcieDevice}
use Rattle.cper_pcie.specs.Along.{Counted}

-- the sections of a record or a block
abbrev pub sections_in : Sections → List Found
sections_in (sections.Record own) = record_sections own
sections_in (sections.Block block) = block_sections block

-- the PCI Express sections of a report with this name
abbrev pub taken_from : Name → List Found → List Taken
taken_from name found = filter_map (pcie_section name) found

abbrev pub no_totals : Totals
no_totals = record { rows = []; sections = 0 }

-- a row has at most 32 errors of each kind for each section
abbrev pub IsFew : ℕ → Option PcieDevice × ErrorCounts → Type 0
IsFew sections row = (row.1.uncor ≤ 32 * sections) × (row.1.cor ≤ 32 * sections)

abbrev pub AreFew : Totals → Type 0
AreFew totals = AllByRecursion (IsFew totals.sections) totals.rows

abbrev pub none_counted : Counted
none_counted = record { names = []; totals = no_totals }
