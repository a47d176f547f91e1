-- No section so far is a PCI Express section.
use Rattle.std.proofs.Common.{◌≡◌, false, take}
use Rattle.std.specs.List.{list_any}
use Rattle.cper_pcie.specs.Reports.{is_pcie}
use Rattle.cper_pcie.specs.Steps.Filtering.{sections_in}
use Rattle.cper_pcie.proofs.reports.Sections.has_pcie.Given as goal

abbrev pub invariant-loop-i : goal.invariant-loop-i
invariant-loop-i l = list_any is_pcie (take l.i (sections_in l.self)) ≡ false
