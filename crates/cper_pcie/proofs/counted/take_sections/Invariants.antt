-- The PCI Express sections among the first ones were taken.
use Rattle.cper_pcie.specs.Steps.Filtering.{sections_in}
use Rattle.cper_pcie.proofs.ReportLemmas.{TookFirst}
use Rattle.cper_pcie.proofs.counted.take_sections.Given as goal

abbrev pub invariant-loop-i : goal.invariant-loop-i
invariant-loop-i l = TookFirst l.fn.name (sections_in l.fn.sections) l.i l.fn.totals l.totals l.fn.text.items l.text.items
