use Rattle.std.proofs.Common.{sym, ◌∙◌}
use Rattle.cper_pcie.specs.Reports.{is_pcie}
use Rattle.cper_pcie.specs.Steps.Filtering.{sections_in}
use Rattle.cper_pcie.proofs.ReportLemmas.{any-next, any-there}
use Rattle.cper_pcie.proofs.reports.Sections.has_pcie.Goals as goal

pub returns-then-is_pcie : goal.returns-then-is_pcie
returns-then-is_pcie c =
    sym (any-there is_pcie (sections_in c.args.self.now) c.loop-i.i _ c.get.ensures (sym c.is_pcie.ensures ∙ c.if-is_pcie.true))

pub loop-i-preserved : goal.loop-i-preserved
loop-i-preserved c =
    any-next is_pcie (sections_in c.args.self.now) c.loop-i.i _ c.get.ensures c.loop-i.invariant (sym c.is_pcie.ensures ∙ c.if-is_pcie.false)
