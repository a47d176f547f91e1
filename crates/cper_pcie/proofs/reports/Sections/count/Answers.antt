use Rattle.std.proofs.Common.{length, sym, ap, ◌∙◌}
use Rattle.cper_pcie.specs.Steps.Filtering.{sections_in}
use Rattle.cper_pcie.proofs.ReportLemmas.{record-count}
use Rattle.cper_pcie.proofs.reports.Sections.count.Goals as goal

pub returns-in-Record : goal.returns-in-Record
returns-in-Record c =
    c.from.ensures ∙ c.count.ensures ∙ sym (record-count c.in-Record.rec) ∙ ap (λ s. length (sections_in s)) (sym c.in-Record.is)
