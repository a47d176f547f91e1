use Rattle.std.proofs.Common.{sym, ◌∙◌}
use Rattle.cper_pcie.specs.Steps.Filtering.{sections_in}
use Rattle.cper_pcie.proofs.CountedLemmas.{counted-none, text-none}
use Rattle.cper_pcie.proofs.counted.Counted.take.Goals as goal

pub returns-then-not-has_pcie-clause-counted : goal.returns-then-not-has_pcie-clause-counted
returns-then-not-has_pcie-clause-counted c =
    counted-none c.args.self.now c.args.name.now (sections_in c.args.sections.now) (sym c.has_pcie.ensures ∙ c.if-not-has_pcie.true)

pub returns-then-not-has_pcie-clause-text : goal.returns-then-not-has_pcie-clause-text
returns-then-not-has_pcie-clause-text c =
    text-none c.args.self.now.names c.args.text.now.items c.args.name.now (sections_in c.args.sections.now) (sym c.has_pcie.ensures ∙ c.if-not-has_pcie.true)
