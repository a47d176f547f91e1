use Rattle.std.proofs.Common.{ap, ◌∙◌}
use Rattle.cper_pcie.specs.Along.{filter_from}
use Rattle.cper_pcie.proofs.FilterLemmas.{filter-is}
use Rattle.cper_pcie.proofs.filter.PcieFilter.new.Goals as goal

pub returns-clause-makes : goal.returns-clause-makes
returns-clause-makes c = ap filter_from c.new.ensures ∙ filter-is
