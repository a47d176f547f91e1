use Rattle.cper_pcie.proofs.LineLemmas.{line-few}
use Rattle.cper_pcie.proofs.filter.PcieFilterLineFilter.take.Goals as goal

pub take_line-requires-clause-line : goal.take_line-requires-clause-line
take_line-requires-clause-line c = line-few 40000 c.args.line.now c.in_ok-asked.asked c.requires.short c.in_ok-asked.ensures.read
