use Rattle.ras_recover.proofs.SwitchingLemmas.{switch_ends, switch_leaves}
use Rattle.ras_recover.proofs.laws.switch_laws.Goals as goal

pub returns-clause-moments : goal.returns-clause-moments
returns-clause-moments c = switch_leaves

pub returns-clause-done : goal.returns-clause-done
returns-clause-done c = switch_ends
