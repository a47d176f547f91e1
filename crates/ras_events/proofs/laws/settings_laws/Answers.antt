use Rattle.ras_events.proofs.DescribedLemmas.{told-along}
use Rattle.ras_events.proofs.laws.settings_laws.Goals as goal

pub returns : goal.returns
returns c = record { told = told-along }
