use Rattle.ras_daemon.proofs.FeedingLemmas.{fed-account, taken-asks}
use Rattle.ras_daemon.proofs.laws.feeding_laws.Goals as goal

pub returns-clause-events : goal.returns-clause-events
returns-clause-events c = taken-asks

pub returns-clause-account : goal.returns-clause-account
returns-clause-account c = fed-account
