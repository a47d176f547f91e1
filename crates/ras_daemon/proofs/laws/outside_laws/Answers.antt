use Rattle.ras_daemon.proofs.MachineLemmas.{account-same, output-same, store-same, text-same}
use Rattle.ras_daemon.proofs.laws.outside_laws.Goals as goal

pub returns-clause-account : goal.returns-clause-account
returns-clause-account c = account-same

pub returns-clause-store : goal.returns-clause-store
returns-clause-store c = store-same

pub returns-clause-text : goal.returns-clause-text
returns-clause-text c = text-same

pub returns-clause-output : goal.returns-clause-output
returns-clause-output c = output-same
