use Rattle.era_laws.proofs.EraOrderLemmas.{orders-same}
use Rattle.era_laws.proofs.TakesLemmas.{logs-same, reports-same}
use Rattle.era_laws.proofs.laws.script_eras.Goals as goal

pub returns-clause-reports : goal.returns-clause-reports
returns-clause-reports c = reports-same

pub returns-clause-logs : goal.returns-clause-logs
returns-clause-logs c = logs-same

pub returns-clause-orders : goal.returns-clause-orders
returns-clause-orders c = orders-same
