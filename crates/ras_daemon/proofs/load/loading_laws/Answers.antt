use Rattle.ras_daemon.proofs.LoadCountLemmas.{corrected_counted, names_counted}
use Rattle.ras_daemon.proofs.LoadTakenLemmas.{taken_whole}
use Rattle.ras_daemon.proofs.load.loading_laws.Goals as goal

pub returns-clause-taken : goal.returns-clause-taken
returns-clause-taken c = taken_whole

pub returns-clause-names : goal.returns-clause-names
returns-clause-names c = names_counted

pub returns-clause-corrected : goal.returns-clause-corrected
returns-clause-corrected c = corrected_counted
