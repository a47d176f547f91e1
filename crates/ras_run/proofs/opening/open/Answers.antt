use Rattle.ras_run.proofs.OpenLemmas.{refused_so}
use Rattle.ras_run.proofs.opening.open.Goals as goal

pub returns-in-Err-clause-refused : goal.returns-in-Err-clause-refused
returns-in-Err-clause-refused g c = refused_so c.in-Err.refused c.unopened_exit.result _ c.unopened_exit.ensures c.in-Err.ensures.refused
