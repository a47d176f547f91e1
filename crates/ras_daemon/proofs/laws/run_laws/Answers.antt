use Rattle.ras_daemon.proofs.JoinedLemmas.{account-joined}
use Rattle.ras_daemon.proofs.RunLawLemmas.{accounts-follow, lines-stay, logs-again, logs-follow, logs-once, logs-together, module-once, module-stands, page-stands, orders-follow, output-begins, page-once, resumed-counts, resumed-same}
use Rattle.ras_daemon.specs.RunOutput.{run_output}
use Rattle.ras_daemon.specs.RunStatus.{run_exit}
use Rattle.ras_daemon.proofs.laws.run_laws.Goals as goal

pub returns-clause-printed : goal.returns-clause-printed
returns-clause-printed c = output-begins

pub returns-clause-logged : goal.returns-clause-logged
returns-clause-logged c = λ history start script n is. logs-follow history start is script n

pub returns-clause-once : goal.returns-clause-once
returns-clause-once c = λ history start script n is. logs-once history start is script n

pub returns-clause-again : goal.returns-clause-again
returns-clause-again c = λ history start next script n none is taken follows. logs-again history start next script n none is taken follows

pub returns-clause-resumed : goal.returns-clause-resumed
returns-clause-resumed c = λ history start next script n none is taken follows whole. resumed-counts history start next script n none is taken follows whole

pub returns-clause-same : goal.returns-clause-same
returns-clause-same c = λ history start next script n none is taken follows whole facts. resumed-same history start next script n none is taken follows whole facts

pub returns-clause-together : goal.returns-clause-together
returns-clause-together c = λ history start next script n none is taken follows whole. logs-together history start next script n none is taken follows whole

pub returns-clause-page_stands : goal.returns-clause-page_stands
returns-clause-page_stands c = λ history start script n page is. page-stands history start is script n page

pub returns-clause-module_stands : goal.returns-clause-module_stands
returns-clause-module_stands c = λ history start script n label row is there. module-stands history start is script n label row there

pub returns-clause-joined : goal.returns-clause-joined
returns-clause-joined c = λ start next one other both joined none. account-joined one other both joined none start next

pub returns-clause-ordered : goal.returns-clause-ordered
returns-clause-ordered c = λ history start script n is. orders-follow history start is script n

pub returns-clause-page : goal.returns-clause-page
returns-clause-page c = λ history start script n page is. page-once history start is script n page

pub returns-clause-lines : goal.returns-clause-lines
returns-clause-lines c = lines-stay

pub returns-clause-module : goal.returns-clause-module
returns-clause-module c = λ history start script n label is row. module-once history start is script n label row

pub returns-clause-output : goal.returns-clause-output
returns-clause-output c = λ one other script account standing store slow. λ i. run_output (record { account = account i; standing = standing i; store = store i; slow = slow i }) script

pub returns-clause-status : goal.returns-clause-status
returns-clause-status c = λ one other script account standing store slow. λ i. run_exit (record { account = account i; standing = standing i; store = store i; slow = slow i }) script

pub returns-clause-accounts : goal.returns-clause-accounts
returns-clause-accounts c = λ history start script n is. accounts-follow history start is script n
