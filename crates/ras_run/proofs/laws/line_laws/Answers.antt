use Rattle.ras_run.proofs.LineLawLemmas.{asking_moment, line_calls, line_holds, line_moment, line_out, line_still}
use Rattle.ras_run.proofs.SomeActLemmas.{some_acts}
use Rattle.ras_run.proofs.laws.line_laws.Goals as goal

pub returns-clause-prints : goal.returns-clause-prints
returns-clause-prints c = line_out

pub returns-clause-calls : goal.returns-clause-calls
returns-clause-calls c = line_calls

pub returns-clause-refused : goal.returns-clause-refused
returns-clause-refused c = line_still

pub returns-clause-some : goal.returns-clause-some
returns-clause-some c = some_acts

pub returns-clause-moments : goal.returns-clause-moments
returns-clause-moments c = λ place t acts left does moment. line_moment place t does.holds does.can acts does.are does.accepted left moment

pub returns-clause-asking : goal.returns-clause-asking
returns-clause-asking c = λ place t left can holds moment. asking_moment place t holds can left moment

pub returns-clause-done : goal.returns-clause-done
returns-clause-done c = λ place t acts does. line_holds place t does.holds does.can acts does.are does.accepted
