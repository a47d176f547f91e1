use Rattle.std.proofs.Common.{arith}
use Rattle.erst_store.specs.Steps.ActionLemmas.{kept, one, forgets, busy_answer, status_answer, id_answer, count_answer, listed, anew, identifier_there, size_there}
use Rattle.erst_store.proofs.laws.action_laws.Goals as goal

pub returns-clause-kept : goal.returns-clause-kept
returns-clause-kept c = λ action d other. kept action d other

pub returns-clause-one : goal.returns-clause-one
returns-clause-one c = λ action d. one action d

pub returns-clause-forgets : goal.returns-clause-forgets
returns-clause-forgets c = λ value d. forgets value d

pub returns-clause-busy : goal.returns-clause-busy
returns-clause-busy c = λ d. busy_answer d

pub returns-clause-status : goal.returns-clause-status
returns-clause-status c = λ d. status_answer d

pub returns-clause-id : goal.returns-clause-id
returns-clause-id c = λ d is. id_answer d is

pub returns-clause-count : goal.returns-clause-count
returns-clause-count c = λ d is. count_answer d is

pub returns-clause-listed : goal.returns-clause-listed
returns-clause-listed c = λ d. listed d

pub returns-clause-anew : goal.returns-clause-anew
returns-clause-anew c = λ d. anew d

pub returns-clause-all : goal.returns-clause-all
returns-clause-all c = λ d start. omega (arith, start)

pub returns-clause-identifier : goal.returns-clause-identifier
returns-clause-identifier c = λ range offset inside. identifier_there range offset inside

pub returns-clause-size : goal.returns-clause-size
returns-clause-size c = λ range offset inside. size_there range offset inside
