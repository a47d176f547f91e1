-- A record gives the report that its sections contain.
use Rattle.ras_panic.proofs.HeldLemmas.{given_is_held, held_is_given, fact_of_held, fact_of_ordinary}
use Rattle.ras_panic.proofs.laws.reports_are_held.Goals as goal

pub returns-clause-report : goal.returns-clause-report
returns-clause-report c = λ own bank bytes fits. (λ is. given_is_held own bank bytes is, λ held. held_is_given own bank fits held)

pub returns-clause-bank : goal.returns-clause-bank
returns-clause-bank c = λ rows seconds own bank fits held. fact_of_held rows seconds own bank fits held

pub returns-clause-ordinary : goal.returns-clause-ordinary
returns-clause-ordinary c = λ rows seconds own bytes none. fact_of_ordinary rows seconds own bytes none
