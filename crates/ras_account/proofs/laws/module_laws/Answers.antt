use Rattle.ras_account.specs.Account.{module_errors}
use Rattle.ras_account.proofs.BucketLemmas.{empties-bucket, empties-trip, tripped-at_capacity}
use Rattle.ras_account.proofs.laws.module_laws.Goals as goal

pub returns-clause-capacity : goal.returns-clause-capacity
returns-clause-capacity c = λ history label limit. tripped-at_capacity (module_errors history label) limit

pub returns-clause-empties : goal.returns-clause-empties
returns-clause-empties c = empties-bucket

pub returns-clause-empties_trip : goal.returns-clause-empties_trip
returns-clause-empties_trip c = empties-trip
