use Rattle.ras_base.specs.Steps.ExactLemmas.{nat_apart}
use Rattle.erst_store.specs.Steps.StoreLemmas.{found-with_record, under-with_record}
use Rattle.erst_store.proofs.laws.store_laws.Goals as goal

pub returns-clause-own : goal.returns-clause-own
returns-clause-own c = λ id bytes records. found-with_record id bytes records

pub returns-clause-others : goal.returns-clause-others
returns-clause-others c = λ id other bytes records apart. under-with_record id other bytes (nat_apart id other apart) records
