use Rattle.ras_panic.proofs.HeldLemmas.{fact_is_named}
use Rattle.ras_panic.proofs.laws.stored_facts_are_named.Goals as goal

pub returns : goal.returns
returns c = fact_is_named
