use Rattle.erst_store.specs.Steps.StoreLemmas.{without-absent}
use Rattle.erst_store.proofs.store.Store.remove.Goals as goal

pub returns-in-None-clause-rest : goal.returns-in-None-clause-rest
returns-in-None-clause-rest c = without-absent c.args.id c.args.self.now c.in-None.ensures.place
