use Rattle.erst_store.specs.Steps.StoreLemmas.{placed}
use Rattle.erst_store.proofs.store.Store.place.Goals as goal

pub returns-clause-place : goal.returns-clause-place
returns-clause-place c = rw (← c.self.view_is) (placed c.args.id c.self.inside.records.items c.place_of.result (rw (← c.deref.ensures.value) c.place_of.ensures))
