use Rattle.erst_store.specs.Steps.StoreLemmas.{found-at, found-none}
use Rattle.erst_store.proofs.store.Store.find.Goals as goal

pub returns-in-Some : goal.returns-in-Some
returns-in-Some c = found-at c.args.id c.args.self.now c.in-Some.place c.bytes.result.now c.len-kept.ensures.kept c.in-Some.ensures.place c.bytes.ensures.there

pub returns-in-None : goal.returns-in-None
returns-in-None c = found-none c.args.id c.args.self.now c.in-None.ensures.place
