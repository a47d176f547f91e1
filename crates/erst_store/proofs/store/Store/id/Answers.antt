use Rattle.std.proofs.Common.{arith}
use Rattle.erst_store.specs.Steps.StoreLemmas.{got_id, length-views}
use Rattle.erst_store.proofs.store.Store.id.Goals as goal

pub returns : goal.returns
returns c =
    rw (← c.self.view_is) (got_id c.self.inside.records.items c.args.i c.index.result.now (omega (arith, rw (← c.self.view_is) at c.requires, length-views c.self.inside.records.items)) c.index.ensures)
