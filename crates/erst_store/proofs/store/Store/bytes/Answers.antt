use Rattle.std.proofs.Common.{arith, ◌≡◌, Some, slice_get}
use Rattle.erst_store.specs.Store.{contents}
use Rattle.erst_store.specs.Steps.View.{views}
use Rattle.erst_store.specs.Steps.StoreLemmas.{got_bytes, short-at, length-views}
use Rattle.erst_store.proofs.store.Store.bytes.Goals as goal

pub returns-clause-there : goal.returns-clause-there
returns-clause-there c =
    rw (← c.self.view_is, c.deref.ensures.value) (got_bytes c.self.inside.records.items c.args.i c.index.result.now (omega (arith, rw (← c.self.view_is) at c.requires, length-views c.self.inside.records.items)) c.index.ensures)

pub returns-clause-short : goal.returns-clause-short
returns-clause-short c =
    let there : slice_get (contents (views c.self.inside.records.items)) c.args.i ≡ Some c.index.result.now.bytes.items =
    got_bytes c.self.inside.records.items c.args.i c.index.result.now (omega (arith, rw (← c.self.view_is) at c.requires, length-views c.self.inside.records.items)) c.index.ensures
    in
    rw c.deref.ensures.value (short-at (views c.self.inside.records.items) c.args.i c.index.result.now.bytes.items c.self.invariant.each there)
