use Rattle.entry_format.specs.Reading.{many_at, item_at}
use Rattle.entry_format.proofs.LoopLemmas.{goes_on, ends, is_done}
use Rattle.entry_format.proofs.items.many_items_at.Goals as goal

pub returns-in-Err : goal.returns-in-Err
returns-in-Err c =
    ends item_at c.in-Err.refused c.loop.items c.args.count c.loop.counter c.loop.rest.now (many_at item_at c.args.count c.args.bytes.now) c.loop-test.true c.in-Err.ensures c.loop.invariant

pub loop-preserved : goal.loop-preserved
loop-preserved c =
    rw c.in_ok-push.ensures.ok (goes_on item_at c.loop.items c.args.count c.loop.counter c.loop.rest.now c.in-Ok.found.0 c.in-Ok.found.1.now (many_at item_at c.args.count c.args.bytes.now) c.loop-test.true c.in-Ok.ensures c.loop.invariant)

pub returns : goal.returns
returns c = is_done item_at c.loop.items c.args.count c.loop.counter c.loop.rest.now (many_at item_at c.args.count c.args.bytes.now) c.loop-test.false c.loop.invariant
