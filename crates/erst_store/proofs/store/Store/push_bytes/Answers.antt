use Rattle.std.proofs.Common.{◌++◌, ◌∙◌, length}
use Rattle.erst_store.specs.StoreFile.{heading}
use Rattle.erst_store.proofs.ReadingLemmas.{next_bytes, begun_after, ended_after}
use Rattle.erst_store.proofs.store.Store.push_bytes.Goals as goal

pub loop-i-init : goal.loop-i-init
loop-i-init c =
    rw (c.in_ok-push_u32.ensures.ok, c.in_ok-extend_from_slice.ensures.items, c.len.ensures.count) (begun_after c.args.out.now.items (length c.args.self.now))

pub loop-i-preserved : goal.loop-i-preserved
loop-i-preserved c =
    next_bytes (c.args.out.now.items ++ heading (length c.args.self.now)) c.args.self.now c.loop-i.i c.id.result c.bytes.result.now c.loop-i.out.items c.push_record.new.out.items c.id.ensures c.bytes.ensures.there c.loop-i.invariant c.in_ok-push_record.ensures

pub returns : goal.returns
returns c =
    c.loop-i.invariant ∙ ended_after c.args.out.now.items (heading (length c.args.self.now)) c.args.self.now c.loop-i.i (rw (← c.len-i-end.ensures.count) c.loop-i-test.false)
