use Rattle.std.proofs.Common.{◌≡◌, ◌∙◌, length, ap, sym, arith}
use Rattle.erst_store.specs.Actions.{range_length}
use Rattle.erst_store.specs.Steps.KeptLemmas.{IsDevice-filled, AreBytes-range_with_record, length-range_with_record}
use Rattle.erst_store.specs.Steps.StoreLemmas.{bytes_at}
use Rattle.erst_store.proofs.device.Dev.read_record.Goals as goal

pub invariant_of-self : goal.invariant_of-self
invariant_of-self c =
    let size : length c.deref_mut.result.now ≡ range_length = ap length c.deref_mut.ensures.value ∙ c.self.invariant.length in
    IsDevice-filled _ c.self.inside.range.len c.fill_range.new.range _ c.self.invariant (sym c.deref_mut.ensures.len ∙ size)
    (rw c.fill_range.ensures (length-range_with_record c.deref_mut.result.now c.self.inside.offset c.in-Some.bytes.now size (omega (arith, c.if-self-bytes.false, c.in-Some.ensures.1))))
    (rw c.fill_range.ensures (AreBytes-range_with_record c.deref_mut.result.now c.self.inside.offset c.in-Some.bytes.now (rw c.deref_mut.ensures.value c.self.invariant.bytes) (bytes_at c.self.inside.id c.self.inside.store c.in-Some.bytes.now c.self.invariant.store.each c.in-Some.ensures.0)))
