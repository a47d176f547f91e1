use Rattle.std.proofs.Common.{ap, add-one, arith, length, ℕ}
use Rattle.erst_store.proofs.FileLemmas.{front, front-more}
use Rattle.erst_store.proofs.file.length_before.Goals as goal

pub overflow_add-before-in-loop-i : goal.overflow_add-before-in-loop-i
overflow_add-before-in-loop-i c = omega (arith, c.loop-i.invariant.1, c.loop-i-test.true, c.bytes.ensures.short, c.requires.within, c.requires.kept.count)

pub loop-i-preserved : goal.loop-i-preserved
loop-i-preserved c =
    let more = front-more c.args.store.now c.loop-i.i c.bytes.result.now c.bytes.ensures.there in
    let next = ap (λ (n : ℕ). length (front c.args.store.now n)) (add-one c.loop-i.i) in
    (omega (arith, c.loop-i.invariant.0, more, next), omega (arith, c.loop-i.invariant.1, c.bytes.ensures.short))
