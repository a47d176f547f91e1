use Rattle.std.proofs.Common.{arith, refl}
use Rattle.ras_script.proofs.PairLemmas.{none_decoded, pair_decoded, all_decoded}
use Rattle.ras_script.proofs.bytes.decode_into.Goals as goal

pub loop-place-init : goal.loop-place-init
loop-place-init c = none_decoded c.args.word.now c.args.bytes.now

pub loop-place-preserved : goal.loop-place-preserved
loop-place-preserved c =
    let l = c.loop-place in
    pair_decoded c.args.word.now l.bytes l.place l.together c.value_of-high.result c.value_of-low.result _ _
    (omega (arith, c.requires)) (omega arith) c.value_of-high.ensures c.value_of-low.ensures refl refl l.invariant

pub returns : goal.returns
returns c =
    let l = c.loop-place in
    all_decoded c.args.word.now l.bytes l.place l.together (omega arith) (omega (arith, c.requires)) l.invariant
