use Rattle.std.proofs.Common.{◌+◌, ◌<◌, arith}
use Rattle.ras_script.proofs.BlockLemmas.{anywhere, found_at, none_before, none_left}
use Rattle.ras_script.proofs.blocks.position_of.Goals as goal

pub returns-then-places-ne0 : goal.returns-then-places-ne0
returns-then-places-ne0 c =
    let text = c.args.text.now in
    let l = c.loop-at in
    let bits = c.places_at-places.result in
    let bit = c.lowest.result in
    let inside : bit < 16 = c.places_at-places.ensures.block bit c.lowest.ensures.set in
    let places = anywhere c.args.byte text l.at bits c.places_at-places.ensures in
    record {
      place = found_at c.args.byte text (l.at + bit) (omega arith) (none_before c.args.byte text l.at 0 bits bit l.invariant.none places c.lowest.ensures.below (omega arith)) (places.only bit c.lowest.ensures.set);
      within = omega arith;
    }

pub loop-at-preserved : goal.loop-at-preserved
loop-at-preserved c =
    let text = c.args.text.now in
    let l = c.loop-at in
    record {
      within = omega arith;
      none = none_left c.args.byte text l.at 0 c.places_at-places.result c.if-places-ne0.false l.invariant.none (anywhere c.args.byte text l.at c.places_at-places.result c.places_at-places.ensures);
    }
