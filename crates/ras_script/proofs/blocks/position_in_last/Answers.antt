use Rattle.std.proofs.Common.{◌≡◌, ◌+◌, ◌-◌, ◌<◌, length, subst, arith}
use Rattle.ras_script.specs.Steps.Places.{StandsNowhere}
use Rattle.ras_script.proofs.BlockLemmas.{anywhere, found_at, found_nowhere, none_before, none_left}
use Rattle.ras_script.proofs.blocks.position_in_last.Goals as goal

pub returns-clause-place : goal.returns-clause-place
returns-clause-place c =
    let text = c.args.text.now in
    let last = length text - 16 in
    let bits = c.places_at-places.result in
    let bit = c.lowest.result in
    let inside : bit < 16 = c.places_at-places.ensures.block bit c.lowest.ensures.set in
    let places = anywhere c.args.byte text last bits c.places_at-places.ensures in
    found_at c.args.byte text (last + bit) (omega (arith, c.requires.room)) (none_before c.args.byte text last 0 bits bit c.requires.none places c.lowest.ensures.below (omega arith)) (places.only bit c.lowest.ensures.set)

pub returns-then-places-eq0-clause-place : goal.returns-then-places-eq0-clause-place
returns-then-places-eq0-clause-place c =
    let text = c.args.text.now in
    let last = length text - 16 in
    let bits = c.places_at-places.result in
    let end : last + 16 ≡ length text = omega (arith, c.requires.room) in
    found_nowhere c.args.byte text (subst (λ k. StandsNowhere c.args.byte text 0 k) end (none_left c.args.byte text last 0 bits c.if-places-eq0.true c.requires.none (anywhere c.args.byte text last bits c.places_at-places.ensures)))
