use Rattle.std.proofs.Common.{◌≡◌, ◌+◌, ◌<◌, ◌≤◌, get_or, map, arith}
use Rattle.ras_script.specs.declared.splitting.TheConstants.{HELD_WORDS}
use Rattle.ras_script.proofs.HeldWordsLemmas.{space_ends}
use Rattle.ras_script.proofs.BlockLemmas.{none_before, none_left, places_after}
use Rattle.ras_script.proofs.SpaceLemmas.{lacks_between}
use Rattle.ras_script.proofs.splitting.hold_in_block.Goals as goal

pub loop-spaces-preserved : goal.loop-spaces-preserved
loop-spaces-preserved c =
    let l = c.loop-spaces in
    let bit = c.lowest-bit.result in
    let set = c.lowest-bit.ensures.set in
    let inside : bit < 16 = l.invariant.spaces.block bit set in
    let ahead : l.start ≤ c.args.at + bit = l.invariant.spaces.from_on bit set in
    let space : get_or c.args.line.now (c.args.at + bit) 0 ≡ 32 = l.invariant.spaces.only bit set in
    record {
      ordered = omega arith;
      unbroken = λ k low high here. absurd (omega arith);
      spaces = places_after 32 c.args.line.now c.args.at l.start l.spaces bit c.without-spaces.result l.invariant.spaces c.lowest-bit.ensures.below c.lowest-bit.ensures.small ahead c.without-spaces.ensures.cleared c.without-spaces.ensures.kept c.without-spaces.ensures.no_more;
      held = space_ends HELD_WORDS l.start (c.args.at + bit) c.args.line.now (map (λ word. word.now) l.words.items) _ _ ahead (omega (arith, c.requires.room)) space l.invariant.held c.hold.ensures;
    }

pub hold-requires : goal.hold-requires
hold-requires c =
    let l = c.loop-spaces in
    let bit = c.lowest-bit.result in
    let set = c.lowest-bit.ensures.set in
    let inside : bit < 16 = l.invariant.spaces.block bit set in
    lacks_between c.args.line.now l.start (c.args.at + bit) (l.invariant.spaces.from_on bit set) (omega (arith, c.requires.room))
    (none_before 32 c.args.line.now c.args.at l.start l.spaces bit l.invariant.unbroken l.invariant.spaces c.lowest-bit.ensures.below (omega arith))

pub returns : goal.returns
returns c =
    let l = c.loop-spaces in
    record {
      ordered = l.invariant.ordered;
      unbroken = none_left 32 c.args.line.now c.args.at l.start l.spaces c.loop-spaces-test.false l.invariant.unbroken l.invariant.spaces;
      held = l.invariant.held;
    }
