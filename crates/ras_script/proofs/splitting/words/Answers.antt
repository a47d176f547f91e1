use Rattle.std.proofs.Common.{◌≡◌, length, ◌∙◌, arith}
use Rattle.std.proofs.lemmas.Bool.Decides.{nat_tests}
use Rattle.ras_script.specs.declared.splitting.TheConstants.{HELD_WORDS}
use Rattle.ras_script.proofs.HeldWordsLemmas.{all_held}
use Rattle.ras_script.proofs.splitting.words.Goals as goal

pub loop-at-preserved : goal.loop-at-preserved
loop-at-preserved c = record {
  ordered = c.hold_in_block-start.ensures.ordered;
  within = omega arith;
  unbroken = c.hold_in_block-start.ensures.unbroken;
  held = c.hold_in_block-start.ensures.held ∙ c.loop-at.invariant.held;
}

pub returns-then-is_full : goal.returns-then-is_full
returns-then-is_full c =
    let full : length c.hold_in_block-start.new.words.items ≡ HELD_WORDS = grind (arith, nat_tests, c.if-is_full.ensures.value) in
    all_held (λ word. word.now) HELD_WORDS c.hold_in_block-start.new.words.items _ _ full (c.hold_in_block-start.ensures.held ∙ c.loop-at.invariant.held)
