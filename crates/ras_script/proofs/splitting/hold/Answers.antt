use Rattle.std.proofs.Common.{◌≡◌, ◌<◌, length, arith}
use Rattle.std.proofs.lemmas.Bool.Decides.{nat_tests}
use Rattle.ras_script.specs.declared.splitting.TheConstants.{HELD_WORDS}
use Rattle.ras_script.proofs.HeldWordsLemmas.{word_held, none_held, no_room}
use Rattle.ras_script.proofs.splitting.hold.Goals as goal
use Rattle.ras_script.proofs.splitting.hold.Goals.{else-not-is_full-via-then-not-is_full+else-not-is_empty, else-not-is_full-via-else-not-is_full}

pub returns-then-not-is_empty : goal.returns-then-not-is_empty
returns-then-not-is_empty c =
    let room : length c.args.words.now.items < HELD_WORDS = grind (arith, nat_tests, c.if-not-is_full.ensures.value, c.if-not-is_full.ensures.fits) in
    let some : 0 < length c.args.text.now = grind (arith, nat_tests, c.if-not-is_empty.ensures) in
    word_held (λ word. word.now) HELD_WORDS c.args.words.now.items c.push.new.self.items c.args.text c.push.ensures.items room (some, c.requires)

pub returns-else-not-is_full : goal.returns-else-not-is_full
returns-else-not-is_full c = elim c.else-not-is_full.branch [
  | else-not-is_full-via-then-not-is_full+else-not-is_empty w ↦
      let none : length c.args.text.now ≡ 0 = grind (arith, nat_tests, w.if-not-is_empty.ensures) in
      none_held (λ word. word.now) HELD_WORDS c.args.words.now.items c.args.text.now w.if-not-is_full.ensures.fits none
  | else-not-is_full-via-else-not-is_full w ↦
      let full : length c.args.words.now.items ≡ HELD_WORDS = grind (arith, nat_tests, w.if-not-is_full.ensures.value) in
      no_room (λ word. word.now) HELD_WORDS c.args.words.now.items c.args.text.now full
]
