use Rattle.std.proofs.Common.{◌≡◌, ◌-◌, suc, drop, sym, ap, ◌∙◌, arith}
use Rattle.bank_lines.proofs.LogHeadLemmas.{rest_is}
use Rattle.bank_lines.proofs.WordLemmas.{last_behind_space, last_whole}
use Rattle.bank_lines.proofs.trace.last_word.Goals as goal

pub returns-then-text-start-eq32 : goal.returns-then-text-start-eq32
returns-then-text-start-eq32 c =
    let text = c.args.text.now in
    let l = c.loop-start in
    let same : suc (l.start - 1) ≡ l.start = omega (arith, c.loop-start-test.true) in
    rest_is l.start text ∙ ap (λ n. drop n text) (sym same)
    ∙ sym (last_behind_space text (l.start - 1) (omega (arith, same, l.invariant.inside)) c.if-text-start-eq32.true (λ k d low high. l.invariant.none k d (omega (arith, same, low)) high))

pub returns : goal.returns
returns c =
    let l = c.loop-start in
    sym (last_whole c.args.text.now (λ k d low high. l.invariant.none k d (omega (arith, low, c.loop-start-test.false)) high))
