use Rattle.std.proofs.Common.{◌≡◌, ◌++◌, get_or, map, take, ap, ◌∙◌, arith, inl, inr}
use Rattle.std.proofs.lemmas.Bool.{cases_lt}
use Rattle.ras_script.specs.Splitting.{words_of}
use Rattle.ras_script.specs.declared.splitting.TheConstants.{HELD_WORDS}
use Rattle.ras_script.proofs.HeldWordsLemmas.{space_ends}
use Rattle.ras_script.proofs.SpaceLemmas.{lacks_between, rest_is}
use Rattle.ras_script.proofs.splitting.hold_rest.Goals as goal
use Rattle.ras_script.proofs.splitting.hold_rest.Goals.{then-line-place-eq32, else-line-place-eq32}

pub loop-place-preserved : goal.loop-place-preserved
loop-place-preserved c =
    let l = c.loop-place in
    elim c.if-line-place-eq32.branch [
      | then-line-place-eq32 w ↦ rw (w.words-is, w.start-is) (record {
        inside = omega arith;
        unbroken = λ k low high here. absurd (omega arith);
        held = space_ends HELD_WORDS l.start l.place c.args.line.now _ _ _ l.invariant.inside c.loop-place-test.true w.if-line-place-eq32.true l.invariant.held w.hold.ensures;
      })
      | else-line-place-eq32 w ↦ rw (w.words-is, w.start-is) (record {
        inside = omega arith;
        unbroken = λ k low high here. elim (cases_lt k l.place) [
          | inl before ↦ l.invariant.unbroken k low before here
          | inr last ↦ let same : l.place ≡ k = omega arith in w.if-line-place-eq32.false (ap (λ i. get_or c.args.line.now i 0) same ∙ here)
        ];
        held = l.invariant.held;
      })
    ]

pub hold-requires : goal.hold-requires
hold-requires c =
    let l = c.loop-place in
    lacks_between c.args.line.now l.start l.place l.invariant.inside (omega arith) l.invariant.unbroken

pub hold-requires-2 : goal.hold-requires-2
hold-requires-2 c =
    let l = c.loop-place in
    lacks_between c.args.line.now l.start _ (omega arith) (omega arith) (λ k low high. l.invariant.unbroken k low (omega arith))

pub returns : goal.returns
returns c =
    let l = c.loop-place in
    c.hold-2.ensures
    ∙ ap (λ text. take HELD_WORDS (map (λ word. word.now) l.words.items ++ words_of text)) (rest_is c.args.line.now l.start)
    ∙ l.invariant.held
