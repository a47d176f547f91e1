use Rattle.std.proofs.Common.{◌≡◌, ◌<◌, ◌-◌, ◌+◌, ◌/◌, ◌^◌, ◌∷◌, false, drop, length, refl, sym, ap, ◌∙◌, arith}
use Rattle.std.proofs.Math.ListN.{drop_of_length-le, length-set, set}
use Rattle.std.specs.Fmt.{digits_onto}
use Rattle.bank_lines.proofs.NumeralLemmas.{few_left, room_left, onto_nil, onto_last, onto_step, drop-set_cons}
use Rattle.bank_lines.proofs.text.write_word.Goals as goal

pub loop-rest-init : goal.loop-rest-init
loop-rest-init c = record {
  inside = (omega arith, omega arith);
  size = c.told-word;
  small = omega (arith, c.ranges.number.fits);
  written = ap (digits_onto 64 16 false c.args.number) (drop_of_length-le c.args.word.now {i = 17} (omega (arith, c.told-word))) ∙ onto_nil c.args.number;
}

pub loop-rest-preserved : goal.loop-rest-preserved
loop-rest-preserved c =
    let l = c.loop-rest in
    let kept = length-set l.word (l.place - 1) c.digit_of.result ∙ l.invariant.size in
    let small : l.rest / 16 < 16 ^ (l.place - 1 - 1) = few_left l.rest (l.place - 1) (omega (arith, l.invariant.inside.0)) l.invariant.small in
    let step : l.place - 1 + 47 ≡ l.place + 47 - 1 = omega (arith, l.invariant.inside.0) in
    let written = ap (digits_onto (l.place + 47 - 1) 16 false (l.rest / 16)) (drop-set_cons l.word l.place _ _ (omega (arith, l.invariant.inside.0)) (omega (arith, l.invariant.inside, l.invariant.size)) c.digit_of.ensures) in
    record {
      inside = (omega (arith, l.invariant.inside.0, room_left (l.rest / 16) (l.place - 1 - 1) small c.if-rest-eq0.false), omega (arith, l.invariant.inside));
      size = kept;
      small = small;
      written = rw step (written ∙ sym (onto_step 16 false l.rest (drop l.place l.word) (l.place + 47) (omega arith) c.if-rest-eq0.false) ∙ l.invariant.written);
    }

pub returns : goal.returns
returns c =
    let l = c.loop-rest in
    let kept : length (set l.word (l.place - 1) c.digit_of.result) ≡ length l.word = length-set l.word (l.place - 1) c.digit_of.result in
    let written = drop-set_cons l.word l.place _ _ (omega (arith, l.invariant.inside.0)) (omega (arith, l.invariant.inside, l.invariant.size)) c.digit_of.ensures in
    let digits = written ∙ sym (onto_last 16 false l.rest (drop l.place l.word) (l.place + 47) (omega arith) c.if-rest-eq0.true) ∙ l.invariant.written in
    record {
      within = omega (arith, l.invariant.inside);
      word = drop-set_cons (set l.word (l.place - 1) c.digit_of.result) (l.place - 1) 32 32 (omega (arith, l.invariant.inside.0)) (omega (arith, kept, l.invariant.inside, l.invariant.size)) refl ∙ ap (λ rest. 32 ∷ rest) digits;
    }
