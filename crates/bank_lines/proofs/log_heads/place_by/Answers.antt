use Rattle.std.proofs.Common.{◌+◌, ◌-◌, length, get_or, arith}
use Rattle.std.proofs.lemmas.Bool.{both_ways}
use Rattle.bank_lines.proofs.LogHeadLemmas.{NoneBelow, none_at_all, none_passed, none_round, passed_all, passed_at, rest_size}
use Rattle.bank_lines.proofs.log_heads.place_by.Goals as goal

pub loop-passed-preserved : goal.loop-passed-preserved
loop-passed-preserved c =
    let line = c.args.within.now in
    let text = c.args.text.now in
    let pivot = c.args.pivot in
    let l = c.loop-passed in
    let passed = c.in-Some.passed in
    let found = passed_at (get_or text pivot 0) _ passed c.in-Some.ensures.place in
    let below : NoneBelow pivot text line (l.from + passed) = none_passed pivot text line l.from passed c.requires (omega (arith, found.0, rest_size l.from line)) l.invariant.none found.1 in
    record {
      inside = omega (arith, found.0, rest_size l.from line);
      none = none_round pivot text line (l.from + passed) below (λ both. both_ways _ c.if-stands_round.false (c.stands_round.ensures.1 both));
    }

pub returns-then-stands_round : goal.returns-then-stands_round
returns-then-stands_round c =
    let line = c.args.within.now in
    let text = c.args.text.now in
    let pivot = c.args.pivot in
    let l = c.loop-passed in
    let passed = c.in-Some.passed in
    let found = passed_at (get_or text pivot 0) _ passed c.in-Some.ensures.place in
    let below : NoneBelow pivot text line (l.from + passed) = none_passed pivot text line l.from passed c.requires (omega (arith, found.0, rest_size l.from line)) l.invariant.none found.1 in
    let round = c.stands_round.ensures.0 c.if-stands_round.true in (
      record {
        low = omega arith;
        high = omega (arith, round.1.fits);
        before = λ k low high. below k (omega arith);
      },
      round.1,
    )

pub returns : goal.returns
returns c =
    let line = c.args.within.now in
    let text = c.args.text.now in
    let pivot = c.args.pivot in
    let l = c.loop-passed in
    let none = passed_all (get_or text pivot 0) _ c.in_default.ensures.place in
    let below : NoneBelow pivot text line (l.from + (length line - l.from)) = none_passed pivot text line l.from (length line - l.from) c.requires (omega arith) l.invariant.none (λ k low. none k (omega (arith, low, rest_size l.from line))) in
    none_at_all pivot text line c.requires (λ k before. below k (omega arith))
