use Rattle.std.proofs.Common.{◌+◌, ◌-◌, length, arith}
use Rattle.std.proofs.lemmas.Bool.{both_ways}
use Rattle.ras_klog.proofs.LineLemmas.{NoneBelow, none-at-all, none-passed, none-round, passed_all, passed_at, rest_size}
use Rattle.ras_klog.proofs.line.marker_in.Goals as goal

pub loop-passed-preserved : goal.loop-passed-preserved
loop-passed-preserved c =
    let line = c.args.line.now in
    let l = c.loop-passed in
    let passed = c.in-Some.passed in
    let found = passed_at 72 _ passed c.in-Some.ensures.place in
    let size = rest_size l.from line in
    let below : NoneBelow line (l.from + passed) = none-passed line l.from passed (omega (arith, found.0, size)) l.invariant.none found.1 in
    record {
      inside = omega (arith, found.0, size);
      none = none-round line (l.from + passed) below (λ both. both_ways _ c.if-has_marker_round.false (c.has_marker_round.ensures.1 both));
    }

pub returns-then-has_marker_round : goal.returns-then-has_marker_round
returns-then-has_marker_round c =
    let line = c.args.line.now in
    let l = c.loop-passed in
    let passed = c.in-Some.passed in
    let found = passed_at 72 _ passed c.in-Some.ensures.place in
    let size = rest_size l.from line in
    let below : NoneBelow line (l.from + passed) = none-passed line l.from passed (omega (arith, found.0, size)) l.invariant.none found.1 in
    let round = c.has_marker_round.ensures.0 c.if-has_marker_round.true in (
      record {
        low = omega arith;
        high = omega (arith, round.1.fits);
        before = λ k low high. below k (omega arith);
      },
      round.1,
    )

pub returns : goal.returns
returns c =
    let line = c.args.line.now in
    let l = c.loop-passed in
    let rest = length line - l.from in
    let none = passed_all 72 _ c.in_default.ensures.place in
    let below : NoneBelow line (l.from + rest) = none-passed line l.from rest (omega arith) l.invariant.none (λ k low. none k (omega (arith, low, rest_size l.from line))) in
    none-at-all line (λ k before. below k (omega arith))
