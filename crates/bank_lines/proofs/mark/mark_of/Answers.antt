use Rattle.std.proofs.Common.{◌≡◌, ◌+◌, ◌-◌, ◌∙◌, ap, sym, subst, length, arith, None}
use Rattle.std.proofs.lemmas.Bool.{both_ways}
use Rattle.bank_lines.specs.LogLines.{log_mark, mark_by}
use Rattle.bank_lines.specs.Steps.Marks.{FirstBelow}
use Rattle.bank_lines.proofs.EdacMarkLemmas.{at_plain, by_edac, first_passed}
use Rattle.bank_lines.proofs.LogHeadLemmas.{NoneBelow, none_passed, none_round, passed_all, passed_at, rest_size}
use Rattle.bank_lines.proofs.mark.mark_of.Goals as goal

pub first_edac-edac-requires : goal.first_edac-edac-requires
first_edac-edac-requires c =
    let line = c.args.line.now in
    let l = c.loop-passed in
    let passed = c.in-Some.passed in
    let found = passed_at 69 _ passed c.in-Some.ensures.place in
    record {
      inside = omega (arith, found.0, rest_size l.from line);
      first = first_passed line l.from passed l.edac (omega (arith, found.0, rest_size l.from line)) l.invariant.edac found.1;
    }

pub loop-passed-preserved : goal.loop-passed-preserved
loop-passed-preserved c =
    let line = c.args.line.now in
    let l = c.loop-passed in
    let passed = c.in-Some.passed in
    let found = passed_at 69 _ passed c.in-Some.ensures.place in
    let below : NoneBelow 15 log_mark line (l.from + passed) = none_passed 15 log_mark line l.from passed (omega arith) (omega (arith, found.0, rest_size l.from line)) l.invariant.plain found.1 in
    record {
      inside = omega (arith, found.0, rest_size l.from line);
      plain = none_round 15 log_mark line (l.from + passed) below (λ both. both_ways _ c.if-stands_round.false (c.stands_round.ensures.1 both));
      edac = c.first_edac-edac.ensures;
    }

pub returns-in-Some-edac-clause-place : goal.returns-in-Some-edac-clause-place
returns-in-Some-edac-clause-place c =
    let line = c.args.line.now in
    let l = c.loop-passed in
    let none = passed_all 69 _ c.in_default.ensures.place in
    let plain : NoneBelow 15 log_mark line (l.from + (length line - l.from)) = none_passed 15 log_mark line l.from (length line - l.from) (omega arith) (omega arith) l.invariant.plain (λ k low. none k (omega (arith, low, rest_size l.from line))) in
    let edac : FirstBelow line (l.from + (length line - l.from)) l.edac = first_passed line l.from (length line - l.from) l.edac (omega arith) l.invariant.edac (λ k low. none k (omega (arith, low, rest_size l.from line))) in
    let whole : l.from + (length line - l.from) ≡ length line = omega (arith, l.invariant.inside) in
    ap (λ o. mark_by None o) (sym c.in-Some-edac.is) ∙ by_edac line l.edac (subst (NoneBelow 15 log_mark line) whole plain) (subst (λ n. FirstBelow line n l.edac) whole edac)

pub returns-in-None-clause-place : goal.returns-in-None-clause-place
returns-in-None-clause-place c =
    let line = c.args.line.now in
    let l = c.loop-passed in
    let none = passed_all 69 _ c.in_default.ensures.place in
    let plain : NoneBelow 15 log_mark line (l.from + (length line - l.from)) = none_passed 15 log_mark line l.from (length line - l.from) (omega arith) (omega arith) l.invariant.plain (λ k low. none k (omega (arith, low, rest_size l.from line))) in
    let edac : FirstBelow line (l.from + (length line - l.from)) l.edac = first_passed line l.from (length line - l.from) l.edac (omega arith) l.invariant.edac (λ k low. none k (omega (arith, low, rest_size l.from line))) in
    let whole : l.from + (length line - l.from) ≡ length line = omega (arith, l.invariant.inside) in
    ap (λ o. mark_by None o) (sym c.in-None.is) ∙ by_edac line l.edac (subst (NoneBelow 15 log_mark line) whole plain) (subst (λ n. FirstBelow line n l.edac) whole edac)

pub returns-then-stands_round : goal.returns-then-stands_round
returns-then-stands_round c =
    let line = c.args.line.now in
    let l = c.loop-passed in
    let passed = c.in-Some.passed in
    let found = passed_at 69 _ passed c.in-Some.ensures.place in
    let below : NoneBelow 15 log_mark line (l.from + passed) = none_passed 15 log_mark line l.from passed (omega arith) (omega (arith, found.0, rest_size l.from line)) l.invariant.plain found.1 in
    let round = c.stands_round.ensures.0 c.if-stands_round.true in
    record {
      place = at_plain line (l.from + passed - 15) (record { low = omega arith; high = omega (arith, round.1.fits); before = λ k low high. below k (omega arith) }, round.1);
      within = round.1.fits;
    }
