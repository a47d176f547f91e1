use Rattle.std.proofs.Common.{◌≡◌, ◌+◌, ◌-◌, subst, length, arith}
use Rattle.bank_lines.specs.Steps.Names.{LastBelow}
use Rattle.bank_lines.proofs.LogHeadLemmas.{passed_all, passed_at, rest_size}
use Rattle.bank_lines.proofs.NameLemmas.{last_finds, last_passed}
use Rattle.bank_lines.proofs.trace.last_mark.Goals as goal

pub last_here-last-requires-clause-last : goal.last_here-last-requires-clause-last
last_here-last-requires-clause-last c =
    let line = c.args.line.now in
    let l = c.loop-passed in
    let passed = c.in-Some.passed in
    let found = passed_at 95 _ passed c.in-Some.ensures.place in
    last_passed line l.from passed l.last (omega (arith, found.0, rest_size l.from line)) l.invariant.last found.1

pub returns-clause-place : goal.returns-clause-place
returns-clause-place c =
    let line = c.args.line.now in
    let l = c.loop-passed in
    let none = passed_all 95 _ c.in_default.ensures.place in
    let behind : LastBelow line (l.from + (length line - l.from)) l.last =
    last_passed line l.from (length line - l.from) l.last (omega arith) l.invariant.last (λ k low. none k (omega (arith, low, rest_size l.from line))) in
    let whole : l.from + (length line - l.from) ≡ length line = omega (arith, l.invariant.inside) in
    last_finds line l.last (subst (λ n. LastBelow line n l.last) whole behind)
