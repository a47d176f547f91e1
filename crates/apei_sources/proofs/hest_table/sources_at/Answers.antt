-- Each source is refused, or is appended.
use Rattle.std.proofs.Common.{sym, arith}
use Rattle.std.proofs.lemmas.Result.{err_from_is_err_and}
use Rattle.std.proofs.lemmas.List.{take_rest}
use Rattle.apei_sources.proofs.HestLemmas.{fails, fails_so, left_refused, left_repeated, left_more, left_none}
use Rattle.apei_sources.proofs.hest_table.sources_at.Goals as goal

pub returns-in_err-size-clause-answer : goal.returns-in_err-size-clause-answer
returns-in_err-size-clause-answer c =
    let p = err_from_is_err_and c.from_residual.result c.from_residual.ensures.1 in
    let why = c.in_err-size.field-0.0 in
    let ends =
    left_refused c.args.count c.loop-done.done c.loop-done.sources.entries c.args.bytes.now c.loop-done.rest.now
    c.loop-done.invariant.left c.loop-done-test.true why in
    rw (p.1, p.2) (fails why _ (ends (sym c.in_err-size.ensures.answer)))

pub returns-in_err-add_source-clause-answer : goal.returns-in_err-add_source-clause-answer
returns-in_err-add_source-clause-answer c =
    let p = err_from_is_err_and c.from_residual-in_err-add_source.result c.from_residual-in_err-add_source.ensures.1 in
    let why = c.in_err-add_source.field-0.0 in
    let ends =
    left_repeated c.args.count c.loop-done.done c.loop-done.sources.entries c.args.bytes.now c.loop-done.rest.now
    c.loop-done.invariant.left c.loop-done-test.true c.in_ok-size.size why (sym c.in_ok-size.ensures.answer) in
    rw (p.1, p.2) (fails_so why _ _ ends c.in_err-add_source.ensures.answer)

pub loop-done-preserved : goal.loop-done-preserved
loop-done-preserved c =
    let next =
    left_more c.args.count c.loop-done.done c.loop-done.sources.entries c.args.bytes.now c.loop-done.rest.now
    c.loop-done.invariant.left c.loop-done-test.true c.add_source.new.sources.entries c.in_ok-size.size in
    rw (take_rest c.loop-done.rest.now c.in_ok-size.size) (record {
      once = c.add_source.ensures.once;
      left = next (sym c.in_ok-size.ensures.answer) c.in_ok-add_source.ensures.answer;
    })

pub returns-clause-answer : goal.returns-clause-answer
returns-clause-answer c =
    left_none c.args.count c.loop-done.done c.loop-done.sources.entries c.args.bytes.now c.loop-done.rest.now
    c.loop-done.invariant.left (omega arith)
