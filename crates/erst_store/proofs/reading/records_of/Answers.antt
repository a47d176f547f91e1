use Rattle.std.proofs.Common.{[], arith}
use Rattle.std.proofs.lemmas.Result.{err_from_is_err_and}
use Rattle.std.proofs.lemmas.Bool.Decides.{nat_tests}
use Rattle.erst_store.specs.StoreReading.{records_at}
use Rattle.erst_store.proofs.ReadingLemmas.{goes_on, ends_read, ends_follow, is_left, is_all}
use Rattle.erst_store.proofs.reading.records_of.Goals as goal

pub returns-in_err-id : goal.returns-in_err-id
returns-in_err-id c =
    let p = err_from_is_err_and c.from_residual.result c.from_residual.ensures.1 in
    rw (p.1, p.2) (ends_read c.in_err-id.field-0.0 c.args.count c.loop.counter c.loop.store c.loop.rest.now (records_at c.args.count [] c.args.bytes.now) c.loop-test.true c.in_err-id.ensures c.loop.invariant)

pub returns-in_err-append : goal.returns-in_err-append
returns-in_err-append c =
    let p = err_from_is_err_and c.from_residual-in_err-append.result c.from_residual-in_err-append.ensures.1 in
    rw (p.1, p.2) (ends_follow c.in_err-append.field-0.0 c.args.count c.loop.counter c.loop.store c.loop.rest.now c.in_ok-id.after.now (record { id = c.in_ok-id.id; bytes = c.in_ok-id.content.now }) (records_at c.args.count [] c.args.bytes.now) c.loop-test.true c.in_ok-id.ensures c.in_err-append.ensures c.loop.invariant)

pub loop-preserved : goal.loop-preserved
loop-preserved c =
    goes_on c.args.count c.loop.counter c.loop.store c.append.new.self c.loop.rest.now c.in_ok-id.after.now (record { id = c.in_ok-id.id; bytes = c.in_ok-id.content.now }) (records_at c.args.count [] c.args.bytes.now) c.loop-test.true c.in_ok-id.ensures c.in_ok-append.ensures c.loop.invariant

pub returns-then-not-is_empty : goal.returns-then-not-is_empty
returns-then-not-is_empty c =
    is_left c.args.count c.loop.counter c.loop.store c.loop.rest.now (records_at c.args.count [] c.args.bytes.now) c.loop-test.false (grind (arith, nat_tests, c.is_empty.ensures, c.if-not-is_empty.true)) c.loop.invariant

pub returns : goal.returns
returns c =
    is_all c.args.count c.loop.counter c.loop.store c.loop.rest.now (records_at c.args.count [] c.args.bytes.now) c.loop-test.false (grind (arith, nat_tests, c.is_empty.ensures, c.if-not-is_empty.false)) c.loop.invariant
