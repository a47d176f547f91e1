use Rattle.std.proofs.Common.{◌≡◌, ◌∙◌, take, refl, arith}
use Rattle.std.proofs.lemmas.List.{take_more_set, length-set, take_all}
use Rattle.std.proofs.lemmas.Result.{err_from_is_err_and}
use Rattle.entry_format.specs.Reading.{u64_at, many_at}
use Rattle.entry_format.proofs.LoopLemmas.{goes_on, refuses, is_done}
use Rattle.journal_format.proofs.row_reading.sums_at.Goals as goal

pub returns-in_err-weight : goal.returns-in_err-weight
returns-in_err-weight c =
    let p = err_from_is_err_and c.from_residual.result c.from_residual.ensures.1 in
    rw (p.1, p.2) (refuses u64_at c.in_err-weight.field-0.0 (take c.loop-i.i c.loop-i.sums) 10 c.loop-i.i c.loop-i.rest.now (many_at u64_at 10 c.args.bytes.now) c.loop-i-test.true c.in_err-weight.ensures c.loop-i.invariant.so_far)

pub loop-i-preserved : goal.loop-i-preserved
loop-i-preserved c = record {
  ten = omega (arith, length-set c.loop-i.sums c.loop-i.i c.in_ok-weight.weight, c.loop-i.invariant.ten);
  so_far =
      rw (take_more_set c.loop-i.sums c.loop-i.i c.in_ok-weight.weight (omega (arith, c.loop-i.invariant.ten, c.loop-i-test.true)))
      (goes_on u64_at (take c.loop-i.i c.loop-i.sums) 10 c.loop-i.i c.loop-i.rest.now c.in_ok-weight.weight c.in_ok-weight.after.now (many_at u64_at 10 c.args.bytes.now) c.loop-i-test.true c.in_ok-weight.ensures c.loop-i.invariant.so_far);
}

pub returns : goal.returns
returns c =
    let all : take c.loop-i.i c.loop-i.sums ≡ c.loop-i.sums = take_all c.loop-i.i c.loop-i.sums (omega (arith, c.loop-i.invariant.ten, c.loop-i-test.false)) in
    is_done u64_at (take c.loop-i.i c.loop-i.sums) 10 c.loop-i.i c.loop-i.rest.now (many_at u64_at 10 c.args.bytes.now) c.loop-i-test.false c.loop-i.invariant.so_far ∙ rw all refl
