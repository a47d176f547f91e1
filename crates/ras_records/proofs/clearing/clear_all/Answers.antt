use Rattle.std.proofs.Common.{◌∙◌, IfSome, inr}
use Rattle.std.proofs.lemmas.Result.{err_from_is_err_and}
use Rattle.board_core.specs.Told.{device_of}
use Rattle.erst_store.specs.DeviceLaws.{IsDevice}
use Rattle.ras_records.proofs.KeptLemmas.{kept_both}
use Rattle.erst_driver.specs.Operations.{clear_calls}
use Rattle.ras_records.proofs.EachLemmas.{called_once, each_more, each_refused}
use Rattle.ras_records.proofs.clearing.clear_all.Goals as goal

pub returns-in_err-clear-clause-does : goal.returns-in_err-clear-clause-does
returns-in_err-clear-clause-does g c =
    let p = err_from_is_err_and c.from_residual.result c.from_residual.ensures.1 in
    rw (p.1, p.2) (each_refused g.B.Board.seen (clear_calls c.args.driver.now) c.args.ids.now c.loop-id.id-index _ _ _
    c.loop-id-test.true 0 c.loop-id.invariant.done c.in_err-clear.field-0.0 c.in_err-clear.ensures.clears.does c.in_err-clear.ensures.clears.answers c.in_err-clear.ensures.clears.ends.refused)

pub returns-in_err-clear-clause-kept : goal.returns-in_err-clear-clause-kept
returns-in_err-clear-clause-kept g c = kept_both _ _ _ c.loop-id.invariant.kept c.in_err-clear.ensures.clears.kept

pub loop-id-preserved : goal.loop-id-preserved
loop-id-preserved g c = record {
  done = each_more g.B.Board.seen (clear_calls c.args.driver.now) c.args.ids.now c.loop-id.id-index _ _ _
      c.loop-id-test.true 0 c.loop-id.invariant.done c.in_ok-clear.ensures.clears.does c.in_ok-clear.ensures.clears.answers;
  kept = kept_both _ _ _ c.loop-id.invariant.kept c.in_ok-clear.ensures.clears.kept;
  faults = c.in_ok-clear.ensures.clears.ends.cause ∙ c.loop-id.invariant.faults;
  device = inr (called_once (λ x. IfSome (g.B.Board.seen x).told (λ t. IsDevice (device_of t))) c.args.board.now c.loop-id.board c.loop-id.invariant.device c.in_ok-clear.ensures.clears.device);
}
