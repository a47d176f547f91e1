-- The steps so far were done.
use Rattle.std.proofs.Common.{take}
use Rattle.erst_driver.specs.Steps.Operating.{Done}
use Rattle.erst_driver.specs.Steps.Operating.{Called}
use Rattle.erst_driver.proofs.driver.Driver.operate.Given as goal

abbrev pub invariant-loop-step : goal.invariant-loop-step
invariant-loop-step g l = record {
  done : Done l.self (λ d. take l.step-index l.steps)
      (g.B.Board.seen l.fn.board)
      (g.B.Board.seen l.board);
  called : Called l.self l.step-index (g.B.Board.seen l.fn.board).told (g.B.Board.seen l.board).told;
}
