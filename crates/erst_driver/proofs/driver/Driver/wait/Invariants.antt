-- This many checks were made, and the device was busy at each.
use Rattle.erst_driver.proofs.WaitLemmas.{Waiting}
use Rattle.erst_driver.specs.Steps.Operating.{Called}
use Rattle.erst_driver.proofs.driver.Driver.wait.Given as goal

abbrev pub invariant-loop : goal.invariant-loop
invariant-loop g l = record {
  waiting : Waiting l.self l.counter
      (g.B.Board.seen l.fn.board)
      (g.B.Board.seen l.board);
  called : Called l.self l.counter (g.B.Board.seen l.fn.board).told (g.B.Board.seen l.board).told;
}
