-- This many identifiers were listed, and none was the end.
use Rattle.erst_driver.proofs.ListLemmas.{Listing}
use Rattle.erst_driver.specs.Steps.Operating.{Called}
use Rattle.erst_driver.proofs.driver.Driver.list_to_end.Given as goal

abbrev pub invariant-loop : goal.invariant-loop
invariant-loop g l = record {
  listing : Listing l.self l.counter
      (g.B.Board.seen l.fn.board)
      (g.B.Board.seen l.board);
  called : Called l.self l.counter (g.B.Board.seen l.fn.board).told (g.B.Board.seen l.board).told;
}
