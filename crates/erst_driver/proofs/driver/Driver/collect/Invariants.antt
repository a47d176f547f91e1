-- This many identifiers were listed and collected, and none was the end.
use Rattle.erst_driver.proofs.ListLemmas.{Collecting}
use Rattle.erst_driver.proofs.driver.Driver.collect.Given as goal

abbrev pub invariant-loop : goal.invariant-loop
invariant-loop g l = Collecting l.self l.counter l.found.items
    (g.B.Board.seen l.fn.board)
    (g.B.Board.seen l.board)
