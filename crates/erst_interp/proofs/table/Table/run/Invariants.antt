-- The run is in progress; if the list's entries run one after the other, so do the rest.
use Rattle.std.proofs.Common.{◌≡◌, ◌-◌}
use Rattle.std.specs.Prelude.{IsTrue}
use Rattle.std.specs.List.{list_all}
use Rattle.erst_interp.specs.Machine.{most_turns}
use Rattle.erst_interp.specs.Steps.Parts.{is_straight}
use Rattle.erst_interp.proofs.ReachLemmas.{Reaches}
use Rattle.erst_interp.proofs.RunLemmas.{Way}
use Rattle.erst_interp.proofs.table.Table.run.Given as goal

abbrev pub invariant-loop : goal.invariant-loop
invariant-loop g l = record {
  way : Way l.list (most_turns - l.counter) l.input l.variables
      (g.B.Board.seen l.fn.board)
      (g.B.Board.seen l.board);
  straight : IsTrue (list_all is_straight l.list) → l.variables.index ≡ l.counter;
  reached : IsTrue (list_all is_straight l.list) → Reaches l.list l.variables.index (g.B.Board.seen l.fn.board).told (g.B.Board.seen l.board).told;
}
