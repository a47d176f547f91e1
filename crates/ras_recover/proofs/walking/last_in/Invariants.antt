use Rattle.std.proofs.Common.{◌≡◌}
use Rattle.board_core.specs.Doing.{went_well}
use Rattle.ras_recover.specs.Steps.Looking.{Looks, ReadsPart}
use Rattle.ras_recover.specs.Steps.Reading.{front_at}
use Rattle.ras_recover.specs.Steps.Windows.{Covers, end_of}
use Rattle.ras_recover.proofs.HoldingLemmas.{GoesOn}
use Rattle.ras_recover.proofs.walking.last_in.Given as goal

-- The number of followed links is the number of steps.
abbrev pub invariant-loop : goal.invariant-loop
invariant-loop g l = record {
  links : l.place.links ≡ l.counter;
  covers : Covers l.file l.place.gate (g.B.Board.seen l.board).told l.window;
  goes_on : GoesOn l.file (g.B.Board.seen l.fn.board).told l.counter (front_at l.fn.first l.fn.account.state) (front_at l.place l.account.state);
  looks : Looks went_well (λ t. ReadsPart l.file.no (end_of l.fn.window) (end_of l.window))
      (g.B.Board.seen l.fn.board) (g.B.Board.seen l.board);
}
