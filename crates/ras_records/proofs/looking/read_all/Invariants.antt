-- The records before the index were read.
use Rattle.std.proofs.Common.{◌≡◌, IfSome}
use Rattle.board_core.specs.Told.{Relates}
use Rattle.erst_interp.specs.Run.{KeepsButDevice}
use Rattle.ras_records.specs.Steps.Reading.{ReachesTo}
use Rattle.ras_records.proofs.ReadingLemmas.{ReadTo}
use Rattle.ras_records.proofs.looking.read_all.Given as goal

abbrev pub invariant-loop-id : goal.invariant-loop-id
invariant-loop-id g l = record {
  read : IfSome (g.B.Board.seen l.fn.board).told (λ t.
      ReadTo g.B.Board.seen l.driver l.topology l.seconds l.ids l.id-index t l.looked l.fn.board l.board);
  kept : Relates KeepsButDevice (g.B.Board.seen l.fn.board).told (g.B.Board.seen l.board).told;
  faults : (g.B.Board.seen l.board).faults ≡ (g.B.Board.seen l.fn.board).faults;
  reaches : ReachesTo l.id-index l.looked;
}
