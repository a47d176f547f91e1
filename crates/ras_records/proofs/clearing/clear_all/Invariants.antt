-- The records before the index are cleared.
use Rattle.std.proofs.Common.{◌≡◌, ◌⊎◌, IfSome}
use Rattle.board_core.specs.Told.{Relates, device_of}
use Rattle.erst_store.specs.DeviceLaws.{IsDevice}
use Rattle.erst_interp.specs.Run.{KeepsButDevice}
use Rattle.erst_driver.specs.Operations.{clear_calls}
use Rattle.ras_records.proofs.EachLemmas.{DoneTo}
use Rattle.ras_records.proofs.clearing.clear_all.Given as goal

abbrev pub invariant-loop-id : goal.invariant-loop-id
invariant-loop-id g l = record {
  done : IfSome (g.B.Board.seen l.fn.board).told (λ t.
      DoneTo g.B.Board.seen (clear_calls l.driver) l.ids l.id-index t l.fn.board l.board);
  kept : Relates KeepsButDevice (g.B.Board.seen l.fn.board).told (g.B.Board.seen l.board).told;
  faults : (g.B.Board.seen l.board).faults ≡ (g.B.Board.seen l.fn.board).faults;
  device : ((l.id-index ≡ 0) × (l.board ≡ l.fn.board)) ⊎ IfSome (g.B.Board.seen l.fn.board).told (λ t. IsDevice (device_of t));
}
