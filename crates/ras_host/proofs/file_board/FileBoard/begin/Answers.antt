use Rattle.std.proofs.Common.{ap}
use Rattle.board_core.specs.Stop.{Left, Same}
use Rattle.host_system.specs.BoardFile.{SeesSame}
use Rattle.ras_host.proofs.BlameLemmas.{caused_files}
use Rattle.ras_host.proofs.ReadingLemmas.{reading_then}
use Rattle.ras_host.proofs.ToldLemmas.{in_step_moved, settled_moved, spared_moved}
use Rattle.ras_host.proofs.file_board.FileBoard.begin.Goals as goal

pub invariant_of-self : goal.invariant_of-self
invariant_of-self g c =
    let b = c.self.inside in
    let was = c.self.invariant in
    let r = c.ready-answer in (
      r.ensures.held,
      in_step_moved Same SeesSame b.files r.new.self b.kept _ _ r.ensures.moves (λ p q same. ap (λ (l : Left). l.store) same) was.1,
      settled_moved SeesSame Same b.files r.new.self b.kept _ _ r.ensures.moves was.1 was.2,
      caused_files g.U.Use.HOW b.files r.new.self b.kept _ _ _ _ _ _ r.result was.3 r.ensures.blamed r.ensures.cause c.counted_by.ensures.counts c.counted_by.ensures.refused,
      spared_moved SeesSame Same b.files r.new.self g.B.Found.past _ _ r.ensures.moves was.4,
      (λ is. reading_then b.kept g.B.Found.past _ _ (was.5 is) (r.ensures.moves.reading (was.3.report is))),
    )
