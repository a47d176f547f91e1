use Rattle.host_system.specs.FolderPast.{bytes_named}
use Rattle.host_system.specs.declared.system.FileName.TheVariants.{Store}
use Rattle.ras_host.specs.BoardState.{kept_for}
use Rattle.ras_host.proofs.BlameLemmas.{caused_begun}
use Rattle.ras_host.proofs.BegunLemmas.{held_begun, in_step_begun, off_begun, settled_begun, store_kept}
use Rattle.ras_host.proofs.ReadingLemmas.{reading_begun}
use Rattle.ras_host.proofs.ToldLemmas.{spared_begun}
use Rattle.ras_host.proofs.file_board.FileBoard.new.Goals as goal

pub invariant_of-result : goal.invariant_of-result
invariant_of-result g c = (
  rw c.new.ensures (rw c.HOW.ensures (held_begun g.U.Use.HOW _ c.requires.begins)),
  rw c.new-2.ensures (rw c.HOW-2.ensures (in_step_begun (λ p may. store_kept _ c.file_laws.ensures.store (bytes_named Store p) may.bytes) g.U.Use.HOW _ c.requires.begins)),
  rw c.new.ensures (rw c.HOW.ensures (settled_begun g.U.Use.HOW _ _)),
  rw c.none.ensures (rw c.new.ensures (rw c.new-2.ensures (rw c.HOW.ensures (rw c.HOW-2.ensures (caused_begun g.U.Use.HOW _ c.requires.quiet))))),
  spared_begun g.B.Found.past _ c.requires.found,
  (λ is. rw c.new-2.ensures (rw c.HOW-2.ensures (reading_begun (kept_for g.U.Use.HOW) g.B.Found.past _ (off_begun g.U.Use.HOW is) c.requires.found))),
)
