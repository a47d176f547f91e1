use Rattle.std.proofs.Common.{◌≡◌, ◌∙◌, ap, subst, sym}
use Rattle.std.proofs.lemmas.Result.{on_ok_weaker}
use Rattle.board_core.specs.declared.board.DiskCall.TheVariants.{Sync}
use Rattle.board_core.specs.Stop.{Left, Same}
use Rattle.host_system.specs.BoardFile.{SeesSame}
use Rattle.ras_host.specs.BoardState.{BoardState}
use Rattle.ras_host.specs.Steps.KeptDevice.{IsSaved}
use Rattle.ras_host.proofs.BlameLemmas.{caused_files}
use Rattle.ras_host.proofs.DiskCallLemmas.{begun, made_synced}
use Rattle.ras_host.proofs.ReadingLemmas.{reading_then}
use Rattle.ras_host.proofs.ToldLemmas.{in_step_moved, settled_moved, settled_now, spared_moved}
use Rattle.ras_host.proofs.file_board.FileBoardBoard.sync.Goals as goal

pub invariant_of-self-2 : goal.invariant_of-self-2
invariant_of-self-2 g c =
    let b = c.self-2.inside in
    let was = c.self-2.invariant in
    let r = c.sync-answer in (
      r.ensures.held,
      in_step_moved Same SeesSame b.files r.new.self b.kept _ _ r.ensures.moves (λ p q same. ap (λ (l : Left). l.store) same) was.1,
      settled_moved SeesSame Same b.files r.new.self b.kept _ _ r.ensures.moves was.1 was.2,
      caused_files g.U.Use.HOW b.files r.new.self b.kept _ _ _ _ _ _ r.result was.3 r.ensures.blamed r.ensures.cause c.counted_by-2.ensures.counts c.counted_by-2.ensures.refused,
      spared_moved SeesSame Same b.files r.new.self g.B.Found.past _ _ r.ensures.moves was.4,
      (λ is. reading_then b.kept g.B.Found.past _ _ (was.5 is) (r.ensures.moves.reading (was.3.report is))),
    )

pub returns : goal.returns
returns g c =
    let a = c.self.inside in
    let b = c.self-2.inside in
    let r = c.sync-answer in
    let ready = c.in_ok-begin.ensures in
    let begins : BoardState = record {
      past = g.S.System.told b.system;
      files = b.files;
      kept = b.kept;
      faults = record { disk = b.disk_faults; registers = b.register_faults; prints = b.print_faults };
      count = g.S.System.faults b.system;
      refused = b.refusals;
      disk_calls = b.disk_calls.calls;
      accesses = b.accesses.calls;
    } in
    let first = begun (Sync c.args.file) _ c.args.self.now c.begin.new.self begins c.self-2.view_is ready.told ready.stops ready.cause in
    let kept : b.kept ≡ a.kept = ap (λ (v : BoardState). v.kept) c.self-2.view_is ∙ (ready.kept ∙ sym (ap (λ (v : BoardState). v.kept) c.self.view_is)) in
    let saved = subst IsSaved (sym kept) (c.is_saved.ensures.saved c.if-not-is_saved.false) in
    let now = settled_moved SeesSame Same b.files r.new.self b.kept _ _ r.ensures.moves c.self-2.invariant.1 c.self-2.invariant.2 in
    let settled = on_ok_weaker r.result (λ sound. settled_now r.new.self b.kept _ now sound saved) r.ensures.sound in
    record {
      does = made_synced c.args.file r.result c.counted_by-2.result c.counted_by-2.new.faults (g.S.System.faults r.new.system) c.args.self.now begins _ first
          r.ensures.moves.sees r.ensures.moves.stops r.ensures.synced settled c.counted_by-2.ensures.ok c.counted_by-2.ensures.err c.counted_by-2.ensures.cause;
    }
