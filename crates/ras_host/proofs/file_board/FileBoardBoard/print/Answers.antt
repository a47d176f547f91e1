use Rattle.board_core.specs.declared.board.FileNo.TheVariants.{Zero}
use Rattle.host_system.proofs.CallLemmas.{prints}
use Rattle.ras_host.specs.BoardState.{BoardState}
use Rattle.ras_host.proofs.BlameLemmas.{caused_print}
use Rattle.ras_host.proofs.DiskCallLemmas.{made_print}
use Rattle.ras_host.proofs.ReadingLemmas.{goes_printed, reading_then}
use Rattle.ras_host.proofs.ToldLemmas.{held_printed, in_step_printed, printed_keeps, settled_printed, spared_wrote}
use Rattle.ras_host.proofs.file_board.FileBoardBoard.print.Goals as goal

pub invariant_of-self : goal.invariant_of-self
invariant_of-self g c =
    let b = c.self.inside in
    let print = prints c.args.bytes.now c.print.result _ _ c.print.ensures.told c.print.ensures.failed in
    let keeps = printed_keeps c.args.bytes.now c.print.result _ _ print.told print.failed print.keeps in (
      held_printed b.files _ _ keeps c.self.invariant.0,
      in_step_printed b.kept _ _ keeps c.self.invariant.1,
      settled_printed b.files b.kept _ _ keeps c.self.invariant.2,
      caused_print g.U.Use.HOW b.files b.kept _ _ _ _ _ c.print.result c.self.invariant.3 c.print.ensures.cause c.counted.ensures.counts,
      spared_wrote Zero g.B.Found.past _ _ (print.keeps Zero) c.self.invariant.4,
      (λ is. reading_then b.kept g.B.Found.past _ _ (c.self.invariant.5 is) (goes_printed c.args.bytes.now c.print.result _ _ c.print.ensures.told c.print.ensures.failed)),
    )

pub returns : goal.returns
returns g c =
    let b = c.self.inside in
    let board : BoardState = record {
      past = g.S.System.told b.system;
      files = b.files;
      kept = b.kept;
      faults = record { disk = b.disk_faults; registers = b.register_faults; prints = b.print_faults };
      count = g.S.System.faults b.system;
      refused = b.refusals;
      disk_calls = b.disk_calls.calls;
      accesses = b.accesses.calls;
    } in
    let print = prints c.args.bytes.now c.print.result _ _ c.print.ensures.told c.print.ensures.failed in
    record {
      does = rw (← c.self.view_is) (made_print c.args.bytes.now c.print.result c.counted.result c.counted.new.faults (g.S.System.faults c.print.new.self) board _ print
          c.counted.ensures.ok c.counted.ensures.err c.counted.ensures.counts);
    }
