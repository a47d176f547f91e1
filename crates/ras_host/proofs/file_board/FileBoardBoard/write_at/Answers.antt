use Rattle.std.proofs.Common.{◌≤◌, length, ap, subst, sym}
use Rattle.board_core.specs.declared.board.DiskCall.TheVariants.{WriteAt}
use Rattle.host_system.proofs.CallLemmas.{writes}
use Rattle.ras_host.specs.BoardState.{BoardState}
use Rattle.ras_host.specs.JournalFiles.{IsReady}
use Rattle.ras_host.proofs.BlameLemmas.{caused_asked}
use Rattle.ras_host.proofs.DiskCallLemmas.{begun, begun_file, made_refused, made_wrote, write_unready}
use Rattle.ras_host.proofs.JournalLemmas.{held_wrote, ready_open, reading_unwritten}
use Rattle.ras_host.proofs.ToldLemmas.{in_step_wrote, settled_wrote, spared_wrote}
use Rattle.ras_host.proofs.file_board.FileBoardBoard.write_at.Goals as goal

pub returns-in_err-begin : goal.returns-in_err-begin
returns-in_err-begin g c =
    let begin = c.in_err-begin.ensures in
    record { does = write_unready c.args.file c.args.place c.args.bytes.now c.from_residual.result _ c.from_residual.ensures.0 c.args.self.now c.begin.new.self begin.told begin.stops begin.cause }

pub returns-in-Seen : goal.returns-in-Seen
returns-in-Seen g c =
    let b = c.self.inside in
    let board : BoardState = record {
      past = g.S.System.told b.system;
      files = b.files;
      kept = b.kept;
      faults = record { disk = b.disk_faults; registers = b.register_faults; prints = b.print_faults };
      count = g.S.System.faults b.system;
      refused = b.refusals;
      disk_calls = b.disk_calls.calls;
      accesses = b.accesses.calls;
    } in
    let ready = c.in_ok-begin.ensures in
    let first = begun (WriteAt c.args.file c.args.place (length c.args.bytes.now)) _ c.args.self.now c.begin.new.self board c.self.view_is ready.told ready.stops ready.cause in
    record { does = made_refused c.args.file c.args.place c.args.bytes.now c.counted_by.result _ c.counted_by.new.faults (g.S.System.faults b.system) c.args.self.now board first c.counted_by.ensures.err c.counted_by.ensures.counts }

pub invariant_of-self-2 : goal.invariant_of-self-2
invariant_of-self-2 g c =
    let b = c.self.inside in
    let board : BoardState = record {
      past = g.S.System.told b.system;
      files = b.files;
      kept = b.kept;
      faults = record { disk = b.disk_faults; registers = b.register_faults; prints = b.print_faults };
      count = g.S.System.faults b.system;
      refused = b.refusals;
      disk_calls = b.disk_calls.calls;
      accesses = b.accesses.calls;
    } in
    let begin = c.in_ok-begin.ensures in
    let first = begun (WriteAt c.args.file c.args.place (length c.args.bytes.now)) _ c.args.self.now c.begin.new.self board c.self.view_is begin.told begin.stops begin.cause in
    let ready = subst (IsReady c.args.file) (sym (ap (λ (v : BoardState). v.files) c.self.view_is)) begin.ready in
    let usable = ready_open c.args.file b.files _ ready c.in_default.not-Seen c.self.invariant.0 in
    let within = begun_file c.args.file (WriteAt c.args.file c.args.place (length c.args.bytes.now)) (λ bytes. c.args.place ≤ length bytes) board (g.S.System.told b.system) _ first.told c.requires in
    let r = c.write_at-answer in
    let wrote = writes c.args.file c.args.place c.args.bytes.now r.result _ _ usable within r.ensures.told r.ensures.failed in (
      held_wrote c.args.file b.files _ _ ready c.in_default.not-Seen c.self.invariant.0 wrote.keeps wrote.usable,
      in_step_wrote c.args.file c.args.place c.args.bytes.now r.result b.kept _ _ wrote c.self.invariant.1,
      settled_wrote c.args.file b.files b.kept _ _ wrote.keeps c.self.invariant.2,
      caused_asked g.U.Use.HOW b.files b.kept _ _ _ _ _ r.result c.self.invariant.3 r.ensures.cause c.counted.ensures.counts,
      spared_wrote c.args.file g.B.Found.past _ _ wrote.keeps c.self.invariant.4,
      (λ is. absurd (reading_unwritten c.args.file b.files ready c.in_default.not-Seen (c.self.invariant.3.report is))),
    )

pub returns : goal.returns
returns g c =
    let b = c.self.inside in
    let board : BoardState = record {
      past = g.S.System.told b.system;
      files = b.files;
      kept = b.kept;
      faults = record { disk = b.disk_faults; registers = b.register_faults; prints = b.print_faults };
      count = g.S.System.faults b.system;
      refused = b.refusals;
      disk_calls = b.disk_calls.calls;
      accesses = b.accesses.calls;
    } in
    let begin = c.in_ok-begin.ensures in
    let first = begun (WriteAt c.args.file c.args.place (length c.args.bytes.now)) _ c.args.self.now c.begin.new.self board c.self.view_is begin.told begin.stops begin.cause in
    let ready = subst (IsReady c.args.file) (sym (ap (λ (v : BoardState). v.files) c.self.view_is)) begin.ready in
    let usable = ready_open c.args.file b.files _ ready c.in_default.not-Seen c.self.invariant.0 in
    let within = begun_file c.args.file (WriteAt c.args.file c.args.place (length c.args.bytes.now)) (λ bytes. c.args.place ≤ length bytes) board (g.S.System.told b.system) _ first.told c.requires in
    let r = c.write_at-answer in
    let wrote = writes c.args.file c.args.place c.args.bytes.now r.result _ _ usable within r.ensures.told r.ensures.failed in
    record {
      does = made_wrote c.args.file c.args.place c.args.bytes.now r.result c.counted.result c.counted.new.faults (g.S.System.faults r.new.self) c.args.self.now board _ first wrote
          c.counted.ensures.ok c.counted.ensures.err c.counted.ensures.counts;
    }
