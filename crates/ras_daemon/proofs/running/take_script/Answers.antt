use Rattle.std.proofs.Common.{◌≡◌, ◌∙◌, ℕ, Err, inl, inr, ap, subst, sym}
use Rattle.std.specs.Prelude.{IfErr}
use Rattle.board_core.specs.Cause.{Faults}
use Rattle.board_core.specs.Doing.{Does, GoesWell, after_acts}
use Rattle.line_filters.specs.Filters.{exit_of}
use Rattle.ras_exit.specs.Acts.{end_of, print_acts}
use Rattle.ras_exit.specs.Causes.{BoardCause, Causes, SourceCause}
use Rattle.ras_exit.specs.Endings.{IsLineExit, ending_of}
use Rattle.ras_exit.specs.declared.exit.Exit.TheVariants.{SourceFault}
use Rattle.ras_texts.specs.Orders.{standing_lines}
use Rattle.ras_run.proofs.StandsLemmas.{before_of}
use Rattle.ras_daemon.specs.Ahead.{TakesBy}
use Rattle.ras_daemon.specs.RunActs.{orders_acts}
use Rattle.ras_daemon.specs.Steps.Doing.{ComesLines}
use Rattle.ras_daemon.specs.Steps.Running.{EndsAhead, lines_from}
use Rattle.ras_daemon.proofs.AheadLemmas.{ahead_end, fault_before}
use Rattle.ras_daemon.proofs.FewLemmas.{takes_as, takes_no_byte}
use Rattle.ras_daemon.proofs.RunLemmas.{ledger_holds}
use Rattle.ras_daemon.proofs.SaidLemmas.{done_before, ends_causes, ends_exit, ends_printed, orders_causes, orders_end, print_line_exit, print_not_done}
use Rattle.ras_run.specs.Sites.{first_site}
use Rattle.ras_daemon.proofs.ScriptLemmas.{printed_holds, printed_out, told_after}
use Rattle.ras_daemon.proofs.TakenLemmas.{ends_as, lines_taken, no_orders, source_fault}
use Rattle.ras_daemon.proofs.running.take_script.Goals as goal
use Rattle.ras_daemon.proofs.running.take_script.Goals.{in-Ok, in-Err}

pub returns-clause-comes : goal.returns-clause-comes
returns-clause-comes g c = λ start script t begins left is.
    let see = g.B.Board.seen in
    let here = c.args.board.now in
    let printed = c.print_standing.new.board in
    let j = c.match-print_standing in
    let end = c.end_run.new.board in
    elim c.match-print_standing.branch [
      | in-Err w ↦
          let exit = w.in-Err.exit in
          let ends = orders_end see exit c.exit_of.result c.end_run.result _ printed j.board end w.in-Err.ensures.exit (c.exit_of.ensures ∙ ap exit_of w.ended-is) w.board-is c.end_run.ensures.ends in
          record {
            does = rw (ends.0, ends.1) (no_orders see start script t exit here printed w.in-Err.ensures.exit
                (subst (λ s. Does see (print_acts (standing_lines s)) (end_of (ending_of exit)) here printed) begins.account w.in-Err.ensures.does));
            reads = inl w.source-is;
          }
      | in-Ok w ↦
          let orders : GoesWell (orders_acts start) (see here) (see printed) = subst (λ s. GoesWell (print_acts (standing_lines s)) (see here) (see printed)) begins.account w.in-Ok.ensures.does in
          let holds = ledger_holds start c.args.ledger t _ _ begins c.requires.ledger.1 (before_of _ _ _ _ t c.requires.ledger.0.stands is) in
          let comes : ComesLines see start script (after_acts (orders_acts start) t) j.ended j.run (g.S.Source.left j.source) printed j.board =
          rw (w.ended-is, w.run-is, w.source-is, w.board-is) (w.take_lines-ended.ensures.comes start script (after_acts (orders_acts start) t)
          (record { settings = c.new.ensures; account = begins.account; standing = begins.standing }) left (told_after (orders_acts start) t _ _ is orders.told) (printed_holds (first_site start) (standing_lines start.account) t holds)) in
          let stop : IfErr j.ended IsLineExit = rw w.ended-is w.take_lines-ended.ensures.ends.stop in
          record {
            does = lines_taken see start script t here printed j.board end j.ended j.run c.exit_of.result c.end_run.result orders comes.does (rw c.exit_of.ensures (ends_as j.ended stop)) c.end_run.ensures.ends;
            reads = inr (
                ahead_end (j.ended ≡ Err SourceFault) (c.end_run.result ≡ SourceFault)
                (λ fault. source_fault j.ended (sym c.exit_of.ensures ∙ fault_before see _ _ _ j.board end c.end_run.ensures.ends fault))
                start script (lines_from start t.here.out) _ _ c.end_run.result _ _ _ (ends_printed see _ _ _ j.board end c.end_run.ensures.ends)
                (subst (λ out. EndsAhead (j.ended ≡ Err SourceFault) start script out (g.S.Source.left j.source) (see j.board).told) (printed_out (standing_lines start.account) t) comes.ahead)
                );
          }
    ]

pub returns-clause-takes : goal.returns-clause-takes
returns-clause-takes g c =
    let j = c.match-print_standing in
    let first = g.S.Source.left c.args.source.now in
    let stop : IfErr j.ended IsLineExit = (elim c.match-print_standing.branch [
      | in-Ok w ↦ rw w.ended-is w.take_lines-ended.ensures.ends.stop
      | in-Err w ↦ rw w.ended-is (print_line_exit w.in-Err.exit w.in-Err.ensures.exit)
    ]) in
    let takes : TakesBy (exit_of j.ended) first (g.S.Source.left j.source) = (elim c.match-print_standing.branch [
      | in-Ok w ↦ rw (w.ended-is, w.source-is) w.take_lines-ended.ensures.takes
      | in-Err w ↦ rw (w.ended-is, w.source-is) (takes_no_byte w.in-Err.exit first (print_not_done w.in-Err.exit w.in-Err.ensures.exit))
    ]) in
    takes_as (exit_of j.ended) c.end_run.result first (g.S.Source.left j.source)
    (done_before g.B.Board.seen j.ended c.exit_of.result c.end_run.result _ j.board c.end_run.new.board (rw c.exit_of.ensures (ends_as j.ended stop)) c.end_run.ensures.ends) takes

pub returns-clause-causes : goal.returns-clause-causes
returns-clause-causes g c =
    let see = g.B.Board.seen in
    let j = c.match-print_standing in
    let first = g.S.Source.faults c.args.source.now in
    let board = (see c.args.board.now).faults in
    let whys : IfErr j.ended IsLineExit × Causes {C = ℕ} SourceCause j.ended first (g.S.Source.faults j.source) × Causes {C = Faults} BoardCause j.ended board (see j.board).faults = (elim c.match-print_standing.branch [
      | in-Ok w ↦
          let ends = w.take_lines-ended.ensures.ends in
          rw (w.ended-is, w.source-is, w.board-is)
          (ends.stop, ends.source, subst (λ f. Causes {C = Faults} BoardCause w.take_lines-ended.result f (see w.take_lines-ended.new.board).faults) w.in-Ok.ensures.does.faults ends.board)
      | in-Err w ↦
          let caused = orders_causes see _ w.in-Err.exit c.args.board.now c.print_standing.new.board first w.in-Err.ensures.exit w.in-Err.ensures.does in
          rw (w.ended-is, w.source-is, w.board-is) (print_line_exit w.in-Err.exit w.in-Err.ensures.exit, caused.source, caused.board)
    ]) in
    ends_causes see j.ended c.exit_of.result c.end_run.result _ j.board c.end_run.new.board first (g.S.Source.faults j.source) board (rw c.exit_of.ensures (ends_as j.ended whys.0)) whys.1 whys.2 c.end_run.ensures.ends

pub returns-clause-exits : goal.returns-clause-exits
returns-clause-exits g c =
    let j = c.match-print_standing in
    let stop : IfErr j.ended IsLineExit = (elim c.match-print_standing.branch [
      | in-Ok w ↦ rw w.ended-is w.take_lines-ended.ensures.ends.stop
      | in-Err w ↦ rw w.ended-is (print_line_exit w.in-Err.exit w.in-Err.ensures.exit)
    ]) in
    ends_exit g.B.Board.seen j.ended c.exit_of.result c.end_run.result _ j.board c.end_run.new.board (rw c.exit_of.ensures (ends_as j.ended stop)) c.end_run.ensures.ends
