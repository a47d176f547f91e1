use Rattle.std.proofs.Common.{◌==◌, ap, inl, inr, sym, ◌∙◌}
use Rattle.std.specs.Prelude.{Contains}
use Rattle.std.proofs.lemmas.Result.{err_from_is_err_and}
use Rattle.line_filters.proofs.PrintedLemmas.{empty_text, prints_none, prints_waiting, waits}
use Rattle.line_filters.proofs.filtering.print_waiting.Goals as goal
use Rattle.line_filters.proofs.filtering.print_waiting.Goals.{then-is_empty-via-then-is_empty, then-is_empty-via-else-is_empty+then-has_line}

pub returns-then-is_empty-clause-prints : goal.returns-then-is_empty-clause-prints
returns-then-is_empty-clause-prints g c = elim c.then-is_empty.branch [
  | then-is_empty-via-then-is_empty w ↦ waits g.B.Board.seen (Contains c.args.lines.now.reader.held 10) c.args.waiting.now.items c.args.board.now (inl (empty_text c.args.waiting.now.items (ap (λ n. n == 0) (sym c.args.waiting.now.ok.0) ∙ (sym c.is_empty.ensures ∙ w.if-is_empty.true))))
  | then-is_empty-via-else-is_empty+then-has_line w ↦ waits g.B.Board.seen (Contains c.args.lines.now.reader.held 10) c.args.waiting.now.items c.args.board.now (inr (w.has_line.ensures.0 w.if-has_line.true))
]

pub returns-in_err-print-clause-prints : goal.returns-in_err-print-clause-prints
returns-in_err-print-clause-prints g c =
    let p = err_from_is_err_and c.from_residual.result c.from_residual.ensures.1 in
    rw (p.1, p.2)
    (prints_none g.B.Board.seen c.args.board.now c.print.new.board c.in_err-print.field-0.0 (Contains c.args.lines.now.reader.held 10) c.args.waiting.now.items c.args.waiting.now.items c.in_err-print.ensures.exit
    (rw (← c.deref.ensures.value) c.in_err-print.ensures.does) (rw (← c.deref.ensures.value) c.in_err-print.ensures.stops))

pub returns-clause-prints : goal.returns-clause-prints
returns-clause-prints g c =
    prints_waiting g.B.Board.seen c.args.board.now c.print.new.board (Contains c.args.lines.now.reader.held 10) c.args.waiting.now.items c.clear.new.self.items c.clear.ensures.items
    (rw (← c.deref.ensures.value) c.in_ok-print.ensures.does) (rw (← c.deref.ensures.value) c.in_ok-print.ensures.stops) (rw (← c.deref.ensures.value) c.in_ok-print.ensures.printed)
