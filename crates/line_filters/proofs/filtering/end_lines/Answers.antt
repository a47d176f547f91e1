use Rattle.std.proofs.Common.{[], ◌++◌, sym, ap, ◌∙◌}
use Rattle.line_filters.specs.Filters.{closing_text}
use Rattle.line_filters.proofs.PrintedLemmas.{ends_printed, ends_unprinted}
use Rattle.line_filters.proofs.filtering.end_lines.Goals as goal

pub returns-in-Err-print-clause-ends : goal.returns-in-Err-print-clause-ends
returns-in-Err-print-clause-ends g c =
    let closing = closing_text (g.F.LineFilter.makes c.args.filter.now) [] c.args.exit in
    let text = c.deref.ensures.value ∙ (c.in-Ok.ensures ∙ ap (λ bytes. bytes ++ closing) c.clear.ensures.items) in
    ends_unprinted g.B.Board.seen _ _ c.args.exit c.in-Err-print.fault closing (sym c.is_answer.ensures ∙ c.if-not-is_answer.false) (rw (← text) c.in-Err-print.ensures.does) (rw (← text) c.in-Err-print.ensures.stops) c.in-Err-print.ensures.exit

pub returns-in-Ok-print-clause-ends : goal.returns-in-Ok-print-clause-ends
returns-in-Ok-print-clause-ends g c =
    let closing = closing_text (g.F.LineFilter.makes c.args.filter.now) [] c.args.exit in
    let text = c.deref.ensures.value ∙ (c.in-Ok.ensures ∙ ap (λ bytes. bytes ++ closing) c.clear.ensures.items) in
    ends_printed g.B.Board.seen _ _ c.args.exit closing (sym c.is_answer.ensures ∙ c.if-not-is_answer.false) (rw (← text) c.in-Ok-print.ensures.does) (rw (← text) c.in-Ok-print.ensures.stops) (rw (← text) c.in-Ok-print.ensures.printed)
