use Rattle.std.proofs.Common.{◌++◌, ◌∙◌, ap}
use Rattle.bank_lines.specs.Saved.Records.{record_text}
use Rattle.bank_lines.proofs.saved.PrintingLemmas.{text_cut, text_printed}
use Rattle.bank_lines.proofs.saved.printing.print_bytes.Goals as goal

pub returns-in-Ok-clause-prints : goal.returns-in-Ok-clause-prints
returns-in-Ok-clause-prints g c =
    let text = record_text c.args.boot c.args.bytes.now in
    let is = c.deref.ensures.value ∙ (c.in_default.ensures ∙ ap (λ front. front ++ text) c.new-text.ensures.items) in
    text_printed text g.B.Board.seen c.args.board.now c.print.new.board (rw (← is) c.in-Ok.ensures.does)

pub returns-clause-prints : goal.returns-clause-prints
returns-clause-prints g c =
    let text = record_text c.args.boot c.args.bytes.now in
    let is = c.deref.ensures.value ∙ (c.in_default.ensures ∙ ap (λ front. front ++ text) c.new-text.ensures.items) in
    text_cut text g.B.Board.seen c.args.board.now c.print.new.board c.in-Err-print.fault c.in-Err-print.ensures.exit (rw (← is) c.in-Err-print.ensures.does)
