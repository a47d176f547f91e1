use Rattle.std.proofs.Common.{sym, ap, ◌∙◌}
use Rattle.bank_lines.specs.LogHeads.{up_to}
use Rattle.bank_lines.specs.LogLines.{log_stamp_of}
use Rattle.block_lines.specs.LogLines.{own_after}
use Rattle.block_lines.proofs.HeadLemmas.{plain_line}
use Rattle.block_lines.proofs.log_line.log_line.Goals as goal

pub returns : goal.returns
returns c =
    let line = c.args.line.now in
    plain_line line c.line_of.result (sym c.ends_with.ensures.value ∙ c.if-ends_with.false)
    (c.line_of.ensures.stamp ∙ ap log_stamp_of c.cut.ensures.front)
    (c.line_of.ensures.marking ∙ ap (λ head. own_after head c.cut.result.1.now) c.cut.ensures.front ∙ ap (own_after (up_to 123 line)) c.cut.ensures.rest)
