use Rattle.std.proofs.Common.{◌∙◌, ap, sym, Some}
use Rattle.bank_lines.proofs.LogLineLemmas.{line_is}
use Rattle.bank_lines.proofs.log_line.log_line.Goals as goal

pub returns-in-Some-AtPlain : goal.returns-in-Some-AtPlain
returns-in-Some-AtPlain c =
    line_is c.args.line.now c.in-Some-AtPlain.place c.log_line_after.result (ap Some (sym c.in-Some-AtPlain.field-0-is) ∙ c.in-Some-AtPlain.ensures.place) c.log_line_after.ensures
