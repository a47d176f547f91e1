use Rattle.bank_lines.proofs.ConsoleLemmas.{head_told}
use Rattle.bank_lines.proofs.log_line.console_stamp.Goals as goal

pub returns : goal.returns
returns c =
    head_told c.args.head.now c.in_ok-in_brackets.field-0.now c.time_stamp.result c.in_ok-in_brackets.ensures c.time_stamp.ensures
