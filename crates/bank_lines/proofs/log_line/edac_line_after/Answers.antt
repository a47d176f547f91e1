use Rattle.bank_lines.proofs.LogLineLemmas.{driver_is, no_driver}
use Rattle.bank_lines.proofs.log_line.edac_line_after.Goals as goal

pub returns-in-Some : goal.returns-in-Some
returns-in-Some c =
    driver_is c.args.head.now c.args.marked.now c.in-Some.text.now c.driver_told.result c.in-Some.ensures c.driver_told.ensures

pub returns-in-None : goal.returns-in-None
returns-in-None c = no_driver c.args.head.now c.args.marked.now c.in-None.ensures
