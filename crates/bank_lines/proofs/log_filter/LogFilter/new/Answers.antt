use Rattle.bank_lines.proofs.LogFilterLemmas.{filter_is}
use Rattle.bank_lines.proofs.log_filter.LogFilter.new.Goals as goal

pub returns-clause-makes : goal.returns-clause-makes
returns-clause-makes c = rw (c.new.ensures, c.new-2.ensures) (filter_is c.args.boot c.args.cap)
