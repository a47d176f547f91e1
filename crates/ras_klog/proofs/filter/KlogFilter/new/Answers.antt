use Rattle.ras_klog.proofs.FilterLemmas.{filter_is}
use Rattle.ras_klog.proofs.filter.KlogFilter.new.Goals as goal

pub returns-clause-makes : goal.returns-clause-makes
returns-clause-makes c = rw c.new.ensures.start (filter_is c.args.boot c.args.cap)
