use Rattle.ras_klog.specs.contracts.filter.KlogFilter.{the_view}
use Rattle.std.proofs.Common.{sym, ◌∙◌}
use Rattle.ras_klog.proofs.TakeLemmas.{passed, took}
use Rattle.ras_klog.proofs.filter.KlogFilterLineFilter.take.Goals as goal

pub returns-in-Ok-clause-takes : goal.returns-in-Ok-clause-takes
returns-in-Ok-clause-takes c = rw (← c.self.view_is) (
    took (the_view c.self.inside) c.args.line.now c.step-out.new.self c.step-out.result c.with-self-inside.result 0
    c.args.text.now.items c.push_out.new.text.items
    (rw c.klog_line.ensures at c.step-out.ensures.out) (rw c.klog_line.ensures at c.step-out.ensures.stage)
    c.with-self-inside.ensures c.in-Ok.ensures)

pub returns-in-Other-clause-takes : goal.returns-in-Other-clause-takes
returns-in-Other-clause-takes c = rw (← c.self.view_is) (
    passed (the_view c.self.inside) c.args.line.now 0 c.args.text.now.items (sym c.klog_line.ensures ∙ c.in-Other.is))
