use Rattle.std.proofs.Common.{◌∙◌, ap}
use Rattle.block_lines.specs.Filter.{BlockProgress}
use Rattle.event_lines.proofs.FilterLemmas.{taken_after}
use Rattle.event_lines.proofs.filter.ReportFilterLineFilter.take.Goals as goal

pub returns-in-Ok-clause-taken : goal.returns-in-Ok-clause-taken
returns-in-Ok-clause-taken c =
    ap (λ (p : BlockProgress). p.taken) c.in-Ok.ensures.after ∙ taken_after c.args.self.now c.args.line.now
