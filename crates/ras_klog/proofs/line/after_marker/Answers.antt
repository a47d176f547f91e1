use Rattle.std.proofs.Common.{◌+◌, Some, sym, ap, ◌∙◌}
use Rattle.ras_klog.proofs.LineLemmas.{rest_is, after-at, after-none}
use Rattle.ras_klog.proofs.line.after_marker.Goals as goal

pub returns-in-Some : goal.returns-in-Some
returns-in-Some c =
    ap Some (rest_is (c.in-Some.place + 18) c.args.line.now)
    ∙ sym (after-at c.args.line.now c.in-Some.place c.in-Some.ensures.0 c.in-Some.ensures.1)

pub returns-in-None : goal.returns-in-None
returns-in-None c = sym (after-none c.args.line.now c.in-None.ensures)
