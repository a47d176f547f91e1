use Rattle.std.proofs.Common.{codes, decimal}
use Rattle.ras_klog.proofs.TextLemmas.{line_of_two}
use Rattle.ras_klog.proofs.texts.push_counts.Goals as goal

pub returns : goal.returns
returns c =
    line_of_two c.args.text.now.items (codes "end reports=") (decimal c.args.reports) (codes " partial=") (decimal c.args.partial)
    c.push_named.new.text.items c.push_named-2.new.text.items c.push.new.self.items
    c.in_ok-push_named.ensures c.in_ok-push_named-2.ensures c.in_ok-push.ensures.items
