use Rattle.std.proofs.Common.{codes, decimal}
use Rattle.ras_klog.proofs.TextLemmas.{line_of_two}
use Rattle.ras_klog.proofs.texts.push_partial.Goals as goal

pub returns : goal.returns
returns c =
    line_of_two c.args.text.now.items (codes "partial cpu=") (decimal c.args.cpu) (codes " bank=") (decimal c.args.bank)
    c.push_named.new.text.items c.push_named-2.new.text.items c.push.new.self.items
    (rw c.from.ensures at c.in_ok-push_named.ensures) (rw c.from-2.ensures at c.in_ok-push_named-2.ensures) c.in_ok-push.ensures.items
