use Rattle.std.proofs.Common.{codes, decimal}
use Rattle.bank_lines.proofs.saved.TextLemmas.{one_number}
use Rattle.bank_lines.proofs.saved.text.push_unread.Goals as goal

pub returns : goal.returns
returns c =
    one_number c.args.text.now.items (codes "# unread mce bytes=") (decimal c.args.bytes)
    c.extend_from_slice.new.self.items c.push_number.new.text.items c.push.new.self.items
    c.in_ok-extend_from_slice.ensures.items c.in_ok-push_number.ensures c.in_ok-push.ensures.items
