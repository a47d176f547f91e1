use Rattle.std.proofs.Common.{codes, decimal}
use Rattle.bank_lines.proofs.saved.TextLemmas.{two_numbers}
use Rattle.bank_lines.proofs.saved.text.push_empty.Goals as goal

pub returns : goal.returns
returns c =
    two_numbers c.args.text.now.items (codes "# no error cpu=") (decimal c.args.event.cpu) (codes " bank=") (decimal c.args.event.bank)
    c.extend_from_slice.new.self.items c.push_number.new.text.items c.extend_from_slice-2.new.self.items c.push_number-2.new.text.items c.push.new.self.items
    c.in_ok-extend_from_slice.ensures.items (rw c.from.ensures at c.in_ok-push_number.ensures) c.in_ok-extend_from_slice-2.ensures.items (rw c.from-2.ensures at c.in_ok-push_number-2.ensures) c.in_ok-push.ensures.items
