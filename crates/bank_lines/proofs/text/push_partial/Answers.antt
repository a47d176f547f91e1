use Rattle.std.proofs.Common.{codes, decimal}
use Rattle.bank_lines.proofs.TextLemmas.{two_pieces}
use Rattle.bank_lines.proofs.text.push_partial.Goals as goal

pub returns : goal.returns
returns c =
    two_pieces c.args.text.now.items (codes "# partial cpu=") (decimal c.args.cpu) (codes " bank=") (decimal c.args.bank)
    c.push_named.new.text.items c.push_named-2.new.text.items c.push_named-2.result
    (rw c.from.ensures at c.in_ok-push_named.ensures) (rw c.from-2.ensures at c.push_named-2.ensures)
