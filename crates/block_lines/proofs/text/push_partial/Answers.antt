use Rattle.std.proofs.Common.{codes, decimal}
use Rattle.block_lines.proofs.TextLemmas.{two_pieces}
use Rattle.block_lines.proofs.text.push_partial.Goals as goal

pub returns : goal.returns
returns c =
    two_pieces c.args.text.now.items (codes "# partial source=") (decimal c.args.source) (codes " number=") (decimal c.args.begun)
    c.push_named.new.text.items c.push_named-2.new.text.items c.push_named-2.result
    (rw c.from.ensures at c.in_ok-push_named.ensures) c.push_named-2.ensures
