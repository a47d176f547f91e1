use Rattle.std.proofs.Common.{decimal}
use Rattle.hex.specs.Hex.{encode_lower}
use Rattle.block_lines.proofs.TextLemmas.{ghes_pieces}
use Rattle.block_lines.proofs.text.push_ghes.Goals as goal

pub returns : goal.returns
returns c =
    let n = c.args.name in
    ghes_pieces c.args.text.now.items (decimal n.boot) (decimal n.seconds) (decimal n.source) (decimal n.number) (encode_lower c.args.block.now)
    c.push_named.new.text.items c.push_named-2.new.text.items c.push_named-3.new.text.items c.push_named-4.new.text.items
    c.push.new.self.items c.push_hexadecimal.new.text.items c.push-2.new.self.items
    c.in_ok-push_named.ensures c.in_ok-push_named-2.ensures (rw c.from.ensures at c.in_ok-push_named-3.ensures) c.in_ok-push_named-4.ensures
    c.in_ok-push.ensures.items c.in_ok-push_hexadecimal.ensures c.in_ok-push-2.ensures.items
