use Rattle.std.proofs.Common.{◌∙◌, ◌++◌, ap, List, ℕ, arith}
use Rattle.ras_texts.specs.Orders.{order_line}
use Rattle.ras_texts.proofs.TextLemmas.{line_more}
use Rattle.ras_texts.proofs.order.push_orders.Goals as goal

pub loop-i-preserved : goal.loop-i-preserved
loop-i-preserved c = record {
  text =
      c.push_order.ensures.line
      ∙ ap (λ (t : List ℕ). t ++ order_line c.args.account.now.state.modules c.get.result) c.loop-i.invariant.text
      ∙ line_more (order_line c.args.account.now.state.modules) c.args.text.now.items c.args.orders.now.orders c.loop-i.i c.get.result c.get.ensures;
  room = omega (arith, c.push_order.ensures.room.length, c.push_order.ensures.room.room, c.loop-i.invariant.room, c.loop-i-test.true, c.len-i-end.ensures);
}
