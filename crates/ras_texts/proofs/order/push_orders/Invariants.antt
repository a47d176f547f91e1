use Rattle.std.proofs.Common.{◌≡◌, ◌++◌, ◌+◌, ◌*◌, ◌-◌, ◌≤◌, length, take}
use Rattle.std.specs.Prelude.{vec_capacity, vec_len}
use Rattle.ras_texts.specs.declared.order.TheConstants.{ORDER_LENGTH}
use Rattle.ras_texts.specs.Orders.{order_lines}
use Rattle.ras_texts.proofs.order.push_orders.Given as goal

abbrev pub invariant-loop-i : goal.invariant-loop-i
invariant-loop-i l = record {
  text : l.text.items ≡ l.fn.text.items ++ order_lines l.account.state.modules (take l.i l.fn.orders.orders);
  room : vec_len l.text + ORDER_LENGTH * (length l.fn.orders.orders - l.i) ≤ vec_capacity l.text;
}
