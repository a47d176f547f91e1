use Rattle.std.proofs.Common.{◌≡◌, ◌++◌, take}
use Rattle.std.specs.List.{flat_map}
use Rattle.ras_texts.specs.Orders.{replaced_line}
use Rattle.ras_texts.proofs.order.push_standing_modules.Given as goal

abbrev pub invariant-loop-i : goal.invariant-loop-i
invariant-loop-i l = l.text.items ≡ l.fn.text.items ++ flat_map replaced_line (take l.i l.account.state.modules)
