use Rattle.std.proofs.Common.{◌≡◌, ◌-◌}
use Rattle.entry_format.specs.Reading.{many_at, item_at}
use Rattle.entry_format.proofs.LoopLemmas.{with_front}
use Rattle.entry_format.proofs.items.many_items_at.Given as goal

abbrev pub invariant-loop : goal.invariant-loop
invariant-loop l = with_front l.items (many_at item_at (l.count - l.counter) l.rest) ≡ many_at item_at l.count l.bytes
