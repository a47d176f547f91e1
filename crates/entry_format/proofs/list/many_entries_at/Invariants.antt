use Rattle.std.proofs.Common.{◌≡◌, ◌-◌}
use Rattle.entry_format.specs.Reading.{many_at, entry_at}
use Rattle.entry_format.proofs.LoopLemmas.{with_front}
use Rattle.entry_format.proofs.list.many_entries_at.Given as goal

abbrev pub invariant-loop : goal.invariant-loop
invariant-loop l = with_front l.entries.items (many_at (entry_at l.version) (l.count - l.counter) l.rest) ≡ many_at (entry_at l.version) l.count l.bytes
