use Rattle.std.proofs.Common.{◌≡◌, ◌-◌}
use Rattle.entry_format.specs.Reading.{many_at, name_at}
use Rattle.journal_format.specs.CheckpointReading.{list_at}
use Rattle.entry_format.proofs.LoopLemmas.{with_front}
use Rattle.journal_format.proofs.decoding.names_at.Given as goal

abbrev pub invariant-loop : goal.invariant-loop
invariant-loop l = record {
  state : l.account ≡ record l.fn.account { names = l.account.names };
  so_far : with_front l.account.names (many_at name_at (l.count - l.counter) l.rest) ≡ list_at name_at l.bytes;
}
