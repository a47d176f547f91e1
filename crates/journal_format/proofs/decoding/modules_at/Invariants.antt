use Rattle.std.proofs.Common.{◌≡◌, ◌-◌}
use Rattle.entry_format.specs.Reading.{many_at}
use Rattle.journal_format.specs.CheckpointReading.{list_at, module_at}
use Rattle.entry_format.proofs.LoopLemmas.{with_front}
use Rattle.journal_format.proofs.decoding.modules_at.Given as goal

abbrev pub invariant-loop : goal.invariant-loop
invariant-loop l = record {
  state : l.account ≡ record l.fn.account { modules = l.account.modules; total = l.account.total };
  so_far : with_front l.account.modules (many_at (module_at l.version) (l.count - l.counter) l.rest) ≡ list_at (module_at l.version) l.bytes;
}
