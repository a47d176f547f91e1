use Rattle.std.proofs.Common.{◌≡◌, ◌-◌}
use Rattle.entry_format.specs.Reading.{many_at}
use Rattle.journal_format.specs.CheckpointReading.{list_at, page_row_at}
use Rattle.entry_format.proofs.LoopLemmas.{with_front}
use Rattle.journal_format.proofs.decoding.pages_at.Given as goal

abbrev pub invariant-loop : goal.invariant-loop
invariant-loop l = record {
  state : l.account ≡ record l.fn.account { pages = l.account.pages };
  so_far : with_front l.account.pages (many_at page_row_at (l.count - l.counter) l.rest) ≡ list_at page_row_at l.bytes;
}
