use Rattle.std.proofs.Common.{◌≡◌, ◌-◌, take, length}
use Rattle.entry_format.specs.Reading.{u64_at, many_at}
use Rattle.entry_format.proofs.LoopLemmas.{with_front}
use Rattle.journal_format.proofs.row_reading.sums_at.Given as goal

abbrev pub invariant-loop-i : goal.invariant-loop-i
invariant-loop-i l = record {
  ten : length l.sums ≡ 10;
  so_far : with_front (take l.i l.sums) (many_at u64_at (10 - l.i) l.rest) ≡ many_at u64_at 10 l.bytes;
}
