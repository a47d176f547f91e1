use Rattle.std.proofs.Common.{◌≡◌, ◌-◌, ◌≤◌, length}
use Rattle.bank_lines.specs.Steps.Reading.{HoldsOf}
use Rattle.bank_lines.proofs.saved.printing.read_front.Given as goal

-- the buffer's front contains the source's first bytes
abbrev pub invariant-loop-count : goal.invariant-loop-count
invariant-loop-count g l = record {
  room : l.count ≤ 129;
  long : length l.buffer ≡ 129;
  holds : HoldsOf l.count l.buffer (g.S.Source.left l.fn.source) (g.S.Source.left l.source);
  faults : g.S.Source.faults l.source ≡ g.S.Source.faults l.fn.source;
}

abbrev pub decreases-loop-count : goal.decreases-loop-count
decreases-loop-count g l = 129 - l.count
