use Rattle.std.proofs.Common.{◌≡◌, ◌+◌, ◌-◌, [], length}
use Rattle.ras_script.specs.InputBuffer.{MovesPast}
use Rattle.ras_script.specs.SplittingLaws.{Lacks}
use Rattle.ras_script.specs.declared.reader.TheConstants.{LONGEST_LINE}
use Rattle.ras_script.proofs.input.InputReader.read_to_end.Given as goal

-- Bytes were read, and the buffer has no line feed.
abbrev pub invariant-loop-self : goal.invariant-loop-self
invariant-loop-self g l = record {
  moves : MovesPast [] l.fn.self l.self (g.S.Source.left l.fn.source) (g.S.Source.left l.source);
  lacks : Lacks 10 l.self.held;
  dropping : l.self.dropping ≡ l.fn.self.dropping;
  faults : g.S.Source.faults l.source ≡ g.S.Source.faults l.fn.source;
}

abbrev pub decreases-loop-self : goal.decreases-loop-self
decreases-loop-self g l = LONGEST_LINE + 1 - length l.self.held
