use Rattle.std.proofs.Common.{◌≡◌, ◌+◌, ◌-◌, []}
use Rattle.ras_script.specs.Reader.{Moves}
use Rattle.ras_script.specs.SplittingLaws.{Lacks}
use Rattle.ras_script.specs.declared.reader.TheConstants.{LONGEST_SCRIPT}
use Rattle.ras_script.proofs.reader.LineReader.read_to_line_feed.Given as goal

-- Bytes were read, and the buffer has no line feed.
abbrev pub invariant-loop-self : goal.invariant-loop-self
invariant-loop-self g l = record {
  moves : Moves [] l.fn.self l.self (g.S.Source.left l.fn.source) (g.S.Source.left l.source);
  lacks : Lacks 10 l.self.held;
  faults : g.S.Source.faults l.source ≡ g.S.Source.faults l.fn.source;
}

abbrev pub decreases-loop-self : goal.decreases-loop-self
decreases-loop-self g l = LONGEST_SCRIPT + 1 - l.self.taken
