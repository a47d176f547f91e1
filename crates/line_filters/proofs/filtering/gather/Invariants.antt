use Rattle.std.proofs.Common.{◌≡◌, ℕ, ◌+◌, ◌-◌, ◌≤◌, List, Some, IsSomeAnd}
use Rattle.board_core.specs.Device.{LeavesDevice}
use Rattle.board_core.specs.Told.{Told}
use Rattle.ras_script.specs.declared.reader.TheConstants.{LONGEST_SCRIPT}
use Rattle.ras_script.specs.Reader.{given_count}
use Rattle.line_filters.specs.Steps.Reading.{HasTaken}
use Rattle.line_filters.proofs.BothLemmas.{AlongBoth}
use Rattle.line_filters.proofs.filtering.gather.Given as goal

-- The first lines were taken, and the other lines are to come. Each line has at least one byte of the script.
abbrev pub invariant-loop-lines : goal.invariant-loop-lines
invariant-loop-lines g l = record {
  along : (script : List ℕ) (t : Told) → g.S.Source.left l.fn.source ≡ Some script → (g.B.Board.seen l.fn.board).told ≡ Some t
      → AlongBoth (g.F.LineFilter.makes l.fn.filter) script t (g.B.Board.seen l.fn.board).clock l.lines (g.F.LineFilter.makes l.filter) l.waiting.items (g.S.Source.left l.source) (g.B.Board.seen l.board).told (g.B.Board.seen l.board).clock;
  taken : (script : List ℕ) → g.S.Source.left l.fn.source ≡ Some script → IsSomeAnd (g.S.Source.left l.source) (HasTaken script l.lines.reader);
  counted : l.lines.number ≤ given_count l.lines.reader;
  few : l.lines.number ≤ LONGEST_SCRIPT + 1;
  bytes : l.lines.reader.taken ≤ LONGEST_SCRIPT + 1;
  lines : g.F.LineFilter.taken l.filter ≡ l.lines.number;
  source : g.S.Source.faults l.source ≡ g.S.Source.faults l.fn.source;
  faults : (g.B.Board.seen l.board).faults ≡ (g.B.Board.seen l.fn.board).faults;
  device : LeavesDevice (g.B.Board.seen l.fn.board).told (g.B.Board.seen l.board).told (g.B.Board.seen l.fn.board).clock (g.B.Board.seen l.board).clock;
}

abbrev pub decreases-loop-lines : goal.decreases-loop-lines
decreases-loop-lines g l = LONGEST_SCRIPT + 1 - given_count l.lines.reader
