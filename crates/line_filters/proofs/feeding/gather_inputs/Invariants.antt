use Rattle.std.proofs.Common.{◌≡◌, ℕ, ◌≤◌, List, Some, length}
use Rattle.board_core.specs.Device.{LeavesDevice}
use Rattle.board_core.specs.Told.{Told}
use Rattle.line_filters.specs.declared.feeding.TheConstants.{MOST_AT_ONCE}
use Rattle.line_filters.specs.Steps.Feeding.{FedBoth, LeavesEnd}
use Rattle.line_filters.proofs.feeding.gather_inputs.Given as goal

-- The first inputs were taken, and the other inputs are to come.
abbrev pub invariant-loop-number : goal.invariant-loop-number
invariant-loop-number g l = record {
  fed : (script : List ℕ) (t : Told) → g.S.Source.left l.fn.source ≡ Some script → (g.B.Board.seen l.fn.board).told ≡ Some t
      → FedBoth (g.F.InputFilter.makes l.fn.filter) script t (g.B.Board.seen l.fn.board).clock l.inputs (g.F.InputFilter.makes l.filter) l.waiting.items (g.S.Source.left l.source) (g.B.Board.seen l.board).told (g.B.Board.seen l.board).clock;
  left : LeavesEnd (g.S.Source.left l.fn.source) (g.S.Source.left l.source);
  short : length l.waiting.items ≤ MOST_AT_ONCE;
  taken : g.F.InputFilter.taken l.filter ≤ l._number;
  source : g.S.Source.faults l.source ≡ g.S.Source.faults l.fn.source;
  faults : (g.B.Board.seen l.board).faults ≡ (g.B.Board.seen l.fn.board).faults;
  device : LeavesDevice (g.B.Board.seen l.fn.board).told (g.B.Board.seen l.board).told (g.B.Board.seen l.fn.board).clock (g.B.Board.seen l.board).clock;
}
