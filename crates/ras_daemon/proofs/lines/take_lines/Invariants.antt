use Rattle.std.proofs.Common.{◌≡◌, ℕ, ◌+◌, ◌-◌, List, Some, IfSome}
use Rattle.board_core.specs.Told.{Told}
use Rattle.ras_script.specs.declared.reader.TheConstants.{LONGEST_SCRIPT}
use Rattle.ras_script.specs.Reader.{given_count}
use Rattle.ras_run.specs.LineActs.{HoldsAt}
use Rattle.ras_run.specs.Sites.{IsRunAt, Start, first_site}
use Rattle.ras_run.specs.Taking.{IsReady}
use Rattle.ras_daemon.proofs.FewLemmas.{TakesOf}
use Rattle.ras_daemon.proofs.LinesLemmas.{Took}
use Rattle.ras_daemon.proofs.lines.take_lines.Given as goal

-- The first lines were taken and did their acts, and the other lines are to come. Each line has at least one byte of
-- the script.
abbrev pub invariant-loop-alloc : goal.invariant-loop-alloc
invariant-loop-alloc g l = record {
  took : (start : Start) (script : List ℕ) (t : Told) → IsRunAt (first_site start) l.fn.run → g.S.Source.left l.fn.source ≡ Some script → (g.B.Board.seen l.fn.board).told ≡ Some t → HoldsAt (first_site start) t
      → Took g.B.Board.seen start script t l.lines.number l.lines.reader (g.S.Source.left l.source) l.run l.fn.board l.board;
  tells : IfSome (g.S.Source.left l.fn.source) (λ script. (now : List ℕ) × (g.S.Source.left l.source ≡ Some now));
  few : TakesOf l.lines.reader.taken (g.S.Source.left l.fn.source) (g.S.Source.left l.source);
  ready : IsReady l.run.ledger (g.B.Board.seen l.board);
  source : g.S.Source.faults l.source ≡ g.S.Source.faults l.fn.source;
  faults : (g.B.Board.seen l.board).faults ≡ (g.B.Board.seen l.fn.board).faults;
}

abbrev pub decreases-loop-alloc : goal.decreases-loop-alloc
decreases-loop-alloc g l = LONGEST_SCRIPT + 1 - given_count l.lines.reader
