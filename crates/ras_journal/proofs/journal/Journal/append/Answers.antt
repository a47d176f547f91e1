use Rattle.std.proofs.Common.{ℕ, List, ◌+◌, ◌<◌, [], ◌∷◌, IfSome, ap, length, subst, sym}
use Rattle.std.proofs.lemmas.Result.{err_from_is_err_and}
use Rattle.board_core.specs.Cause.{disk_call}
use Rattle.board_core.specs.Doing.{broke, through, went_well}
use Rattle.board_core.specs.Told.{Steps, after_write_through, file_of}
use Rattle.board_core.proofs.DoingLemmas.{does_then}
use Rattle.ras_journal.specs.View.{JournalView}
use Rattle.ras_journal.specs.declared.standing.Standing.{Standing}
use Rattle.ras_journal.proofs.AppendLemmas.{gate_after_link}
use Rattle.ras_journal.proofs.journal.Journal.append.Goals as goal

pub write_through-requires-2 : goal.write_through-requires-2
write_through-requires-2 g c =
    let s = c.self.inside.standing in
    let same = ap (λ (v : JournalView). v.standing) c.self.view_is in
    gate_after_link s c.args.link.now _ _
    (subst (λ (n : Standing). IfSome (g.B.Board.seen c.args.board.now).told (λ t. n.length < length (file_of n.file t))) (sym same) c.requires.gate)
    (subst (λ (b : List ℕ). Steps (after_write_through s.file (s.length + 1) b) (g.B.Board.seen c.args.board.now).told (g.B.Board.seen c.write_through.new.board).told) c.bytes_and_gate-written.ensures c.in_ok-write_through.ensures.does.told)

pub returns-in_err-write_through-2-clause-does : goal.returns-in_err-write_through-2-clause-does
returns-in_err-write_through-2-clause-does g c =
    let s = c.args.self.now.standing in
    let same = ap (λ (v : JournalView). v.standing) c.self.view_is in
    let p = err_from_is_err_and c.from_residual-in_err-write_through-2.result c.from_residual-in_err-write_through-2.ensures.1 in
    rw (← c.bytes_and_gate-written.ensures, p.1, p.2)
    (does_then g.B.Board.seen (through s.file (s.length + 1) c.bytes_and_gate-written.result.now ∷ []) (through s.file s.length (165 ∷ []) ∷ []) (broke disk_call) c.args.board.now c.write_through.new.board _
    (rw same at c.in_ok-write_through.ensures.does) tt (rw same at c.in_err-write_through-2.ensures.does))

pub returns-clause-does : goal.returns-clause-does
returns-clause-does g c =
    let s = c.args.self.now.standing in
    let same = ap (λ (v : JournalView). v.standing) c.self.view_is in
    rw (← c.bytes_and_gate-written.ensures)
    (does_then g.B.Board.seen (through s.file (s.length + 1) c.bytes_and_gate-written.result.now ∷ []) (through s.file s.length (165 ∷ []) ∷ []) went_well c.args.board.now c.write_through.new.board _
    (rw same at c.in_ok-write_through.ensures.does) tt (rw same at c.in_ok-write_through-2.ensures.does))
