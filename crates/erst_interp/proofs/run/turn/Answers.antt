use Rattle.std.proofs.Common.{◌≡◌, ◌∙◌, ℕ, true, false, Some, sym, ap, subst}
use Rattle.std.specs.Prelude.{Ok}
use Rattle.std.proofs.lemmas.Result.{err_from_is_err_and}
use Rattle.board_core.specs.declared.board.Reg.{Reg}
use Rattle.board_core.specs.Doing.{ActMade, Seen, device, reg_read, reg_write}
use Rattle.erst_interp.specs.declared.entries.InstructionEntry.{InstructionEntry}
use Rattle.erst_interp.specs.declared.machine.Use.{Use}
use Rattle.erst_interp.specs.declared.machine.Use.TheVariants.{Changes, Moves, Writes}
use Rattle.erst_interp.specs.declared.machine.Variables.{Variables}
use Rattle.erst_interp.specs.declared.machine.Work.{Work}
use Rattle.erst_interp.specs.declared.machine.Work as Work
use Rattle.erst_interp.specs.Machine.{alone, field_of, moved, with_field}
use Rattle.erst_interp.specs.Steps.Parts.{changed, given, work_of}
use Rattle.erst_interp.specs.Steps.Running.{Turns}
use Rattle.erst_interp.proofs.AccessLemmas.{Filled, Numbered, filled_alone, filled_kept, moves_on, numbered_changed, numbered_given, unfilled, unread, unwritten, writes}
use Rattle.erst_interp.proofs.CallLemmas.{IsRead, one_cut, one_made}
use Rattle.erst_interp.proofs.run.turn.Goals as goal
use Rattle.erst_interp.proofs.run.turn.Goals.{in-Changes+in_ok-reg_read-in-Changes, in-Writes, then-entry+in_ok-reg_read, else-entry}

-- How the register is used.
used : (how this : Use) (work : Work) → how ≡ this → Work.TheVariants.Uses how ≡ work → Work.TheVariants.Uses this ≡ work
used how this work is kind = subst (λ (h : Use). Work.TheVariants.Uses h ≡ work) is kind

-- ---- what a branch comes to, where the branches join

module _ {X : Type 0} (see : X → Seen) (e : InstructionEntry) (reg : Reg) (v : Variables) where
  changes : {E : Type 0} (how : Use) (number x n : ℕ) (old new board : X) → how ≡ Changes → Work.TheVariants.Uses how ≡ work_of e.instruction → e.register ≡ Some reg → board ≡ new
      → number ≡ changed e.instruction e x → x ≡ field_of e n → IsRead reg n (see old).told → ActMade {T = ℕ} {E = E} (device (reg_read reg)) (Ok n) (see old) (see new) → Numbered e reg v number (see old) (see board)
  changes how number x n old new board is kind there same number_is x_is value made =
      subst (λ (b : X). Numbered e reg v number (see old) (see b)) (sym same)
      (numbered_changed e reg v n number (see old) (see new) (used how Changes (work_of e.instruction) is kind) there value (number_is ∙ ap (changed e.instruction e) x_is)
      (one_made (reg_read reg) (see old) (see new) made))

  gives : (how : Use) (number : ℕ) (old board : X) → how ≡ Writes → Work.TheVariants.Uses how ≡ work_of e.instruction → e.register ≡ Some reg → board ≡ old → number ≡ given e.instruction e v
      → Numbered e reg v number (see old) (see board)
  gives how number old board is kind there same number_is =
      subst (λ (b : X). Numbered e reg v number (see old) (see b)) (sym same) (numbered_given e reg v number (see old) (used how Writes (work_of e.instruction) is kind) there number_is)

  kept : {E : Type 0} (number whole n : ℕ) (a : Seen) (old new board : X) → Numbered e reg v number a (see old) → e.preserves ≡ true → board ≡ new → whole ≡ with_field e number n
      → IsRead reg n (see old).told → ActMade {T = ℕ} {E = E} (device (reg_read reg)) (Ok n) (see old) (see new) → Filled e reg v whole a (see board)
  kept number whole n a old new board numbered keeps same whole_is value made =
      subst (λ (b : X). Filled e reg v whole a (see b)) (sym same)
      (filled_kept e reg v number a (see old) numbered n whole (see new) keeps value whole_is (one_made (reg_read reg) (see old) (see new) made))

  alone_is : (number whole : ℕ) (a : Seen) (old board : X) → Numbered e reg v number a (see old) → e.preserves ≡ false → board ≡ old → whole ≡ alone e number → Filled e reg v whole a (see board)
  alone_is number whole a old board numbered plain same whole_is =
      subst (λ (b : X). Filled e reg v whole a (see b)) (sym same) (filled_alone e reg v number a (see old) numbered whole plain whole_is)

pub returns-in_err-reg_read-in-Reads-clause-turns : goal.returns-in_err-reg_read-in-Reads-clause-turns
returns-in_err-reg_read-in-Reads-clause-turns g c =
    let see = g.B.Board.seen in
    let p = err_from_is_err_and c.from_residual.result c.from_residual.ensures.1 in
    let read = c.in_err-reg_read-in-Reads.ensures in
    rw (p.1, p.2) (unread c.args.entry.now c.args.variables c.in-Uses.how c.in-Some.reg c.in-Uses.ensures c.in-Some.is (rw c.in-Reads.is tt) (see c.args.board.now) (see c.reg_read.new.self)
    (one_cut (reg_read c.in-Some.reg) (see c.args.board.now) (see c.reg_read.new.self) read.does))

pub returns-in_err-reg_read-in-Moves-clause-turns : goal.returns-in_err-reg_read-in-Moves-clause-turns
returns-in_err-reg_read-in-Moves-clause-turns g c =
    let see = g.B.Board.seen in
    let p = err_from_is_err_and c.from_residual-in_err-reg_read-in-Moves.result c.from_residual-in_err-reg_read-in-Moves.ensures.1 in
    let read = c.in_err-reg_read-in-Moves.ensures in
    rw (p.1, p.2) (unread c.args.entry.now c.args.variables c.in-Uses.how c.in-Some.reg c.in-Uses.ensures c.in-Some.is (rw c.in-Moves.is tt) (see c.args.board.now) (see c.reg_read-in-Moves.new.self)
    (one_cut (reg_read c.in-Some.reg) (see c.args.board.now) (see c.reg_read-in-Moves.new.self) read.does))

pub returns-in-Moves-clause-turns : goal.returns-in-Moves-clause-turns
returns-in-Moves-clause-turns g c =
    let see = g.B.Board.seen in
    let e = c.args.entry.now in
    let a = see c.args.board.now in
    let b = see c.reg_read-in-Moves.new.self in
    let read = c.in_ok-reg_read-in-Moves.ensures in
    let n = c.in_ok-reg_read-in-Moves.field-0 in
    moves_on e c.args.variables c.in-Some.reg n a b (see c.move_bytes.new.board) (used c.in-Uses.how Moves (work_of e.instruction) c.in-Moves.is c.in-Uses.ensures) c.in-Some.is read.value
    (one_made (reg_read c.in-Some.reg) a b read.does) c.move_bytes.result
    (subst (λ (offset : ℕ). Turns (λ s. moved offset s) c.args.variables c.move_bytes.result b (see c.move_bytes.new.board)) c.field_of-offset.ensures c.move_bytes.ensures)

pub returns-in_err-reg_read-clause-turns : goal.returns-in_err-reg_read-clause-turns
returns-in_err-reg_read-clause-turns g c =
    let see = g.B.Board.seen in
    let e = c.args.entry.now in
    let v = c.args.variables in
    let reg = c.in-Some.reg in
    let a = see c.args.board.now in
    let numbered : Numbered e reg v c.match-how.number a (see c.match-how.board) = elim c.match-how.branch [
      | in-Changes+in_ok-reg_read-in-Changes w ↦ changes see e reg v c.in-Uses.how c.match-how.number w.field_of.result w.in_ok-reg_read-in-Changes.field-0 c.args.board.now w.reg_read-in-Changes.new.self c.match-how.board
          w.in-Changes.is c.in-Uses.ensures c.in-Some.is w.board-is (w.number-is ∙ w.changed-number.ensures) w.field_of.ensures
          w.in_ok-reg_read-in-Changes.ensures.value w.in_ok-reg_read-in-Changes.ensures.does
      | in-Writes w ↦ gives see e reg v c.in-Uses.how c.match-how.number c.args.board.now c.match-how.board w.in-Writes.is c.in-Uses.ensures c.in-Some.is w.board-is (w.number-is ∙ w.given-number.ensures)
    ] in
    let p = err_from_is_err_and c.from_residual-in_err-reg_read.result c.from_residual-in_err-reg_read.ensures.1 in
    let read = c.in_err-reg_read.ensures in
    let d = see c.reg_read-then-entry.new.self in
    rw (p.1, p.2) (unfilled e reg v c.match-how.number a (see c.match-how.board) numbered d c.if-entry.true (one_cut (reg_read reg) (see c.match-how.board) d read.does))

pub returns-in_err-reg_write-clause-turns : goal.returns-in_err-reg_write-clause-turns
returns-in_err-reg_write-clause-turns g c =
    let see = g.B.Board.seen in
    let e = c.args.entry.now in
    let v = c.args.variables in
    let reg = c.in-Some.reg in
    let a = see c.args.board.now in
    let numbered : Numbered e reg v c.match-how.number a (see c.match-how.board) = elim c.match-how.branch [
      | in-Changes+in_ok-reg_read-in-Changes w ↦ changes see e reg v c.in-Uses.how c.match-how.number w.field_of.result w.in_ok-reg_read-in-Changes.field-0 c.args.board.now w.reg_read-in-Changes.new.self c.match-how.board
          w.in-Changes.is c.in-Uses.ensures c.in-Some.is w.board-is (w.number-is ∙ w.changed-number.ensures) w.field_of.ensures
          w.in_ok-reg_read-in-Changes.ensures.value w.in_ok-reg_read-in-Changes.ensures.does
      | in-Writes w ↦ gives see e reg v c.in-Uses.how c.match-how.number c.args.board.now c.match-how.board w.in-Writes.is c.in-Uses.ensures c.in-Some.is w.board-is (w.number-is ∙ w.given-number.ensures)
    ] in
    let filled : Filled e reg v c.if-entry.whole a (see c.if-entry.board) = elim c.if-entry.branch [
      | then-entry+in_ok-reg_read w ↦ kept see e reg v c.match-how.number c.if-entry.whole w.in_ok-reg_read.field-0 a c.match-how.board w.reg_read-then-entry.new.self c.if-entry.board numbered
          w.if-entry.true w.board-is (w.whole-is ∙ w.with_field-whole.ensures) w.in_ok-reg_read.ensures.value w.in_ok-reg_read.ensures.does
      | else-entry w ↦ alone_is see e reg v c.match-how.number c.if-entry.whole a c.match-how.board c.if-entry.board numbered w.if-entry.false w.board-is (w.whole-is ∙ w.alone-whole.ensures)
    ] in
    let p = err_from_is_err_and c.from_residual-in_err-reg_write.result c.from_residual-in_err-reg_write.ensures.1 in
    let wrote = c.in_err-reg_write.ensures in
    let b = see c.if-entry.board in
    let d = see c.reg_write.new.self in
    rw (p.1, p.2) (unwritten e reg v c.if-entry.whole a b d filled (one_cut (reg_write reg c.if-entry.whole) b d wrote.does))

pub returns-clause-turns : goal.returns-clause-turns
returns-clause-turns g c =
    let see = g.B.Board.seen in
    let e = c.args.entry.now in
    let v = c.args.variables in
    let reg = c.in-Some.reg in
    let a = see c.args.board.now in
    let numbered : Numbered e reg v c.match-how.number a (see c.match-how.board) = elim c.match-how.branch [
      | in-Changes+in_ok-reg_read-in-Changes w ↦ changes see e reg v c.in-Uses.how c.match-how.number w.field_of.result w.in_ok-reg_read-in-Changes.field-0 c.args.board.now w.reg_read-in-Changes.new.self c.match-how.board
          w.in-Changes.is c.in-Uses.ensures c.in-Some.is w.board-is (w.number-is ∙ w.changed-number.ensures) w.field_of.ensures
          w.in_ok-reg_read-in-Changes.ensures.value w.in_ok-reg_read-in-Changes.ensures.does
      | in-Writes w ↦ gives see e reg v c.in-Uses.how c.match-how.number c.args.board.now c.match-how.board w.in-Writes.is c.in-Uses.ensures c.in-Some.is w.board-is (w.number-is ∙ w.given-number.ensures)
    ] in
    let filled : Filled e reg v c.if-entry.whole a (see c.if-entry.board) = elim c.if-entry.branch [
      | then-entry+in_ok-reg_read w ↦ kept see e reg v c.match-how.number c.if-entry.whole w.in_ok-reg_read.field-0 a c.match-how.board w.reg_read-then-entry.new.self c.if-entry.board numbered
          w.if-entry.true w.board-is (w.whole-is ∙ w.with_field-whole.ensures) w.in_ok-reg_read.ensures.value w.in_ok-reg_read.ensures.does
      | else-entry w ↦ alone_is see e reg v c.match-how.number c.if-entry.whole a c.match-how.board c.if-entry.board numbered w.if-entry.false w.board-is (w.whole-is ∙ w.alone-whole.ensures)
    ] in
    let wrote = c.in_ok-reg_write.ensures in
    let b = see c.if-entry.board in
    let d = see c.reg_write.new.self in
    writes e reg v c.if-entry.whole a b d filled c.next.result c.next.ensures (one_made (reg_write reg c.if-entry.whole) b d wrote.does)
