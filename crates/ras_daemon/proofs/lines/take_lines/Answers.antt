use Rattle.std.proofs.Common.{◌≡◌, ℕ, List, ◌+◌, false, Ok, Err, Some, ap, refl, subst, sym, true, ◌∙◌}
use Rattle.std.proofs.lemmas.Result.{err_from_is_err_and}
use Rattle.board_core.specs.Doing.{after_acts}
use Rattle.line_filters.specs.Numbered.{Numbered, number_after}
use Rattle.ras_script.specs.Line.{line_of}
use Rattle.ras_exit.specs.declared.exit.Exit.TheVariants.{Done}
use Rattle.ras_exit.specs.Endings.{ending_of}
use Rattle.ras_daemon.specs.Script.{reads_in}
use Rattle.ras_daemon.proofs.GrowLemmas.{part_grows}
use Rattle.ras_daemon.proofs.LinesLemmas.{failed_same, gave_as, given, if_more, line_ends, moved_as, moved_tells, next_ends, next_failed, none_given, stopped, takes_next, tells_same, took_line, took_none}
use Rattle.ras_daemon.proofs.FewLemmas.{TakesOf, takes_by, takes_more, takes_none}
use Rattle.ras_daemon.proofs.LineEndLemmas.{ahead_given, ahead_none, line_not_done, next_not_done, not_fault}
use Rattle.ras_daemon.proofs.ScriptLemmas.{told_after}
use Rattle.ras_daemon.proofs.lines.take_lines.Goals as goal

pub loop-alloc-init : goal.loop-alloc-init
loop-alloc-init g c = record {
  took = λ start script t after left is holds.
      rw (ap (λ (l : Numbered). l.number) c.requires.fresh)
      (took_none g.B.Board.seen start script t _ _ _ c.args.board.now (ap (λ (l : Numbered). l.reader) c.requires.fresh) after holds left);
  tells = tells_same _;
  few = subst (λ n. TakesOf n (g.S.Source.left c.args.source.now) (g.S.Source.left c.args.source.now)) (sym (ap (λ (l : Numbered). l.reader.taken) c.requires.fresh)) (takes_none (g.S.Source.left c.args.source.now));
  ready = c.requires.ready;
  source = refl;
  faults = refl;
}

pub loop-alloc-preserved : goal.loop-alloc-preserved
loop-alloc-preserved g c =
    let number : c.next.new.self.number ≡ c.loop-alloc.lines.number + 1 = subst (λ r. c.next.new.self.number ≡ number_after r c.loop-alloc.lines.number) (ap Ok c.if-not-branch.false) c.in_ok-next.ensures.counts.number in
    record {
      took = λ start script t after left is holds.
          (let took = c.loop-alloc.invariant.took start script t after left is holds in
          let taking = took.0 in
          let there = told_after taking.acts t (g.B.Board.seen c.args.board.now).told (g.B.Board.seen c.loop-alloc.board).told is took.1.told in
          let takes = takes_next g.B.Board.seen start script t _ _ _ _ taking (c.number.result, line_of c.line.result.now) _ _ _ _ (c.in_ok-take_line.ensures.takes (after_acts taking.acts t) there) in
          rw number
          (took_line start script t c.loop-alloc.lines.number c.loop-alloc.lines.reader c.next.new.self.reader (g.S.Source.left c.loop-alloc.source) (g.S.Source.left c.next.new.source) c.loop-alloc.run c.line.result.now c.line.ensures taking g.B.Board.seen _ c.args.board.now c.loop-alloc.board c.take_line.new.board took.1
          (c.in_ok-next.ensures.counts.bytes.line (ap Ok c.if-not-branch.false)) (c.in_ok-next.ensures.counts.bytes.grows (ap Ok c.if-not-branch.false)) (gave_as (Ok c.in_ok-next.field-0) (Ok true) c.loop-alloc.lines.number c.loop-alloc.lines.reader c.next.new.self.reader (g.S.Source.left c.loop-alloc.source) (g.S.Source.left c.next.new.source) (ap Ok c.if-not-branch.false) c.in_ok-next.ensures.gives) (moved_as (Ok c.in_ok-next.field-0) (Ok true) c.loop-alloc.lines.reader c.next.new.self.reader (g.S.Source.left c.loop-alloc.source) (g.S.Source.left c.next.new.source) (ap Ok c.if-not-branch.false) c.in_ok-next.ensures.moves)
          (rw (c.number.ensures, number) at takes)));
      tells = if_more _ _ _ c.loop-alloc.invariant.tells (λ script (now : (rest : List ℕ) × ((g.S.Source.left c.loop-alloc.source) ≡ Some rest)). moved_tells (Ok c.in_ok-next.field-0) c.loop-alloc.lines.reader c.next.new.self.reader now.0 _ _ now.1 c.in_ok-next.ensures.moves);
      few = takes_more (Ok c.in_ok-next.field-0) c.loop-alloc.lines.reader c.next.new.self.reader _ _ _ c.loop-alloc.invariant.few c.in_ok-next.ensures.moves;
      ready = c.in_ok-take_line.ensures.ready;
      source = c.in_ok-next.ensures.ends.source ∙ c.loop-alloc.invariant.source;
      faults = c.in_ok-take_line.ensures.faults ∙ c.loop-alloc.invariant.faults;
    }

-- ---- a line was refused, or cut short

pub returns-in_err-take_line-clause-comes : goal.returns-in_err-take_line-clause-comes
returns-in_err-take_line-clause-comes g c = λ start script t after left is holds.
    let p = err_from_is_err_and c.from_residual-in_err-take_line.result c.from_residual-in_err-take_line.ensures.1 in
    let number : c.next.new.self.number ≡ c.loop-alloc.lines.number + 1 = subst (λ r. c.next.new.self.number ≡ number_after r c.loop-alloc.lines.number) (ap Ok c.if-not-branch.false) c.in_ok-next.ensures.counts.number in
    let took = c.loop-alloc.invariant.took start script t after left is holds in
    let taking = took.0 in
    let there = told_after taking.acts t (g.B.Board.seen c.args.board.now).told (g.B.Board.seen c.loop-alloc.board).told is took.1.told in
    let line = (given start script t c.loop-alloc.lines.number c.loop-alloc.lines.reader c.next.new.self.reader (g.S.Source.left c.loop-alloc.source) (g.S.Source.left c.next.new.source) c.loop-alloc.run c.line.result.now c.line.ensures taking (gave_as (Ok c.in_ok-next.field-0) (Ok true) c.loop-alloc.lines.number c.loop-alloc.lines.reader c.next.new.self.reader (g.S.Source.left c.loop-alloc.source) (g.S.Source.left c.next.new.source) (ap Ok c.if-not-branch.false) c.in_ok-next.ensures.gives) (moved_as (Ok c.in_ok-next.field-0) (Ok true) c.loop-alloc.lines.reader c.next.new.self.reader (g.S.Source.left c.loop-alloc.source) (g.S.Source.left c.next.new.source) (ap Ok c.if-not-branch.false) c.in_ok-next.ensures.moves)) in
    let takes = takes_next g.B.Board.seen start script t _ _ _ _ taking (c.number.result, line_of c.line.result.now) _ _ _ _ (c.in_err-take_line.ensures.takes (after_acts taking.acts t) there) in
    rw (p.1, p.2) (record {
      does = stopped g.B.Board.seen start script t (reads_in taking.done) line.0 (c.loop-alloc.lines.number + 1, line_of c.line.result.now) line.1 taking.accepted taking.acts taking.along
          c.args.board.now c.loop-alloc.board c.take_line.new.board took.1 c.in_err-take_line.field-0.0 c.take_line.new.run there (rw (c.number.ensures, number) at takes);
      ahead = ahead_given _ (λ fault. not_fault c.in_err-take_line.field-0.0 c.in_err-take_line.ensures.stop fault) start script t c.loop-alloc.lines.number c.loop-alloc.lines.reader c.next.new.self.reader (g.S.Source.left c.loop-alloc.source) (g.S.Source.left c.next.new.source) c.loop-alloc.run (g.B.Board.seen c.take_line.new.board).told c.line.result.now c.line.ensures taking
          (c.in_ok-next.ensures.counts.bytes.line (ap Ok c.if-not-branch.false)) (c.in_ok-next.ensures.counts.bytes.grows (ap Ok c.if-not-branch.false)) c.in_ok-next.ensures.counts.bytes.ahead (moved_as (Ok c.in_ok-next.field-0) (Ok true) c.loop-alloc.lines.reader c.next.new.self.reader (g.S.Source.left c.loop-alloc.source) (g.S.Source.left c.next.new.source) (ap Ok c.if-not-branch.false) c.in_ok-next.ensures.moves) line
          (part_grows g.B.Board.seen takes.does.0 (ending_of c.in_err-take_line.field-0.0) (after_acts taking.acts t) c.loop-alloc.board c.take_line.new.board there takes.does.2);
    })

pub returns-in_err-take_line-clause-takes : goal.returns-in_err-take_line-clause-takes
returns-in_err-take_line-clause-takes g c =
    let p = err_from_is_err_and c.from_residual-in_err-take_line.result c.from_residual-in_err-take_line.ensures.1 in
    rw (p.1, p.2)
    (takes_by c.in_err-take_line.field-0.0 c.next.new.self.reader.taken (g.S.Source.left c.args.source.now) (g.S.Source.left c.next.new.source) c.in_ok-next.ensures.counts.bytes.few (λ done. absurd (line_not_done c.in_err-take_line.field-0.0 c.in_err-take_line.ensures.stop done))
    (takes_more (Ok c.in_ok-next.field-0) c.loop-alloc.lines.reader c.next.new.self.reader (g.S.Source.left c.args.source.now) (g.S.Source.left c.loop-alloc.source) (g.S.Source.left c.next.new.source) c.loop-alloc.invariant.few c.in_ok-next.ensures.moves))

pub returns-in_err-take_line-clause-ends : goal.returns-in_err-take_line-clause-ends
returns-in_err-take_line-clause-ends g c =
    let p = err_from_is_err_and c.from_residual-in_err-take_line.result c.from_residual-in_err-take_line.ensures.1 in
    rw (p.1, p.2)
    (line_ends c.in_err-take_line.field-0.0 _ _ _ _ _ c.in_err-take_line.ensures.stop (c.in_ok-next.ensures.ends.source ∙ c.loop-alloc.invariant.source) c.loop-alloc.invariant.faults c.in_err-take_line.ensures.faults)

-- ---- no line was given

pub returns-then-not-branch-clause-comes : goal.returns-then-not-branch-clause-comes
returns-then-not-branch-clause-comes g c = λ start script t after left is holds.
    let took = c.loop-alloc.invariant.took start script t after left is holds in
    let taking = took.0 in
    record {
      does = none_given g.B.Board.seen start script t c.loop-alloc.lines.number c.loop-alloc.lines.reader (g.S.Source.left c.loop-alloc.source) c.loop-alloc.run taking c.args.board.now c.loop-alloc.board took.1 c.next.new.self.reader (g.S.Source.left c.next.new.source) (moved_as (Ok c.in_ok-next.field-0) (Ok false) c.loop-alloc.lines.reader c.next.new.self.reader (g.S.Source.left c.loop-alloc.source) (g.S.Source.left c.next.new.source) (ap Ok c.if-not-branch.true) c.in_ok-next.ensures.moves) (gave_as (Ok c.in_ok-next.field-0) (Ok false) c.loop-alloc.lines.number c.loop-alloc.lines.reader c.next.new.self.reader (g.S.Source.left c.loop-alloc.source) (g.S.Source.left c.next.new.source) (ap Ok c.if-not-branch.true) c.in_ok-next.ensures.gives);
      ahead = ahead_none _ start script t c.loop-alloc.lines.number c.loop-alloc.lines.reader c.next.new.self.reader (g.S.Source.left c.loop-alloc.source) (g.S.Source.left c.next.new.source) c.loop-alloc.run _ taking
          (told_after taking.acts t (g.B.Board.seen c.args.board.now).told (g.B.Board.seen c.loop-alloc.board).told is took.1.told) c.in_ok-next.ensures.counts.bytes.ahead (λ fault. absurd cc) (moved_as (Ok c.in_ok-next.field-0) (Ok false) c.loop-alloc.lines.reader c.next.new.self.reader (g.S.Source.left c.loop-alloc.source) (g.S.Source.left c.next.new.source) (ap Ok c.if-not-branch.true) c.in_ok-next.ensures.moves).0;
    }

pub returns-then-not-branch-clause-takes : goal.returns-then-not-branch-clause-takes
returns-then-not-branch-clause-takes g c =
    takes_by Done c.next.new.self.reader.taken (g.S.Source.left c.args.source.now) (g.S.Source.left c.next.new.source) c.in_ok-next.ensures.counts.bytes.few (λ done. (moved_as (Ok c.in_ok-next.field-0) (Ok false) c.loop-alloc.lines.reader c.next.new.self.reader (g.S.Source.left c.loop-alloc.source) (g.S.Source.left c.next.new.source) (ap Ok c.if-not-branch.true) c.in_ok-next.ensures.moves).1.1)
    (takes_more (Ok c.in_ok-next.field-0) c.loop-alloc.lines.reader c.next.new.self.reader (g.S.Source.left c.args.source.now) (g.S.Source.left c.loop-alloc.source) (g.S.Source.left c.next.new.source) c.loop-alloc.invariant.few c.in_ok-next.ensures.moves)

pub returns-in_err-next-clause-comes : goal.returns-in_err-next-clause-comes
returns-in_err-next-clause-comes g c = λ start script t after left is holds.
    let p = err_from_is_err_and c.from_residual.result c.from_residual.ensures.1 in
    let took = c.loop-alloc.invariant.took start script t after left is holds in
    let taking = took.0 in
    rw (p.1, p.2) (record {
      does = next_failed g.B.Board.seen start script t c.loop-alloc.lines.number c.loop-alloc.lines.reader (g.S.Source.left c.loop-alloc.source) c.loop-alloc.run taking c.args.board.now c.loop-alloc.board took.1 c.in_err-next.field-0.0 c.next.new.self.reader (g.S.Source.left c.next.new.source) c.in_err-next.ensures.ends.exits c.in_err-next.ensures.moves c.in_err-next.ensures.gives;
      ahead = ahead_none _ start script t c.loop-alloc.lines.number c.loop-alloc.lines.reader c.next.new.self.reader (g.S.Source.left c.loop-alloc.source) (g.S.Source.left c.next.new.source) c.loop-alloc.run _ taking
          (told_after taking.acts t (g.B.Board.seen c.args.board.now).told (g.B.Board.seen c.loop-alloc.board).told is took.1.told) c.in_err-next.ensures.counts.bytes.ahead (λ fault. c.in_err-next.ensures.counts.bytes.none (failed_same c.in_err-next.field-0.0 fault)) c.in_err-next.ensures.moves;
    })

pub returns-in_err-next-clause-takes : goal.returns-in_err-next-clause-takes
returns-in_err-next-clause-takes g c =
    let p = err_from_is_err_and c.from_residual.result c.from_residual.ensures.1 in
    rw (p.1, p.2)
    (takes_by c.in_err-next.field-0.0 c.next.new.self.reader.taken (g.S.Source.left c.args.source.now) (g.S.Source.left c.next.new.source) c.in_err-next.ensures.counts.bytes.few (λ done. absurd (next_not_done c.in_err-next.field-0.0 c.in_err-next.ensures.ends.exits done))
    (takes_more (Err c.in_err-next.field-0.0) c.loop-alloc.lines.reader c.next.new.self.reader (g.S.Source.left c.args.source.now) (g.S.Source.left c.loop-alloc.source) (g.S.Source.left c.next.new.source) c.loop-alloc.invariant.few c.in_err-next.ensures.moves))

pub returns-in_err-next-clause-ends : goal.returns-in_err-next-clause-ends
returns-in_err-next-clause-ends g c =
    let p = err_from_is_err_and c.from_residual.result c.from_residual.ensures.1 in
    rw (p.1, p.2) (next_ends c.in_err-next.field-0.0 _ _ _ _ _ c.in_err-next.ensures.ends.exits c.in_err-next.ensures.ends.source c.loop-alloc.invariant.source c.loop-alloc.invariant.faults)
