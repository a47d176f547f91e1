use Rattle.std.proofs.Common.{◌≡◌, ◌+◌, Ok, Err, true, false, ap, refl, subst, sym, ◌∙◌, arith}
use Rattle.std.specs.Prelude.{Contains}
use Rattle.std.proofs.lemmas.Result.{err_from_is_err_and}
use Rattle.ras_exit.specs.Causes.{BoardCause, SourceCause}
use Rattle.ras_exit.specs.declared.exit.Exit.TheVariants.{Done}
use Rattle.ras_exit.proofs.DeviceLemmas.{device_goes_on, device_stays}
use Rattle.line_filters.specs.Filters.{IsFilterExit}
use Rattle.line_filters.specs.Numbered.{Numbered}
use Rattle.line_filters.proofs.ReadingLemmas.{if_known, takes_more, takes_none, takes_of}
use Rattle.line_filters.proofs.BothLemmas.{counts_as, failed_on, free_of, gave_as, line_on, moved_as, next_board, next_filters, next_not_done, none_on, start_on, stops_on, take_causes, take_filters, take_not_done, unprinted_on, wait_on}
use Rattle.line_filters.proofs.filtering.gather.Goals as goal

pub loop-lines-init : goal.loop-lines-init
loop-lines-init g c = record {
  along = λ script t left told. start_on (g.F.LineFilter.makes c.args.filter.now) script t c.args.lines.now c.args.waiting.now.items (g.S.Source.left c.args.source.now) (g.B.Board.seen c.args.board.now).told (g.B.Board.seen c.args.board.now).clock c.requires.begins.0 (g.met.F.LineFilter.none c.args.filter.now) c.requires.begins.2 left told;
  taken = λ script left. takes_none script c.args.lines.now.reader (g.S.Source.left c.args.source.now) (ap (λ (l : Numbered). l.reader) c.requires.begins.0) left;
  counted = omega (arith, ap (λ (l : Numbered). l.number) c.requires.begins.0);
  few = omega (arith, ap (λ (l : Numbered). l.number) c.requires.begins.0);
  bytes = omega (arith, ap (λ (l : Numbered). l.reader.taken) c.requires.begins.0);
  lines = c.requires.begins.1 ∙ sym (ap (λ (l : Numbered). l.number) c.requires.begins.0);
  source = refl;
  faults = refl;
  device = device_stays _ _;
}

-- ---- a line was taken

pub take_line-requires : goal.take_line-requires
take_line-requires g c =
    let counts = (counts_as (Ok c.in_ok-next.field-0) (Ok true) c.loop-lines.lines c.next.new.self (ap Ok c.if-not-branch.false) c.in_ok-next.ensures.counts) in
    let grows = counts.bytes.grows refl in
    let few = counts.bytes.few in
    let so_far = c.loop-lines.invariant.counted in
    let lines = c.loop-lines.invariant.lines in
    record { short = (counts.bytes.line refl).1; few = omega arith }

pub loop-lines-preserved : goal.loop-lines-preserved
loop-lines-preserved g c =
    let moves = (moved_as (Ok c.in_ok-next.field-0) (Ok true) c.loop-lines.lines.reader c.next.new.self.reader (g.S.Source.left c.loop-lines.source) (g.S.Source.left c.next.new.source) (ap Ok c.if-not-branch.false) c.in_ok-next.ensures.moves) in
    let counts = (counts_as (Ok c.in_ok-next.field-0) (Ok true) c.loop-lines.lines c.next.new.self (ap Ok c.if-not-branch.false) c.in_ok-next.ensures.counts) in
    let more : c.next.new.self.number ≡ c.loop-lines.lines.number + 1 = counts.number in
    let grows = counts.bytes.grows refl in
    let bytes = counts.bytes.few in
    let so_far = c.loop-lines.invariant.counted in
    record {
      along = λ script t left told.
          line_on (g.F.LineFilter.makes c.args.filter.now) script t (g.B.Board.seen c.args.board.now).clock c.loop-lines.lines c.next.new.self (g.F.LineFilter.makes c.loop-lines.filter) c.print_waiting.new.waiting.items (g.B.Board.seen c.print_waiting.new.board).clock (g.met.F.LineFilter.none c.loop-lines.filter)
          (free_of g.B.Board.seen (Contains c.loop-lines.lines.reader.held 10) c.loop-lines.waiting.items c.print_waiting.new.waiting.items c.loop-lines.board c.print_waiting.new.board c.in_ok-print_waiting.ensures.prints)
          (g.F.LineFilter.makes c.take_line.new.filter) c.take_line.new.waiting.items (g.S.Source.left c.loop-lines.source) (g.S.Source.left c.next.new.source) (g.B.Board.seen c.print_waiting.new.board).told
          (wait_on g.B.Board.seen (g.F.LineFilter.makes c.args.filter.now) script t (g.B.Board.seen c.args.board.now).clock c.loop-lines.lines (g.F.LineFilter.makes c.loop-lines.filter) c.loop-lines.waiting.items c.print_waiting.new.waiting.items (Contains c.loop-lines.lines.reader.held 10) c.loop-lines.board c.print_waiting.new.board (g.S.Source.left c.loop-lines.source) (c.loop-lines.invariant.along script t left told) c.in_ok-print_waiting.ensures.prints)
          (λ held. ap g.S.Source.left (c.in_ok-next.ensures.held_first held)) (gave_as (Ok c.in_ok-next.field-0) (Ok true) c.loop-lines.lines c.next.new.self (g.S.Source.left c.loop-lines.source) (g.S.Source.left c.next.new.source) (ap Ok c.if-not-branch.false) c.in_ok-next.ensures.gives) moves (takes_more (Ok true) script c.loop-lines.lines.reader c.next.new.self.reader (g.S.Source.left c.loop-lines.source) (g.S.Source.left c.next.new.source) moves (c.loop-lines.invariant.taken script left)) counts c.in_ok-take_line.ensures.takes;
      taken = λ script left. (takes_more (Ok true) script c.loop-lines.lines.reader c.next.new.self.reader (g.S.Source.left c.loop-lines.source) (g.S.Source.left c.next.new.source) moves (c.loop-lines.invariant.taken script left));
      counted = omega arith;
      few = omega arith;
      bytes = bytes;
      lines = c.in_ok-take_line.ensures.taken.0 ∙ ap (λ n. n + 1) c.loop-lines.invariant.lines ∙ sym more;
      source = c.in_ok-next.ensures.ends.source ∙ c.loop-lines.invariant.source;
      faults = c.in_ok-print_waiting.ensures.faults ∙ c.loop-lines.invariant.faults;
      device = device_goes_on _ _ _ _ _ _ c.loop-lines.invariant.device c.in_ok-print_waiting.ensures.device;
    }

-- ---- what waits couldn't be printed

pub returns-in_err-print_waiting-clause-ends : goal.returns-in_err-print_waiting-clause-ends
returns-in_err-print_waiting-clause-ends g c = λ script t left told.
    let p = err_from_is_err_and c.from_residual.result c.from_residual.ensures.1 in
    rw (p.1, p.2)
    (unprinted_on g.B.Board.seen (g.F.LineFilter.makes c.args.filter.now) script t (g.B.Board.seen c.args.board.now).clock c.loop-lines.lines (g.F.LineFilter.makes c.loop-lines.filter) c.loop-lines.waiting.items c.print_waiting.new.waiting.items (Contains c.loop-lines.lines.reader.held 10) c.loop-lines.board c.print_waiting.new.board c.in_err-print_waiting.field-0.0 (g.S.Source.left c.loop-lines.source)
    (c.loop-lines.invariant.along script t left told) c.in_err-print_waiting.ensures.prints)

pub returns-in_err-print_waiting-clause-takes : goal.returns-in_err-print_waiting-clause-takes
returns-in_err-print_waiting-clause-takes g c =
    let p = err_from_is_err_and c.from_residual.result c.from_residual.ensures.1 in
    rw (p.1, p.2)
    (if_known _ _ (λ script left. takes_of c.in_err-print_waiting.field-0.0 script c.loop-lines.lines.reader (g.S.Source.left c.loop-lines.source) c.loop-lines.invariant.bytes (λ done. (let e = sym c.in_err-print_waiting.ensures.prints.0 ∙ done in absurd cc)) (c.loop-lines.invariant.taken script left)))

pub returns-in_err-print_waiting-clause-few : goal.returns-in_err-print_waiting-clause-few
returns-in_err-print_waiting-clause-few g c =
    let p = err_from_is_err_and c.from_residual.result c.from_residual.ensures.1 in
    rw (p.1, p.2) (omega (arith, c.loop-lines.invariant.lines, c.loop-lines.invariant.few), subst IsFilterExit (sym c.in_err-print_waiting.ensures.prints.0) tt)

pub returns-in_err-print_waiting-clause-causes : goal.returns-in_err-print_waiting-clause-causes
returns-in_err-print_waiting-clause-causes g c =
    let p = err_from_is_err_and c.from_residual.result c.from_residual.ensures.1 in
    rw (p.1, p.2) (
      subst (λ e. SourceCause e (g.S.Source.faults c.args.source.now) (g.S.Source.faults c.loop-lines.source)) (sym c.in_err-print_waiting.ensures.prints.0) c.loop-lines.invariant.source,
      subst (λ f. BoardCause c.in_err-print_waiting.field-0.0 f (g.B.Board.seen c.print_waiting.new.board).faults) c.loop-lines.invariant.faults c.in_err-print_waiting.ensures.faults,
    )

pub returns-in_err-print_waiting-clause-device : goal.returns-in_err-print_waiting-clause-device
returns-in_err-print_waiting-clause-device g c = device_goes_on _ _ _ _ _ _ c.loop-lines.invariant.device c.in_err-print_waiting.ensures.device

-- ---- no line is given

pub returns-in_err-next-clause-ends : goal.returns-in_err-next-clause-ends
returns-in_err-next-clause-ends g c = λ script t left told.
    let p = err_from_is_err_and c.from_residual-in_err-next.result c.from_residual-in_err-next.ensures.1 in
    rw (p.1, p.2)
    (failed_on (g.F.LineFilter.makes c.args.filter.now) script t (g.B.Board.seen c.args.board.now).clock c.loop-lines.lines c.next.new.self (g.F.LineFilter.makes c.loop-lines.filter) c.print_waiting.new.waiting.items (g.B.Board.seen c.print_waiting.new.board).clock (g.met.F.LineFilter.none c.loop-lines.filter)
    (free_of g.B.Board.seen (Contains c.loop-lines.lines.reader.held 10) c.loop-lines.waiting.items c.print_waiting.new.waiting.items c.loop-lines.board c.print_waiting.new.board c.in_ok-print_waiting.ensures.prints)
    c.in_err-next.field-0.0 (g.S.Source.left c.loop-lines.source) (g.S.Source.left c.next.new.source) (g.B.Board.seen c.print_waiting.new.board).told
    (wait_on g.B.Board.seen (g.F.LineFilter.makes c.args.filter.now) script t (g.B.Board.seen c.args.board.now).clock c.loop-lines.lines (g.F.LineFilter.makes c.loop-lines.filter) c.loop-lines.waiting.items c.print_waiting.new.waiting.items (Contains c.loop-lines.lines.reader.held 10) c.loop-lines.board c.print_waiting.new.board (g.S.Source.left c.loop-lines.source) (c.loop-lines.invariant.along script t left told) c.in_ok-print_waiting.ensures.prints)
    (λ held. ap g.S.Source.left (c.in_err-next.ensures.held_first held)) c.in_err-next.ensures.gives c.in_err-next.ensures.moves (takes_more (Err c.in_err-next.field-0.0) script c.loop-lines.lines.reader c.next.new.self.reader (g.S.Source.left c.loop-lines.source) (g.S.Source.left c.next.new.source) c.in_err-next.ensures.moves (c.loop-lines.invariant.taken script left)) c.in_err-next.ensures.counts c.in_err-next.ensures.ends.exits)

pub returns-in_err-next-clause-takes : goal.returns-in_err-next-clause-takes
returns-in_err-next-clause-takes g c =
    let p = err_from_is_err_and c.from_residual-in_err-next.result c.from_residual-in_err-next.ensures.1 in
    rw (p.1, p.2)
    (if_known _ _ (λ script left. takes_of c.in_err-next.field-0.0 script c.next.new.self.reader (g.S.Source.left c.next.new.source) c.in_err-next.ensures.counts.bytes.few (λ done. absurd (next_not_done c.in_err-next.field-0.0 c.in_err-next.ensures.ends.exits done))
    (takes_more (Err c.in_err-next.field-0.0) script c.loop-lines.lines.reader c.next.new.self.reader (g.S.Source.left c.loop-lines.source) (g.S.Source.left c.next.new.source) c.in_err-next.ensures.moves (c.loop-lines.invariant.taken script left))))

pub returns-in_err-next-clause-few : goal.returns-in_err-next-clause-few
returns-in_err-next-clause-few g c =
    let p = err_from_is_err_and c.from_residual-in_err-next.result c.from_residual-in_err-next.ensures.1 in
    rw (p.1, p.2) (omega (arith, c.loop-lines.invariant.lines, c.loop-lines.invariant.few), next_filters c.in_err-next.field-0.0 c.in_err-next.ensures.ends.exits)

pub returns-in_err-next-clause-causes : goal.returns-in_err-next-clause-causes
returns-in_err-next-clause-causes g c =
    let p = err_from_is_err_and c.from_residual-in_err-next.result c.from_residual-in_err-next.ensures.1 in
    rw (p.1, p.2) (
      subst (λ n. SourceCause c.in_err-next.field-0.0 n (g.S.Source.faults c.next.new.source)) c.loop-lines.invariant.source c.in_err-next.ensures.ends.source,
      next_board c.in_err-next.field-0.0 (g.B.Board.seen c.args.board.now).faults (g.B.Board.seen c.print_waiting.new.board).faults c.in_err-next.ensures.ends.exits (c.in_ok-print_waiting.ensures.faults ∙ c.loop-lines.invariant.faults),
    )

pub returns-in_err-next-clause-device : goal.returns-in_err-next-clause-device
returns-in_err-next-clause-device g c = device_goes_on _ _ _ _ _ _ c.loop-lines.invariant.device c.in_ok-print_waiting.ensures.device

-- ---- all were given

pub returns-then-not-branch-clause-ends : goal.returns-then-not-branch-clause-ends
returns-then-not-branch-clause-ends g c = λ script t left told.
    let moves = (moved_as (Ok c.in_ok-next.field-0) (Ok false) c.loop-lines.lines.reader c.next.new.self.reader (g.S.Source.left c.loop-lines.source) (g.S.Source.left c.next.new.source) (ap Ok c.if-not-branch.true) c.in_ok-next.ensures.moves) in
    none_on (g.F.LineFilter.makes c.args.filter.now) script t (g.B.Board.seen c.args.board.now).clock c.loop-lines.lines c.next.new.self (g.F.LineFilter.makes c.loop-lines.filter) c.print_waiting.new.waiting.items (g.B.Board.seen c.print_waiting.new.board).clock (g.met.F.LineFilter.none c.loop-lines.filter)
    (free_of g.B.Board.seen (Contains c.loop-lines.lines.reader.held 10) c.loop-lines.waiting.items c.print_waiting.new.waiting.items c.loop-lines.board c.print_waiting.new.board c.in_ok-print_waiting.ensures.prints)
    (g.S.Source.left c.loop-lines.source) (g.S.Source.left c.next.new.source) (g.B.Board.seen c.print_waiting.new.board).told
    (wait_on g.B.Board.seen (g.F.LineFilter.makes c.args.filter.now) script t (g.B.Board.seen c.args.board.now).clock c.loop-lines.lines (g.F.LineFilter.makes c.loop-lines.filter) c.loop-lines.waiting.items c.print_waiting.new.waiting.items (Contains c.loop-lines.lines.reader.held 10) c.loop-lines.board c.print_waiting.new.board (g.S.Source.left c.loop-lines.source) (c.loop-lines.invariant.along script t left told) c.in_ok-print_waiting.ensures.prints)
    (λ held. ap g.S.Source.left (c.in_ok-next.ensures.held_first held)) (gave_as (Ok c.in_ok-next.field-0) (Ok false) c.loop-lines.lines c.next.new.self (g.S.Source.left c.loop-lines.source) (g.S.Source.left c.next.new.source) (ap Ok c.if-not-branch.true) c.in_ok-next.ensures.gives) moves (takes_more (Ok false) script c.loop-lines.lines.reader c.next.new.self.reader (g.S.Source.left c.loop-lines.source) (g.S.Source.left c.next.new.source) moves (c.loop-lines.invariant.taken script left)) (counts_as (Ok c.in_ok-next.field-0) (Ok false) c.loop-lines.lines c.next.new.self (ap Ok c.if-not-branch.true) c.in_ok-next.ensures.counts)

pub returns-then-not-branch-clause-takes : goal.returns-then-not-branch-clause-takes
returns-then-not-branch-clause-takes g c =
    let moves = (moved_as (Ok c.in_ok-next.field-0) (Ok false) c.loop-lines.lines.reader c.next.new.self.reader (g.S.Source.left c.loop-lines.source) (g.S.Source.left c.next.new.source) (ap Ok c.if-not-branch.true) c.in_ok-next.ensures.moves) in
    if_known _ _ (λ script left. takes_of Done script c.next.new.self.reader (g.S.Source.left c.next.new.source) c.in_ok-next.ensures.counts.bytes.few (λ done. moves.1.1)
    (takes_more (Ok false) script c.loop-lines.lines.reader c.next.new.self.reader (g.S.Source.left c.loop-lines.source) (g.S.Source.left c.next.new.source) moves (c.loop-lines.invariant.taken script left)))

pub returns-then-not-branch-clause-few : goal.returns-then-not-branch-clause-few
returns-then-not-branch-clause-few g c = (omega (arith, c.loop-lines.invariant.lines, c.loop-lines.invariant.few), tt)

pub returns-then-not-branch-clause-causes : goal.returns-then-not-branch-clause-causes
returns-then-not-branch-clause-causes g c = (c.in_ok-next.ensures.ends.source ∙ c.loop-lines.invariant.source, c.in_ok-print_waiting.ensures.faults ∙ c.loop-lines.invariant.faults)

pub returns-then-not-branch-clause-device : goal.returns-then-not-branch-clause-device
returns-then-not-branch-clause-device g c = device_goes_on _ _ _ _ _ _ c.loop-lines.invariant.device c.in_ok-print_waiting.ensures.device

-- ---- a line was rejected, or memory ran out at it

pub returns-in_err-take_line-clause-ends : goal.returns-in_err-take_line-clause-ends
returns-in_err-take_line-clause-ends g c = λ script t left told.
    let p = err_from_is_err_and c.from_residual-in_err-take_line.result c.from_residual-in_err-take_line.ensures.1 in
    let moves = (moved_as (Ok c.in_ok-next.field-0) (Ok true) c.loop-lines.lines.reader c.next.new.self.reader (g.S.Source.left c.loop-lines.source) (g.S.Source.left c.next.new.source) (ap Ok c.if-not-branch.false) c.in_ok-next.ensures.moves) in
    rw (p.1, p.2)
    (stops_on (g.F.LineFilter.makes c.args.filter.now) script t (g.B.Board.seen c.args.board.now).clock c.loop-lines.lines c.next.new.self (g.F.LineFilter.makes c.loop-lines.filter) c.print_waiting.new.waiting.items (g.B.Board.seen c.print_waiting.new.board).clock (g.met.F.LineFilter.none c.loop-lines.filter)
    (free_of g.B.Board.seen (Contains c.loop-lines.lines.reader.held 10) c.loop-lines.waiting.items c.print_waiting.new.waiting.items c.loop-lines.board c.print_waiting.new.board c.in_ok-print_waiting.ensures.prints)
    c.in_err-take_line.field-0.0 (g.F.LineFilter.makes c.take_line.new.filter) c.take_line.new.waiting.items (g.S.Source.left c.loop-lines.source) (g.S.Source.left c.next.new.source) (g.B.Board.seen c.print_waiting.new.board).told
    (wait_on g.B.Board.seen (g.F.LineFilter.makes c.args.filter.now) script t (g.B.Board.seen c.args.board.now).clock c.loop-lines.lines (g.F.LineFilter.makes c.loop-lines.filter) c.loop-lines.waiting.items c.print_waiting.new.waiting.items (Contains c.loop-lines.lines.reader.held 10) c.loop-lines.board c.print_waiting.new.board (g.S.Source.left c.loop-lines.source) (c.loop-lines.invariant.along script t left told) c.in_ok-print_waiting.ensures.prints)
    (λ held. ap g.S.Source.left (c.in_ok-next.ensures.held_first held)) (gave_as (Ok c.in_ok-next.field-0) (Ok true) c.loop-lines.lines c.next.new.self (g.S.Source.left c.loop-lines.source) (g.S.Source.left c.next.new.source) (ap Ok c.if-not-branch.false) c.in_ok-next.ensures.gives) moves (takes_more (Ok true) script c.loop-lines.lines.reader c.next.new.self.reader (g.S.Source.left c.loop-lines.source) (g.S.Source.left c.next.new.source) moves (c.loop-lines.invariant.taken script left)) (counts_as (Ok c.in_ok-next.field-0) (Ok true) c.loop-lines.lines c.next.new.self (ap Ok c.if-not-branch.false) c.in_ok-next.ensures.counts) c.in_err-take_line.ensures.exits c.in_err-take_line.ensures.takes.0 c.in_err-take_line.ensures.takes.1)

pub returns-in_err-take_line-clause-takes : goal.returns-in_err-take_line-clause-takes
returns-in_err-take_line-clause-takes g c =
    let p = err_from_is_err_and c.from_residual-in_err-take_line.result c.from_residual-in_err-take_line.ensures.1 in
    let moves = (moved_as (Ok c.in_ok-next.field-0) (Ok true) c.loop-lines.lines.reader c.next.new.self.reader (g.S.Source.left c.loop-lines.source) (g.S.Source.left c.next.new.source) (ap Ok c.if-not-branch.false) c.in_ok-next.ensures.moves) in
    rw (p.1, p.2)
    (if_known _ _ (λ script left. takes_of c.in_err-take_line.field-0.0 script c.next.new.self.reader (g.S.Source.left c.next.new.source) c.in_ok-next.ensures.counts.bytes.few (λ done. absurd (take_not_done c.in_err-take_line.field-0.0 c.in_err-take_line.ensures.exits done))
    (takes_more (Ok true) script c.loop-lines.lines.reader c.next.new.self.reader (g.S.Source.left c.loop-lines.source) (g.S.Source.left c.next.new.source) moves (c.loop-lines.invariant.taken script left))))

pub returns-in_err-take_line-clause-few : goal.returns-in_err-take_line-clause-few
returns-in_err-take_line-clause-few g c =
    let p = err_from_is_err_and c.from_residual-in_err-take_line.result c.from_residual-in_err-take_line.ensures.1 in
    let counts = (counts_as (Ok c.in_ok-next.field-0) (Ok true) c.loop-lines.lines c.next.new.self (ap Ok c.if-not-branch.false) c.in_ok-next.ensures.counts) in
    let grows = counts.bytes.grows refl in
    let bytes = counts.bytes.few in
    let so_far = c.loop-lines.invariant.counted in
    let lines = c.loop-lines.invariant.lines in
    let more = c.in_err-take_line.ensures.taken.1 in
    rw (p.1, p.2) (omega arith, take_filters c.in_err-take_line.field-0.0 c.in_err-take_line.ensures.exits)

pub returns-in_err-take_line-clause-causes : goal.returns-in_err-take_line-clause-causes
returns-in_err-take_line-clause-causes g c =
    let p = err_from_is_err_and c.from_residual-in_err-take_line.result c.from_residual-in_err-take_line.ensures.1 in
    rw (p.1, p.2)
    (take_causes c.in_err-take_line.field-0.0 (g.S.Source.faults c.args.source.now) (g.S.Source.faults c.next.new.source) (g.B.Board.seen c.args.board.now).faults (g.B.Board.seen c.print_waiting.new.board).faults c.in_err-take_line.ensures.exits
    (c.in_ok-next.ensures.ends.source ∙ c.loop-lines.invariant.source) (c.in_ok-print_waiting.ensures.faults ∙ c.loop-lines.invariant.faults))

pub returns-in_err-take_line-clause-device : goal.returns-in_err-take_line-clause-device
returns-in_err-take_line-clause-device g c = device_goes_on _ _ _ _ _ _ c.loop-lines.invariant.device c.in_ok-print_waiting.ensures.device
