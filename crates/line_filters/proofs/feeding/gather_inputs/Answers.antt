use Rattle.std.proofs.Common.{◌≡◌, ℕ, List, [], ◌++◌, length, Ok, Err, true, ap, refl, subst, sym, ◌∙◌, arith, length-append}
use Rattle.board_core.specs.Cause.{Rose}
use Rattle.ras_script.specs.InputBuffer.{MovesInput}
use Rattle.ras_script.specs.declared.input.InputStep.{InputStep}
use Rattle.ras_exit.specs.Causes.{BoardCause, SourceCause}
use Rattle.ras_exit.specs.declared.exit.Exit.TheVariants.{NoMemory}
use Rattle.ras_exit.proofs.DeviceLemmas.{device_goes_on, device_stays}
use Rattle.line_filters.specs.Steps.Feeding.{FedBoth, FeedEndsBoth, IsFeedStop}
use Rattle.line_filters.proofs.FeedBothLemmas.{fed_start, stop_on, unprinted_on, wait_on, with_nil}
use Rattle.line_filters.proofs.FeedRoomLemmas.{room, short_step}
use Rattle.line_filters.proofs.FeedRoundLemmas.{ends_round, source_round, starved_round, step_round, unprinted_round}
use Rattle.line_filters.proofs.LeftLemmas.{leaves_all, leaves_more}
use Rattle.line_filters.proofs.feeding.gather_inputs.Goals as goal

pub loop-number-init : goal.loop-number-init
loop-number-init g c = record {
  fed = λ script t left told. fed_start (g.F.InputFilter.makes c.args.filter.now) script t c.args.inputs.now c.args.waiting.now.items (g.S.Source.left c.args.source.now) (g.B.Board.seen c.args.board.now).told (g.B.Board.seen c.args.board.now).clock c.requires.begins.0 (g.met.F.InputFilter.none c.args.filter.now) c.requires.begins.2 left told;
  left = leaves_all (g.S.Source.left c.args.source.now);
  short = omega (arith, ap length c.requires.begins.2);
  taken = omega (arith, c.requires.begins.1);
  source = refl;
  faults = refl;
  device = device_stays _ _;
}

-- ---- what waits couldn't be printed before a read

pub returns-in-Err-clause-ends : goal.returns-in-Err-clause-ends
returns-in-Err-clause-ends g c =
    let makes = g.F.InputFilter.makes in
    let see = g.B.Board.seen in
    let left = g.S.Source.left in
    λ script t given here.
    unprinted_round (makes c.args.filter.now) script t (see c.args.board.now).clock c.loop-number.inputs (makes c.loop-number.filter) see c.loop-number.waiting.items c.print_unless.new.waiting.items
    (c.has_line.result ≡ true) c.loop-number.board c.print_unless.new.board (left c.loop-number.source) (c.loop-number.invariant.fed script t given here) c.in-Err.fault c.in-Err.ensures.prints

pub returns-in-Err-clause-exits : goal.returns-in-Err-clause-exits
returns-in-Err-clause-exits g c = subst IsFeedStop (sym c.in-Err.ensures.prints.0) tt

pub returns-in-Err-clause-causes : goal.returns-in-Err-clause-causes
returns-in-Err-clause-causes g c = (
  subst (λ e. SourceCause e (g.S.Source.faults c.args.source.now) (g.S.Source.faults c.loop-number.source)) (sym c.in-Err.ensures.prints.0) c.loop-number.invariant.source,
  subst (λ f. BoardCause c.in-Err.fault f (g.B.Board.seen c.print_unless.new.board).faults) c.loop-number.invariant.faults c.in-Err.ensures.faults,
)

pub returns-in-Err-clause-device : goal.returns-in-Err-clause-device
returns-in-Err-clause-device g c = device_goes_on _ _ _ _ _ _ c.loop-number.invariant.device c.in-Err.ensures.device

-- ---- the source failed

pub returns-in_default-advance-clause-ends : goal.returns-in_default-advance-clause-ends
returns-in_default-advance-clause-ends g c =
    let makes = g.F.InputFilter.makes in
    let see = g.B.Board.seen in
    let left = g.S.Source.left in
    λ script t given here.
    source_round (makes c.args.filter.now) script t (see c.args.board.now).clock c.loop-number.inputs (makes c.loop-number.filter) see c.loop-number.waiting.items c.print_unless.new.waiting.items
    c.has_line.result c.loop-number.board c.print_unless.new.board (left c.loop-number.source) (left c.advance.new.source) (c.loop-number.invariant.fed script t given here) c.in_default.ensures.prints
    c.has_line.ensures (g.met.F.InputFilter.none c.loop-number.filter) c.advance.new.self c.in_default-advance.field-0 c.in_default-advance.ensures.moves

pub returns-in_default-advance-clause-takes : goal.returns-in_default-advance-clause-takes
returns-in_default-advance-clause-takes g c =
    leaves_more (Err c.in_default-advance.field-0) c.loop-number.inputs c.advance.new.self (g.S.Source.left c.args.source.now) (g.S.Source.left c.loop-number.source) (g.S.Source.left c.advance.new.source) c.in_default-advance.ensures.moves c.loop-number.invariant.left

pub returns-in_default-advance-clause-causes : goal.returns-in_default-advance-clause-causes
returns-in_default-advance-clause-causes g c = (
  subst (λ n. Rose n (g.S.Source.faults c.advance.new.source)) c.loop-number.invariant.source c.in_default-advance.ensures.cause.failed,
  c.in_default.ensures.faults ∙ c.loop-number.invariant.faults,
)

pub returns-in_default-advance-clause-device : goal.returns-in_default-advance-clause-device
returns-in_default-advance-clause-device g c = device_goes_on _ _ _ _ _ _ c.loop-number.invariant.device c.in_default.ensures.device

-- ---- the source came to its end

pub returns-in-End-clause-ends : goal.returns-in-End-clause-ends
returns-in-End-clause-ends g c =
    let makes = g.F.InputFilter.makes in
    let see = g.B.Board.seen in
    let left = g.S.Source.left in
    let moves = subst (λ (s : InputStep). MovesInput (Ok s) c.loop-number.inputs c.advance.new.self (left c.loop-number.source) (left c.advance.new.source)) c.in-End.is c.in-Ok.ensures.moves in
    λ script t given here.
    ends_round (makes c.args.filter.now) script t (see c.args.board.now).clock c.loop-number.inputs (makes c.loop-number.filter) see c.loop-number.waiting.items c.print_unless.new.waiting.items
    c.has_line.result c.loop-number.board c.print_unless.new.board (left c.loop-number.source) (left c.advance.new.source) (c.loop-number.invariant.fed script t given here) c.in_default.ensures.prints
    c.has_line.ensures (g.met.F.InputFilter.none c.loop-number.filter) c.advance.new.self c.in-End.cut (λ held. ap left (c.in-Ok.ensures.held_first held)) moves

pub returns-in-End-clause-takes : goal.returns-in-End-clause-takes
returns-in-End-clause-takes g c =
    leaves_more (Ok c.in-Ok.step) c.loop-number.inputs c.advance.new.self (g.S.Source.left c.args.source.now) (g.S.Source.left c.loop-number.source) (g.S.Source.left c.advance.new.source) c.in-Ok.ensures.moves c.loop-number.invariant.left

pub returns-in-End-clause-all : goal.returns-in-End-clause-all
returns-in-End-clause-all g c =
    let left = g.S.Source.left in
    let moves = subst (λ (s : InputStep). MovesInput (Ok s) c.loop-number.inputs c.advance.new.self (left c.loop-number.source) (left c.advance.new.source)) c.in-End.is c.in-Ok.ensures.moves in
    moves.4

pub returns-in-End-clause-causes : goal.returns-in-End-clause-causes
returns-in-End-clause-causes g c = (c.in-Ok.ensures.cause.same ∙ c.loop-number.invariant.source, c.in_default.ensures.faults ∙ c.loop-number.invariant.faults)

pub returns-in-End-clause-device : goal.returns-in-End-clause-device
returns-in-End-clause-device g c = device_goes_on _ _ _ _ _ _ c.loop-number.invariant.device c.in_default.ensures.device

-- ---- the text of a step

pub take_step-requires : goal.take_step-requires
take_step-requires g c = record {
  short = λ is. (let moves = subst (λ (s : InputStep). MovesInput (Ok s) c.loop-number.inputs c.advance.new.self (g.S.Source.left c.loop-number.source) (g.S.Source.left c.advance.new.source)) is c.in-Ok.ensures.moves in moves.1.1);
  few = omega (arith, c.loop-number.invariant.taken, c.loop-number-test.true);
}

pub returns-in_default-take_step : goal.returns-in_default-take_step
returns-in_default-take_step g c =
    let makes = g.F.InputFilter.makes in
    let see = g.B.Board.seen in
    let left = g.S.Source.left in
    record {
      ends = λ script t given here.
          starved_round (makes c.args.filter.now) script t (see c.args.board.now).clock c.loop-number.inputs (makes c.loop-number.filter) see c.loop-number.waiting.items c.print_unless.new.waiting.items
          c.has_line.result c.loop-number.board c.print_unless.new.board (left c.loop-number.source) (left c.advance.new.source) (c.loop-number.invariant.fed script t given here) c.in_default.ensures.prints
          c.has_line.ensures (g.met.F.InputFilter.none c.loop-number.filter) c.advance.new.self c.in-Ok.step (makes c.take_step.new.filter) (λ held. ap left (c.in-Ok.ensures.held_first held)) c.in-Ok.ensures.moves;
      short = omega (arith, c.loop-number.invariant.short, c.print_unless.ensures.size);
      takes = leaves_more (Ok c.in-Ok.step) c.loop-number.inputs c.advance.new.self (left c.args.source.now) (left c.loop-number.source) (left c.advance.new.source) c.in-Ok.ensures.moves c.loop-number.invariant.left;
      all = tt;
      few = tt;
      exits = tt;
      causes = (c.in-Ok.ensures.cause.same ∙ c.loop-number.invariant.source, c.in_default.ensures.faults ∙ c.loop-number.invariant.faults);
      device = device_goes_on _ _ _ _ _ _ c.loop-number.invariant.device c.in_default.ensures.device;
    }

-- ---- what waits couldn't be printed before the text

pub returns-in-Err-print_unless : goal.returns-in-Err-print_unless
returns-in-Err-print_unless g c =
    let makes = g.F.InputFilter.makes in
    let see = g.B.Board.seen in
    let left = g.S.Source.left in
    record {
      ends = λ script t given here.
          unprinted_on (makes c.args.filter.now) script t (see c.args.board.now).clock c.advance.new.self (makes c.take_step.new.filter) see c.print_unless.new.waiting.items c.take_step.new.text.items
          c.print_unless-in-loop-number.new.waiting.items (c.fits.result ≡ true) c.print_unless.new.board c.print_unless-in-loop-number.new.board c.in-Err-print_unless.fault (makes c.take_step.new.filter) (left c.advance.new.source)
          (step_round (makes c.args.filter.now) script t (see c.args.board.now).clock c.loop-number.inputs (makes c.loop-number.filter) see c.loop-number.waiting.items c.print_unless.new.waiting.items
          c.has_line.result c.loop-number.board c.print_unless.new.board (left c.loop-number.source) (left c.advance.new.source) (c.loop-number.invariant.fed script t given here) c.in_default.ensures.prints
          c.has_line.ensures (g.met.F.InputFilter.none c.loop-number.filter) c.advance.new.self
          c.in-Ok.step (makes c.take_step.new.filter) c.take_step.new.text.items c.in_default-step.not-End (λ held. ap left (c.in-Ok.ensures.held_first held)) c.in-Ok.ensures.moves c.in-Ok-take_step.ensures.takes) c.in-Err-print_unless.ensures.prints;
      short = omega (arith, c.loop-number.invariant.short, c.print_unless.ensures.size, c.print_unless-in-loop-number.ensures.size);
      takes = leaves_more (Ok c.in-Ok.step) c.loop-number.inputs c.advance.new.self (left c.args.source.now) (left c.loop-number.source) (left c.advance.new.source) c.in-Ok.ensures.moves c.loop-number.invariant.left;
      all = tt;
      few = tt;
      exits = subst IsFeedStop (sym c.in-Err-print_unless.ensures.prints.0) tt;
      causes = (
        subst (λ e. SourceCause e (g.S.Source.faults c.args.source.now) (g.S.Source.faults c.advance.new.source)) (sym c.in-Err-print_unless.ensures.prints.0) (c.in-Ok.ensures.cause.same ∙ c.loop-number.invariant.source),
        subst (λ f. BoardCause c.in-Err-print_unless.fault f (g.B.Board.seen c.print_unless-in-loop-number.new.board).faults) (c.in_default.ensures.faults ∙ c.loop-number.invariant.faults) c.in-Err-print_unless.ensures.faults,
      );
      device = device_goes_on _ _ _ _ _ _ (device_goes_on _ _ _ _ _ _ c.loop-number.invariant.device c.in_default.ensures.device) c.in-Err-print_unless.ensures.device;
    }

-- ---- the text couldn't be kept

pub returns-in_default-extend_from_slice : goal.returns-in_default-extend_from_slice
returns-in_default-extend_from_slice g c =
    let makes = g.F.InputFilter.makes in
    let see = g.B.Board.seen in
    let left = g.S.Source.left in
    record {
      ends = λ script t given here.
          subst (λ (w : List ℕ). FeedEndsBoth (makes c.args.filter.now) script t (see c.args.board.now).clock (Err NoMemory) (makes c.take_step.new.filter) w (left c.advance.new.source) (see c.print_unless-in-loop-number.new.board).told (see c.print_unless-in-loop-number.new.board).clock) (sym c.in_default-extend_from_slice.ensures.items)
          (stop_on (makes c.args.filter.now) script t (see c.args.board.now).clock c.advance.new.self (makes c.take_step.new.filter) (makes c.take_step.new.filter) c.print_unless-in-loop-number.new.waiting.items c.take_step.new.text.items (left c.advance.new.source) (see c.print_unless-in-loop-number.new.board).told (see c.print_unless-in-loop-number.new.board).clock
          (wait_on (makes c.args.filter.now) script t (see c.args.board.now).clock c.advance.new.self (makes c.take_step.new.filter) see c.print_unless.new.waiting.items c.take_step.new.text.items
          c.print_unless-in-loop-number.new.waiting.items (c.fits.result ≡ true) c.print_unless.new.board c.print_unless-in-loop-number.new.board (left c.advance.new.source)
          (step_round (makes c.args.filter.now) script t (see c.args.board.now).clock c.loop-number.inputs (makes c.loop-number.filter) see c.loop-number.waiting.items c.print_unless.new.waiting.items
          c.has_line.result c.loop-number.board c.print_unless.new.board (left c.loop-number.source) (left c.advance.new.source) (c.loop-number.invariant.fed script t given here) c.in_default.ensures.prints
          c.has_line.ensures (g.met.F.InputFilter.none c.loop-number.filter) c.advance.new.self
          c.in-Ok.step (makes c.take_step.new.filter) c.take_step.new.text.items c.in_default-step.not-End (λ held. ap left (c.in-Ok.ensures.held_first held)) c.in-Ok.ensures.moves c.in-Ok-take_step.ensures.takes) c.in_default-print_unless.ensures.prints));
      short = omega (arith, ap length c.in_default-extend_from_slice.ensures.items, c.loop-number.invariant.short, c.print_unless.ensures.size, c.print_unless-in-loop-number.ensures.size);
      takes = leaves_more (Ok c.in-Ok.step) c.loop-number.inputs c.advance.new.self (left c.args.source.now) (left c.loop-number.source) (left c.advance.new.source) c.in-Ok.ensures.moves c.loop-number.invariant.left;
      all = tt;
      few = tt;
      exits = tt;
      causes = (c.in-Ok.ensures.cause.same ∙ c.loop-number.invariant.source, c.in_default-print_unless.ensures.faults ∙ c.in_default.ensures.faults ∙ c.loop-number.invariant.faults);
      device = device_goes_on _ _ _ _ _ _ (device_goes_on _ _ _ _ _ _ c.loop-number.invariant.device c.in_default.ensures.device) c.in_default-print_unless.ensures.device;
    }

-- ---- the text waits

pub loop-number-preserved : goal.loop-number-preserved
loop-number-preserved g c =
    let makes = g.F.InputFilter.makes in
    let see = g.B.Board.seen in
    let left = g.S.Source.left in
    let kept : c.extend_from_slice.new.self.items ≡ c.print_unless-in-loop-number.new.waiting.items ++ c.take_step.new.text.items =
    c.in-Ok-extend_from_slice.ensures.items ∙ ap (λ (text : List ℕ). c.print_unless-in-loop-number.new.waiting.items ++ text) c.deref-in-loop-number-2.ensures.value in
    record {
      fed = λ script t given here.
          subst (λ (w : List ℕ). FedBoth (makes c.args.filter.now) script t (see c.args.board.now).clock c.advance.new.self (makes c.take_step.new.filter) w (left c.advance.new.source) (see c.print_unless-in-loop-number.new.board).told (see c.print_unless-in-loop-number.new.board).clock) (sym kept)
          (wait_on (makes c.args.filter.now) script t (see c.args.board.now).clock c.advance.new.self (makes c.take_step.new.filter) see c.print_unless.new.waiting.items c.take_step.new.text.items
          c.print_unless-in-loop-number.new.waiting.items (c.fits.result ≡ true) c.print_unless.new.board c.print_unless-in-loop-number.new.board (left c.advance.new.source)
          (step_round (makes c.args.filter.now) script t (see c.args.board.now).clock c.loop-number.inputs (makes c.loop-number.filter) see c.loop-number.waiting.items c.print_unless.new.waiting.items
          c.has_line.result c.loop-number.board c.print_unless.new.board (left c.loop-number.source) (left c.advance.new.source) (c.loop-number.invariant.fed script t given here) c.in_default.ensures.prints
          c.has_line.ensures (g.met.F.InputFilter.none c.loop-number.filter) c.advance.new.self
          c.in-Ok.step (makes c.take_step.new.filter) c.take_step.new.text.items c.in_default-step.not-End (λ held. ap left (c.in-Ok.ensures.held_first held)) c.in-Ok.ensures.moves c.in-Ok-take_step.ensures.takes) c.in_default-print_unless.ensures.prints);
      left = leaves_more (Ok c.in-Ok.step) c.loop-number.inputs c.advance.new.self (left c.args.source.now) (left c.loop-number.source) (left c.advance.new.source) c.in-Ok.ensures.moves c.loop-number.invariant.left;
      short = omega (arith, ap length kept, length-append c.print_unless-in-loop-number.new.waiting.items c.take_step.new.text.items, room g.B.Board.seen (c.fits.result ≡ true) c.print_unless.new.waiting.items c.print_unless-in-loop-number.new.waiting.items c.take_step.new.text.items c.print_unless.new.board c.print_unless-in-loop-number.new.board c.in_default-print_unless.ensures.prints (λ is. omega (arith, c.fits.ensures.0 is, ap length c.deref.ensures.value, ap length c.deref-in-loop-number.ensures.value)) (short_step c.in-Ok.step c.advance.new.self.line (g.F.InputFilter.makes c.loop-number.filter) (g.F.InputFilter.makes c.take_step.new.filter) c.take_step.new.text.items c.in-Ok-take_step.ensures.takes));
      taken = omega (arith, c.loop-number.invariant.taken, c.in-Ok-take_step.ensures.taken);
      source = c.in-Ok.ensures.cause.same ∙ c.loop-number.invariant.source;
      faults = c.in_default-print_unless.ensures.faults ∙ c.in_default.ensures.faults ∙ c.loop-number.invariant.faults;
      device = device_goes_on _ _ _ _ _ _ (device_goes_on _ _ _ _ _ _ c.loop-number.invariant.device c.in_default.ensures.device) c.in_default-print_unless.ensures.device;
    }

-- ---- the most inputs were taken

pub returns-clause-ends : goal.returns-clause-ends
returns-clause-ends g c =
    let makes = g.F.InputFilter.makes in
    let see = g.B.Board.seen in
    let left = g.S.Source.left in
    λ script t given here.
    let fed = c.loop-number.invariant.fed script t given here in
    stop_on (makes c.args.filter.now) script t (see c.args.board.now).clock c.loop-number.inputs (makes c.loop-number.filter) (makes c.loop-number.filter) c.loop-number.waiting.items [] (left c.loop-number.source) (see c.loop-number.board).told (see c.loop-number.board).clock
    (with_nil (makes c.args.filter.now) script t (see c.args.board.now).clock c.loop-number.inputs (makes c.loop-number.filter) c.loop-number.waiting.items (left c.loop-number.source) (see c.loop-number.board).told (see c.loop-number.board).clock fed)
