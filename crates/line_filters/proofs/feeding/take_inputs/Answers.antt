use Rattle.std.proofs.Common.{◌≡◌, false, true, sym, subst, ◌∙◌}
use Rattle.board_core.specs.Cause.{Faults}
use Rattle.ras_exit.specs.Causes.{BoardCause, Causes, SourceCause}
use Rattle.ras_exit.proofs.DeviceLemmas.{device_goes_on}
use Rattle.line_filters.specs.Steps.Feeding.{IsFeedStop}
use Rattle.line_filters.proofs.FeedBothLemmas.{ends_printed_on, ends_unprinted_on, false_not_true, fault_on, goes_on, not_source, nothing_failed, printed_all}
use Rattle.line_filters.proofs.feeding.take_inputs.Goals as goal

pub gather_inputs-ended-requires : goal.gather_inputs-ended-requires
gather_inputs-ended-requires g c = record { begins = (c.requires.begins.0, c.requires.begins.1, c.new-waiting.ensures.items) }

-- ---- a call failed

pub returns-then-is_fault-clause-ends : goal.returns-then-is_fault-clause-ends
returns-then-is_fault-clause-ends g c = λ script t left told.
    fault_on c.gather_inputs-ended.result (g.F.InputFilter.makes c.args.filter.now) script t (g.B.Board.seen c.args.board.now).clock (g.F.InputFilter.makes c.gather_inputs-ended.new.filter) c.gather_inputs-ended.new.waiting.items
    (g.S.Source.left c.gather_inputs-ended.new.source) (g.B.Board.seen c.gather_inputs-ended.new.board).told (g.B.Board.seen c.gather_inputs-ended.new.board).clock
    (sym c.is_fault.ensures ∙ c.if-is_fault.true) (c.gather_inputs-ended.ensures.ends script t left told)

-- ---- what waits was printed

pub returns-in-Ok-clause-ends : goal.returns-in-Ok-clause-ends
returns-in-Ok-clause-ends g c = λ script t left told.
    let well = sym c.is_fault.ensures ∙ c.if-is_fault.false in
    ends_printed_on g.B.Board.seen (g.F.InputFilter.makes c.args.filter.now) script t (g.B.Board.seen c.args.board.now).clock c.gather_inputs-ended.result (g.F.InputFilter.makes c.gather_inputs-ended.new.filter) c.gather_inputs-ended.new.waiting.items
    c.gather_inputs-ended.new.board c.print_unless.new.board (g.S.Source.left c.gather_inputs-ended.new.source) (c.gather_inputs-ended.ensures.ends script t left told)
    (goes_on c.gather_inputs-ended.result well) (not_source c.gather_inputs-ended.result well)
    (printed_all g.B.Board.seen (false ≡ true) c.gather_inputs-ended.new.waiting.items c.print_unless.new.waiting.items c.gather_inputs-ended.new.board c.print_unless.new.board false_not_true c.in-Ok.ensures.prints)

pub returns-in-Ok-clause-causes : goal.returns-in-Ok-clause-causes
returns-in-Ok-clause-causes g c = (
  c.gather_inputs-ended.ensures.causes.0,
  subst (λ f. Causes {C = Faults} BoardCause c.gather_inputs-ended.result (g.B.Board.seen c.args.board.now).faults f) (sym c.in-Ok.ensures.faults) c.gather_inputs-ended.ensures.causes.1,
)

pub returns-in-Ok-clause-device : goal.returns-in-Ok-clause-device
returns-in-Ok-clause-device g c = device_goes_on _ _ _ _ _ _ c.gather_inputs-ended.ensures.device c.in-Ok.ensures.device

-- ---- printing it failed

pub returns-clause-ends : goal.returns-clause-ends
returns-clause-ends g c = λ script t left told.
    ends_unprinted_on g.B.Board.seen (g.F.InputFilter.makes c.args.filter.now) script t (g.B.Board.seen c.args.board.now).clock c.gather_inputs-ended.result (g.F.InputFilter.makes c.gather_inputs-ended.new.filter) c.gather_inputs-ended.new.waiting.items
    c.gather_inputs-ended.new.board c.print_unless.new.board c.in-Err.fault (false ≡ true) c.print_unless.new.waiting.items (g.S.Source.left c.gather_inputs-ended.new.source) (c.gather_inputs-ended.ensures.ends script t left told)
    (goes_on c.gather_inputs-ended.result (sym c.is_fault.ensures ∙ c.if-is_fault.false)) c.in-Err.ensures.prints

pub returns-clause-exits : goal.returns-clause-exits
returns-clause-exits g c = subst IsFeedStop (sym c.in-Err.ensures.prints.0) tt

pub returns-clause-causes : goal.returns-clause-causes
returns-clause-causes g c =
    let nothing = nothing_failed c.gather_inputs-ended.result (g.S.Source.faults c.args.source.now) (g.S.Source.faults c.gather_inputs-ended.new.source) (g.B.Board.seen c.args.board.now).faults (g.B.Board.seen c.gather_inputs-ended.new.board).faults
    (sym c.is_fault.ensures ∙ c.if-is_fault.false) c.gather_inputs-ended.ensures.exits c.gather_inputs-ended.ensures.causes in (
      subst (λ e. SourceCause e (g.S.Source.faults c.args.source.now) (g.S.Source.faults c.gather_inputs-ended.new.source)) (sym c.in-Err.ensures.prints.0) nothing.0,
      subst (λ f. BoardCause c.in-Err.fault f (g.B.Board.seen c.print_unless.new.board).faults) nothing.1 c.in-Err.ensures.faults,
    )

pub returns-clause-device : goal.returns-clause-device
returns-clause-device g c = device_goes_on _ _ _ _ _ _ c.gather_inputs-ended.ensures.device c.in-Err.ensures.device
