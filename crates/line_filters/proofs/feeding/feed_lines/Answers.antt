use Rattle.std.proofs.Common.{◌≡◌, [], IfSome, subst}
use Rattle.board_core.specs.Steps.ClockLemmas.{adds_none}
use Rattle.ras_exit.specs.Causes.{BoardCause}
use Rattle.ras_exit.specs.Telling.{PrintMoment}
use Rattle.ras_exit.specs.declared.exit.Exit.TheVariants.{NoMemory}
use Rattle.ras_exit.proofs.DeviceLemmas.{device_goes_on}
use Rattle.line_filters.specs.Feeds.{feed_output}
use Rattle.line_filters.proofs.CallLemmas.{of_both}
use Rattle.line_filters.proofs.FeedCallLemmas.{feeds_err_on, feeds_nothing, feeds_on, said_source, stop_is_exit, stops_err_on, stops_feeding, stops_on_said}
use Rattle.line_filters.proofs.LeftLemmas.{leaves_all, stop_not_done, takes_left}
use Rattle.line_filters.proofs.feeding.feed_lines.Goals as goal

pub returns-in-Err-clause-feeds : goal.returns-in-Err-clause-feeds
returns-in-Err-clause-feeds g c = feeds_nothing _ _ _ (g.met.F.InputFilter.none c.args.filter.now)

pub returns-in-Err-clause-takes : goal.returns-in-Err-clause-takes
returns-in-Err-clause-takes g c =
    let left = g.S.Source.left c.args.source.now in
    takes_left NoMemory left left (λ is. absurd cc) (leaves_all left)

pub returns-in-Err-clause-stops : goal.returns-in-Err-clause-stops
returns-in-Err-clause-stops g c =
    stops_feeding (g.F.InputFilter.makes c.args.filter.now) (g.S.Source.left c.args.source.now) (g.B.Board.seen c.args.board.now).told _ _ (λ script t left told. adds_none (PrintMoment (g.B.Board.seen c.args.board.now).clock (feed_output (g.F.InputFilter.makes c.args.filter.now) script)) (g.B.Board.seen c.args.board.now).clock)

-- ---- the inputs came to their end

pub returns-in-Ok-take_inputs-clause-feeds : goal.returns-in-Ok-take_inputs-clause-feeds
returns-in-Ok-take_inputs-clause-feeds g c = of_both _ _ _ _ _ (λ script t left told.
    feeds_on g.B.Board.seen (g.F.InputFilter.makes c.args.filter.now) script t (g.B.Board.seen c.args.board.now).clock (g.F.InputFilter.makes c.take_inputs.new.filter) c.take_inputs.new.board c.end_inputs.new.board c.in-Ok-take_inputs.cut
    c.end_inputs.result (g.S.Source.left c.take_inputs.new.source) (c.in-Ok-take_inputs.ensures.ends script t left told) c.end_inputs.ensures.says)

pub returns-in-Ok-take_inputs-clause-takes : goal.returns-in-Ok-take_inputs-clause-takes
returns-in-Ok-take_inputs-clause-takes g c =
    takes_left c.end_inputs.result (g.S.Source.left c.args.source.now) (g.S.Source.left c.take_inputs.new.source) (λ is. c.in-Ok-take_inputs.ensures.all) c.in-Ok-take_inputs.ensures.takes

pub returns-in-Ok-take_inputs-clause-stops : goal.returns-in-Ok-take_inputs-clause-stops
returns-in-Ok-take_inputs-clause-stops g c = stops_feeding (g.F.InputFilter.makes c.args.filter.now) (g.S.Source.left c.args.source.now) (g.B.Board.seen c.args.board.now).told _ _ (λ script t left told.
    stops_on_said g.B.Board.seen (g.F.InputFilter.makes c.args.filter.now) script t (g.B.Board.seen c.args.board.now).clock (g.F.InputFilter.makes c.take_inputs.new.filter) c.take_inputs.new.board c.end_inputs.new.board c.in-Ok-take_inputs.cut
    c.end_inputs.result (g.S.Source.left c.take_inputs.new.source) (c.in-Ok-take_inputs.ensures.ends script t left told) c.end_inputs.ensures.says)

pub returns-in-Ok-take_inputs-clause-source : goal.returns-in-Ok-take_inputs-clause-source
returns-in-Ok-take_inputs-clause-source g c =
    said_source g.B.Board.seen c.end_inputs.result ((g.F.InputFilter.makes c.take_inputs.new.filter).last [] c.in-Ok-take_inputs.cut) c.take_inputs.new.board c.end_inputs.new.board (g.S.Source.faults c.args.source.now) (g.S.Source.faults c.take_inputs.new.source)
    c.end_inputs.ensures.says c.in-Ok-take_inputs.ensures.causes.0

pub returns-in-Ok-take_inputs-clause-board : goal.returns-in-Ok-take_inputs-clause-board
returns-in-Ok-take_inputs-clause-board g c =
    subst (λ f. BoardCause c.end_inputs.result f (g.B.Board.seen c.end_inputs.new.board).faults) c.in-Ok-take_inputs.ensures.causes.1 c.end_inputs.ensures.faults

pub returns-in-Ok-take_inputs-clause-device : goal.returns-in-Ok-take_inputs-clause-device
returns-in-Ok-take_inputs-clause-device g c = device_goes_on _ _ _ _ _ _ c.take_inputs.ensures.device c.end_inputs.ensures.device

-- ---- or didn't

pub returns-clause-feeds : goal.returns-clause-feeds
returns-clause-feeds g c = of_both _ _ _ _ _ (λ script t left told.
    feeds_err_on (g.F.InputFilter.makes c.args.filter.now) script t (g.B.Board.seen c.args.board.now).clock (g.F.InputFilter.makes c.take_inputs.new.filter) c.in-Err-take_inputs.exit
    (g.S.Source.left c.take_inputs.new.source) (g.B.Board.seen c.take_inputs.new.board).told (g.B.Board.seen c.take_inputs.new.board).clock c.in-Err-take_inputs.ensures.exits (c.in-Err-take_inputs.ensures.ends script t left told))

pub returns-clause-takes : goal.returns-clause-takes
returns-clause-takes g c =
    let exit = c.in-Err-take_inputs.exit in
    let now = g.S.Source.left c.take_inputs.new.source in
    takes_left exit (g.S.Source.left c.args.source.now) now (λ is. stop_not_done exit (IfSome now (λ left. left ≡ [])) c.in-Err-take_inputs.ensures.exits is) c.in-Err-take_inputs.ensures.takes

pub returns-clause-stops : goal.returns-clause-stops
returns-clause-stops g c = stops_feeding (g.F.InputFilter.makes c.args.filter.now) (g.S.Source.left c.args.source.now) (g.B.Board.seen c.args.board.now).told _ _ (λ script t left told.
    stops_err_on (g.F.InputFilter.makes c.args.filter.now) script t (g.B.Board.seen c.args.board.now).clock (g.F.InputFilter.makes c.take_inputs.new.filter) c.in-Err-take_inputs.exit
    (g.S.Source.left c.take_inputs.new.source) (g.B.Board.seen c.take_inputs.new.board).told (g.B.Board.seen c.take_inputs.new.board).clock (c.in-Err-take_inputs.ensures.ends script t left told))

pub returns-clause-exits : goal.returns-clause-exits
returns-clause-exits g c = stop_is_exit c.in-Err-take_inputs.exit c.in-Err-take_inputs.ensures.exits
