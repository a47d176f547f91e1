use Rattle.board_core.specs.Steps.ClockLemmas.{adds_none}
use Rattle.ras_exit.specs.Telling.{PrintMoment}
use Rattle.line_filters.specs.Filters.{filter_output}
use Rattle.line_filters.proofs.CallLemmas.{filters_nothing, filters_on, filters_stop, of_both, stops_both, takes_at}
use Rattle.ras_exit.proofs.DeviceLemmas.{device_goes_on}
use Rattle.line_filters.proofs.filtering.filter_lines.Goals as goal

pub returns-in-Err-clause-filters : goal.returns-in-Err-clause-filters
returns-in-Err-clause-filters g c = filters_nothing _ _ _ (g.met.F.LineFilter.none c.args.filter.now)

pub returns-in-Err-clause-stops : goal.returns-in-Err-clause-stops
returns-in-Err-clause-stops g c =
    stops_both (g.F.LineFilter.makes c.args.filter.now) (g.S.Source.left c.args.source.now) (g.B.Board.seen c.args.board.now).told _ _ (λ script t left told. adds_none (PrintMoment (g.B.Board.seen c.args.board.now).clock (filter_output (g.F.LineFilter.makes c.args.filter.now) script)) (g.B.Board.seen c.args.board.now).clock)

pub returns-clause-filters : goal.returns-clause-filters
returns-clause-filters g c = of_both _ _ _ _ _ (λ script t left told.
    filters_on g.B.Board.seen (g.F.LineFilter.makes c.args.filter.now) script t (g.B.Board.seen c.args.board.now).clock c.take_lines-exit.result c.end_lines.result
    (g.F.LineFilter.makes c.take_lines-exit.new.filter) c.take_lines-exit.new.lines.reader (g.S.Source.left c.take_lines-exit.new.source) c.take_lines-exit.new.board c.end_lines.new.board
    (c.take_lines-exit.ensures.ends script t left told) c.end_lines.ensures.ends)

pub returns-clause-stops : goal.returns-clause-stops
returns-clause-stops g c = stops_both (g.F.LineFilter.makes c.args.filter.now) (g.S.Source.left c.args.source.now) (g.B.Board.seen c.args.board.now).told _ _ (λ script t left told.
    filters_stop g.B.Board.seen (g.F.LineFilter.makes c.args.filter.now) script t (g.B.Board.seen c.args.board.now).clock c.take_lines-exit.result c.end_lines.result
    (g.F.LineFilter.makes c.take_lines-exit.new.filter) c.take_lines-exit.new.lines.reader (g.S.Source.left c.take_lines-exit.new.source) c.take_lines-exit.new.board c.end_lines.new.board
    (c.take_lines-exit.ensures.ends script t left told) c.end_lines.ensures.ends)

pub returns-clause-takes : goal.returns-clause-takes
returns-clause-takes g c =
    takes_at g.B.Board.seen c.take_lines-exit.result c.end_lines.result _ c.take_lines-exit.new.board c.end_lines.new.board (g.S.Source.left c.args.source.now)
    (g.S.Source.left c.take_lines-exit.new.source) c.end_lines.ensures.ends c.take_lines-exit.ensures.takes

pub returns-clause-device : goal.returns-clause-device
returns-clause-device g c = device_goes_on _ _ _ _ _ _ c.take_lines-exit.ensures.device c.end_lines.ensures.device
