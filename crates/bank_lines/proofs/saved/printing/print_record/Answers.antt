use Rattle.bank_lines.proofs.saved.ReadingLemmas.{prints_input, record_exit, source_same, stops_input, takes_input, takes_part}
use Rattle.bank_lines.proofs.saved.printing.print_record.Goals as goal

pub returns-in-Ok-clause-prints : goal.returns-in-Ok-clause-prints
returns-in-Ok-clause-prints g c =
    prints_input c.args.boot c.in-Ok.count c.read_front.new.buffer c.print_bytes.result (g.S.Source.left c.args.source.now) (g.S.Source.left c.read_front.new.source)
    (g.B.Board.seen c.args.board.now).told (g.B.Board.seen c.print_bytes.new.board).told c.in-Ok.ensures.reads c.print_bytes.ensures.prints

pub returns-in-Ok-clause-takes : goal.returns-in-Ok-clause-takes
returns-in-Ok-clause-takes g c =
    takes_input c.in-Ok.count c.read_front.new.buffer c.print_bytes.result (g.S.Source.left c.args.source.now) (g.S.Source.left c.read_front.new.source) c.in-Ok.ensures.reads

pub returns-in-Ok-clause-stops : goal.returns-in-Ok-clause-stops
returns-in-Ok-clause-stops g c =
    stops_input c.args.boot c.in-Ok.count c.read_front.new.buffer (g.S.Source.left c.args.source.now) (g.S.Source.left c.read_front.new.source)
    (g.B.Board.seen c.args.board.now).clock (g.B.Board.seen c.print_bytes.new.board).clock c.in-Ok.ensures.reads c.print_bytes.ensures.stops

pub returns-in-Ok-clause-exits : goal.returns-in-Ok-clause-exits
returns-in-Ok-clause-exits g c = record_exit c.print_bytes.result c.print_bytes.ensures.exits

pub returns-in-Ok-clause-source : goal.returns-in-Ok-clause-source
returns-in-Ok-clause-source g c =
    source_same c.print_bytes.result (g.S.Source.faults c.args.source.now) (g.S.Source.faults c.read_front.new.source) c.print_bytes.ensures.exits c.in-Ok.ensures.cause.same

pub returns-in-Err-clause-takes : goal.returns-in-Err-clause-takes
returns-in-Err-clause-takes g c =
    takes_part c.in-Err.field-0 c.read_front.new.buffer (g.S.Source.left c.args.source.now) (g.S.Source.left c.read_front.new.source) c.in-Err.ensures.reads
