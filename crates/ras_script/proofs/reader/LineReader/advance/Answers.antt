use Rattle.std.proofs.lemmas.Result.{err_from_is_err_and}
use Rattle.ras_script.proofs.ReaderLemmas.{advances_line, advances_refused, advances_rest, gives_line, gives_refused, gives_rest, moves_line}
use Rattle.ras_script.proofs.reader.LineReader.advance.Goals as goal

pub returns-in_err-size-clause-lines : goal.returns-in_err-size-clause-lines
returns-in_err-size-clause-lines g c =
    let p = err_from_is_err_and c.from_residual.result c.from_residual.ensures.1 in
    rw (p.1, p.2) (gives_refused c.in_err-size.field-0.0 c.args.self.now c.find_line.new.self _ _ c.in_err-size.ensures.moves c.in_err-size.ensures.holds c.in_err-size.ensures.finds)

pub returns-in_err-size-clause-advances : goal.returns-in_err-size-clause-advances
returns-in_err-size-clause-advances g c =
    let p = err_from_is_err_and c.from_residual.result c.from_residual.ensures.1 in
    rw (p.1, p.2) (advances_refused c.in_err-size.field-0.0 c.args.self.now c.find_line.new.self _ _ c.in_err-size.ensures.moves c.in_err-size.ensures.holds c.in_err-size.ensures.finds)

pub returns-in-Some-clause-lines : goal.returns-in-Some-clause-lines
returns-in-Some-clause-lines g c =
    let at = rw c.in-Some.is at c.in_ok-size.ensures.finds in
    gives_line c.give_line.result c.in-Some.size c.args.self.now c.find_line.new.self c.give_line.new.self _ _ c.find_line.ensures.moves c.find_line.ensures.holds at c.give_line.ensures

pub returns-in-Some-clause-moves : goal.returns-in-Some-clause-moves
returns-in-Some-clause-moves g c =
    let at = rw c.in-Some.is at c.in_ok-size.ensures.finds in
    moves_line c.give_line.result c.in-Some.size c.args.self.now c.find_line.new.self c.give_line.new.self _ _ c.find_line.ensures.moves at c.give_line.ensures

pub returns-in-Some-clause-advances : goal.returns-in-Some-clause-advances
returns-in-Some-clause-advances g c =
    let at = rw c.in-Some.is at c.in_ok-size.ensures.finds in
    advances_line c.give_line.result c.in-Some.size c.args.self.now c.find_line.new.self c.give_line.new.self _ _ c.find_line.ensures.moves c.find_line.ensures.holds at c.give_line.ensures

pub returns-in-None-clause-lines : goal.returns-in-None-clause-lines
returns-in-None-clause-lines g c =
    let ends = rw c.in-None.is at c.in_ok-size.ensures.finds in
    gives_rest c.give_rest.result c.args.self.now c.find_line.new.self c.give_rest.new.self _ _ c.find_line.ensures.moves c.find_line.ensures.holds ends c.give_rest.ensures.some c.give_rest.ensures.line c.give_rest.ensures.held

pub returns-in-None-clause-advances : goal.returns-in-None-clause-advances
returns-in-None-clause-advances g c =
    let ends = rw c.in-None.is at c.in_ok-size.ensures.finds in
    advances_rest c.give_rest.result c.args.self.now c.find_line.new.self c.give_rest.new.self _ _ c.find_line.ensures.moves c.find_line.ensures.holds ends c.give_rest.ensures.some c.give_rest.ensures.line c.give_rest.ensures.held c.give_rest.ensures.taken
