use Rattle.std.proofs.Common.{Ok}
use Rattle.ras_script.specs.declared.input.InputStep.TheVariants.{Dropping, End}
use Rattle.ras_script.proofs.InputLemmas.{gives_input, moves_end, moves_full}
use Rattle.ras_script.proofs.input.InputReader.advance.Goals as goal

pub returns-in-Feed-clause-moves : goal.returns-in-Feed-clause-moves
returns-in-Feed-clause-moves g c =
    let at = rw c.in-Feed.is at c.in_ok-size.ensures.finds in
    moves_end c.give_line.result c.in-Feed.size c.args.self.now c.find_end.new.self c.give_line.new.self _ _ c.find_end.ensures.moves c.find_end.ensures.dropping at.0 at.1 c.give_line.ensures

pub returns-in-Feed-clause-inputs : goal.returns-in-Feed-clause-inputs
returns-in-Feed-clause-inputs g c =
    let at = rw c.in-Feed.is at c.in_ok-size.ensures.finds in
    gives_input (Ok c.give_line.result) c.args.self.now c.give_line.new.self _ _
    (moves_end c.give_line.result c.in-Feed.size c.args.self.now c.find_end.new.self c.give_line.new.self _ _ c.find_end.ensures.moves c.find_end.ensures.dropping at.0 at.1 c.give_line.ensures)

pub returns-in-Full-clause-inputs : goal.returns-in-Full-clause-inputs
returns-in-Full-clause-inputs g c =
    let at = rw c.in-Full.is at c.in_ok-size.ensures.finds in
    gives_input (Ok Dropping) c.args.self.now c.drop_held.new.self _ _ (moves_full c.args.self.now c.find_end.new.self c.drop_held.new.self _ _ c.find_end.ensures.moves at.0 at.1 c.drop_held.ensures)

pub returns-in-Missing-clause-inputs : goal.returns-in-Missing-clause-inputs
returns-in-Missing-clause-inputs g c =
    let at = rw c.in-Missing.is at c.in_ok-size.ensures.finds in
    gives_input (Ok (End c.is_cut.result)) c.args.self.now c.find_end.new.self _ _ (c.find_end.ensures.moves, at.0, c.find_end.ensures.dropping, c.is_cut.ensures, at.2)
