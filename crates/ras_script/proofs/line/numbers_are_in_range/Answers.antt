use Rattle.ras_script.proofs.LineRangeLemmas.{few_of_line, range_of_line}
use Rattle.ras_script.proofs.line.numbers_are_in_range.Goals as goal

pub returns : goal.returns
returns c = record { range = range_of_line; few = few_of_line }
