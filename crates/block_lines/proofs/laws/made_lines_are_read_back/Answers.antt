-- By the bytes of a block, and by the numbers of names.
use Rattle.block_lines.proofs.LineLemmas.{line_asks, names_apart}
use Rattle.block_lines.proofs.laws.made_lines_are_read_back.Goals as goal

pub returns-clause-line : goal.returns-clause-line
returns-clause-line c = line_asks

pub returns-clause-names : goal.returns-clause-names
returns-clause-names c = names_apart
