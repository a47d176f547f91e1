use Rattle.std.proofs.Common.{[], arith}
use Rattle.line_filters.proofs.PieceLemmas.{all_printed, are_short}
use Rattle.line_filters.proofs.feeding.pieces_laws.Goals as goal

pub returns-clause-all : goal.returns-clause-all
returns-clause-all c = all_printed []

pub returns-clause-short : goal.returns-clause-short
returns-clause-short c = λ texts all. are_short [] texts (omega arith) all
