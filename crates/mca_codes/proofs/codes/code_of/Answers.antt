-- A code from 0401h to 07FFh fits only its own row.
use Rattle.std.proofs.Common.{arith}
use Rattle.mca_codes.proofs.PatternLemmas.{internal_one_row}
use Rattle.mca_codes.proofs.codes.code_of.Goals as goal

pub returns-in-1025-to-2047-clause-one_row : goal.returns-in-1025-to-2047-clause-one_row
returns-in-1025-to-2047-clause-one_row c apart = omega (arith, internal_one_row c.args.code (omega arith) (omega arith))
