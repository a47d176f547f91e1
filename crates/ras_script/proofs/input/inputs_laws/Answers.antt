use Rattle.std.proofs.Common.{[]}
use Rattle.ras_script.proofs.InputLemmas.{begins, lines_and_rest}
use Rattle.ras_script.proofs.input.inputs_laws.Goals as goal

pub returns : goal.returns
returns c = record { lines = lines_and_rest; begins = begins [] }
