use Rattle.std.proofs.Common.{arith}
use Rattle.ras_script.proofs.WindowLemmas.{written_front}
use Rattle.ras_script.proofs.window.read_after.Goals as goal

pub returns-clause-front : goal.returns-clause-front
returns-clause-front g c = written_front c.args.bytes.now c.read.new.buf c.args.end _ (omega arith)
