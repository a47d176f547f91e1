use Rattle.ras_script.proofs.LineTextLemmas.{text_read}
use Rattle.ras_script.proofs.line.written_lines_are_read.Goals as goal

pub returns : goal.returns
returns c = text_read
