use Rattle.ras_script.proofs.LinesLawLemmas.{lines_are_lines}
use Rattle.ras_script.proofs.reader.lines_within_limits_are_the_script.Goals as goal

pub returns : goal.returns
returns c = lines_are_lines
