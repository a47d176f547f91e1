use Rattle.ras_script.proofs.LineAndWordLemmas.{lines_joined, lines_unbroken, few_lines}
use Rattle.ras_script.proofs.splitting.lines_are_the_script.Goals as goal

pub returns-clause-whole : goal.returns-clause-whole
returns-clause-whole c = lines_joined

pub returns-clause-unbroken : goal.returns-clause-unbroken
returns-clause-unbroken c = lines_unbroken

pub returns-clause-few : goal.returns-clause-few
returns-clause-few c = few_lines
