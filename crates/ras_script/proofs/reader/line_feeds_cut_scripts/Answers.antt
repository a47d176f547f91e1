use Rattle.ras_script.proofs.LinesLemmas.{lines_cut, lines_feed_cut}
use Rattle.ras_script.proofs.reader.line_feeds_cut_scripts.Goals as goal

pub returns-clause-cut : goal.returns-clause-cut
returns-clause-cut c = lines_feed_cut

pub returns-clause-within : goal.returns-clause-within
returns-clause-within c = λ most line rest is less. lines_cut most line rest is.0 is.1 less
