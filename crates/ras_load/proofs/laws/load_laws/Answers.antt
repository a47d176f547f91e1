use Rattle.ras_load.proofs.FeedLemmas.{lines_whole}
use Rattle.ras_load.proofs.ReadingLemmas.{lines_in_range, lines_read}
use Rattle.ras_load.proofs.laws.load_laws.Goals as goal

pub returns-clause-lines : goal.returns-clause-lines
returns-clause-lines c = lines_whole

pub returns-clause-range : goal.returns-clause-range
returns-clause-range c = lines_in_range

pub returns-clause-read : goal.returns-clause-read
returns-clause-read c = lines_read
