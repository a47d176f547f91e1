use Rattle.ras_script.proofs.ReaderLemmas.{lacks_both}
use Rattle.ras_events.proofs.ByteLemmas.{decimal_lacks}
use Rattle.ras_events.proofs.QuietLemmas.{lines_quiet, done_alone, lines_both}
use Rattle.ras_events.proofs.whole_lines.lines_follow_one_another.Goals as goal

pub returns-clause-lines : goal.returns-clause-lines
returns-clause-lines c = lines_quiet

pub returns-clause-done : goal.returns-clause-done
returns-clause-done c = done_alone

pub returns-clause-joined : goal.returns-clause-joined
returns-clause-joined c = lines_both

pub returns-clause-number : goal.returns-clause-number
returns-clause-number c = decimal_lacks

pub returns-clause-both : goal.returns-clause-both
returns-clause-both c = lacks_both
