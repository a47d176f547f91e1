use Rattle.ras_events.proofs.QuietLemmas.{quiet_alone, quiet_none, quiet_both}
use Rattle.ras_events.proofs.WholeLineLemmas.{refused_quiet}
use Rattle.ras_events.proofs.whole_lines.quiet_lines_follow_one_another.Goals as goal

pub returns-clause-text : goal.returns-clause-text
returns-clause-text c = quiet_alone

pub returns-clause-none : goal.returns-clause-none
returns-clause-none c = quiet_none

pub returns-clause-quiet : goal.returns-clause-quiet
returns-clause-quiet c = quiet_both

pub returns-clause-refused : goal.returns-clause-refused
returns-clause-refused c = refused_quiet
