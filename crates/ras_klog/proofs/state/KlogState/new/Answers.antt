use Rattle.ras_klog.specs.Stages.{at_start}
use Rattle.ras_klog.proofs.GroupLemmas.{to_end, at_once}
use Rattle.ras_klog.proofs.state.KlogState.new.Goals as goal

pub returns-clause-groups : goal.returns-clause-groups
returns-clause-groups c = λ boot cap lines. to_end boot cap at_start lines

pub returns-clause-prompt : goal.returns-clause-prompt
returns-clause-prompt c = λ boot cap lines. at_once boot cap at_start lines
