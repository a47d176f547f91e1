use Rattle.std.proofs.Common.{sym, ◌∙◌}
use Rattle.erst_interp.proofs.AdmittedRunLemmas.{faithful}
use Rattle.erst_interp.proofs.laws.admitted_lists_are_faithful.Goals as goal

pub returns-clause-faithful : goal.returns-clause-faithful
returns-clause-faithful c = faithful

pub returns-clause-one_answer : goal.returns-clause-one_answer
returns-clause-one_answer c = λ action input one other d fits first second kept inside.
    (faithful action one fits first input d kept inside).answer ∙ sym (faithful action other fits second input d kept inside).answer

pub returns-clause-one_device : goal.returns-clause-one_device
returns-clause-one_device c = λ action input one other d fits first second kept inside.
    (faithful action one fits first input d kept inside).device ∙ sym (faithful action other fits second input d kept inside).device
