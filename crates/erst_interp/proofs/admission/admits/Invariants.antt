-- The lists so far are admitted.
use Rattle.std.proofs.Common.{ℕ, ◌<◌}
use Rattle.erst_interp.specs.Admission.{IsAdmitted}
use Rattle.erst_interp.specs.Table.{list_of}
use Rattle.erst_interp.proofs.admission.admits.Given as goal

abbrev pub invariant-loop-action : goal.invariant-loop-action
invariant-loop-action l = (action : ℕ) → action < l.action → IsAdmitted action (list_of action l.table)
