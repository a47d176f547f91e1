-- The rest is walked as the whole list is.
use Rattle.std.proofs.Common.{◌≡◌, drop}
use Rattle.erst_interp.specs.Walk.{first_awaited, walks}
use Rattle.erst_interp.proofs.admission.walks.Given as goal

abbrev pub invariant-loop-entry : goal.invariant-loop-entry
invariant-loop-entry l = walks l.action l.awaited (drop l.entry-index l.list) ≡ walks l.action (first_awaited l.action) l.list
