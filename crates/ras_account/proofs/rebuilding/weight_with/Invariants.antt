use Rattle.std.proofs.Common.{◌≡◌, ◌+◌, ◌≤◌, sum, take}
use Rattle.ras_account.specs.declared.limits.TheConstants.{MOST_TOTAL}
use Rattle.ras_account.proofs.rebuilding.weight_with.Given as goal

-- The sums so far are added, and the weight is within its bound.
abbrev pub invariant-loop-weight : goal.invariant-loop-weight
invariant-loop-weight l = (l.more ≡ l.fn.total + sum (take l.weight-index l.fn.sums)) × (l.more ≤ MOST_TOTAL)
