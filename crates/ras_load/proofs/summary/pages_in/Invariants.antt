-- The count so far is the count of the pages so far.
use Rattle.std.proofs.Common.{◌≡◌, take}
use Rattle.ras_load.specs.Summary.{pages_in}
use Rattle.ras_load.proofs.summary.pages_in.Given as goal

abbrev pub invariant-loop-i : goal.invariant-loop-i
invariant-loop-i l = l.count ≡ pages_in l.state (take l.i l.fn.pages.rows)
