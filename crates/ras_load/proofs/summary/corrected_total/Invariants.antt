-- The sum so far is the sum of the modules so far.
use Rattle.std.proofs.Common.{◌≡◌, take}
use Rattle.mca_status.specs.declared.classes.ItemClass.TheVariants.{Ce}
use Rattle.ras_load.specs.Summary.{class_total}
use Rattle.ras_load.proofs.summary.corrected_total.Given as goal

abbrev pub invariant-loop-i : goal.invariant-loop-i
invariant-loop-i l = l.total ≡ class_total Ce (take l.i l.fn.account.state.modules)
