-- The text so far has the lines of the rows so far.
use Rattle.std.proofs.Common.{◌≡◌, ◌++◌, take}
use Rattle.std.specs.List.{flat_map}
use Rattle.cper_pcie.specs.Texts.{device_line}
use Rattle.cper_pcie.proofs.totals.Totals.push.Given as goal

abbrev pub invariant-loop-i : goal.invariant-loop-i
invariant-loop-i l = l.text.items ≡ l.fn.text.items ++ flat_map device_line (take l.i l.fn.self.rows)
