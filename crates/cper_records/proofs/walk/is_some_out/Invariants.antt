-- No section so far passes the end.
use Rattle.std.proofs.Common.{◌≡◌, false}
use Rattle.cper_records.specs.Descriptors.{is_out, some_below}
use Rattle.cper_records.proofs.walk.is_some_out.Given as goal

abbrev pub invariant-loop-i : goal.invariant-loop-i
invariant-loop-i l = some_below l.i (is_out l.bytes) ≡ false
