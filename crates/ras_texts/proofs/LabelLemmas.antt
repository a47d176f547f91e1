-- How long a label is.
use Rattle.std.proofs.Common.{◌≤◌, length, arith}
use Rattle.std.specs.Prelude.{IsTrue}
use Rattle.std.proofs.lemmas.Bool.Decides.{nat_tests}
use Rattle.dimm_topology.specs.Labels.{Bytes, is_label_or_none}

-- A valid or empty label has at most 32 bytes.
pub label_short : (label : Bytes) → IsTrue (is_label_or_none label) → length label ≤ 32
label_short label is = grind (arith, nat_tests, is)
