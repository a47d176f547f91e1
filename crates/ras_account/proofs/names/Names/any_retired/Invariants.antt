use Rattle.std.proofs.Common.{◌≡◌, false, take}
use Rattle.std.specs.Map.{keys_of}
use Rattle.ras_account.specs.Rows.{has_retired}
use Rattle.ras_account.proofs.names.Names.any_retired.Given as goal

-- No name so far is retired.
abbrev pub invariant-loop-place : goal.invariant-loop-place
invariant-loop-place l = has_retired l.floor (take l.place (keys_of l.self-inside.table.rows)) ≡ false
