use Rattle.std.proofs.Common.{◌≡◌, take}
use Rattle.std.specs.Prelude.{count_by}
use Rattle.ras_account.specs.History.{is_retired}
use Rattle.ras_texts.proofs.log.retired_names.Given as goal

abbrev pub invariant-loop-i : goal.invariant-loop-i
invariant-loop-i l = l.count ≡ count_by (is_retired l.boot) (take l.i l.account.state.names)
