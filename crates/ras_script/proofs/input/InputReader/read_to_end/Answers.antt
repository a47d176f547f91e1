use Rattle.std.proofs.Common.{refl}
use Rattle.std.proofs.lemmas.Result.{err_from_is_err_and}
use Rattle.ras_script.proofs.InputLemmas.{past_none}
use Rattle.ras_script.proofs.input.InputReader.read_to_end.Goals as goal

pub loop-self-init : goal.loop-self-init
loop-self-init g c = record { moves = past_none _ _ c.requires.few; lacks = c.requires.lacks; dropping = refl; faults = refl }

pub returns-in_err-read_more-clause-finds : goal.returns-in_err-read_more-clause-finds
returns-in_err-read_more-clause-finds g c =
    let p = err_from_is_err_and c.from_residual.result c.from_residual.ensures.1 in
    rw p.1 (rw c.in_err-read_more.ensures.unread c.loop-self.invariant.lacks)
