use Rattle.ras_script.proofs.PairLemmas.{AreDecoded}
use Rattle.ras_script.proofs.bytes.decode_into.Given as goal

abbrev pub invariant-loop-place : goal.invariant-loop-place
invariant-loop-place l = AreDecoded l.word l.bytes l.place l.together
