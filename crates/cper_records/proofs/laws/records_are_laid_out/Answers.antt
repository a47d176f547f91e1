-- Each result is what the bytes are, and what the bytes are is the result.
use Rattle.std.proofs.Common.{subst}
use Rattle.cper_records.proofs.LaidLemmas.{IsAnswer, answered, reads, refuses}
use Rattle.cper_records.proofs.laws.records_are_laid_out.Goals as goal

pub returns-clause-read : goal.returns-clause-read
returns-clause-read c = λ bytes own. (
  λ is. subst (IsAnswer bytes) is (answered bytes),
  λ is. reads bytes own is.0 is.1,
)

pub returns-clause-refused : goal.returns-clause-refused
returns-clause-refused c = λ bytes why. (
  λ is. subst (IsAnswer bytes) is (answered bytes),
  λ is. refuses bytes why is,
)
