use Rattle.std.proofs.Common.{◌∙◌, ◌<◌, ℕ, Option, Ok, length, ap}
use Rattle.std.proofs.lemmas.Result.{err_from_is_err_and}
use Rattle.board_core.specs.Cause.{disk_call}
use Rattle.board_core.specs.Doing.{broke, went_well}
use Rattle.board_core.specs.Stop.{Left}
use Rattle.ras_journal.specs.declared.limits.TheConstants.{LONGEST_FILE}
use Rattle.ras_recover.proofs.KeepingLemmas.{before}
use Rattle.ras_recover.proofs.LooksLemmas.{looks_then}
use Rattle.ras_recover.proofs.PairLemmas.{long_zero, long_one}
use Rattle.ras_recover.proofs.recovering.short_sizes.Goals as goal

pub returns-in_default-clause-long : goal.returns-in_default-clause-long
returns-in_default-clause-long g c = λ none. long_zero _ (c.short_size.ensures.long (c.in_ok-zero.was ∙ ap (λ (size : Option ℕ). Ok size) c.in_default.is))

pub returns-in_default-2-clause-long : goal.returns-in_default-2-clause-long
returns-in_default-2-clause-long g c = λ none.
    long_one _ (before (λ (l : Left). LONGEST_FILE < length l.file1) _ _ c.in_ok-zero.ensures.looks.keeps.here
    (c.short_size-2.ensures.long (c.in_ok-one.was ∙ ap (λ (size : Option ℕ). Ok size) c.in_default-2.is)))

pub returns-in_err-one-clause-looks : goal.returns-in_err-one-clause-looks
returns-in_err-one-clause-looks g c =
    let p = err_from_is_err_and c.from_residual-in_err-one.result c.from_residual-in_err-one.ensures.1 in
    rw p.1 (looks_then (broke disk_call) _ _ _ _ _ _ tt c.in_ok-zero.ensures.looks c.in_err-one.ensures.looks)

pub returns-in_default-2-clause-looks : goal.returns-in_default-2-clause-looks
returns-in_default-2-clause-looks g c = looks_then went_well _ _ _ _ _ _ (λ t u here xs ys p q. tt) c.in_ok-zero.ensures.looks c.in_ok-one.ensures.looks

pub returns-clause-looks : goal.returns-clause-looks
returns-clause-looks g c = looks_then went_well _ _ _ _ _ _ (λ t u here xs ys p q. tt) c.in_ok-zero.ensures.looks c.in_ok-one.ensures.looks
