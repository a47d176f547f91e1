use Rattle.ras_cli.proofs.CauseLemmas.{not_both, other_answers, run_answers}
use Rattle.ras_cli.proofs.over_folder.rasd_over.Goals as goal

-- The other command's board has made no call, so its refusals aren't the command's.
pub returns-then-is_run-clause-answers : goal.returns-then-is_run-clause-answers
returns-then-is_run-clause-answers g c = run_answers _ _ _ _ _ _ _ (c.is_run.ensures.only c.if-is_run.true) c.over_board-over.ensures.answers

pub returns-else-is_run-clause-answers : goal.returns-else-is_run-clause-answers
returns-else-is_run-clause-answers g c = other_answers _ _ _ _ _ _ _ (λ is. not_both c.is_run.result c.if-is_run.false (c.is_run.ensures.each is)) c.over_board-over-else-is_run.ensures.answers
