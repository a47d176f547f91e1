use Rattle.std.proofs.Common.{refl}
use Rattle.block_lines.specs.Reports.{no_reports}
use Rattle.event_lines.proofs.FilterLemmas.{same_answers, same_rest}
use Rattle.event_lines.proofs.laws.logs_are_filtered_as_before.Goals as goal

pub returns-clause-answers : goal.returns-clause-answers
returns-clause-answers c = λ boot began lines all. same_answers 0 (no_reports boot began) lines all

pub returns-clause-rest : goal.returns-clause-rest
returns-clause-rest c = λ boot began lines all. same_rest 0 (no_reports boot began) lines all

pub returns-clause-last : goal.returns-clause-last
returns-clause-last c = λ boot began lines. refl
