use Rattle.std.proofs.Common.{refl}
use Rattle.log_lines.proofs.LawLemmas.{report_behind_table}
use Rattle.log_lines.proofs.laws.blocks_bring_their_tables.Goals as goal

pub returns-clause-event : goal.returns-clause-event
returns-clause-event c = λ r source number block. refl

pub returns-clause-report : goal.returns-clause-report
returns-clause-report c = λ r report some. report_behind_table r report some
