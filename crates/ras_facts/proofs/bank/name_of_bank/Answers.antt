use Rattle.std.proofs.Common.{rules}
use Rattle.ras_facts.proofs.BankLemmas.{bank_valid}
use Rattle.ras_facts.proofs.bank.name_of_bank.Goals as goal

pub returns-in-Some-clause-valid : goal.returns-in-Some-clause-valid
returns-in-Some-clause-valid c = λ rows topology. bank_valid c.args.bank rows (search rules) (search rules) (search rules) topology
