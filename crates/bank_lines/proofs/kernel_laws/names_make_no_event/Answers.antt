use Rattle.bank_lines.proofs.TraceHeadLemmas.{same_by_name}
use Rattle.bank_lines.proofs.kernel_laws.names_make_no_event.Goals as goal

pub returns : goal.returns
returns c = λ name other rest long other_long digit. same_by_name name other rest long other_long digit
