use Rattle.std.proofs.Common.{arith}
use Rattle.entry_format.proofs.FileLemmas.{list_found, list_counted, list_is_read}
use Rattle.entry_format.proofs.list.read_list.Goals as goal

pub returns-clause-found : goal.returns-clause-found
returns-clause-found c = list_found c.args.version c.args.bytes.now c.args.count c.whole_list.result (λ i. omega (arith, c.type_inv.bytes i)) c.whole_list.ensures

pub returns-clause-count : goal.returns-clause-count
returns-clause-count c = list_counted c.args.version c.args.bytes.now c.args.count c.whole_list.result (λ i. omega (arith, c.type_inv.bytes i)) c.whole_list.ensures

pub returns-clause-entries : goal.returns-clause-entries
returns-clause-entries c = list_is_read c.args.version c.args.bytes.now c.args.count c.whole_list.result c.whole_list.ensures
