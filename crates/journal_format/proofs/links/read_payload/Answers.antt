use Rattle.std.proofs.Common.{arith}
use Rattle.journal_format.proofs.PayloadLemmas.{list_is_payload, payload_is_listed, payload_is_counted}
use Rattle.journal_format.proofs.links.read_payload.Goals as goal

pub returns-in-Ok-clause-found : goal.returns-in-Ok-clause-found
returns-in-Ok-clause-found c =
    list_is_payload c.args.version c.args.bytes.now c.in-Ok.count c.in-Ok.rest.now c.read_list.result (λ i. omega (arith, c.type_inv.bytes i)) c.in-Ok.ensures c.read_list.ensures.found c.read_list.ensures.count

pub returns-in-Ok-clause-entries : goal.returns-in-Ok-clause-entries
returns-in-Ok-clause-entries c =
    payload_is_listed c.args.version c.args.bytes.now c.in-Ok.count c.in-Ok.rest.now c.read_list.result c.in-Ok.ensures c.read_list.ensures.entries

pub returns-in-Err-clause-entries : goal.returns-in-Err-clause-entries
returns-in-Err-clause-entries c entries is enough =
    payload_is_counted c.args.version c.args.bytes.now entries c.in-Err.refused is c.in-Err.ensures
