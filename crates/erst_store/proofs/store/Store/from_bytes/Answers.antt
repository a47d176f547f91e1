use Rattle.std.proofs.Common.{arith}
use Rattle.erst_store.proofs.ReadingLemmas.{is_read, is_read_back}
use Rattle.erst_store.proofs.store.Store.from_bytes.Goals as goal

pub returns-clause-read : goal.returns-clause-read
returns-clause-read c = is_read c.args.bytes.now c.read_all.result (λ i. omega (arith, c.type_inv.bytes i)) c.read_all.ensures

pub returns-clause-back : goal.returns-clause-back
returns-clause-back c = λ records kept is. is_read_back c.args.bytes.now c.read_all.result records c.read_all.ensures kept is
