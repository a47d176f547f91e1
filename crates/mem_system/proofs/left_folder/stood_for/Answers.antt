use Rattle.std.proofs.Common.{inr, arith}
use Rattle.mem_system.proofs.LeftLemmas.{stood_once}
use Rattle.mem_system.proofs.left_folder.stood_for.Goals as goal

pub returns-else-back-eq0 : goal.returns-else-back-eq0
returns-else-back-eq0 c left may = inr (stood_once c.args.entry.now.others.items _ _ left (omega arith) c.index.ensures may)
