use Rattle.ras_host.proofs.LongLemmas.{opened_long}
use Rattle.ras_host.proofs.over_kernel.OverKernelSystem.open.Goals as goal

pub invariant_of-self : goal.invariant_of-self
invariant_of-self g c = record { known = opened_long c.args.name _ _ c.set.ensures c.open_file.result _ _ c.open_file.ensures.told c.open_file.ensures.failed c.args.self.now.known }
