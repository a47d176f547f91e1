use Rattle.ras_host.proofs.LongLemmas.{removed_long}
use Rattle.ras_host.proofs.over_kernel.OverKernelSystem.remove.Goals as goal

pub invariant_of-self : goal.invariant_of-self
invariant_of-self g c = record { known = removed_long c.args.name _ _ c.set.ensures c.remove_file.result _ _ c.remove_file.ensures.told c.remove_file.ensures.failed c.args.self.now.known }
