use Rattle.ras_host.proofs.LongLemmas.{made_long}
use Rattle.ras_host.proofs.over_kernel.OverKernelSystem.make.Goals as goal

pub invariant_of-self : goal.invariant_of-self
invariant_of-self g c = record { known = made_long c.args.name _ _ c.set.ensures c.make_file.result _ _ c.make_file.ensures.told c.make_file.ensures.failed c.args.self.now.known }
