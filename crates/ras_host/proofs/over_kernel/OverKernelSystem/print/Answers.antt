use Rattle.ras_host.proofs.LongLemmas.{print_long}
use Rattle.ras_host.proofs.over_kernel.OverKernelSystem.print.Goals as goal

pub invariant_of-self : goal.invariant_of-self
invariant_of-self g c = record { known = print_long c.args.bytes.now _ c.write.result _ _ c.write.ensures.told c.write.ensures.failed c.args.self.now.known }
