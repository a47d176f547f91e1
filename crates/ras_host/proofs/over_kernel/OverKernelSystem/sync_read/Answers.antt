use Rattle.host_system.specs.declared.system.FileName.TheVariants.{Journal}
use Rattle.ras_host.proofs.LongLemmas.{sync_long}
use Rattle.ras_host.proofs.over_kernel.OverKernelSystem.sync_read.Goals as goal

pub invariant_of-self : goal.invariant_of-self
invariant_of-self g c = record { known = sync_long (Journal c.args.file) _ c.sync_to_read.result _ _ c.sync_to_read.ensures.told c.sync_to_read.ensures.failed c.args.self.now.known }
