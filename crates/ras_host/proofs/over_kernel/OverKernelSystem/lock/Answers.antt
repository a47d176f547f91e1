use Rattle.host_system.specs.Folder.{locks}
use Rattle.ras_host.proofs.LongLemmas.{same_long}
use Rattle.ras_host.proofs.over_kernel.OverKernelSystem.lock.Goals as goal

pub invariant_of-self : goal.invariant_of-self
invariant_of-self g c = record { known = same_long (locks c.args.name) _ (λ file is. tt) c.lock_file.result _ _ c.lock_file.ensures.told c.lock_file.ensures.failed c.args.self.now.known }
