use Rattle.host_system.specs.Folder.{renamed}
use Rattle.ras_host.proofs.LongLemmas.{may_end_long}
use Rattle.ras_host.proofs.over_kernel.OverKernelSystem.rename.Goals as goal

pub invariant_of-self : goal.invariant_of-self
invariant_of-self g c = record { known = may_end_long renamed _ (λ file is. tt) c.rename.result _ _ c.rename.ensures.told c.rename.ensures.failed c.args.self.now.known }
