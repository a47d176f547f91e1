use Rattle.host_system.specs.Folder.{synced_names}
use Rattle.ras_host.proofs.LongLemmas.{same_long}
use Rattle.ras_host.proofs.over_kernel.OverKernelSystem.sync_names.Goals as goal

pub invariant_of-self : goal.invariant_of-self
invariant_of-self g c = record { known = same_long synced_names _ (λ file is. tt) c.sync_folders.result _ _ c.sync_folders.ensures.told c.sync_folders.ensures.failed c.args.self.now.known }
