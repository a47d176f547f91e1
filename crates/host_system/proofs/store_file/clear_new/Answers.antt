use Rattle.host_system.specs.declared.system.FileName.TheVariants.{New}
use Rattle.host_system.specs.Folder.{removed}
use Rattle.host_system.proofs.QuietLemmas.{quiet_same, quiet_then, may_end, of_remove, missing_end}
use Rattle.host_system.proofs.store_file.clear_new.Goals as goal

pub returns-in-Some-clause-quiet : goal.returns-in-Some-clause-quiet
returns-in-Some-clause-quiet g c = quiet_then _ _ _ (quiet_same _ _ c.find.ensures.told) (may_end (removed New) of_remove c.remove.result _ _ c.remove.ensures.told c.remove.ensures.failed)

pub returns-in-Some-clause-missing : goal.returns-in-Some-clause-missing
returns-in-Some-clause-missing g c = missing_end c.remove.result _ _ c.remove.ensures.told
