use Rattle.std.proofs.Common.{length}
use Rattle.host_system.specs.declared.system.FileName.TheVariants.{New}
use Rattle.host_system.specs.Folder.{made, wrote, after_writing}
use Rattle.host_system.specs.Steps.FolderLemmas.{empty_file}
use Rattle.host_system.proofs.QuietLemmas.{quiet_then, quiet_done, quiet_failed, quiet_wrote, of_make, of_write, sync_end, new_made, new_serves, new_written, new_end}
use Rattle.host_system.proofs.store_file.write_new.Goals as goal

pub returns-in_err-make-clause-quiet : goal.returns-in_err-make-clause-quiet
returns-in_err-make-clause-quiet g c = quiet_then _ _ _ c.in_ok-clear_new.ensures.quiet (quiet_failed (made New) of_make _ _ c.in_err-make.ensures.failed)

pub write_at-requires-clause-there : goal.write_at-requires-clause-there
write_at-requires-clause-there g c = (new_serves empty_file _ (new_made _ _ c.in_ok-make.ensures.told)).there

pub write_at-requires-clause-open : goal.write_at-requires-clause-open
write_at-requires-clause-open g c = (new_serves empty_file _ (new_made _ _ c.in_ok-make.ensures.told)).writable

pub returns-in_err-write_at-clause-quiet : goal.returns-in_err-write_at-clause-quiet
returns-in_err-write_at-clause-quiet g c =
    quiet_then _ _ _ (quiet_then _ _ _ c.in_ok-clear_new.ensures.quiet (quiet_done (made New) of_make _ _ c.in_ok-make.ensures.told))
    (quiet_wrote 0 (length c.args.bytes.now) _ _ c.in_err-write_at.ensures.failed)

pub sync-requires-clause-there : goal.sync-requires-clause-there
sync-requires-clause-there g c = (new_serves (after_writing 0 (length c.args.bytes.now) c.args.bytes.now empty_file) _ (new_written c.args.bytes.now _ _ (new_made _ _ c.in_ok-make.ensures.told) c.in_ok-write_at.ensures.told)).there

pub sync-requires-clause-open : goal.sync-requires-clause-open
sync-requires-clause-open g c = (new_serves (after_writing 0 (length c.args.bytes.now) c.args.bytes.now empty_file) _ (new_written c.args.bytes.now _ _ (new_made _ _ c.in_ok-make.ensures.told) c.in_ok-write_at.ensures.told)).is_open

pub returns-clause-quiet : goal.returns-clause-quiet
returns-clause-quiet g c =
    quiet_then _ _ _ (quiet_then _ _ _ (quiet_then _ _ _ c.in_ok-clear_new.ensures.quiet (quiet_done (made New) of_make _ _ c.in_ok-make.ensures.told))
    (quiet_done (wrote New 0 (length c.args.bytes.now) c.args.bytes.now) (of_write 0 (length c.args.bytes.now) c.args.bytes.now) _ _ c.in_ok-write_at.ensures.told))
    (sync_end c.sync.result _ _ c.sync.ensures.told c.sync.ensures.failed)

pub returns-clause-new : goal.returns-clause-new
returns-clause-new g c = new_end c.args.bytes.now c.sync.result _ _ (new_written c.args.bytes.now _ _ (new_made _ _ c.in_ok-make.ensures.told) c.in_ok-write_at.ensures.told) c.sync.ensures.told
