use Rattle.host_system.specs.Folder.{loses, synced}
use Rattle.ras_host.proofs.CountLemmas.{kept_counts, moved_err, moved_ok}
use Rattle.ras_host.proofs.LongLemmas.{sync_long, fails_kept}
use Rattle.ras_host.proofs.over_kernel.sync_kept.Goals as goal

pub returns-in-New-clause-known : goal.returns-in-New-clause-known
returns-in-New-clause-known g c = sync_long c.args.name _ c.fsync.result _ _ c.fsync.ensures.told (fails_kept c.args.name c.fsync.result _ _ c.fsync.ensures.failed) c.requires.known

pub returns-in_default : goal.returns-in_default
returns-in_default g c =
    let same = c.find_long-found.ensures.looks.told in
    let told = moved_ok (synced c.args.name) c.sync_bytes.result _ _ _ same c.sync_bytes.ensures.told in
    let failed = moved_err (loses c.args.name) c.sync_bytes.result _ _ _ same (fails_kept c.args.name c.sync_bytes.result _ _ c.sync_bytes.ensures.failed) in
    record {
      told = told;
      failed = failed;
      cause = kept_counts c.args.name c.find_long-found.result c.sync_bytes.result _ _ _ c.find_long-found.ensures.cause c.sync_bytes.ensures.cause c.sync_bytes.ensures.lost;
      known = sync_long c.args.name _ c.sync_bytes.result _ _ told failed c.find_long-found.ensures.known;
    }
