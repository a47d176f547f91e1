use Rattle.std.proofs.Common.{arith}
use Rattle.host_system.proofs.QuietLemmas.{badly_quiet, badly_may}
use Rattle.host_system.proofs.StoreLemmas.{failed_replaces, ended_replaces}
use Rattle.host_system.proofs.store_file.replace_store.Goals as goal

pub returns-in_err-write_new-clause-replaces : goal.returns-in_err-write_new-clause-replaces
returns-in_err-write_new-clause-replaces g c = failed_replaces c.args.bytes.now (λ i. omega (arith, c.type_inv.bytes i)) c.from_residual.result _ _ c.from_residual.ensures.0 (badly_quiet c.args.bytes.now _ _ c.in_err-write_new.ensures.quiet)

pub returns-in_err-rename-clause-replaces : goal.returns-in_err-rename-clause-replaces
returns-in_err-rename-clause-replaces g c =
    failed_replaces c.args.bytes.now (λ i. omega (arith, c.type_inv.bytes i)) c.from_residual-in_err-rename.result _ _ c.from_residual-in_err-rename.ensures.0
    (badly_may c.args.bytes.now _ _ _ c.in_ok-write_new.ensures.quiet c.in_ok-write_new.ensures.new c.in_err-rename.ensures.failed)

pub returns-clause-replaces : goal.returns-clause-replaces
returns-clause-replaces g c =
    ended_replaces c.args.bytes.now (λ i. omega (arith, c.type_inv.bytes i)) c.sync_names.result _ _ _ _ c.in_ok-write_new.ensures.quiet c.in_ok-write_new.ensures.new c.in_ok-rename.ensures.told c.sync_names.ensures.told c.sync_names.ensures.failed
