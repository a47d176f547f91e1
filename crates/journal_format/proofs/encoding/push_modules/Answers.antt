use Rattle.std.proofs.Common.{◌++◌, length}
use Rattle.ras_base.specs.LittleEndian.{u64_bytes}
use Rattle.ras_account.specs.Rows.{row_of}
use Rattle.entry_format.specs.declared.version.Version.TheVariants.{Two}
use Rattle.journal_format.specs.Checkpoints.{module_bytes}
use Rattle.journal_format.proofs.RowLemmas.{rows_more}
use Rattle.journal_format.proofs.encoding.push_modules.Goals as goal

pub loop-i-preserved : goal.loop-i-preserved
loop-i-preserved c =
    let all = c.args.account.now.state.modules in
    rows_more (module_bytes Two) (c.args.bytes.now.items ++ u64_bytes (length all)) all c.loop-i.i (row_of c.module.result.now) c.loop-i.bytes.items c.push_module.new.bytes.items c.module.ensures c.loop-i.invariant c.in_ok-push_module.ensures
