use Rattle.std.proofs.Common.{arith}
use Rattle.entry_format.specs.declared.version.Version.TheVariants.{Two}
use Rattle.ras_account.specs.Rows.{row_of}
use Rattle.journal_format.specs.Checkpoints.{module_bytes}
use Rattle.journal_format.proofs.RowLemmas.{lengths_more}
use Rattle.journal_format.proofs.sizes.modules_len.Goals as goal

pub loop-i-preserved : goal.loop-i-preserved
loop-i-preserved c =
    let more = lengths_more (module_bytes Two) c.args.account.now.state.modules c.loop-i.i (row_of c.module.result.now) c.module.ensures in
    record {
      length_is = omega (arith, more, c.loop-i.invariant.length_is, c.module_len.ensures.length);
      most = omega (arith, c.loop-i.invariant.most, c.module_len.ensures.most);
    }
