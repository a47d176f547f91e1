use Rattle.std.proofs.Common.{arith}
use Rattle.log_lines.specs.LogFeed.{log_last}
use Rattle.log_lines.proofs.DimmLemmas.{last_short}
use Rattle.log_lines.proofs.JoinLemmas.{if_ok}
use Rattle.log_lines.proofs.TookLemmas.{log_last_short}
use Rattle.log_lines.proofs.log_with_dimms.LogWithDimmsInputFilter.push_last.Goals as goal

pub returns-clause-short : goal.returns-clause-short
returns-clause-short c =
    let state = c.args.self.now in
    if_ok _ (last_short state.dimms (log_last state.feed c.args.cut) (omega (arith, log_last_short state.feed c.args.cut c.requires)))
