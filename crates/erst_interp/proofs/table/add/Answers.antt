use Rattle.std.proofs.Common.{◌<◌, length, arith}
use Rattle.erst_interp.proofs.ListLemmas.{pushed}
use Rattle.erst_interp.proofs.table.add.Goals as goal

pub returns-clause-added : goal.returns-clause-added
returns-clause-added c =
    let inside : c.args.entry.action < length c.args.lists.now.items = omega arith in
    pushed (λ v. v.items) c.args.lists.now.items c.args.entry.action c.index_mut.result.now c.push.new.self c.args.entry inside c.index_mut.ensures.value c.in_ok-push.ensures.items
