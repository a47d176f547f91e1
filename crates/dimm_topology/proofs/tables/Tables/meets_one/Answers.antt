use Rattle.std.proofs.Common.{arith}
use Rattle.std.proofs.lemmas.Grind.{common_steps}
use Rattle.dimm_topology.specs.Steps.Ranges.{meets}
use Rattle.dimm_topology.proofs.RangeLemmas.{any_found}
use Rattle.dimm_topology.proofs.tables.Tables.meets_one.Goals as goal

pub returns-in-Range : goal.returns-in-Range
returns-in-Range c =
    let any = any_found (meets c.in-Range.first c.in-Range.last) c.args.self.now.ranges in
    let found = c.meeting.ensures in
    let some = c.is_some.ensures in
    rw c.in-Range.is (grind (arith, common_steps, any, found, some))
