use Rattle.std.proofs.Common.{rules, of_calls, sym}
use Rattle.std.proofs.lemmas.Fn.{always_returns_same}
use Rattle.dimm_topology.specs.Steps.Ranges.{ends_before}
use Rattle.dimm_topology.proofs.RangeLemmas.{parted, place_from_point}
use Rattle.dimm_topology.proofs.ranges.place.Goals as goal

pub returns : goal.returns
returns c =
    let point = c.partition_point.ensures.partitioned (ends_before c.args.address) (always_returns_same _ _ _ (λ a r f k. search (rules, of_calls)))
    (parted c.args.address c.args.ranges.now c.requires) in
    sym (place_from_point c.args.address c.args.ranges.now c.partition_point.result c.partition_point.ensures.bound point)
