use Rattle.dimm_topology.proofs.TopologyLemmas.{shares, overlaps_at, range_keeps}
use Rattle.dimm_topology.proofs.topology.Topology.add_range.Goals as goal

pub returns-clause-shared : goal.returns-clause-shared
returns-clause-shared c = (
  shares c.args.label c.args.first c.args.last c.args.self.now c.requires c.add.ensures.topology.upright,
  λ found. overlaps_at c.args.label c.args.first c.args.last found.0 c.args.self.now found.1 found.2 found.3,
)

pub returns-clause-addresses : goal.returns-clause-addresses
returns-clause-addresses c = range_keeps c.add.result _ _ _ c.add.ensures.answer c.add.ensures.ok c.add.ensures.err
