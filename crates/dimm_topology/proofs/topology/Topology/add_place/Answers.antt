use Rattle.std.proofs.Common.{refl}
use Rattle.dimm_topology.specs.declared.row.Row.TheVariants.{Place}
use Rattle.dimm_topology.proofs.TopologyLemmas.{other_row}
use Rattle.dimm_topology.proofs.topology.Topology.add_place.Goals as goal

pub returns-clause-addresses : goal.returns-clause-addresses
returns-clause-addresses c = other_row c.add.result _ _ (Place c.args.label c.args.node c.args.card c.args.«module») (λ _. refl) c.add.ensures.ok c.add.ensures.err
