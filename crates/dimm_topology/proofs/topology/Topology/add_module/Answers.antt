use Rattle.std.proofs.Common.{refl}
use Rattle.dimm_topology.specs.declared.row.Row.TheVariants.{Module}
use Rattle.dimm_topology.proofs.TopologyLemmas.{other_row}
use Rattle.dimm_topology.proofs.topology.Topology.add_module.Goals as goal

pub returns-clause-addresses : goal.returns-clause-addresses
returns-clause-addresses c = other_row c.add.result _ _ (Module c.args.label c.args.socket c.args.bank c.args.channel) (λ _. refl) c.add.ensures.ok c.add.ensures.err
