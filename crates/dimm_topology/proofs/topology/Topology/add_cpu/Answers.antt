use Rattle.std.proofs.Common.{refl}
use Rattle.dimm_topology.specs.declared.row.Row.TheVariants.{Cpu}
use Rattle.dimm_topology.proofs.TopologyLemmas.{other_row, last_socket}
use Rattle.dimm_topology.proofs.topology.Topology.add_cpu.Goals as goal

pub returns-clause-addresses : goal.returns-clause-addresses
returns-clause-addresses c = other_row c.add.result _ _ (Cpu c.args.cpu c.args.socket) (λ _. refl) c.add.ensures.ok c.add.ensures.err

pub returns-clause-last : goal.returns-clause-last
returns-clause-last c = last_socket c.add.result c.args.self.now _ c.args.cpu c.args.socket c.add.ensures.ok
