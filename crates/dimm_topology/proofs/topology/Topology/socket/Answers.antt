use Rattle.std.proofs.Common.{◌∙◌}
use Rattle.dimm_topology.proofs.topology.Topology.socket.Goals as goal

pub returns : goal.returns
returns c = rw (← c.self.view_is) (c.copied.ensures ∙ c.get.ensures.value ∙ c.self.invariant.1.sockets c.args.cpu)
