use Rattle.std.proofs.Common.{◌∙◌}
use Rattle.dimm_topology.proofs.topology.Topology.is_module_label.Goals as goal

pub returns : goal.returns
returns c = rw (← c.self.view_is) (c.contains.ensures ∙ c.self.invariant.1.modules c.args.label.now)
