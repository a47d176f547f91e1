use Rattle.std.proofs.Common.{◌∙◌}
use Rattle.dimm_topology.proofs.TableLemmas.{meets_overlapped}
use Rattle.dimm_topology.proofs.topology.Topology.has_overlap.Goals as goal

pub returns : goal.returns
returns c = rw (← c.self.view_is) (c.meets_one.ensures ∙ meets_overlapped c.self.inside.rows.items c.self.inside.tables c.args.row.now c.self.invariant.1)
