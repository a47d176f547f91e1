use Rattle.std.proofs.Common.{◌≡◌, ◌∙◌, ◌++◌, ◌∷◌, [], refl}
use Rattle.dimm_topology.proofs.TopologyLemmas.{topology_more}
use Rattle.dimm_topology.proofs.topology.Topology.hold.Goals as goal

pub invariant_of-self-2 : goal.invariant_of-self-2
invariant_of-self-2 c =
    let rows = c.self.inside.rows.items in
    let pushed : c.push.new.self.items ≡ rows ++ c.args.row ∷ [] = c.in_ok-push.ensures.items ∙ rw c.reserve.ensures.items refl in
    let more = topology_more rows c.args.row c.self.invariant.0 (rw c.self.view_is c.requires.named) (rw c.self.view_is c.requires.apart) c.requires.upright
    c.label.ensures.labelled (rw c.self.view_is c.requires.small) in
    rw pushed (more, c.in_ok-take.ensures.ok rows c.self.invariant.1)
