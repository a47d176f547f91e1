use Rattle.dimm_topology.proofs.OwnerLemmas.{one_over}
use Rattle.dimm_topology.proofs.NamedLemmas.{found_named, found_labelled}
use Rattle.dimm_topology.proofs.topology.Topology.owner_of_bank.Goals as goal

pub returns-clause-one_range : goal.returns-clause-one_range
returns-clause-one_range c = λ address. one_over address c.args.self.now c.owner.ensures.topology.apart

pub returns-clause-named : goal.returns-clause-named
returns-clause-named c = found_named c.args.self.now _ _ c.owner.result c.owner.ensures.owner c.owner.ensures.topology

pub returns-clause-valid : goal.returns-clause-valid
returns-clause-valid c = found_labelled c.args.self.now _ _ c.owner.result c.owner.ensures.owner c.owner.ensures.topology
