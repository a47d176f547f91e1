use Rattle.dimm_topology.proofs.NamedLemmas.{owner_labelled}
use Rattle.dimm_topology.proofs.laws.owners_have_labels.Goals as goal

pub returns : goal.returns
returns c = owner_labelled
