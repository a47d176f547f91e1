use Rattle.dimm_topology.proofs.RoomLemmas.{room-made}
use Rattle.dimm_topology.proofs.label.Label.from_bytes.Goals as goal

pub invariant_of-result : goal.invariant_of-result
invariant_of-result c = room-made c.args.bytes.now c.copy_from_slice.new.self c.copy_from_slice.ensures.after c.requires
