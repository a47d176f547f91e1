-- Equal locations are the same, and which rows are at a location.
use Rattle.std.proofs.Common.{◌≡◌, ℕ, true, refl, arith}
use Rattle.std.proofs.lemmas.Grind.{common_steps}
use Rattle.std.proofs.lemmas.Bool.Decides.{nat_tests}
use Rattle.dimm_topology.specs.Labels.{Bytes}
use Rattle.dimm_topology.specs.contracts.row.LocationPartialEq.TheImpl.{eq-value as location_eq}
use Rattle.dimm_topology.specs.declared.row.Location.{Location}
use Rattle.dimm_topology.specs.declared.row.Location.TheVariants.{Channel, Numbers}
use Rattle.dimm_topology.specs.declared.row.Row.TheVariants.{Module, Place}
use Rattle.dimm_topology.specs.Rows.{is_at}

pub location-exact : (x y : Location) → location_eq.it x y ≡ true → x ≡ y
location-exact (Channel socket bank channel) (Channel socket' bank' channel') same =
    let sockets : socket ≡ socket' = grind (arith, nat_tests, same) in
    let banks : bank ≡ bank' = grind (arith, nat_tests, same) in
    let channels : channel ≡ channel' = grind (arith, nat_tests, same) in
    cc
location-exact (Numbers node card module') (Numbers node' card' module'') same =
    let nodes : node ≡ node' = grind (arith, nat_tests, same) in
    let cards : card ≡ card' = grind (arith, nat_tests, same) in
    let modules : module' ≡ module'' = grind (arith, nat_tests, same) in
    cc
location-exact (Channel socket bank channel) (Numbers node card module') same = absurd cc
location-exact (Numbers node card module') (Channel socket bank channel) same = absurd cc

-- A module row is at its own channel.
pub at_channel : (label : Bytes) (socket bank channel : ℕ) (at : Location) → is_at at (Module label socket bank channel) ≡ location_eq.it (Channel socket bank channel) at
at_channel label socket bank channel (Channel socket' bank' channel') = grind (arith, common_steps, nat_tests)
at_channel label socket bank channel (Numbers node card module') = refl

-- A place row is at its own numbers.
pub at_numbers : (label : Bytes) (node card module' : ℕ) (at : Location) → is_at at (Place label node card module') ≡ location_eq.it (Numbers node card module') at
at_numbers label node card module' (Channel socket bank channel) = refl
at_numbers label node card module' (Numbers node' card' module'') = grind (arith, common_steps, nat_tests)
