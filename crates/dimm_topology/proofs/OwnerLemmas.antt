-- Ranges that contain an address.
use Rattle.std.proofs.Common.{◌≡◌, ℕ, ◌≤◌, true, false, List, [], ◌∷◌, length, refl, arith, filter}
use Rattle.std.proofs.lemmas.Grind.{common_steps}
use Rattle.std.proofs.lemmas.Bool.Decides.{nat_tests}
use Rattle.std.specs.List.{list_any}
use Rattle.dimm_topology.specs.declared.row.Row.{Row}
use Rattle.dimm_topology.specs.declared.row.Row.TheVariants.{Cpu, Module, Range, Place}
use Rattle.dimm_topology.specs.Rows.{is_range_over, overlap}
use Rattle.dimm_topology.specs.Topology.{IsApart}

-- Two rows that contain one address overlap.
pub overlap_at : (address : ℕ) (one other : Row) → is_range_over address one ≡ true → is_range_over address other ≡ true → overlap one other ≡ true
overlap_at address (Range label first last) (Range label' first' last') p q = grind (arith, nat_tests)
overlap_at address (Range label first last) (Cpu cpu socket) p q = cc
overlap_at address (Range label first last) (Module label' socket bank channel) p q = cc
overlap_at address (Range label first last) (Place label' node card module') p q = cc
overlap_at address (Cpu cpu socket) other p q = cc
overlap_at address (Module label socket bank channel) other p q = cc
overlap_at address (Place label node card module') other p q = cc

-- If a row contains an address, no row does that doesn't overlap it.
pub none_over : (address : ℕ) (row : Row) (rows : List Row) → is_range_over address row ≡ true → list_any (overlap row) rows ≡ false → filter (is_range_over address) rows ≡ []
none_over address row [] p q = refl
none_over address row (other ∷ rows) p q = grind (arith, common_steps, overlap_at address row other p, none_over address row rows p)

-- An address is in at most one range.
pub one_over : (address : ℕ) (rows : List Row) → IsApart rows → length (filter (is_range_over address) rows) ≤ 1
one_over address [] apart = omega arith
one_over address (row ∷ rows) apart = grind (arith, common_steps, none_over address row rows, one_over address rows apart.1, apart.0)
