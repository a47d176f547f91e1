-- Labels with the same bytes are the same label.
use Rattle.std.proofs.Common.{◌≡◌, true, sym}
use Rattle.std.specs.Cmp.Lexicographic.{same_text, nat_list_eq_equiv}
use Rattle.dimm_topology.specs.Labels.{Bytes, same_label}

pub same_label-exact : (x y : Bytes) → same_label x y ≡ true → x ≡ y
same_label-exact x y same = same_text x y (sym same)

pub same_label-refl : (x : Bytes) → same_label x x ≡ true
same_label-refl x = nat_list_eq_equiv.refl x
