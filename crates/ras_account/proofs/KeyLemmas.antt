-- Limits and labels that are the same are equal.
use Rattle.std.proofs.Common.{◌≡◌, true, sym, arith}
use Rattle.std.specs.Cmp.Lexicographic.{same_text, nat_list_eq_equiv}
use Rattle.std.proofs.lemmas.Bool.Decides.{nat_tests}
use Rattle.dimm_topology.specs.Labels.{Bytes, same_label}
use Rattle.page_policy.specs.declared.buckets.Limit.{Limit}
use Rattle.ras_account.specs.Fresh.{same_limit}

pub same_limit-exact : (x y : Limit) → same_limit x y ≡ true → x ≡ y
same_limit-exact x y same =
    let capacities : x.capacity ≡ y.capacity = grind (arith, nat_tests, same) in
    let periods : x.period ≡ y.period = grind (arith, nat_tests, same) in
    λ i. record { capacity = capacities i; period = periods i }

pub same_label-exact : (x y : Bytes) → same_label x y ≡ true → x ≡ y
same_label-exact x y same = same_text x y (sym same)

pub same_label-refl : (x : Bytes) → same_label x x ≡ true
same_label-refl x = nat_list_eq_equiv.refl x
