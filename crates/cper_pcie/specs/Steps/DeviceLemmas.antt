-- Functions that are the same are equal.
use Rattle.std.proofs.Common.{◌≡◌, true, false, Bool, Option, Some, None, refl, ap, arith}
use Rattle.std.specs.Cmp.{IsEquivalence}
use Rattle.std.specs.Hash.{HashWrites}
use Rattle.std.proofs.lemmas.Bool.Decides.{nat_tests}
use Rattle.cper_pcie.specs.declared.section.PcieDevice.{PcieDevice}
use Rattle.cper_pcie.specs.Devices.{same_device}

pub same_device-exact : (x y : Option PcieDevice) → same_device x y ≡ true → x ≡ y
same_device-exact (Some x) (Some y) same =
    let segments : x.segment ≡ y.segment = grind (arith, nat_tests, same) in
    let buses : x.bus ≡ y.bus = grind (arith, nat_tests, same) in
    let devices : x.device ≡ y.device = grind (arith, nat_tests, same) in
    let functions : x.function ≡ y.function = grind (arith, nat_tests, same) in
    let vendors : x.vendor ≡ y.vendor = grind (arith, nat_tests, same) in
    let ids : x.id ≡ y.id = grind (arith, nat_tests, same) in
    λ i. Some (record { segment = segments i; bus = buses i; device = devices i; function = functions i; vendor = vendors i; id = ids i })
same_device-exact None None same = refl
same_device-exact (Some x) None same = absurd cc
same_device-exact None (Some y) same = absurd cc

pub same_device-refl : (x : Option PcieDevice) → same_device x x ≡ true
same_device-refl (Some x) = grind (arith, nat_tests)
same_device-refl None = refl

both_ways : (a b : Bool) → (a ≡ true → b ≡ true) → (b ≡ true → a ≡ true) → a ≡ b
both_ways true b there back = let h = there refl in cc
both_ways false true there back = let h = back refl in cc
both_ways false false there back = refl

turned : (x y : Option PcieDevice) → same_device x y ≡ true → same_device y x ≡ true
turned x y same = let e = same_device-exact x y same in let r = same_device-refl x in cc

pub same_device-laws : IsEquivalence same_device
same_device-laws = record {
  refl = same_device-refl;
  symm = λ x y. both_ways (same_device x y) (same_device y x) (turned x y) (turned y x);
  congr = λ x y z same. ap (λ device. same_device device z) (same_device-exact x y same);
}

-- functions that are the same have the same hash
pub same_device-fed : (F : Option PcieDevice → HashWrites) (x y : Option PcieDevice) → same_device x y ≡ true → F x ≡ F y
same_device-fed F x y same = ap F (same_device-exact x y same)
