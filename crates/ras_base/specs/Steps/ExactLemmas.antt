-- The test of two numbers is exact.
use Rattle.std.proofs.Common.{◌≡◌, ℕ, Bool, true, false, nat_eq, refl, arith}
use Rattle.std.proofs.lemmas.Bool.Decides.{nat_tests}

pub nat_exact : (x y : ℕ) → nat_eq x y ≡ true → x ≡ y
nat_exact x y is = grind (arith, nat_tests)

pub nat_own : (x : ℕ) → nat_eq x x ≡ true
nat_own x = grind (arith, nat_tests)

pub nat_apart : (x y : ℕ) → (x ≡ y → ⊥) → nat_eq x y ≡ false
nat_apart x y apart = by (nat_eq x y) refl
  where
    by : (b : Bool) → nat_eq x y ≡ b → b ≡ false
    by true is = absurd (apart (nat_exact x y is))
    by false is = refl
