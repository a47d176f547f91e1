-- The bits of a status are counted as std counts a number's ones.
use Rattle.std.proofs.Common.{◌≡◌, ℕ, zero, suc, ◌+◌, ◌/◌, ◌%◌, ◌^◌, ◌<◌, ◌==◌, cond, List, ◌∷◌, length, filter, refl, sym, ap, ◌∙◌, arith}
use Rattle.std.specs.List.{range_with_len}
use Rattle.std.specs.Int.Count.{ones, ones_step}
use Rattle.std.proofs.Math.Nat.{pow-suc, div-div-eq-div-mul}
use Rattle.ras_base.specs.Bits.{is_set}
use Rattle.cper_pcie.specs.Bits.{bits_of}

-- how many of `count` bits are set, from the bit `bit` on
abbrev set_from : ℕ → ℕ → ℕ → ℕ
set_from bit count number = length (filter (λ b. is_set b number) (range_with_len bit count))

ones_of_zero : ones zero ≡ zero
unfolding ones
ones_of_zero = refl

-- one more bit in front adds 1 if it is set
counted : (number bit : ℕ) (rest : List ℕ) → length (filter (λ b. is_set b number) (bit ∷ rest))
    ≡ number / 2 ^ bit % 2 + length (filter (λ b. is_set b number) rest)
counted number bit rest = by (number / 2 ^ bit % 2) (omega arith)
  where
    tail : List ℕ
    tail = filter (λ b. is_set b number) rest

    by : (digit : ℕ) → digit < 2 → length (cond (digit == 1) (bit ∷ tail) tail) ≡ digit + length tail
    by zero small = omega arith
    by (suc zero) small = omega arith
    by (suc (suc digit)) small = absurd (omega arith)

pub ones-set : (count bit number : ℕ) → number / 2 ^ bit < 2 ^ count → set_from bit count number ≡ ones (number / 2 ^ bit)
ones-set zero bit number small =
    let none : number / 2 ^ bit ≡ 0 = omega arith in
    sym (ap ones none ∙ ones_of_zero)
ones-set (suc count) bit number small =
    let next : number / 2 ^ (bit + 1) ≡ number / 2 ^ bit / 2 = halved in
    let fewer : number / 2 ^ (bit + 1) < 2 ^ count = rw next (shorter) in
    counted number bit (range_with_len (bit + 1) count)
    ∙ ap (λ n. number / 2 ^ bit % 2 + n) (ones-set count (bit + 1) number fewer ∙ ap ones next)
    ∙ sym (ones_step (number / 2 ^ bit))
  where
    halved : number / 2 ^ (bit + 1) ≡ number / 2 ^ bit / 2
    halved = ap (λ n. number / n) (ap (λ n. 2 ^ n) (omega arith) ∙ pow-suc 2 bit) ∙ sym (div-div-eq-div-mul number (2 ^ bit) 2)

    shorter : number / 2 ^ bit / 2 < 2 ^ count
    shorter = omega (arith, small, pow-suc 2 count)

pub ones_are_bits : (status : ℕ) → status < 2 ^ 32 → ones status ≡ length (bits_of status)
ones_are_bits status small =
    sym (ones-set 32 0 status (omega (arith, small)) ∙ ap ones (omega arith))
