-- A shift by 64 bits or more leaves nothing.
use Rattle.std.proofs.Common.{◌≡◌, ◌∙◌, ℕ, ◌+◌, ◌-◌, ◌*◌, ◌/◌, ◌%◌, ◌^◌, ◌<◌, ◌≤◌, ap, sym, arith}
use Rattle.std.proofs.Math.Nat.{div-eq_of_lt, mul-mod_left, mul_assoc}
use Rattle.std.proofs.Math.Pow.{pow_mono}
use Rattle.std.proofs.lemmas.Nat.{pow-add}

pub gone_down : (number bits : ℕ) → number < 2 ^ 64 → 64 ≤ bits → 0 ≡ number / 2 ^ bits
gone_down number bits small more =
    let room : 2 ^ 64 ≤ 2 ^ bits = pow_mono more in
    let below : number < 2 ^ bits = omega (arith, room) in
    sym (div-eq_of_lt below)

pub gone_up : (number bits : ℕ) → 64 ≤ bits → 0 ≡ number * 2 ^ bits % 2 ^ 64
gone_up number bits more =
    let split : bits ≡ (bits - 64) + 64 = omega arith in
    let power : 2 ^ bits ≡ 2 ^ (bits - 64) * 2 ^ 64 = ap (λ k. 2 ^ k) split ∙ pow-add 2 (bits - 64) 64 in
    sym (ap (λ (k : ℕ). number * k % 2 ^ 64) power
    ∙ ap (λ (k : ℕ). k % 2 ^ 64) (sym (mul_assoc number (2 ^ (bits - 64)) (2 ^ 64)))
    ∙ mul-mod_left (number * 2 ^ (bits - 64)) (2 ^ 64))
