-- Rounding an address down by a mask.
use Rattle.std.proofs.Common.{ℕ, ◌≡◌, ◌+◌, ◌-◌, ◌*◌, ◌/◌, ◌%◌, ◌^◌, ◌<◌, ◌≤◌, ◌∙◌, refl, ap, arith, bit_and}
use Rattle.std.proofs.lemmas.Nat.{shl-shr, shr-shr, shr_split, mod_below, pow_pos}
use Rattle.std.proofs.lemmas.Nat.Bits.{ones_shl, and_high_mask}
use Rattle.std.proofs.Math.Nat.{mul-mod_left}
use Rattle.mca_status.specs.Address.{rounded_address}

-- The mask clears the bits below the least valid bit.
pub masked : (address least : ℕ) → address < 2 ^ 64 → least ≤ 64 → bit_and address ((2 ^ 64 - 1) * 2 ^ least % 2 ^ 64) ≡ rounded_address address least
masked address least fits_class within = ap (λ mask. bit_and address mask) (ones_shl 64 least within) ∙ and_high_mask 64 least within address fits_class

pub rounded-near : (address least : ℕ) → address < rounded_address address least + 2 ^ least
rounded-near address least = omega (arith, shr_split address least, mod_below address (2 ^ least) (pow_pos least))

pub rounded-whole : (address least : ℕ) → rounded_address address least % 2 ^ least ≡ 0
rounded-whole address least = mul-mod_left (address / 2 ^ least) (2 ^ least)

-- An address rounded down to a multiple of a power of 2 that divides the page's size is in the same page.
pub rounded-page : (address least rest : ℕ) → least + rest ≡ 12 → rounded_address address least / 2 ^ 12 ≡ address / 2 ^ 12
rounded-page address least rest sum =
    let split : (n : ℕ) → n / 2 ^ least / 2 ^ rest ≡ n / 2 ^ 12 = λ n. shr-shr n least rest ∙ ap (λ k. n / 2 ^ k) sum in
    rw (← split (rounded_address address least), shl-shr (address / 2 ^ least) least, split address) refl
