-- A mask of low ones keeps the remainder.
use Rattle.std.proofs.Common.{ℕ, ◌≡◌, ◌-◌, ◌*◌, ◌%◌, ◌<◌, ◌∙◌, ap, bit_and, ◌^◌}
use Rattle.std.proofs.lemmas.Nat.{one_shl, and_mask}

pub mask_of_ones : (number width : ℕ) → width < 64 → bit_and number (1 * 2 ^ width % 2 ^ 64 - 1) ≡ number % 2 ^ width
mask_of_ones number width small =
    ap (λ ones. bit_and number (ones - 1)) (one_shl width 64 small) ∙ and_mask number width
