-- The patterns of compound codes as quotients of the code without its filter bit.
use Rattle.std.proofs.Common.{ℕ, ◌≡◌, ◌+◌, ◌-◌, ◌*◌, ◌/◌, ◌%◌, ◌^◌, ◌<◌, ◌≤◌, ◌∙◌, refl, sym, arith, bit_and, count_by, cond, lit≤, lit<}
use Rattle.std.proofs.lemmas.List.Sums.{sum_by-append}
use Rattle.mca_codes.specs.Marks.{unfiltered_code}
use Rattle.mca_codes.specs.Codes.{fits_code, simple_rows, compound_rows, rows_fitted}
use Rattle.std.proofs.lemmas.Nat.{and_assoc, and_le_l, and_comm, and-not}
use Rattle.std.proofs.lemmas.Nat.Bits.{and_high_mask, and_pow}

-- The mask of a pattern keeps the bits from k on, except the filter.
masked : (code k : ℕ) → code < 2 ^ 16 → k ≤ 16 → bit_and code (bit_and 0xefff (2 ^ 16 - 2 ^ k)) ≡ bit_and code 0xefff / 2 ^ k * 2 ^ k
masked code k fits_code within =
    sym (and_assoc (2 ^ 16 - 2 ^ k) code 0xefff)
    ∙ and_high_mask 16 k within (bit_and code 0xefff) (omega (arith, fits_code, and_le_l code 0xefff))

pub generic_cache_bits : (code : ℕ) → code < 2 ^ 16 → bit_and code 0xeffc ≡ bit_and code 0xefff / 4 * 4
generic_cache_bits code fits_code = masked code 2 fits_code (lit≤ tt)

pub tlb_bits : (code : ℕ) → code < 2 ^ 16 → bit_and code 0xeff0 ≡ bit_and code 0xefff / 16 * 16
tlb_bits code fits_code = masked code 4 fits_code (lit≤ tt)

pub memory_bits : (code : ℕ) → code < 2 ^ 16 → bit_and code 0xef80 ≡ bit_and code 0xefff / 128 * 128
memory_bits code fits_code = masked code 7 fits_code (lit≤ tt)

pub cache_bits : (code : ℕ) → code < 2 ^ 16 → bit_and code 0xef00 ≡ bit_and code 0xefff / 256 * 256
cache_bits code fits_code = masked code 8 fits_code (lit≤ tt)

pub bus_bits : (code : ℕ) → code < 2 ^ 16 → bit_and code 0xe800 ≡ bit_and code 0xefff / 2048 * 2048
bus_bits code fits_code = masked code 11 fits_code (lit≤ tt)

-- Clearing the filter subtracts its bit.
pub unfiltered_bits : (code : ℕ) → code < 2 ^ 16 → bit_and code 0xefff + code / 4096 % 2 * 4096 ≡ code
unfiltered_bits code fits_code =
    let cleared : bit_and 0xefff code + bit_and 0x1000 code ≡ code = and-not 16 (2 ^ 12) code (lit< tt) fits_code in
    let bit : bit_and code 0x1000 ≡ code / 4096 % 2 * 4096 = and_pow code 12 in
    omega (arith, cleared, bit, and_comm code 0xefff, and_comm code 0x1000)

pub ruleset pattern_bits = (generic_cache_bits, tlb_bits, memory_bits, cache_bits, bus_bits, unfiltered_bits)

-- the mask without bit 12 clears the filter
pub unfiltered_and : (code : ℕ) → code < 2 ^ 16 → bit_and code 0xefff ≡ unfiltered_code code
unfiltered_and code fits_code = omega (arith, unfiltered_bits code fits_code)

-- A code from 0401h to 07FFh fits only its own row.
internal_simple : (code : ℕ) → 0x0401 ≤ code → code ≤ 0x07ff → count_by (fits_code code) simple_rows ≡ 1
internal_simple code above below = grind arith

internal_compound : (code : ℕ) → 0x0401 ≤ code → code ≤ 0x07ff → count_by (fits_code code) compound_rows ≡ 0
internal_compound code above below =
    let fits16 : code < 2 ^ 16 = omega arith in
    let same : bit_and code 0xefff ≡ code = omega (arith, unfiltered_bits code fits16) in
    grind (arith, same, generic_cache_bits code fits16, tlb_bits code fits16, memory_bits code fits16, cache_bits code fits16, bus_bits code fits16)

pub internal_one_row : (code : ℕ) → 0x0401 ≤ code → code ≤ 0x07ff → rows_fitted code ≡ 1
internal_one_row code above below =
    sum_by-append (λ row. cond (fits_code code row) 1 0) simple_rows compound_rows
    ∙ rw (internal_simple code above below, internal_compound code above below) refl
