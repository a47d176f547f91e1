-- The mark of a code by its number is the mark by its kind and fields.
use Rattle.std.proofs.Common.{ℕ, ◌≡◌, ◌<◌, ◌^◌, ◌+◌, ◌*◌, ◌==◌, ◌&&◌, ◌||◌, Some, Bool, true, false, List, ◌∷◌, refl, arith, cond}
use Rattle.std.specs.List.{find}
use Rattle.std.specs.Option.{option_map_or}
use Rattle.ras_base.specs.Bits.{bits}
use Rattle.mca_codes.specs.Codes.{CodeRow, plain, numbers, pattern, fits_code, read_by, reading, code_of_rows, code_rows, generic_cache_of, tlb_of, memory_code, cache_of, bus_of}
use Rattle.mca_codes.specs.Marks.{mark_of_kind, mark_of_number, unfiltered_code, is_srao_code, is_srar_code}
use Rattle.mca_codes.specs.declared.codes.Code.TheVariants.{Other, InternalUnclassified}
use Rattle.mca_codes.specs.declared.marks.Mark.TheVariants.{Neither}
use Rattle.mca_codes.proofs.PatternLemmas.{generic_cache_bits, tlb_bits, memory_bits, cache_bits, bus_bits, unfiltered_bits}

-- By these rows, the code has the mark that it has by its number.
record Agrees (code : ℕ) (rows : List CodeRow) : Type 0 where
  marks : mark_of_kind (reading rows code) ≡ mark_of_number code

-- If the first row fits, it gives the mark; otherwise the other rows do.
step : (code : ℕ) (row : CodeRow) (rows : List CodeRow) → (fits_code code row ≡ true → mark_of_kind (read_by code row) ≡ mark_of_number code) → (fits_code code row ≡ false → Agrees code rows) → Agrees code (row ∷ rows)
step code row rows here there =
    let at : (b : Bool) → fits_code code row ≡ b → mark_of_kind (option_map_or (read_by code) (cond b (Some row) (find (fits_code code) rows)) Other) ≡ mark_of_number code =
    λ b e. elim b as (λ v. fits_code code row ≡ v → mark_of_kind (option_map_or (read_by code) (cond v (Some row) (find (fits_code code) rows)) Other) ≡ mark_of_number code) [ true ↦ here | false ↦ λ e'. (there e').marks ] e in
    record { marks = at (fits_code code row) refl }

plain_mark : (code number : ℕ) → fits_code code (plain number Other) ≡ true → mark_of_number number ≡ Neither → Neither ≡ mark_of_number code
plain_mark code number fit same = grind arith

numbers_mark : (code : ℕ) → fits_code code (numbers 0x0401 0x07ff InternalUnclassified) ≡ true → Neither ≡ mark_of_number code
numbers_mark code fit = grind arith

generic_cache_mark : (code : ℕ) → code < 2 ^ 16 → fits_code code (pattern 0xeffc 0x000c generic_cache_of) ≡ true → Neither ≡ mark_of_number code
generic_cache_mark code small fit = grind (arith, generic_cache_bits code small, unfiltered_bits code small)

tlb_mark : (code : ℕ) → code < 2 ^ 16 → fits_code code (pattern 0xeff0 0x0010 tlb_of) ≡ true → Neither ≡ mark_of_number code
tlb_mark code small fit = grind (arith, tlb_bits code small, unfiltered_bits code small)

bus_mark : (code : ℕ) → code < 2 ^ 16 → fits_code code (pattern 0xe800 0x0800 bus_of) ≡ true → Neither ≡ mark_of_number code
bus_mark code small fit = grind (arith, bus_bits code small, unfiltered_bits code small)

memory_mark : (code : ℕ) → code < 2 ^ 16 → fits_code code (pattern 0xef80 0x0080 memory_code) ≡ true → mark_of_kind (memory_code code) ≡ mark_of_number code
memory_mark code small fit = grind (arith, memory_bits code small, unfiltered_bits code small)

srao_test : (u r t l : ℕ) → u ≡ 256 + 16 * r + 4 * t + l → r < 16 → t < 4 → l < 4 → (r == 7 && t == 2 && l == 2) ≡ is_srao_code u
srao_test u r t l e r_small t_small l_small = grind arith

srar_test : (u r t l : ℕ) → u ≡ 256 + 16 * r + 4 * t + l → r < 16 → t < 4 → l < 4 → ((r == 3 && t == 1 || r == 5 && t == 0) && l == 0) ≡ is_srar_code u
srar_test u r t l e r_small t_small l_small = grind arith

-- A cache code without its filter is the sum of its fields.
cache_sum : (code : ℕ) → code < 2 ^ 16 → fits_code code (pattern 0xef00 0x0100 cache_of) ≡ true → unfiltered_code code ≡ 256 + 16 * bits 4 4 code + 4 * bits 2 2 code + bits 0 2 code
cache_sum code small fit = grind (arith, cache_bits code small, unfiltered_bits code small)

cache_mark : (code : ℕ) → code < 2 ^ 16 → fits_code code (pattern 0xef00 0x0100 cache_of) ≡ true → mark_of_kind (cache_of code) ≡ mark_of_number code
cache_mark code small fit =
    rw (
      srao_test (unfiltered_code code) (bits 4 4 code) (bits 2 2 code) (bits 0 2 code) (cache_sum code small fit) (omega arith) (omega arith) (omega arith),
      srar_test (unfiltered_code code) (bits 4 4 code) (bits 2 2 code) (bits 0 2 code) (cache_sum code small fit) (omega arith) (omega arith) (omega arith),
    ) refl

other_mark : (code : ℕ) → code < 2 ^ 16 → fits_code code (pattern 0xef80 0x0080 memory_code) ≡ false → fits_code code (pattern 0xef00 0x0100 cache_of) ≡ false → Neither ≡ mark_of_number code
other_mark code small no_memory no_cache = grind (arith, memory_bits code small, cache_bits code small, unfiltered_bits code small)

agrees : (code : ℕ) → code < 2 ^ 16 → Agrees code code_rows
agrees code small =
    step code _ _ (λ fit. plain_mark code 0 fit refl) (λ _.
    step code _ _ (λ fit. plain_mark code 1 fit refl) (λ _.
    step code _ _ (λ fit. plain_mark code 2 fit refl) (λ _.
    step code _ _ (λ fit. plain_mark code 3 fit refl) (λ _.
    step code _ _ (λ fit. plain_mark code 4 fit refl) (λ _.
    step code _ _ (λ fit. plain_mark code 5 fit refl) (λ _.
    step code _ _ (λ fit. plain_mark code 0x0400 fit refl) (λ _.
    step code _ _ (λ fit. numbers_mark code fit) (λ _.
    step code _ _ (λ fit. plain_mark code 0x0e0b fit refl) (λ _.
    step code _ _ (λ fit. generic_cache_mark code small fit) (λ _.
    step code _ _ (λ fit. tlb_mark code small fit) (λ _.
    step code _ _ (λ fit. memory_mark code small fit) (λ no_memory.
    step code _ _ (λ fit. cache_mark code small fit) (λ no_cache.
    step code _ _ (λ fit. bus_mark code small fit) (λ _.
    record { marks = other_mark code small no_memory no_cache }))))))))))))))

pub mark_by_kind : (code : ℕ) → code < 2 ^ 16 → mark_of_kind (code_of_rows code) ≡ mark_of_number code
mark_by_kind code small = (agrees code small).marks
