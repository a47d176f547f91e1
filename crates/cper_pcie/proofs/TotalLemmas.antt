-- The totals of sections: no count reaches its greatest number.
use Rattle.std.proofs.Common.{◌≡◌, ℕ, ◌+◌, ◌*◌, ◌^◌, ◌<◌, ◌≤◌, Bool, true, false, if◌then◌else◌, List, [], ◌∷◌, ◌++◌, Option, Some, None, refl, ap, arith}
use Rattle.std.specs.List.{AllByRecursion, range_with_len}
use Rattle.std.proofs.lemmas.List.Sums.{length-filter, count_by-le-length}
use Rattle.ras_base.specs.Bits.{is_set}
use Rattle.row_tables.specs.Tables.{updated_rows}
use Rattle.cper_pcie.specs.Bits.{error_count}
use Rattle.cper_pcie.specs.Counts.{pcie_counts_with, errors_with, in_64_bits}
use Rattle.cper_pcie.specs.Devices.{same_device}
use Rattle.cper_pcie.specs.Along.{no_errors, sums_with, totals_with, totals_after}
use Rattle.cper_pcie.specs.Steps.Filtering.{IsFew}
use Rattle.cper_pcie.specs.Totals.{Totals}
use Rattle.cper_pcie.specs.declared.counts.ErrorCounts.{ErrorCounts}
use Rattle.cper_pcie.specs.declared.section.PcieDevice.{PcieDevice}
use Rattle.cper_pcie.specs.declared.section.PcieSection.{PcieSection}

few_bits : (status : Option ℕ) → error_count status ≤ 32
few_bits None = omega arith
few_bits (Some status) =
    omega (arith, length-filter (λ bit. is_set bit status) (range_with_len 0 32), count_by-le-length (λ bit. is_set bit status) (range_with_len 0 32))

summed : (n : ℕ) (errors : ErrorCounts) (section : PcieSection) → errors.uncor ≤ 32 * n → errors.cor ≤ 32 * n → n < 2 ^ 58
    → errors_with errors section ≡ sums_with errors section
unfolding errors_with
summed n errors section uncor cor small =
    let one : in_64_bits (errors.uncor + error_count section.uncor) ≡ errors.uncor + error_count section.uncor = omega (arith, few_bits section.uncor) in
    let other : in_64_bits (errors.cor + error_count section.cor) ≡ errors.cor + error_count section.cor = omega (arith, few_bits section.cor) in
    λ i. record { uncor = one i; cor = other i }

abbrev Row : Type 0
Row = Option PcieDevice × ErrorCounts

abbrev summed_rows : PcieSection → List Row → List Row
summed_rows section rows = updated_rows same_device section.device (sums_with no_errors section) (λ errors. sums_with errors section) rows

pub rows-summed : (n : ℕ) (rows : List Row) (section : PcieSection) → AllByRecursion (IsFew n) rows → n < 2 ^ 58
    → pcie_counts_with rows section ≡ summed_rows section rows
rows-summed n [] section few small = ap (λ errors. (section.device, errors) ∷ []) (summed 0 no_errors section (omega arith) (omega arith) (omega arith))
rows-summed n (row ∷ rows) section few small =
    by (same_device section.device row.0) (summed n row.1 section few.0.0 few.0.1 small) (rows-summed n rows section few.1 small)
  where
    by : (b : Bool) → errors_with row.1 section ≡ sums_with row.1 section → pcie_counts_with rows section ≡ summed_rows section rows
        → (if b then (row.0, errors_with row.1 section) ∷ rows else row ∷ pcie_counts_with rows section)
        ≡ (if b then (row.0, sums_with row.1 section) ∷ rows else row ∷ summed_rows section rows)
    by true here rest = ap (λ errors. (row.0, errors) ∷ rows) here
    by false here rest = ap (λ (more : List Row). row ∷ more) rest

few-later : (n : ℕ) (rows : List Row) → AllByRecursion (IsFew n) rows → AllByRecursion (IsFew (n + 1)) rows
few-later n [] few = tt
few-later n (row ∷ rows) few = ((later few.0.0, later few.0.1), few-later n rows few.1)
  where
    later : {m : ℕ} → m ≤ 32 * n → m ≤ 32 * (n + 1)
    later {m} is = omega arith

few-with : (n : ℕ) (errors : ErrorCounts) (section : PcieSection) → errors.uncor ≤ 32 * n → errors.cor ≤ 32 * n
    → IsFew (n + 1) (section.device, sums_with errors section)
few-with n errors section uncor cor = (omega (arith, few_bits section.uncor), omega (arith, few_bits section.cor))

pub rows-few : (n : ℕ) (rows : List Row) (section : PcieSection) → AllByRecursion (IsFew n) rows
    → AllByRecursion (IsFew (n + 1)) (summed_rows section rows)
rows-few n [] section few = (few-with n no_errors section (omega arith) (omega arith), tt)
rows-few n (row ∷ rows) section few =
    by (same_device section.device row.0) (few-later n rows few.1) (few-later n (row ∷ []) (few.0, tt)) (rows-few n rows section few.1)
  where
    by : (b : Bool) → AllByRecursion (IsFew (n + 1)) rows → AllByRecursion (IsFew (n + 1)) (row ∷ []) → AllByRecursion (IsFew (n + 1)) (summed_rows section rows)
        → AllByRecursion (IsFew (n + 1)) (if b then (row.0, sums_with row.1 section) ∷ rows else row ∷ summed_rows section rows)
    by true later here rest = (few-with n row.1 section few.0.0 few.0.1, later)
    by false later here rest = (here.0, rest)

pub totals-append : (totals : Totals) (xs ys : List PcieSection) → totals_after totals (xs ++ ys) ≡ totals_after (totals_after totals xs) ys
totals-append totals [] ys = refl
totals-append totals (x ∷ xs) ys = totals-append (totals_with totals x) xs ys
