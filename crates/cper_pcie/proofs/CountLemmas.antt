-- Counts with one more section.
use Rattle.std.proofs.Common.{◌≡◌, ℕ, ◌+◌, List, [], ◌∷◌, ◌++◌, Option, unwrap_or, refl, ap, ◌∙◌, arith}
use Rattle.std.specs.List.{sum_by}
use Rattle.std.specs.Map.{lookup}
use Rattle.std.proofs.lemmas.List.Sums.{sum_by-append}
use Rattle.row_tables.specs.Tables.{updated_rows}
use Rattle.row_tables.proofs.TableLemmas.{table-more, updated-looked}
use Rattle.cper_pcie.specs.declared.section.PcieDevice.{PcieDevice}
use Rattle.cper_pcie.specs.declared.section.PcieSection.{PcieSection}
use Rattle.cper_pcie.specs.declared.counts.ErrorCounts.{ErrorCounts}
use Rattle.cper_pcie.specs.Bits.{error_count}
use Rattle.cper_pcie.specs.Devices.{same_device}
use Rattle.cper_pcie.specs.Steps.DeviceLemmas.{same_device-exact, same_device-refl}
use Rattle.cper_pcie.specs.Counts.{counted_device, in_64_bits, errors_in, errors_with, counts_of, pcie_counts_with}

abbrev pub none : ErrorCounts
none = record { uncor = 0; cor = 0 }

capped : (a b : ℕ) → in_64_bits (a + b) ≡ in_64_bits (in_64_bits a + b)
capped a b = omega arith

kind_more : (kind : PcieSection → Option ℕ) (sections : List PcieSection) (section : PcieSection)
    → in_64_bits (sum_by (λ s. error_count (kind s)) (sections ++ section ∷ []))
    ≡ in_64_bits (in_64_bits (sum_by (λ s. error_count (kind s)) sections) + error_count (kind section))
kind_more kind sections section =
    ap in_64_bits (sum_by-append (λ s. error_count (kind s)) sections (section ∷ []) ∙ omega arith)
    ∙ capped (sum_by (λ s. error_count (kind s)) sections) (error_count (kind section))

errors_in-more : (sections : List PcieSection) (section : PcieSection) → errors_in (sections ++ section ∷ []) ≡ errors_with (errors_in sections) section
unfolding errors_in errors_with
errors_in-more sections section = λ i. record {
  uncor = kind_more (λ s. s.uncor) sections section i;
  cor = kind_more (λ s. s.cor) sections section i;
}

errors_in-none : errors_in [] ≡ none
unfolding errors_in
errors_in-none = refl

pub counts_of-more : (sections : List PcieSection) (section : PcieSection) → counts_of (sections ++ section ∷ []) ≡ pcie_counts_with (counts_of sections) section
counts_of-more sections section =
    table-more same_device same_device-exact same_device-refl counted_device errors_in (λ s. errors_with none s) errors_with
    (λ s. errors_in-more [] s ∙ ap (λ errors. errors_with errors s) errors_in-none) (λ before s some. errors_in-more before s) sections section

-- the row that is put in place of the old one
pub row_put : (rows : List (Option PcieDevice × ErrorCounts)) (section : PcieSection) (errors : ErrorCounts)
    → errors ≡ errors_with (unwrap_or (lookup (same_device section.device) rows) none) section
    → updated_rows same_device section.device errors (λ old. errors) rows ≡ pcie_counts_with rows section
row_put rows section errors is =
    updated-looked same_device section.device none (λ (e : ErrorCounts). errors_with e section) errors rows is
