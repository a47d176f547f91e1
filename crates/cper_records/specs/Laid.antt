-- When bytes are a record, and why bytes don't begin with a record.
use Rattle.std.specs.Prelude.{◌≡◌, ◌≤◌, ◌<◌, ◌⊎◌, ℕ, List, length, IsTrue, IsOk, IsErr}
use Rattle.std.specs.Bool.{IsFalse}
use Rattle.ras_base.specs.Prefix.{IsPrefixOf}
use Rattle.cper_records.specs.Header.{section_count, record_length, has_signatures}
use Rattle.cper_records.specs.Descriptors.{descriptor_at, section_end, section_at}
use Rattle.cper_records.specs.declared.records.TheConstants.{HEADER_LENGTH}
use Rattle.cper_records.specs.declared.refusals.RecordRefused.{RecordRefused}
use Rattle.cper_records.specs.declared.refusals.RecordRefused.TheVariants.{Short, Signature, Length, DescriptorOut, SectionOut, Section}

-- Bytes have the signatures, and the length that their header says.
pub record HasHeader (own : List ℕ) : Type 0 where
  pub header : HEADER_LENGTH ≤ length own
  pub signed : IsTrue (has_signatures own)
  pub whole : record_length own ≡ length own

-- The section descriptors, as many as the header counts, lie inside the bytes.
abbrev pub HasDescriptors : List ℕ → Type 0
HasDescriptors own = descriptor_at (section_count own) ≤ length own

-- The sections that the descriptors name lie inside the bytes.
abbrev pub HasSections : List ℕ → Type 0
HasSections own = (i : ℕ) → i < section_count own → section_end own i ≤ length own

-- The bytes are one record and nothing else.
pub record IsRecord (own : List ℕ) : Type 0 where
  pub front : HasHeader own
  pub descriptors : HasDescriptors own
  pub inside : HasSections own
  pub readable : (i : ℕ) → i < section_count own → IsOk (section_at own i)

-- The bytes begin with bytes that have a header and this property.
abbrev pub BeginsWithHeader : List ℕ → (List ℕ → Type 0) → Type 0
BeginsWithHeader bytes Holds = (own : List ℕ) × (IsPrefixOf own bytes × HasHeader own × Holds own)

-- Some section has this property.
abbrev pub HasSection : List ℕ → (ℕ → Type 0) → Type 0
HasSection own Holds = (i : ℕ) × ((i < section_count own) × Holds i)

-- Why bytes don't begin with a record. Each reason applies only if no reason before it does.
abbrev pub IsNoRecord : List ℕ → RecordRefused → Type 0
IsNoRecord bytes Short = length bytes < HEADER_LENGTH
IsNoRecord bytes Signature = (HEADER_LENGTH ≤ length bytes) × IsFalse (has_signatures bytes)
IsNoRecord bytes Length =
    (HEADER_LENGTH ≤ length bytes) × IsTrue (has_signatures bytes)
    × ((record_length bytes < HEADER_LENGTH) ⊎ (length bytes < record_length bytes))
IsNoRecord bytes DescriptorOut = BeginsWithHeader bytes (λ own. length own < descriptor_at (section_count own))
IsNoRecord bytes SectionOut =
    BeginsWithHeader bytes (λ own. HasDescriptors own × HasSection own (λ i. length own < section_end own i))
IsNoRecord bytes Section =
    BeginsWithHeader bytes (λ own. HasDescriptors own × HasSections own × HasSection own (λ i. IsErr (section_at own i)))
