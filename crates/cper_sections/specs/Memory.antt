-- The platform memory section of UEFI, appendix N, "Memory Error Section". It has 80 bytes; an
-- older form has 73, and no rank.
use Rattle.std.specs.Prelude.{ℕ, nat_le, List, length, slice_index, Option, None, if◌then◌else◌}
use Rattle.ras_base.specs.LittleEndian.{number_at}
use Rattle.cper_sections.specs.Fields.{if_valid}
use Rattle.cper_sections.specs.declared.memory.TheConstants.{RANK_LENGTH}
use Rattle.cper_sections.specs.declared.memory.MemSection.{MemSection}

-- the validation bits
abbrev pub memory_validation : List ℕ → ℕ
memory_validation bytes = number_at 0 8 bytes

-- the rank, which only a section of the newer form has
abbrev pub rank_of : ℕ → List ℕ → Option ℕ
rank_of validation bytes = if nat_le RANK_LENGTH (length bytes) then if_valid 15 validation (number_at 74 2 bytes) else None

-- A memory section by its table: the validation bit of each field, and the field's offset and width.
unfoldable pub memory_of : List ℕ → MemSection
memory_of bytes = record {
  physical = if_valid 1 (memory_validation bytes) (number_at 16 8 bytes);
  mask = if_valid 2 (memory_validation bytes) (number_at 24 8 bytes);
  node = if_valid 3 (memory_validation bytes) (number_at 32 2 bytes);
  card = if_valid 4 (memory_validation bytes) (number_at 34 2 bytes);
  «module» = if_valid 5 (memory_validation bytes) (number_at 36 2 bytes);
  bank = if_valid 6 (memory_validation bytes) (number_at 38 2 bytes);
  row = if_valid 8 (memory_validation bytes) (number_at 42 2 bytes);
  rank = rank_of (memory_validation bytes) bytes;
  kind = if_valid 14 (memory_validation bytes) (slice_index bytes 72);
}
