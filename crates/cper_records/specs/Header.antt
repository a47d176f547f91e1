-- The record header of UEFI, appendix N, "Record Header".
use Rattle.std.specs.Prelude.{ℕ, Bool, ◌&&◌, nat_eq, nat_le, List, [], ◌∷◌, length, drop, codes}
use Rattle.std.specs.List.{starts_with}
use Rattle.ras_base.specs.LittleEndian.{number_at}
use Rattle.cper_records.specs.declared.records.TheConstants.{HEADER_LENGTH}

-- the count of sections
abbrev pub section_count : List ℕ → ℕ
section_count bytes = number_at 10 2 bytes

-- the severity of the record
abbrev pub record_severity : List ℕ → ℕ
record_severity bytes = number_at 12 4 bytes

-- the length of the record, header and sections
abbrev pub record_length : List ℕ → ℕ
record_length bytes = number_at 20 4 bytes

-- the record's identifier
abbrev pub record_id : List ℕ → ℕ
record_id bytes = number_at 96 8 bytes

-- Whether the two signatures are at their offsets.
abbrev pub has_signatures : List ℕ → Bool
has_signatures bytes =
    starts_with nat_eq bytes (codes "CPER") && starts_with nat_eq (drop 6 bytes) (0xff ∷ 0xff ∷ 0xff ∷ 0xff ∷ [])

-- Whether the record's length includes the header, and lies inside the bytes.
abbrev pub has_record_length : List ℕ → Bool
has_record_length bytes = nat_le HEADER_LENGTH (record_length bytes) && nat_le (record_length bytes) (length bytes)
