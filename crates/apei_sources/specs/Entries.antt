-- The data of a generic error status block, which its entries fill: ACPI 6.5, section 18.3.2.7.1, "Generic Error Data".
-- That the revision decides which header an entry has is this project's profile.
use Rattle.std.specs.Prelude.{ℕ, zero, suc, ◌+◌, Bool, ◌&&◌, nat_eq, nat_le, is_err, List, [], ◌∷◌, length, take, drop, Option, Some, None, if◌then◌else◌}
use Rattle.std.specs.Option.{option_map}
use Rattle.ras_base.specs.Bits.{bits}
use Rattle.ras_base.specs.LittleEndian.{number_at}
use Rattle.cper_sections.specs.Guids.{guid_of}
use Rattle.cper_sections.specs.Sections.{section_of}
use Rattle.apei_sources.specs.declared.entries.TheConstants.{ENTRY_HEADER_LENGTH, LONG_ENTRY_HEADER_LENGTH, TIMESTAMP_REVISION}

-- the high byte of an entry's revision
abbrev pub major_revision : List ℕ → ℕ
major_revision entry = bits 8 8 (number_at 20 2 entry)

-- the bytes of an entry's header: from revision 3 on a timestamp ends it
abbrev pub entry_header_length : List ℕ → ℕ
entry_header_length entry = if nat_le TIMESTAMP_REVISION (major_revision entry) then LONG_ENTRY_HEADER_LENGTH else ENTRY_HEADER_LENGTH

-- the bytes of an entry, its header and its data
abbrev pub entry_length : List ℕ → ℕ
entry_length entry = entry_header_length entry + number_at 24 4 entry

-- the type of an entry's section, a GUID
abbrev pub entry_guid : List ℕ → List ℕ
entry_guid entry = guid_of entry

-- an entry's severity
abbrev pub entry_severity : List ℕ → ℕ
entry_severity entry = number_at 16 4 entry

-- the bytes of an entry's section: the entry's data, which follows its header
abbrev pub entry_data : List ℕ → List ℕ
entry_data entry = drop (entry_header_length entry) entry

-- Whether an entry's section can't be read.
unfoldable pub is_refused : List ℕ → Bool
is_refused entry = is_err (section_of (entry_guid entry) (entry_data entry))

-- Whether the entry at the front of data lies inside it, with its header.
abbrev pub has_entry : List ℕ → Bool
has_entry bytes = nat_le ENTRY_HEADER_LENGTH (length bytes) && nat_le (entry_length bytes) (length bytes)

-- the entry at the front
abbrev pub first_of : List ℕ → List ℕ
first_of bytes = take (entry_length bytes) bytes

-- the bytes after the entry at the front
abbrev pub rest_of : List ℕ → List ℕ
rest_of bytes = drop (entry_length bytes) bytes

-- The entries that the bytes consist of, at most this many; None if an entry passes the end.
unfoldable pub block_entries_in : ℕ → List ℕ → Option (List (List ℕ))
block_entries_in zero bytes = if nat_eq (length bytes) 0 then Some [] else None
block_entries_in (suc most) bytes =
    if nat_eq (length bytes) 0 then Some []
    else (if has_entry bytes then option_map (λ behind. first_of bytes ∷ behind) (block_entries_in most (rest_of bytes))
    else None)

-- The entries of a block's data, at most as many as it has bytes; None if an entry passes its end. specs/Laid.antt
-- says the same without this walk.
abbrev pub entries_of : List ℕ → Option (List (List ℕ))
entries_of bytes = block_entries_in (length bytes) bytes
