-- The section descriptors of UEFI, appendix N, "Section Descriptor", which follow the header. The bytes here are
-- exactly one record.
use Rattle.std.specs.Prelude.{ℕ, zero, suc, ◌+◌, ◌*◌, Bool, false, ◌||◌, is_err, nat_lt, List, length, take, drop, Result}
use Rattle.ras_base.specs.LittleEndian.{number_at}
use Rattle.cper_sections.specs.Guids.{guid_of}
use Rattle.cper_sections.specs.Sections.{section_of}
use Rattle.cper_sections.specs.declared.sections.Section.{Section}
use Rattle.cper_sections.specs.declared.sections.SectionRefused.{SectionRefused}
use Rattle.cper_records.specs.declared.records.TheConstants.{HEADER_LENGTH}
use Rattle.cper_records.specs.declared.walk.TheConstants.{DESCRIPTOR_LENGTH}

-- where a descriptor begins
abbrev pub descriptor_at : ℕ → ℕ
descriptor_at i = HEADER_LENGTH + DESCRIPTOR_LENGTH * i

-- where a section begins, from the record's start
abbrev pub section_offset : List ℕ → ℕ → ℕ
section_offset bytes i = number_at (descriptor_at i) 4 bytes

-- how many bytes a section has
abbrev pub section_length : List ℕ → ℕ → ℕ
section_length bytes i = number_at (descriptor_at i + 4) 4 bytes

-- where a section ends
abbrev pub section_end : List ℕ → ℕ → ℕ
section_end bytes i = section_offset bytes i + section_length bytes i

-- a section's type, a GUID
abbrev pub section_guid : List ℕ → ℕ → List ℕ
section_guid bytes i = guid_of (drop (descriptor_at i + 16) bytes)

-- a section's severity
abbrev pub section_severity : List ℕ → ℕ → ℕ
section_severity bytes i = number_at (descriptor_at i + 48) 4 bytes

-- a section's bytes
abbrev pub section_bytes : List ℕ → ℕ → List ℕ
section_bytes bytes i = take (section_length bytes i) (drop (section_offset bytes i) bytes)

-- the fields of a section, or why it can't be read
abbrev pub section_at : List ℕ → ℕ → Result Section SectionRefused
section_at bytes i = section_of (section_guid bytes i) (section_bytes bytes i)

-- whether a section passes the record's end
unfoldable pub is_out : List ℕ → ℕ → Bool
is_out bytes i = nat_lt (length bytes) (section_end bytes i)

-- whether a section can't be read
unfoldable pub is_section_refused : List ℕ → ℕ → Bool
is_section_refused bytes i = is_err (section_at bytes i)

-- whether some number below a count passes a test
unfoldable pub some_below : ℕ → (ℕ → Bool) → Bool
some_below zero test = false
some_below (suc count) test = some_below count test || test count
