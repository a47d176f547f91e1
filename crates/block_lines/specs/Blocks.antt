-- The generic error status block of a report: ACPI 6.5, section 18.3.2.7.1, "Generic Error Data", with a
-- memory section of UEFI, appendix N, "Memory Error Section", for each error. What the kernel doesn't print
-- is 0, and its validation bit is clear.
use Rattle.std.specs.Prelude.{ℕ, ◌+◌, ◌*◌, ◌==◌, Bool, List, [], ◌∷◌, ◌++◌, length, replicate, Option, is_some, unwrap_or, if◌then◌else◌}
use Rattle.std.specs.List.{flat_map}
use Rattle.ras_base.specs.LittleEndian.{u16_bytes, u32_bytes, u64_bytes}
use Rattle.block_lines.specs.declared.memory.ErrorLocation.{ErrorLocation}
use Rattle.block_lines.specs.declared.memory.MemoryError.{MemoryError}

-- ---- a memory section of 80 bytes

abbrev pub flag : Bool → ℕ → ℕ
flag present value = if present then value else 0

abbrev pub location_flags : ErrorLocation → ℕ
location_flags at =
    flag (is_some at.node) 8 + flag (is_some at.card) 16 + flag (is_some at.«module») 32

abbrev pub validation_of : MemoryError → ℕ
validation_of error =
    flag (is_some error.physical) 2 + flag (is_some error.mask) 4
    + location_flags error.location + flag (is_some error.kind) 16384

-- the validation bits, the error status (0), the address and its mask
unfoldable pub address_bytes : MemoryError → List ℕ
address_bytes error =
    u64_bytes (validation_of error) ++ replicate 8 0 ++ u64_bytes (unwrap_or error.physical 0)
    ++ u64_bytes (unwrap_or error.mask 0)

-- the node, the card, the module
unfoldable pub location_bytes : ErrorLocation → List ℕ
location_bytes at =
    u16_bytes (unwrap_or at.node 0) ++ u16_bytes (unwrap_or at.card 0)
    ++ u16_bytes (unwrap_or at.«module» 0)

-- the type of error, with what the kernel doesn't print, or the reader skips, before and after it
unfoldable pub kind_bytes : Option ℕ → List ℕ
kind_bytes kind = replicate 34 0 ++ unwrap_or kind 0 ∷ replicate 7 0

unfoldable pub memory_section_bytes : MemoryError → List ℕ
memory_section_bytes error =
    address_bytes error ++ location_bytes error.location ++ kind_bytes error.kind

-- ---- an entry: a header of 72 bytes, of revision 3.0, and a section

-- the type of memory sections
abbrev pub memory_type : List ℕ
memory_type =
    0x14 ∷ 0x11 ∷ 0xbc ∷ 0xa5 ∷ 0x64 ∷ 0x6f ∷ 0xde ∷ 0x4e ∷ 0xb8 ∷ 0x63 ∷ 0x3e ∷ 0x83 ∷ 0xed ∷ 0x7c ∷ 0x83 ∷ 0xb1 ∷ []

-- the type, the severity, the revision, the length of the section; and no part number and no time
unfoldable pub entry_header_bytes : List ℕ → ℕ → ℕ → List ℕ
entry_header_bytes kind severity size =
    kind ++ u32_bytes severity ++ (0 ∷ 3 ∷ 0 ∷ 0 ∷ []) ++ u32_bytes size ++ replicate 44 0

-- the entry of a section of this type
unfoldable pub section_entry_bytes : List ℕ → ℕ → List ℕ → List ℕ
section_entry_bytes kind severity section = entry_header_bytes kind severity (length section) ++ section

-- the entry of a memory error, of 152 bytes
unfoldable pub error_entry_bytes : MemoryError → List ℕ
error_entry_bytes error = entry_header_bytes memory_type error.severity 80 ++ memory_section_bytes error

-- ---- a block

-- The number of entries begins at bit 4; bit 1 says that errors were corrected, bit 0 that some weren't.
abbrev pub made_status : ℕ → ℕ → ℕ
made_status severity count = 16 * count + (if severity == 2 then 2 else 1)

-- the status, no raw data, the length of the data, the severity
unfoldable pub block_front : ℕ → ℕ → ℕ → List ℕ
block_front severity count size =
    u32_bytes (made_status severity count) ++ replicate 8 0 ++ u32_bytes size ++ u32_bytes severity

-- the block of a report with this severity
unfoldable pub block_bytes : ℕ → List MemoryError → List ℕ
block_bytes severity errors =
    block_front severity (length errors) (152 * length errors) ++ flat_map error_entry_bytes errors

-- the block of one error, which has this severity and a section of this type
unfoldable pub section_block_bytes : List ℕ → ℕ → List ℕ → List ℕ
section_block_bytes kind severity section =
    block_front severity 1 (72 + length section) ++ section_entry_bytes kind severity section
