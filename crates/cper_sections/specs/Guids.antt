-- GUIDs, and the section types of UEFI, appendix N, "Section Descriptor".
use Rattle.std.specs.Prelude.{ℕ, List, [], ◌∷◌, take, if◌then◌else◌}
use Rattle.std.specs.Str.{bytes_eq}
use Rattle.uuid.specs.Parts.{swap_fields}
use Rattle.cper_sections.specs.declared.guids.SectionType.{SectionType}
use Rattle.cper_sections.specs.declared.guids.SectionType.TheVariants.{Memory, Processor, X64, Unknown}

-- the GUID at the front of bytes, whose first three fields have the lowest byte first
abbrev pub guid_of : List ℕ → List ℕ
guid_of bytes = swap_fields (take 16 bytes)

-- platform memory: a5bc1114-6f64-4ede-b863-3e83ed7c83b1
unfoldable pub memory_guid : List ℕ
memory_guid =
    0xa5 ∷ 0xbc ∷ 0x11 ∷ 0x14 ∷ 0x6f ∷ 0x64 ∷ 0x4e ∷ 0xde ∷ 0xb8 ∷ 0x63 ∷ 0x3e ∷ 0x83 ∷ 0xed ∷ 0x7c ∷ 0x83 ∷ 0xb1 ∷ []

-- processor generic: 9876ccad-47b4-4bdb-b65e-16f193c4f3db
unfoldable pub processor_guid : List ℕ
processor_guid =
    0x98 ∷ 0x76 ∷ 0xcc ∷ 0xad ∷ 0x47 ∷ 0xb4 ∷ 0x4b ∷ 0xdb ∷ 0xb6 ∷ 0x5e ∷ 0x16 ∷ 0xf1 ∷ 0x93 ∷ 0xc4 ∷ 0xf3 ∷ 0xdb ∷ []

-- IA32/X64 processor: dc3ea0b0-a144-4797-b95b-53fa242b6e1d
unfoldable pub x64_guid : List ℕ
x64_guid =
    0xdc ∷ 0x3e ∷ 0xa0 ∷ 0xb0 ∷ 0xa1 ∷ 0x44 ∷ 0x47 ∷ 0x97 ∷ 0xb9 ∷ 0x5b ∷ 0x53 ∷ 0xfa ∷ 0x24 ∷ 0x2b ∷ 0x6e ∷ 0x1d ∷ []

-- the kind of section that has this GUID as its type
unfoldable pub section_type_of : List ℕ → SectionType
section_type_of guid =
    if bytes_eq guid memory_guid then Memory
    else (if bytes_eq guid processor_guid then Processor
    else (if bytes_eq guid x64_guid then X64 else Unknown))
