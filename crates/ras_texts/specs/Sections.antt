-- What a log line prints about a section besides its item.
use Rattle.std.specs.Prelude.{ℕ, List, [], ◌∷◌, ◌++◌, codes, decimal, slice_index_or, Option, None, Some}
use Rattle.std.specs.Int.{to_be_bytes, w64}
use Rattle.hex.specs.Hex.{encode_lower}
use Rattle.uuid.specs.Text.{hyphenated_text, lower}
use Rattle.cper_sections.specs.declared.memory.MemSection.{MemSection}
use Rattle.cper_sections.specs.declared.processor.ProcSection.{ProcSection}
use Rattle.cper_sections.specs.declared.x64.X64Section.{X64Section}

-- the types of memory errors of UEFI, appendix N, "Memory Error Section", from 0 on
abbrev pub memory_types : List (List ℕ)
memory_types =
    codes "unknown" ∷ codes "no-error" ∷ codes "single-bit-ecc" ∷ codes "multi-bit-ecc"
    ∷ codes "single-symbol-chipkill" ∷ codes "multi-symbol-chipkill" ∷ codes "master-abort"
    ∷ codes "target-abort" ∷ codes "parity" ∷ codes "watchdog-timeout" ∷ codes "invalid-address"
    ∷ codes "mirror-broken" ∷ codes "sparing" ∷ codes "scrub-corrected" ∷ codes "scrub-uncorrected"
    ∷ codes "map-out" ∷ []

-- the name of a type, or its number if it has no name
unfoldable pub type_text : ℕ → List ℕ
type_text kind = slice_index_or memory_types kind (codes "type-" ++ decimal kind)

-- a number in 16 hexadecimal digits
abbrev pub digits_text : ℕ → List ℕ
digits_text number = encode_lower (to_be_bytes w64 number)

-- a field, or `-` if it is missing
abbrev pub told_text : (ℕ → List ℕ) → Option ℕ → List ℕ
told_text text None = codes "-"
told_text text (Some value) = text value

unfoldable pub memory_text : MemSection → List ℕ
memory_text section =
    codes "memory type=" ++ told_text type_text section.kind
    ++ codes " node=" ++ told_text decimal section.node
    ++ codes " card=" ++ told_text decimal section.card
    ++ codes " module=" ++ told_text decimal section.«module»
    ++ codes " mask=" ++ told_text digits_text section.mask

unfoldable pub processor_text : ProcSection → List ℕ
processor_text section =
    codes "processor type=" ++ decimal section.kind
    ++ codes " isa=" ++ decimal section.isa
    ++ codes " error=" ++ decimal section.error
    ++ codes " op=" ++ decimal section.operation
    ++ codes " level=" ++ decimal section.level

unfoldable pub x64_text : X64Section → List ℕ
x64_text section =
    codes "x64 apic=" ++ told_text digits_text section.apic
    ++ codes " structures=" ++ decimal section.structures
    ++ codes " contexts=" ++ decimal section.contexts

-- the text of a section of another type: only the type
unfoldable pub other_text : List ℕ → List ℕ
other_text guid = codes "section=" ++ hyphenated_text lower guid
