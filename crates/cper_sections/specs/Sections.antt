-- A section by its type and its bytes, or the first reason why it can't be read.
use Rattle.std.specs.Prelude.{ℕ, List, length, nat_lt, Result, Ok, Err, if◌then◌else◌}
use Rattle.cper_sections.specs.Guids.{section_type_of}
use Rattle.cper_sections.specs.Memory.{memory_of}
use Rattle.cper_sections.specs.Processor.{processor_of}
use Rattle.cper_sections.specs.X64.{x64_of, contexts_at}
use Rattle.cper_sections.specs.declared.memory.TheConstants.{OLD_LENGTH}
use Rattle.cper_sections.specs.declared.processor.TheConstants.{LENGTH}
use Rattle.cper_sections.specs.declared.x64.TheConstants.{FIXED_LENGTH}
use Rattle.cper_sections.specs.declared.guids.SectionType.{SectionType}
use Rattle.cper_sections.specs.declared.guids.SectionType as Types
use Rattle.cper_sections.specs.declared.sections.Section.{Section}
use Rattle.cper_sections.specs.declared.sections.Section.TheVariants.{Memory, Processor, X64, Unknown}
use Rattle.cper_sections.specs.declared.sections.SectionRefused.{SectionRefused}
use Rattle.cper_sections.specs.declared.sections.SectionRefused.TheVariants.{Short, TooManyStructures}

-- an IA32/X64 section, or why it can't be read
abbrev pub x64_section_of : List ℕ → Result Section SectionRefused
x64_section_of bytes =
    if nat_lt (length bytes) FIXED_LENGTH then Err Short
    else (if nat_lt (length bytes) (contexts_at bytes) then Err TooManyStructures else Ok (X64 (x64_of bytes)))

-- a section of a kind, with its GUID
abbrev pub section_of_type : SectionType → List ℕ → List ℕ → Result Section SectionRefused
section_of_type Types.TheVariants.Memory guid bytes =
    if nat_lt (length bytes) OLD_LENGTH then Err Short else Ok (Memory (memory_of bytes))
section_of_type Types.TheVariants.Processor guid bytes =
    if nat_lt (length bytes) LENGTH then Err Short else Ok (Processor (processor_of bytes))
section_of_type Types.TheVariants.X64 guid bytes = x64_section_of bytes
section_of_type Types.TheVariants.Unknown guid bytes = Ok (Unknown guid)

-- a section by its type and its bytes
unfoldable pub section_of : List ℕ → List ℕ → Result Section SectionRefused
section_of guid bytes = section_of_type (section_type_of guid) guid bytes
