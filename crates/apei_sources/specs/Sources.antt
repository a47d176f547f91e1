-- One error source of a HEST: ACPI 6.5, section 18.3.2, "ACPI Error Source". Linux and ACPICA use the same sizes.
use Rattle.std.specs.Prelude.{ℕ, ◌+◌, ◌*◌, nat_eq, nat_lt, List, [], ◌∷◌, length, slice_index, Option, Some, None, Result, Ok, Err, if◌then◌else◌}
use Rattle.std.specs.Map.{lookup}
use Rattle.ras_base.specs.LittleEndian.{number_at}
use Rattle.apei_sources.specs.declared.sources.TheConstants.{BANK_LENGTH, SOURCE_HEAD_LENGTH}
use Rattle.apei_sources.specs.declared.sources.Layout.{Layout}
use Rattle.apei_sources.specs.declared.refusals.TableRefused.{TableRefused}
use Rattle.apei_sources.specs.declared.refusals.TableRefused.TheVariants.{SourceType, SourceOut}

-- a source with this number of bytes
abbrev pub plain : ℕ → Layout
plain fixed = record { fixed = fixed; banks_at = None }

-- A source with this number of bytes and its banks, whose count is the byte at this offset.
abbrev pub with_banks : ℕ → ℕ → Layout
with_banks fixed place = record { fixed = fixed; banks_at = Some place }

-- The layout of each type of source. Other types aren't read.
unfoldable pub layouts : List (ℕ × Layout)
layouts =
    -- machine-check exception
    (0, with_banks 40 32)
    -- corrected machine check, deferred machine check
    ∷ (1, with_banks 48 44)
    ∷ (11, with_banks 48 44)
    -- NMI
    ∷ (2, plain 20)
    -- AER of a root port, an endpoint, a bridge
    ∷ (6, plain 48)
    ∷ (7, plain 44)
    ∷ (8, plain 56)
    -- generic, and its version 2
    ∷ (9, plain 64)
    ∷ (10, plain 92)
    ∷ []

-- the layout of a type of source
abbrev pub layout_of : ℕ → Option Layout
layout_of kind = lookup (nat_eq kind) layouts

-- a source's type
abbrev pub source_type : List ℕ → ℕ
source_type source = number_at 0 2 source

-- a source's identifier
abbrev pub source_id : List ℕ → ℕ
source_id source = number_at 2 2 source

-- what is stored of a source: its identifier and its type
abbrev pub source_of : List ℕ → ℕ × ℕ
source_of source = (source_id source, source_type source)

-- how many banks a source has
abbrev pub banks_of : Option ℕ → List ℕ → ℕ
banks_of None source = 0
banks_of (Some place) source = slice_index source place

-- how many bytes a source of a layout has: the fixed bytes, and then the bytes of each bank
abbrev pub size_of : Layout → List ℕ → ℕ
size_of layout source = layout.fixed + BANK_LENGTH * banks_of layout.banks_at source

-- How many bytes the source of a layout has at the front of bytes, if it lies inside them.
abbrev pub size_by : Option Layout → List ℕ → Result ℕ TableRefused
size_by None bytes = Err SourceType
size_by (Some layout) bytes =
    if nat_lt (length bytes) (size_of layout bytes) then Err SourceOut else Ok (size_of layout bytes)

-- How many bytes the source at the front has. Its type and its identifier come first.
unfoldable pub size_at : List ℕ → Result ℕ TableRefused
size_at bytes = if nat_lt (length bytes) SOURCE_HEAD_LENGTH then Err SourceOut else size_by (layout_of (source_type bytes)) bytes
