-- The MCA error code, bits 15:0 of IA32_MCi_STATUS, as a table of rows: the Intel SDM, volume 3,
-- chapter "Machine-Check Architecture", sections "Simple Error Codes" and "Compound Error Codes".
-- That a code of no row is Other, and that 0E0Bh is read before the bus and interconnect form, is
-- this project's own.
use Rattle.std.specs.Prelude.{ℕ, ◌<◌, ◌==◌, ◌&&◌, nat_le, Bool, false, List, [], ◌∷◌, ◌++◌, ⊤, bit_and, count_by}
use Rattle.std.specs.List.{find}
use Rattle.std.specs.Option.{option_map_or}
use Rattle.ras_base.specs.Bits.{bits}
use Rattle.mca_codes.specs.declared.codes.Code.{Code}
use Rattle.mca_codes.specs.declared.codes.Code.TheVariants.{NoError, Unclassified, MicrocodeRom, External, Frc, InternalParity, InternalTimer, InternalUnclassified, GenericIo, Other, GenericCache, Tlb, Memory, Cache, Bus}

-- F, bit 12 of a compound code: correction report filtering is on
abbrev pub is_filtered : ℕ → Bool
is_filtered code = bits 12 1 code == 1

-- a row: the codes that fit it, and how such a code reads
pub data CodeRow : Type 0 where
  -- one number
  plain : ℕ → Code → CodeRow
  -- the numbers from low to high
  numbers : (low high : ℕ) → Code → CodeRow
  -- a pattern with letters: the mask has the bits that no letter takes, and the value says what they are
  pattern : (mask value : ℕ) → (ℕ → Code) → CodeRow

-- whether a code fits a row
abbrev pub fits_code : ℕ → CodeRow → Bool
fits_code code (plain number kind) = code == number
fits_code code (numbers low high kind) = nat_le low code && nat_le code high
fits_code code (pattern mask value read) = bit_and code mask == value

-- a code as a row reads it
abbrev pub read_by : ℕ → CodeRow → Code
read_by code (plain number kind) = kind
read_by code (numbers low high kind) = kind
read_by code (pattern mask value read) = read code

-- 000F 0000 0000 11LL: generic cache hierarchy errors
abbrev pub generic_cache_of : ℕ → Code
generic_cache_of code = GenericCache (bits 0 2 code) (is_filtered code)

-- 000F 0000 0001 TTLL: TLB errors
abbrev pub tlb_of : ℕ → Code
tlb_of code = Tlb (bits 2 2 code) (bits 0 2 code) (is_filtered code)

-- 000F 0000 1MMM CCCC: memory controller errors
abbrev pub memory_code : ℕ → Code
memory_code code = Memory (bits 4 3 code) (bits 0 4 code) (is_filtered code)

-- 000F 0001 RRRR TTLL: cache hierarchy errors
abbrev pub cache_of : ℕ → Code
cache_of code = Cache (bits 4 4 code) (bits 2 2 code) (bits 0 2 code) (is_filtered code)

-- 000F 1PPT RRRR IILL: bus and interconnect errors
abbrev pub bus_of : ℕ → Code
bus_of code = Bus (bits 9 2 code) (bits 8 1 code) (bits 4 4 code) (bits 2 2 code) (bits 0 2 code) (is_filtered code)

-- the simple error codes, and among them 0E0Bh, generic input and output
abbrev pub simple_rows : List CodeRow
simple_rows =
    plain 0x0000 NoError
    ∷ plain 0x0001 Unclassified
    ∷ plain 0x0002 MicrocodeRom
    ∷ plain 0x0003 External
    ∷ plain 0x0004 Frc
    ∷ plain 0x0005 InternalParity
    ∷ plain 0x0400 InternalTimer
    ∷ numbers 0x0401 0x07ff InternalUnclassified
    ∷ plain 0x0e0b GenericIo
    ∷ []

-- the compound error codes
abbrev pub compound_rows : List CodeRow
compound_rows =
    pattern 0xeffc 0x000c generic_cache_of
    ∷ pattern 0xeff0 0x0010 tlb_of
    ∷ pattern 0xef80 0x0080 memory_code
    ∷ pattern 0xef00 0x0100 cache_of
    ∷ pattern 0xe800 0x0800 bus_of
    ∷ []

-- the table; 0E0Bh comes before the bus form, whose pattern it fits too
abbrev pub code_rows : List CodeRow
code_rows = simple_rows ++ compound_rows

-- a code by the first of the rows that it fits, or Other if it fits none
abbrev pub reading : List CodeRow → ℕ → Code
reading rows code = option_map_or (read_by code) (find (fits_code code) rows) Other

-- the kind and the fields of a code
abbrev pub code_of_rows : ℕ → Code
code_of_rows code = reading code_rows code

-- how many rows a code fits
abbrev pub rows_fitted : ℕ → ℕ
rows_fitted code = count_by (fits_code code) code_rows

-- The raw fields fit their bits in the code. Only such codes have a text.
abbrev pub HasFieldsInRange : Code → Type 0
HasFieldsInRange (GenericCache ll filter) = ll < 4
HasFieldsInRange (Tlb tt ll filter) = (tt < 4) × (ll < 4)
HasFieldsInRange (Memory mmm channel filter) = (mmm < 8) × (channel < 16)
HasFieldsInRange (Cache rrrr tt ll filter) = (rrrr < 16) × (tt < 4) × (ll < 4)
HasFieldsInRange (Bus pp t rrrr ii ll filter) = (pp < 4) × (t < 2) × (rrrr < 16) × (ii < 4) × (ll < 4)
HasFieldsInRange _ = ⊤

-- The filter bit of a code that was read. A simple code has no filter.
abbrev pub filter_of : Code → Bool
filter_of (GenericCache ll filter) = filter
filter_of (Tlb tt ll filter) = filter
filter_of (Memory mmm channel filter) = filter
filter_of (Cache rrrr tt ll filter) = filter
filter_of (Bus pp t rrrr ii ll filter) = filter
filter_of _ = false
