-- The event `non_standard_event` as the kernel prints it, in versions 6.1.192 and 6.12.117: include/ras/ras_event.h,
-- and `trace_print_hex_seq` of kernel/trace/trace_output.c.
use Rattle.std.specs.Prelude.{ℕ, ◌≡◌, ◌+◌, ◌/◌, ◌%◌, ◌<◌, ◌≤◌, ◌==◌, false, List, [], ◌∷◌, ◌++◌, codes, decimal, length, replicate, All, if◌then◌else◌}
use Rattle.std.specs.Fmt.{digit_glyph}
use Rattle.std.specs.List.{AllByRecursion}
use Rattle.uuid.specs.Text.{hyphenated_text, lower}
use Rattle.block_lines.specs.declared.blocks.TheConstants.{LONGEST_SECTION}
use Rattle.event_lines.specs.SectionEvent.{cper_of_ghes}
use Rattle.event_lines.specs.declared.section_event.SectionHead.{SectionHead}

-- How the kernel prints the rows of 16 bytes: 6.1.192 with nothing between two rows, 6.12.117 with a space.
pub data Rows : Type 0 where
  rows_joined : Rows
  rows_spaced : Rows

-- an event as the kernel prints it: the kernel's number of the severity, the section's type, the text after `FRU: `,
-- which may be any text, the section's bytes, and how their rows are printed
pub record PrintedSection : Type 0 where
  pub severity : ℕ
  pub kind : List ℕ
  pub unit : List ℕ
  pub bytes : List ℕ
  pub rows : Rows

-- what is read of the event, besides the bytes
abbrev pub head_of_section : PrintedSection → SectionHead
head_of_section p = record { kind = p.kind; severity = cper_of_ghes p.severity; size = length p.bytes }

abbrev pub two_digits : ℕ → List ℕ
two_digits b = digit_glyph false (b / 16) ∷ digit_glyph false (b % 16) ∷ []

-- the text before a byte that comes after this many bytes: in a row a space
abbrev pub before_byte : Rows → ℕ → List ℕ
before_byte rows_joined count = if count % 16 == 0 then [] else 32 ∷ []
before_byte rows_spaced count = if count == 0 then [] else 32 ∷ []

-- the text of bytes that come after this many bytes
abbrev pub bytes_text : Rows → ℕ → List ℕ → List ℕ
bytes_text rows count [] = []
bytes_text rows count (b ∷ bytes) = before_byte rows count ++ (two_digits b ++ bytes_text rows (count + 1) bytes)

abbrev pub raw_text : PrintedSection → List ℕ
raw_text p = codes " raw data:" ++ bytes_text p.rows 0 p.bytes

abbrev pub size_text : List ℕ → List ℕ
size_text bytes = codes " data len:" ++ decimal (length bytes)

-- the text after `FRU: `
abbrev pub unit_text : PrintedSection → List ℕ
unit_text p = p.unit ++ 59 ∷ (size_text p.bytes ++ 59 ∷ raw_text p)

-- `severity: %d; sec type:%pU; FRU: %pU %s; data len:%d; raw data:%s`
abbrev pub printed_section : PrintedSection → List ℕ
printed_section p =
    codes "severity: " ++ (decimal p.severity ++ 59 ∷ (codes " sec type:" ++ (hyphenated_text lower p.kind
    ++ 59 ∷ (codes " FRU: " ++ unit_text p))))

-- the line of an event, with spaces between its name and its text
abbrev pub section_line : List ℕ → ℕ → PrintedSection → List ℕ
section_line head spaces p = head ++ (codes "non_standard_event: " ++ (replicate spaces 32 ++ printed_section p))

-- the numbers fit their types, and the section fits a line of script
pub record IsSection (p : PrintedSection) : Type 0 where
  pub severity : p.severity < 4
  pub kind : length p.kind ≡ 16
  pub kind_bytes : All (λ b. b < 256) p.kind
  pub some : 0 < length p.bytes
  pub few : length p.bytes ≤ LONGEST_SECTION
  pub bytes : AllByRecursion (λ b. b < 256) p.bytes
