-- The lines that are printed for sections, and for their totals.
use Rattle.std.specs.Prelude.{ℕ, ◌==◌, nat_eq, nat_lt, List, [], ◌∷◌, ◌++◌, codes, decimal, drop, length, map, unwrap_or, Option, None, Some, Result, Ok, Err, if◌then◌else◌}
use Rattle.std.specs.Int.{to_be_bytes, w16}
use Rattle.std.specs.List.{filter_map, flat_map, join_with_byte}
use Rattle.std.specs.Map.{lookup}
use Rattle.std.specs.Result.{result_ok}
use Rattle.hex.specs.Hex.{encode_lower}
use Rattle.ras_base.specs.Text.{line_with}
use Rattle.ras_facts.specs.Reported.{severity_class}
use Rattle.ras_texts.specs.Text.{class_text, name_text}
use Rattle.cper_pcie.specs.Bits.{bits_of, correctable_names, uncorrectable_names}
use Rattle.cper_pcie.specs.Reports.{Taken}
use Rattle.cper_pcie.specs.Section.{pcie_of}
use Rattle.cper_pcie.specs.Totals.{Totals}
use Rattle.cper_pcie.specs.declared.counts.ErrorCounts.{ErrorCounts}
use Rattle.cper_pcie.specs.declared.section.PcieDevice.{PcieDevice}
use Rattle.cper_pcie.specs.declared.section.PcieRefused.{PcieRefused}
use Rattle.cper_pcie.specs.declared.section.PcieSection.{PcieSection}

-- ---- a function

-- a number in four, in two, and in one or two hexadecimal digits
abbrev pub four_digits : ℕ → List ℕ
four_digits number = encode_lower (to_be_bytes w16 number)

abbrev pub two_digits : ℕ → List ℕ
two_digits number = encode_lower (number ∷ [])

abbrev pub few_digits : ℕ → List ℕ
few_digits number = if nat_lt number 16 then drop 1 (two_digits number) else two_digits number

-- a function's address, and its ids, as lspci prints them
unfoldable pub place_text : PcieDevice → List ℕ
place_text device =
    four_digits device.segment ++ codes ":" ++ two_digits device.bus
    ++ codes ":" ++ two_digits device.device ++ codes "." ++ few_digits device.function

unfoldable pub id_text : PcieDevice → List ℕ
id_text device = four_digits device.vendor ++ codes ":" ++ four_digits device.id

abbrev pub told_device : (PcieDevice → List ℕ) → Option PcieDevice → List ℕ
told_device text None = codes "-"
told_device text (Some device) = text device

-- ---- a status

-- the name of a bit, or its number if it has no name
abbrev pub bit_name : List (ℕ × List ℕ) → ℕ → List ℕ
bit_name names bit = unwrap_or (lookup (nat_eq bit) names) (codes "bit-" ++ decimal bit)

-- the bits that are set, in rising order, with commas between them
abbrev pub bits_text : List (ℕ × List ℕ) → ℕ → List ℕ
bits_text names status =
    if length (bits_of status) == 0 then codes "-"
    else join_with_byte 44 (map (bit_name names) (bits_of status))

abbrev pub status_text : List (ℕ × List ℕ) → Option ℕ → List ℕ
status_text names None = codes "-"
status_text names (Some status) = bits_text names status

-- ---- a section

unfoldable pub read_text : ℕ → PcieSection → List ℕ
read_text severity section =
    codes " device=" ++ told_device place_text section.device
    ++ codes " id=" ++ told_device id_text section.device
    ++ codes " severity=" ++ class_text (severity_class severity)
    ++ codes " uncor=" ++ status_text uncorrectable_names section.uncor
    ++ codes " cor=" ++ status_text correctable_names section.cor

abbrev pub section_text : ℕ → Result PcieSection PcieRefused → List ℕ
section_text severity (Ok section) = read_text severity section
section_text severity (Err why) = codes " short"

abbrev pub section_line : Taken → List ℕ
section_line taken = line_with (
    codes "pcie " ++ name_text taken.name ++ section_text taken.severity (pcie_of taken.bytes))

-- ---- the totals of all sections

-- the sections that can be read
abbrev pub read_sections : List Taken → List PcieSection
read_sections taken = filter_map (λ (section : Taken). result_ok (pcie_of section.bytes)) taken

abbrev pub device_line : Option PcieDevice × ErrorCounts → List ℕ
device_line row = line_with (
    codes "device=" ++ told_device place_text row.0
    ++ codes " uncor=" ++ decimal row.1.uncor ++ codes " cor=" ++ decimal row.1.cor)

abbrev pub pcie_end_line : Totals → List ℕ
pcie_end_line totals = line_with (
    codes "end sections=" ++ decimal totals.sections
    ++ codes " devices=" ++ decimal (length totals.rows))

abbrev pub totals_text : Totals → List ℕ
totals_text totals = flat_map device_line totals.rows ++ pcie_end_line totals
