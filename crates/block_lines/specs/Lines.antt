-- What the kernel prints of a firmware's report, line by line, after the prefix: the functions
-- `__ghes_print_estatus` of drivers/acpi/apei/ghes.c, and `cper_estatus_print`, `cper_estatus_print_section`,
-- `cper_print_mem` and `cper_mem_err_location` of drivers/firmware/efi/cper.c.
use Rattle.std.specs.Prelude.{ℕ, ◌^◌, ◌-◌, ◌||◌, List, codes, Option, None, Some, if◌then◌else◌}
use Rattle.std.specs.Option.{option_map, option_map_or}
use Rattle.std.specs.Str.{bytes_eq}
use Rattle.ras_klog.specs.Reading.{read_then}
use Rattle.ras_script.specs.Number.{decimal_of, hexadecimal_of}
use Rattle.bank_lines.specs.LogHeads.{after, begins, up_to, without_spaces}
use Rattle.bank_lines.specs.Parts.{value_after}
use Rattle.block_lines.specs.declared.memory.ErrorLocation.{ErrorLocation}
use Rattle.block_lines.specs.declared.memory.MemoryField.TheVariants.{Physical, Mask, At, Kind}
use Rattle.block_lines.specs.declared.report_line.ReportLine.{ReportLine}
use Rattle.block_lines.specs.declared.report_line.ReportLine.TheVariants.{Start, Event, Error, MemoryType, OtherType, Field, Unread, Other}

-- ---- severities, as `cper_severity_str` names them

abbrev pub severity_of : List ℕ → ℕ
severity_of word =
    if bytes_eq word (codes "recoverable") then 0
    else if bytes_eq word (codes "fatal") then 1
    else if bytes_eq word (codes "corrected") then 2
    else 3

-- ---- a report and its sections

-- the first line of a report, which has the source's number
abbrev pub start_line : List ℕ → ReportLine
start_line value = option_map_or (λ source. Start source) (decimal_of 65535 value) Unread

-- `<number>, type: <severity>`
abbrev pub error_severity : List ℕ → Option ℕ
error_severity value =
    read_then (decimal_of (2 ^ 64 - 1) (up_to 44 value)) (λ number.
    option_map severity_of (value_after (codes " type: ") (after 44 value)))

abbrev pub error_line : List ℕ → ReportLine
error_line value = option_map_or (λ severity. Error severity) (error_severity value) Unread

abbrev pub type_line : List ℕ → ReportLine
type_line value = if bytes_eq value (codes "memory error") then MemoryType else OtherType

-- ---- the fields of a memory section

abbrev pub physical_line : List ℕ → ReportLine
physical_line value = Field (option_map (λ n. Physical n) (hexadecimal_of value))

abbrev pub mask_line : List ℕ → ReportLine
mask_line value = Field (option_map (λ n. Mask n) (hexadecimal_of value))

-- `<number>, <words>`
abbrev pub kind_line : List ℕ → ReportLine
kind_line value = Field (option_map (λ n. Kind n) (decimal_of 255 (up_to 44 value)))

-- a number after its name, as in `node:1 ` or, of older kernels, `node: 1 `, and what follows it
abbrev pub number_named : List ℕ → List ℕ → Option ℕ
number_named name text =
    read_then (value_after name text) (λ value. decimal_of 65535 (up_to 32 (without_spaces value)))

abbrev pub after_named : List ℕ → List ℕ → List ℕ
after_named name text = option_map_or (λ value. after 32 (without_spaces value)) (value_after name text) text

-- the node, the card and the module in this order, each of which may be missing
abbrev pub location_of : List ℕ → ErrorLocation
location_of text =
    let cards = after_named (codes "node:") text in
    let modules = after_named (codes "card:") cards in
    record {
      node = number_named (codes "node:") text;
      card = number_named (codes "card:") cards;
      «module» = number_named (codes "module:") modules;
    }

abbrev pub location_line : List ℕ → ReportLine
location_line text =
    if begins text (codes "node:") || (begins text (codes "card:") || begins text (codes "module:"))
    then Field (Some (At (location_of text))) else Other

-- ---- any line

-- what a value says, if there is one, and otherwise `otherwise`
abbrev pub told_by : Option (List ℕ) → (List ℕ → ReportLine) → ReportLine → ReportLine
told_by None read otherwise = otherwise
told_by (Some value) read otherwise = read value

-- a line of a section, after its two spaces
abbrev pub section_said : List ℕ → ReportLine
section_said text =
    told_by (value_after (codes "section_type: ") text) type_line (
    told_by (value_after (codes "section type: ") text) (λ value. OtherType) (
    told_by (value_after (codes "physical_address: 0x") text) physical_line (
    told_by (value_after (codes "physical_address_mask: 0x") text) mask_line (
    told_by (value_after (codes "error_type: ") text) kind_line (
    location_line text)))))

-- the words that begin a report
abbrev pub source_words : List ℕ
source_words = codes "Hardware error from APEI Generic Hardware Error Source: "

-- what a text after the prefix says
abbrev pub report_line_of : List ℕ → ReportLine
report_line_of text =
    told_by (value_after source_words text) start_line (
    told_by (value_after (codes "event severity: ") text) (λ value. Event (severity_of value)) (
    told_by (value_after (codes " Error ") text) error_line (
    told_by (value_after (codes "  ") text) section_said Other)))
