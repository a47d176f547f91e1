-- The events `mc_event`, as the firmware's driver makes it, and `extlog_mem_event` as the kernel prints them, in versions
-- 6.1.192 and 6.12.117: include/ras/ras_event.h; `ghes_edac_report_mem_error` of drivers/edac/ghes_edac.c and
-- `edac_raw_mc_handle_error` of drivers/edac/edac_mc.c; `cper_mem_err_type_str`, `cper_mem_err_location` and
-- `cper_mem_err_unpack` of drivers/firmware/efi/cper.c; `extlog_print` of drivers/acpi/acpi_extlog.c.
use Rattle.std.specs.Prelude.{◌≡◌, ℕ, ◌-◌, ◌^◌, ◌<◌, ◌≤◌, ◌==◌, ◌&&◌, List, [], ◌∷◌, ◌++◌, codes, decimal, nat_lt, replicate, slice_index_or, unwrap_or, Option, None, Some, IfSome, if◌then◌else◌}
use Rattle.std.specs.Option.{option_map}
use Rattle.ras_klog.specs.Reading.{provided}
use Rattle.ras_script.specs.LineLaws.{hexadecimal}
use Rattle.ras_script.specs.SplittingLaws.{Lacks}
use Rattle.bank_lines.specs.Kernel.{padded, register}
use Rattle.bank_lines.specs.Parts.{value_after}
use Rattle.block_lines.specs.Kernel.{severity_word}
use Rattle.block_lines.specs.ReadBack.{IsLocation}
use Rattle.block_lines.specs.declared.memory.ErrorLocation.{ErrorLocation}
use Rattle.block_lines.specs.declared.memory.MemoryError.{MemoryError}
use Rattle.event_lines.specs.Memory.{behind_controller}

-- ---- the type of error

-- `mem_err_type_strs`
abbrev pub type_names : List (List ℕ)
type_names =
    codes "unknown" ∷ codes "no error" ∷ codes "single-bit ECC" ∷ codes "multi-bit ECC"
    ∷ codes "single-symbol chipkill ECC" ∷ codes "multi-symbol chipkill ECC" ∷ codes "master abort"
    ∷ codes "target abort" ∷ codes "parity error" ∷ codes "watchdog timeout" ∷ codes "invalid address"
    ∷ codes "mirror Broken" ∷ codes "memory sparing" ∷ codes "scrub corrected error"
    ∷ codes "scrub uncorrected error" ∷ codes "physical memory map-out event" ∷ []

abbrev pub type_name : ℕ → List ℕ
type_name kind = slice_index_or type_names kind (codes "unknown")

-- the type that is read: only a type with a name of its own
abbrev pub kind_told : Option ℕ → Option ℕ
kind_told None = None
kind_told (Some kind) = provided (nat_lt 0 kind && nat_lt kind 16) (Some kind)

-- ---- where an error is

-- a space before more text, if there is more
abbrev pub before_more : List ℕ → List ℕ
before_more [] = []
before_more (b ∷ more) = 32 ∷ b ∷ more

-- a number after its name and before more text, if the number is known
abbrev pub number_before : List ℕ → Option ℕ → List ℕ → List ℕ
number_before name None more = more
number_before name (Some n) more = name ++ (decimal n ++ before_more more)

-- the numbers that the firmware gives, followed by others: rank, bank, row ..
abbrev pub places_text : ErrorLocation → List ℕ → List ℕ
places_text at others =
    number_before (codes "node:") at.node (
    number_before (codes "card:") at.card (
    number_before (codes "module:") at.«module» others))

-- the numbers of a location fit their types, and the other text begins with none of their names
pub record ArePlaces (at : ErrorLocation) (others : List ℕ) : Type 0 where
  pub location : IsLocation at
  pub node : value_after (codes "node:") others ≡ None
  pub card : value_after (codes "card:") others ≡ None
  pub «module» : value_after (codes "module:") others ≡ None

-- ---- `mc_event`

-- An event as the kernel prints it: the error as the firmware reports it, with as many lowest bits of the address
-- unknown as the grain has bits; the label of its module; and the number of the memory controller and its layers.
pub record PrintedMemory : Type 0 where
  pub severity : ℕ
  pub kind : Option ℕ
  pub label : List ℕ
  pub controller : ℕ
  pub layers : List ℕ
  pub address : Option ℕ
  pub grain_bits : ℕ
  pub location : ErrorLocation
  -- rank, bank, row .., the module's place and the error status
  pub others : List ℕ

-- the error that is read
abbrev pub error_of_memory : PrintedMemory → MemoryError
error_of_memory p = record {
  severity = p.severity;
  physical = p.address;
  mask = if p.grain_bits == 0 then None else Some (2 ^ 64 - 2 ^ p.grain_bits);
  location = p.location;
  kind = kind_told p.kind;
}

-- `mc_event_error_type`
abbrev pub severity_name : ℕ → List ℕ
severity_name severity =
    if severity == 0 then codes "Uncorrected"
    else if severity == 1 then codes "Fatal"
    else if severity == 2 then codes "Corrected"
    else codes "Info"

abbrev pub message_text : Option ℕ → List ℕ
message_text None = codes "unknown error"
message_text (Some kind) = type_name kind

-- `1 << %d`, an `int`
abbrev pub grain_text : ℕ → List ℕ
grain_text bits = if bits == 31 then codes "-2147483648" else decimal (2 ^ bits)

-- the text in the parentheses: `%d location:%d:%d:%d address:0x%08lx grain:%d syndrome:0x%08lx APEI location: %s`
abbrev pub controller_text : PrintedMemory → List ℕ
controller_text p =
    decimal p.controller ++ (codes " location:" ++ (p.layers
    ++ (codes " address:0x" ++ (padded 8 (unwrap_or p.address 0)
    ++ (codes " grain:" ++ (grain_text p.grain_bits
    ++ (codes " syndrome:0x00000000 APEI location: " ++ places_text p.location p.others)))))))

-- `1 %s error: %s on %s`
abbrev pub memory_front : PrintedMemory → List ℕ
memory_front p =
    codes "1 " ++ (severity_name p.severity ++ (codes " error: " ++ (message_text p.kind ++ (codes " on " ++ p.label))))

-- the event's text: the front, ` (mc:`, and the text in the parentheses
abbrev pub printed_memory : PrintedMemory → List ℕ
printed_memory p = (memory_front p ++ (codes " (mc:" ++ controller_text p)) ++ codes ")"

-- the line of an event, with spaces between its name and its text
abbrev pub memory_line : List ℕ → ℕ → PrintedMemory → List ℕ
memory_line head spaces p = head ++ (codes "mc_event: " ++ (replicate spaces 32 ++ printed_memory p))

-- The numbers fit their types, and the grain is below 4 GiB. No ` (mc:` is in the text after the location's numbers.
-- The label may be any text.
pub record IsMemory (p : PrintedMemory) : Type 0 where
  pub severity : p.severity < 4
  pub controller : p.controller < 2 ^ 8
  pub layers_joined : Lacks 32 p.layers
  pub layers_plain : Lacks 40 p.layers
  pub address : IfSome p.address (λ n. (0 < n) × (n < 2 ^ 64))
  pub grain : p.grain_bits < 32
  pub places : ArePlaces p.location p.others
  pub no_mark : behind_controller (32 ∷ p.others) ≡ None

-- ---- `extlog_mem_event`

-- An event as the kernel prints it: its number; the error as the firmware reports it, with the lowest valid bit of
-- the address, 64 if no bit is valid; and the id and the text of its unit.
pub record PrintedExtlog : Type 0 where
  pub number : ℕ
  pub severity : ℕ
  pub kind : Option ℕ
  pub address : Option ℕ
  pub low_bit : Option ℕ
  pub location : ErrorLocation
  -- rank, bank, row .. and the module's place
  pub others : List ℕ
  pub unit : List ℕ

-- the error that is read
abbrev pub error_of_extlog : PrintedExtlog → MemoryError
error_of_extlog p = record {
  severity = p.severity;
  physical = p.address;
  mask = option_map (λ bit. 2 ^ 64 - 2 ^ bit) p.low_bit;
  location = p.location;
  kind = kind_told p.kind;
}

-- the text after the location's numbers
abbrev pub extlog_others : PrintedExtlog → List ℕ
extlog_others p = p.others ++ (codes "FRU: " ++ p.unit)

-- `%016llx (mask lsb: %x) %sFRU: %pUl %.20s`
abbrev pub address_text : PrintedExtlog → List ℕ
address_text p =
    register (unwrap_or p.address (2 ^ 64 - 1)) ++ (codes " (mask lsb: " ++ (hexadecimal (unwrap_or p.low_bit 255)
    ++ (codes ") " ++ places_text p.location (extlog_others p))))

-- `{%d} %s error: %s physical addr: ` and the address
abbrev pub printed_extlog : PrintedExtlog → List ℕ
printed_extlog p =
    codes "{" ++ (decimal p.number ++ (codes "} " ++ (severity_word p.severity ++ (codes " error: "
    ++ (type_name (unwrap_or p.kind 255) ++ (codes " physical addr: " ++ address_text p))))))

-- the line of an event, with spaces between its name and its text
abbrev pub extlog_line : List ℕ → ℕ → PrintedExtlog → List ℕ
extlog_line head spaces p = head ++ (codes "extlog_mem_event: " ++ (replicate spaces 32 ++ printed_extlog p))

-- the numbers fit their types; the unit's text may be any text
pub record IsExtlog (p : PrintedExtlog) : Type 0 where
  pub number : p.number < 2 ^ 31
  pub severity : p.severity < 4
  pub address : IfSome p.address (λ n. n < 2 ^ 64 - 1)
  pub low_bit : IfSome p.low_bit (λ bit. bit ≤ 64)
  pub places : ArePlaces p.location (extlog_others p)
