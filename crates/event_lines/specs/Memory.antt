-- What the text of the events `mc_event` and `extlog_mem_event` says of a memory error that the firmware reported:
-- include/ras/ras_event.h. Of `mc_event` only what drivers/edac/ghes_edac.c makes is such an error: another driver's
-- event is a copy of a machine check.
use Rattle.std.specs.Prelude.{ℕ, ◌+◌, ◌-◌, ◌^◌, ◌==◌, ◌||◌, List, [], ◌∷◌, codes, drop, nat_eq, nat_le, nat_lt, take, Option, Some, None, if◌then◌else◌}
use Rattle.std.specs.Int.{is_power_of_two}
use Rattle.std.specs.List.{starts_with}
use Rattle.std.specs.Map.{lookup}
use Rattle.std.specs.Option.{option_map, option_map_or, option_or}
use Rattle.std.specs.Str.{bytes_eq}
use Rattle.ras_klog.specs.Reading.{provided, read_then}
use Rattle.ras_script.specs.Number.{decimal_of, hexadecimal_of}
use Rattle.bank_lines.specs.LogHeads.{after, mark_place, up_to}
use Rattle.bank_lines.specs.Parts.{value_after}
use Rattle.block_lines.specs.Lines.{location_of, severity_of}
use Rattle.block_lines.specs.declared.memory.ErrorLocation.{ErrorLocation}
use Rattle.block_lines.specs.declared.memory.MemoryError.{MemoryError}
use Rattle.event_lines.specs.Aer.{before_last}
use Rattle.event_lines.specs.Flags.{hexadecimal_to}

-- ---- the type of error: `mem_err_type_strs` of drivers/firmware/efi/cper.c

abbrev pub late_types : List (List ℕ × ℕ)
late_types =
    (codes "watchdog timeout", 9) ∷ (codes "invalid address", 10) ∷ (codes "mirror Broken", 11)
    ∷ (codes "memory sparing", 12) ∷ (codes "scrub corrected error", 13) ∷ (codes "scrub uncorrected error", 14)
    ∷ (codes "physical memory map-out event", 15) ∷ []

abbrev pub named_types : List (List ℕ × ℕ)
named_types =
    (codes "no error", 1) ∷ (codes "single-bit ECC", 2) ∷ (codes "multi-bit ECC", 3)
    ∷ (codes "single-symbol chipkill ECC", 4) ∷ (codes "multi-symbol chipkill ECC", 5) ∷ (codes "master abort", 6)
    ∷ (codes "target abort", 7) ∷ (codes "parity error", 8) ∷ late_types

-- the type by the kernel's name for it; `unknown` may be one of several types, or no type
abbrev pub kind_named : List ℕ → Option ℕ
kind_named name = lookup (bytes_eq name) named_types

-- the type whose name comes before a text
abbrev pub kind_before : List ℕ → List ℕ → Option ℕ
kind_before text message = option_map_or (λ place. kind_named (take place message)) (mark_place text message) None

-- ---- the address and its valid bits

-- The grain of `mc_event`. The kernel shifts and prints an `int`: the last power of two is negative, and a grain of
-- 4 GiB or more is printed as a smaller one.
abbrev pub grain_of : List ℕ → Option ℕ
grain_of word =
    if bytes_eq word (codes "-2147483648") then Some (2 ^ 31)
    else read_then (decimal_of (2 ^ 30) word) (λ grain. provided (is_power_of_two grain) (Some grain))

-- The mask of a grain. The kernel also prints grain 1 without a mask, and for a mask that isn't a grain's. So for
-- grain 1 no bit is known to be valid.
abbrev pub grain_mask : ℕ → Option ℕ
grain_mask grain = if nat_lt grain 2 then None else Some (2 ^ 64 - grain)

-- the address of `mc_event`: the kernel prints 0 if the firmware gives none
abbrev pub address_told : ℕ → Option ℕ
address_told address = if address == 0 then None else Some address

-- the lowest valid bit of `extlog_mem_event`, 64 if no bit is valid, or 255 without a mask
abbrev pub low_bit_of : List ℕ → Option ℕ
low_bit_of word = read_then (hexadecimal_to 255 word) (λ bit. provided (nat_le bit 64 || bit == 255) (Some bit))

abbrev pub low_bit_mask : ℕ → Option ℕ
low_bit_mask bit = if bit == 255 then None else Some (2 ^ 64 - 2 ^ bit)

-- the address of `extlog_mem_event`: all ones if the firmware gives none
abbrev pub whole_address_told : ℕ → Option ℕ
whole_address_told address = if address == 2 ^ 64 - 1 then None else Some address

-- ---- `mc_event`

-- The severity of the whole report, by the kernel's name (`mc_event_error_type` of include/linux/edac.h). A deferred
-- error is uncorrectable, and its data isn't consumed yet (`enum hw_event_mc_err_type` there). `Info` is 3.
abbrev pub type_severity : List ℕ → ℕ
type_severity word =
    if bytes_eq word (codes "Corrected") then 2
    else if bytes_eq word (codes "Uncorrected") then 0
    else if bytes_eq word (codes "Fatal") then 1
    else if bytes_eq word (codes "Deferred") then 0
    else 3

-- the text after the first ` (mc:`
abbrev pub behind_first : List ℕ → Option (List ℕ)
behind_first text = option_map (λ place. drop (place + 5) text) (mark_place (codes " (mc:") text)

-- the text after the last ` (mc:`: a module's label before it may be any text
abbrev pub behind_controller : List ℕ → Option (List ℕ)
behind_controller [] = None
behind_controller (b ∷ text) =
    option_or (behind_controller text)
    (if starts_with nat_eq (b ∷ text) (codes " (mc:") then Some (drop 5 (b ∷ text)) else None)

-- `<n> location:<layers> address:0x<address> grain:<grain> syndrome:0x<syndrome> <detail>`, between the last ` (mc:`
-- and the parenthesis at the end. A line that was cut off lacks the parenthesis.
abbrev pub controller_of : List ℕ → Option (List ℕ)
controller_of text = read_then (before_last 41 text) behind_controller

-- the text from the address on, and the text from the driver's detail on
abbrev pub addresses_in : List ℕ → List ℕ
addresses_in controller = after 32 (after 32 controller)

abbrev pub detail_in : List ℕ → List ℕ
detail_in controller = after 32 (after 32 (after 32 (addresses_in controller)))

-- The error that the firmware's driver reported, given the text `1 <severity> error: <type> on <label>`, the text in
-- the parentheses, and the detail after its name, which says where the error is.
abbrev pub controller_error_of : List ℕ → List ℕ → List ℕ → Option MemoryError
controller_error_of text controller places =
    let addresses = addresses_in controller in
    read_then (value_after (codes "1 ") text) (λ told.
    read_then (value_after (codes "error: ") (after 32 told)) (λ message.
    read_then (value_after (codes "address:0x") (up_to 32 addresses)) (λ digits.
    read_then (hexadecimal_of digits) (λ address.
    read_then (value_after (codes "grain:") (up_to 32 (after 32 addresses))) (λ word.
    read_then (grain_of word) (λ grain.
    Some (record {
      severity = type_severity (up_to 32 told);
      physical = address_told address;
      mask = grain_mask grain;
      location = location_of places;
      kind = kind_before (codes " on ") message;
    })))))))

-- the name of the firmware's detail
abbrev pub firmware_mark : List ℕ
firmware_mark = codes "APEI location: "

-- ---- `extlog_mem_event`

-- The mask and where the error is, `(mask lsb: <bit>) <places>FRU: `. The text of a unit, and of the module before
-- it, comes after all numbers, so a line that was cut off within them lacks the `FRU: `.
abbrev pub mask_and_location : List ℕ → Option (Option ℕ × ErrorLocation)
mask_and_location text =
    read_then (value_after (codes "(mask lsb: ") text) (λ word.
    read_then (low_bit_of (up_to 41 word)) (λ bit.
    read_then (value_after (codes " ") (after 41 word)) (λ places.
    read_then (mark_place (codes "FRU: ") places) (λ unit.
    Some (low_bit_mask bit, location_of places)))))

-- the error with this severity and type, from its address on
abbrev pub addressed_error_of : ℕ → Option ℕ → List ℕ → Option MemoryError
addressed_error_of severity kind text =
    read_then (hexadecimal_of (up_to 32 text)) (λ address.
    read_then (mask_and_location (after 32 text)) (λ masked.
    Some (record {
      severity = severity;
      physical = whole_address_told address;
      mask = masked.0;
      location = masked.1;
      kind = kind;
    })))

-- `{<n>} <severity> error: <type> physical addr: <address> `, followed by mask and location
abbrev pub extlog_error_of : List ℕ → Option MemoryError
extlog_error_of text =
    read_then (value_after (codes "{") text) (λ numbered.
    read_then (value_after (codes " ") (after 125 numbered)) (λ told.
    read_then (value_after (codes "error: ") (after 32 told)) (λ message.
    read_then (mark_place (codes " physical addr: ") message) (λ place.
    addressed_error_of (severity_of (up_to 32 told)) (kind_named (take place message)) (drop (place + 16) message)))))
