-- What the text of the event `aer_event` says: include/ras/ras_event.h, `TRACE_EVENT(aer_event, ..)`.
use Rattle.std.specs.Prelude.{ℕ, ◌-◌, List, [], ◌∷◌, codes, length, nat_eq, take, Option, Some, if◌then◌else◌}
use Rattle.std.specs.List.{ends_with}
use Rattle.std.specs.Option.{option_map_or}
use Rattle.std.specs.Str.{bytes_eq}
use Rattle.ras_klog.specs.Reading.{provided, read_then}
use Rattle.ras_script.specs.Number.{decimal_of}
use Rattle.bank_lines.specs.LogHeads.{after, up_to}
use Rattle.bank_lines.specs.Parts.{value_after}
use Rattle.event_lines.specs.declared.aer.AerDevice.{AerDevice}
use Rattle.event_lines.specs.declared.aer.AerEvent.{AerEvent}
use Rattle.event_lines.specs.declared.aer.AerSeverity.{AerSeverity}
use Rattle.event_lines.specs.declared.aer.AerSeverity.TheVariants.{Corrected, Fatal, NonFatal}
use Rattle.event_lines.specs.declared.aer.TlpHeader.{TlpHeader}
use Rattle.event_lines.specs.declared.aer.TlpHeader.TheVariants.{Missing, Logged}
use Rattle.event_lines.specs.Flags.{hexadecimal_to, status_of, word_of}

-- the severity's number in a block: UEFI, appendix N, "Section Descriptor"
abbrev pub cper_severity : AerSeverity → ℕ
cper_severity NonFatal = 0
cper_severity Fatal = 1
cper_severity Corrected = 2

-- `<segment>:<bus>:<device>.<function>`; all but the function is hexadecimal
abbrev pub aer_device_of : List ℕ → Option AerDevice
aer_device_of name =
    let buses = after 58 name in
    let devices = after 58 buses in
    read_then (hexadecimal_to 65535 (up_to 58 name)) (λ segment.
    read_then (hexadecimal_to 255 (up_to 58 buses)) (λ bus.
    read_then (hexadecimal_to 31 (up_to 46 devices)) (λ device.
    read_then (decimal_of 7 (after 46 devices)) (λ function.
    Some (record { segment = segment; bus = bus; device = device; function = function })))))

-- four words, with commas between them
abbrev pub logged_header : List ℕ → Option TlpHeader
logged_header text =
    let second = after 44 text in
    let third = after 44 second in
    read_then (word_of (up_to 44 text)) (λ one.
    read_then (word_of (up_to 44 second)) (λ two.
    read_then (word_of (up_to 44 third)) (λ three.
    read_then (word_of (after 44 third)) (λ four.
    Some (Logged one two three four)))))

-- the text without this byte at its end, if it ends with it
abbrev pub before_last : ℕ → List ℕ → Option (List ℕ)
before_last byte text =
    provided (ends_with nat_eq text (byte ∷ [])) (Some (take (length text - 1) text))

-- `Not available`, or four words in braces
abbrev pub header_of : List ℕ → Option TlpHeader
header_of text =
    if bytes_eq text (codes "Not available") then Some Missing
    else read_then (value_after (codes "{") text) (λ words. read_then (before_last 125 words) logged_header)

-- `<flags>, TLP Header=<header>`
abbrev pub aer_told : AerDevice → AerSeverity → List ℕ → Option AerEvent
aer_told device severity text =
    read_then (status_of severity (up_to 44 text)) (λ status.
    read_then (value_after (codes " TLP Header=") (after 44 text)) (λ header.
    read_then (header_of header) (λ header.
    Some (record { device = device; severity = severity; status = status; header = header }))))

-- `<severity>, `, followed by flags and header
abbrev pub errors_told : AerDevice → List ℕ → Option AerEvent
errors_told device text =
    option_map_or (aer_told device Corrected) (value_after (codes "Corrected, ") text) (
    option_map_or (aer_told device Fatal) (value_after (codes "Fatal, ") text) (
    read_then (value_after (codes "Uncorrected, non-fatal, ") text) (aer_told device NonFatal)))

-- `<device> PCIe Bus Error: severity=`, followed by the severity, flags and header
abbrev pub aer_event_of : List ℕ → Option AerEvent
aer_event_of text =
    read_then (aer_device_of (up_to 32 text)) (λ device.
    read_then (value_after (codes "PCIe Bus Error: severity=") (after 32 text)) (errors_told device))
