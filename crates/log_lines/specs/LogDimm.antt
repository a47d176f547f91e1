-- Which DIMM a kernel log names, and at which address: the line that EDAC prints of an error, `edac_ce_error` and
-- `edac_ue_error` of drivers/edac/edac_mc.c, and the lines of a firmware's report, `cper_print_mem` and
-- `cper_dimm_err_location` of drivers/firmware/efi/cper.c, of version 6.1.192.
use Rattle.std.specs.Prelude.{ℕ, ◌+◌, ◌*◌, ◌-◌, ◌^◌, ◌==◌, ◌&&◌, ◌||◌, Bool, List, [], ◌∷◌, codes, drop, nat_eq, nat_lt, take, unwrap_or, is_some, Option, None, Some, if◌then◌else◌}
use Rattle.std.specs.List.{starts_with}
use Rattle.std.specs.Option.{option_map, option_map_or, option_or}
use Rattle.ras_klog.specs.Reading.{provided, read_then}
use Rattle.ras_script.specs.Number.{decimal_of, hexadecimal_of}
use Rattle.bank_lines.specs.LogHeads.{after, is_own, mark_place, up_to, without_spaces}
use Rattle.bank_lines.specs.Parts.{value_after}
use Rattle.block_lines.specs.LogLines.{error_mark, without_return}
use Rattle.event_lines.specs.DimmTold.{label_told}
use Rattle.log_lines.specs.declared.log_dimm.ToldInLog.{ToldInLog}

-- ---- EDAC's line: `<n>: <k> CE[ <message>] on <label> (<location> page:0x<page> offset:0x<offset> grain:<grain> ..)`

-- the index of the last occurrence of a text in another
abbrev pub last_place : List ℕ → List ℕ → Option ℕ
last_place mark [] = None
last_place mark (b ∷ text) =
    option_or (option_map (λ place. place + 1) (last_place mark text))
    (if starts_with nat_eq (b ∷ text) mark then Some 0 else None)

abbrev pub some_address : ℕ → Option ℕ
some_address address = provided (nat_lt 0 address) (Some address)

-- the address in a page of 4,096 bytes; 0 is no address
abbrev pub address_at : ℕ → ℕ → Option ℕ
address_at page offset =
    provided (nat_lt offset 4096 && nat_lt page (2 ^ 52)) (some_address (page * 4096 + offset))

-- the address in `<page> offset:0x<offset> grain:`; a line that was cut off lacks the grain
abbrev pub page_address : List ℕ → Option ℕ
page_address text =
    read_then (hexadecimal_of (up_to 32 text)) (λ page.
    read_then (value_after (codes "offset:0x") (after 32 text)) (λ rest.
    read_then (hexadecimal_of (up_to 32 rest)) (λ offset.
    read_then (value_after (codes "grain:") (after 32 rest)) (λ grain. address_at page offset))))

-- The address and the label, from the label on. The label ends before the last ` (` that comes before the last ` page:0x`,
-- since a label may have both.
abbrev pub paged_dimm : List ℕ → Option (ℕ × List ℕ)
paged_dimm text =
    read_then (last_place (codes " page:0x") text) (λ page.
    read_then (last_place (codes " (") (take page text)) (λ end.
    option_map (λ address. (address, take end text)) (page_address (drop (page + 8) text))))

-- the text behind `<n>: <k> CE` or `<n>: <k> UE`
abbrev pub counted_text : List ℕ → Option (List ℕ)
counted_text text =
    read_then (decimal_of (2 ^ 64 - 1) (up_to 58 text)) (λ controller.
    read_then (value_after (codes " ") (after 58 text)) (λ counted.
    read_then (decimal_of (2 ^ 64 - 1) (up_to 32 counted)) (λ count.
    option_or (value_after (codes "CE") (after 32 counted)) (value_after (codes "UE") (after 32 counted)))))

abbrev pub said_dimm : List ℕ → Option (ℕ × List ℕ)
said_dimm said = read_then (label_told said) paged_dimm

-- what EDAC's line tells, given its head and the text behind `EDAC MC`
abbrev pub edac_dimm : List ℕ → List ℕ → Option (ℕ × List ℕ)
edac_dimm head text =
    provided (is_own head) (read_then (counted_text text) said_dimm)

-- ---- a firmware's report

-- the number of a report and what its line says, given the head before the first brace and the text behind it
abbrev pub own_words : List ℕ → List ℕ → Option (ℕ × List ℕ)
own_words head text =
    read_then (decimal_of (2 ^ 64 - 1) (up_to 125 text)) (λ number.
    read_then (value_after error_mark (after 125 text)) (λ words. provided (is_own head) (Some (number, words))))

-- how long a text is without the spaces at its end
abbrev pub ended : ℕ → ℕ → ℕ
ended b rest = if b == 32 && rest == 0 then 0 else rest + 1

abbrev pub end_of : List ℕ → ℕ
end_of [] = 0
end_of (b ∷ text) = ended b (end_of text)

abbrev pub trimmed : List ℕ → List ℕ
trimmed text = take (end_of text) text

-- what a report calls a DIMM, without the spaces around it: its bank, which may be empty, and its device; or `DMI handle: 0x<handle>`, if the tables don't have both
abbrev pub slot_named : List ℕ → List ℕ
slot_named text =
    let name = without_spaces (trimmed text) in unwrap_or (value_after (codes "not present. ") name) name

-- whether a line begins an error or its section
abbrev pub begins_error : List ℕ → Bool
begins_error words =
    is_some (value_after (codes " Error ") words) || is_some (value_after (codes "  section_type: ") words)

-- the address that was kept of the report with this number
abbrev pub kept_address : Option (ℕ × ℕ) → ℕ → Option ℕ
kept_address None report = None
kept_address (Some place) report = provided (place.0 == report) (Some place.1)

-- what a report's line tells
abbrev pub words_dimm : Option (ℕ × ℕ) → ℕ → List ℕ → Option (ℕ × List ℕ)
words_dimm place report words =
    read_then (value_after (codes "  DIMM location: ") words) (λ name.
    option_map (λ address. (address, slot_named name)) (kept_address place report))

-- what is kept after it: an address, up to the DIMM's name or the next error
abbrev pub unless_over : Option (ℕ × ℕ) → List ℕ → Option (ℕ × ℕ)
unless_over place words = if is_some (value_after (codes "  DIMM location: ") words) || begins_error words then None else place

abbrev pub placed : ℕ → List ℕ → Option (ℕ × ℕ)
placed report digits = option_map (λ address. (report, address)) (hexadecimal_of digits)

abbrev pub words_after : Option (ℕ × ℕ) → ℕ → List ℕ → Option (ℕ × ℕ)
words_after place report words =
    option_map_or (λ digits. placed report digits) (value_after (codes "  physical_address: 0x") words) (unless_over place words)

-- ---- a line

-- the index of EDAC's prefix before the first brace of a line
abbrev pub edac_place : List ℕ → Option ℕ
edac_place line = mark_place (codes "EDAC MC") (up_to 123 line)

abbrev pub report_dimm : ToldInLog → List ℕ → List ℕ → Option (ℕ × List ℕ)
report_dimm told head text = read_then (own_words head text) (λ said. words_dimm told.place said.0 said.1)

abbrev pub place_after : ToldInLog → List ℕ → List ℕ → Option (ℕ × ℕ)
place_after told head text = option_map_or (λ said. words_after told.place said.0 said.1) (own_words head text) told.place

abbrev pub whole_dimm : ToldInLog → List ℕ → Option (ℕ × List ℕ)
whole_dimm told line =
    option_map_or (λ place. edac_dimm (take place (up_to 123 line)) (drop (place + 7) line)) (edac_place line)
    (report_dimm told (up_to 123 line) (after 123 line))

abbrev pub whole_after : ToldInLog → List ℕ → Option (ℕ × ℕ)
whole_after told line =
    option_map_or (λ place. told.place) (edac_place line) (place_after told (up_to 123 line) (after 123 line))

-- the address and the DIMM that a line tells, given what was told before, and what is told after it
abbrev pub dimm_in_log : ToldInLog → List ℕ → Option (ℕ × List ℕ)
dimm_in_log told line = whole_dimm told (without_return line)

abbrev pub log_told_after : ToldInLog → List ℕ → ToldInLog
log_told_after told line = record { place = whole_after told (without_return line) }

-- what a line tells, if somebody listens, and what is told after it
abbrev pub told_if : Bool → ToldInLog → List ℕ → Option (ℕ × List ℕ)
told_if listening told bytes = if listening then dimm_in_log told bytes else None

abbrev pub told_after_if : Bool → ToldInLog → List ℕ → ToldInLog
told_after_if listening told bytes = if listening then log_told_after told bytes else told
