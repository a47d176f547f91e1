-- What the text of the event `non_standard_event` says: include/ras/ras_event.h, `TRACE_EVENT(non_standard_event,
-- ..)`. The event has the whole section, so nothing of the section is lost.
use Rattle.std.specs.Prelude.{ℕ, ◌+◌, ◌%◌, ◌==◌, ◌&&◌, List, [], ◌∷◌, codes, drop, length, nat_le, slice_index, Option, None, Some, unwrap_or, if◌then◌else◌}
use Rattle.std.specs.Option.{option_map}
use Rattle.uuid.specs.Text.{parsed}
use Rattle.ras_klog.specs.Reading.{provided, read_then}
use Rattle.ras_script.specs.Number.{decimal_of}
use Rattle.bank_lines.specs.LogHeads.{after, up_to}
use Rattle.bank_lines.specs.Parts.{cut_at, value_after}
use Rattle.bank_lines.specs.Trace.{last_word}
use Rattle.block_lines.specs.declared.blocks.TheConstants.{LONGEST_SECTION}
use Rattle.event_lines.specs.Flags.{hexadecimal_to}
use Rattle.event_lines.specs.declared.section_event.SectionHead.{SectionHead}

-- a severity's number in a block, by the kernel's number (include/acpi/ghes.h): none, corrected, recoverable, panic
abbrev pub cper_of_ghes : ℕ → ℕ
cper_of_ghes severity =
    if severity == 0 then 3 else if severity == 1 then 2 else if severity == 2 then 0 else 1

-- ---- parts between semicolons; the text of the unit (FRU) may have semicolons too

-- the last two of a text's parts
abbrev pub last_two : List ℕ × List ℕ → List (List ℕ) → List ℕ × List ℕ
last_two pair [] = pair
last_two pair (part ∷ parts) = last_two (pair.1, part) parts

-- what the event says besides the bytes
abbrev pub section_head_of : List ℕ → Option SectionHead
section_head_of text =
    read_then (value_after (codes "severity: ") text) (λ severity.
    read_then (value_after (codes " sec type:") (after 59 severity)) (λ kind.
    read_then (value_after (codes " FRU: ") (after 59 kind)) (λ unit.
    read_then (value_after (codes " data len:") (last_two ([], []) (cut_at 59 unit)).0) (λ size.
    read_then (parsed (up_to 59 kind)) (λ guid.
    read_then (decimal_of 3 (up_to 59 severity)) (λ number.
    read_then (decimal_of LONGEST_SECTION size) (λ count.
    Some (record { kind = guid; severity = cper_of_ghes number; size = count }))))))))

-- ---- the bytes

-- two hexadecimal digits
abbrev pub byte_of : List ℕ → Option ℕ
byte_of word = provided (length word == 2) (hexadecimal_to 255 word)

-- The text after a byte and the space after it; `text` begins with the byte and goes on. A row has 16 bytes. The
-- space after a row, so after this many bytes, may be missing.
abbrev pub behind_byte : ℕ → List ℕ → Option (List ℕ)
behind_byte count text =
    if slice_index text 2 == 32 then Some (drop 3 text) else provided (count % 16 == 0) (Some (drop 2 text))

-- the bytes of a text, after this many bytes
abbrev pub bytes_from : ℕ → List ℕ → Option (List ℕ)
bytes_from count (high ∷ low ∷ next ∷ text) =
    read_then (byte_of (high ∷ low ∷ [])) (λ b.
    option_map (λ bytes. b ∷ bytes) (
    if next == 32 then bytes_from (count + 1) text
    else if (count + 1) % 16 == 0 then bytes_from (count + 1) (next ∷ text)
    else None))
bytes_from count last = option_map (λ b. b ∷ []) (byte_of last)

-- the text after `; raw data:`
abbrev pub raw_text_of : List ℕ → List ℕ
raw_text_of line = unwrap_or (value_after (codes " raw data:") (last_word [] (cut_at 59 line))) []

-- the bytes of a section, if they can be read and are as many as the section's event says
abbrev pub section_bytes_of : SectionHead → List ℕ → Option (List ℕ)
section_bytes_of head line =
    read_then (bytes_from 0 (raw_text_of line)) (λ bytes.
    provided (length bytes == head.size && nat_le (length bytes) LONGEST_SECTION) (Some bytes))
