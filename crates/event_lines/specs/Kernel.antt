-- The event `aer_event` as the kernel prints it, in versions 6.1.192 and 6.12.117: include/ras/ras_event.h, and
-- `trace_print_flags_seq` and `trace_print_array_seq` of kernel/trace/trace_output.c.
use Rattle.std.specs.Prelude.{ℕ, ◌+◌, ◌^◌, ◌<◌, ◌==◌, Bool, true, false, List, [], ◌∷◌, ◌++◌, codes, decimal, map, replicate, if◌then◌else◌, ⊤}
use Rattle.std.specs.List.{join_with_byte}
use Rattle.ras_script.specs.LineLaws.{hexadecimal}
use Rattle.bank_lines.specs.Kernel.{padded}
use Rattle.bank_lines.specs.TraceHeads.{Tracer, clock, perf}
use Rattle.event_lines.specs.Flags.{Flags, flags_of}
use Rattle.event_lines.specs.declared.aer.AerDevice.{AerDevice}
use Rattle.event_lines.specs.declared.aer.AerEvent.{AerEvent}
use Rattle.event_lines.specs.declared.aer.AerSeverity.{AerSeverity}
use Rattle.event_lines.specs.declared.aer.AerSeverity.TheVariants.{Corrected, Fatal, NonFatal}
use Rattle.event_lines.specs.declared.aer.TlpHeader.{TlpHeader}
use Rattle.event_lines.specs.declared.aer.TlpHeader.TheVariants.{Missing, Logged}

-- an event as the kernel prints it: for each row of the table whether its bit is set, and the bits without a name
pub record PrintedAer : Type 0 where
  pub device : AerDevice
  pub severity : AerSeverity
  pub set : List Bool
  pub others : ℕ
  pub header : TlpHeader

-- ---- the status

-- the rows whose bits are set
abbrev pub rows_set : List Bool → Flags → Flags
rows_set [] table = []
rows_set (is_set ∷ set) [] = []
rows_set (true ∷ set) (row ∷ table) = row ∷ rows_set set table
rows_set (false ∷ set) (row ∷ table) = rows_set set table

abbrev pub bits_sum : Flags → ℕ
bits_sum [] = 0
bits_sum (row ∷ rows) = row.1 + bits_sum rows

abbrev pub rows_of : PrintedAer → Flags
rows_of p = rows_set p.set (flags_of p.severity)

-- the event that is read
abbrev pub event_of : PrintedAer → AerEvent
event_of p = record {
  device = p.device;
  severity = p.severity;
  status = bits_sum (rows_of p) + p.others;
  header = p.header;
}

-- ---- texts

-- `0x<n>`
abbrev pub hex_word : ℕ → List ℕ
hex_word n = codes "0x" ++ hexadecimal n

abbrev pub others_words : ℕ → List (List ℕ)
others_words others = if others == 0 then [] else hex_word others ∷ []

abbrev pub flag_words : Flags → ℕ → List (List ℕ)
flag_words rows others = map (λ (row : List ℕ × ℕ). row.0) rows ++ others_words others

abbrev pub flags_text : PrintedAer → List ℕ
flags_text p = join_with_byte 124 (flag_words (rows_of p) p.others)

-- `%04x:%02x:%02x.%d`
abbrev pub device_text : AerDevice → List ℕ
device_text at =
    padded 4 at.segment ++ 58 ∷ (padded 2 at.bus ++ 58 ∷ (padded 2 at.device ++ 46 ∷ decimal at.function))

abbrev pub severity_text : AerSeverity → List ℕ
severity_text Corrected = codes "Corrected"
severity_text Fatal = codes "Fatal"
severity_text NonFatal = codes "Uncorrected, non-fatal"

abbrev pub header_text : TlpHeader → List ℕ
header_text Missing = codes "Not available"
header_text (Logged one two three four) =
    codes "{" ++ (hex_word one ++ 44 ∷ (hex_word two ++ 44 ∷ (hex_word three ++ 44 ∷ (hex_word four ++ codes "}"))))

-- `%s PCIe Bus Error: severity=%s, %s, TLP Header=%s`
abbrev pub aer_text : PrintedAer → List ℕ
aer_text p =
    device_text p.device ++ (codes " PCIe Bus Error: severity=" ++ (severity_text p.severity ++ (codes ", "
    ++ (flags_text p ++ (codes ", TLP Header=" ++ header_text p.header)))))

-- ---- a line

-- perf prints the event's system before its name
abbrev pub ras_before : Tracer → List ℕ
ras_before perf = codes "ras:"
ras_before tracer = []

-- the process, the processor and flags, a space, the clock, a colon and spaces, and perhaps the system
abbrev pub event_head : Tracer → List ℕ → ℕ → ℕ → ℕ → List ℕ
event_head tracer front seconds micros spaces =
    front ++ 32 ∷ (clock seconds micros ++ 58 ∷ 32 ∷ (replicate spaces 32 ++ ras_before tracer))

-- the events that count in each line; a memory controller's event doesn't count if another driver made it
pub data EventKind : Type 0 where
  aer_kind : EventKind
  section_kind : EventKind
  extlog_kind : EventKind

abbrev pub kind_name : EventKind → List ℕ
kind_name aer_kind = codes "aer_event:"
kind_name section_kind = codes "non_standard_event:"
kind_name extlog_kind = codes "extlog_mem_event:"

-- the line of an event, with spaces between its name and its text
abbrev pub aer_line : List ℕ → ℕ → PrintedAer → List ℕ
aer_line head spaces p = head ++ (codes "aer_event: " ++ (replicate spaces 32 ++ aer_text p))

-- ---- what is in range

pub record IsDevice (at : AerDevice) : Type 0 where
  pub segment : at.segment < 2 ^ 16
  pub bus : at.bus < 2 ^ 8
  pub device : at.device < 2 ^ 5
  pub function : at.function < 2 ^ 3

abbrev pub IsHeader : TlpHeader → Type 0
IsHeader Missing = ⊤
IsHeader (Logged one two three four) =
    (one < 2 ^ 32) × (two < 2 ^ 32) × (three < 2 ^ 32) × (four < 2 ^ 32)

-- the numbers fit their types
pub record IsEvent (event : AerEvent) : Type 0 where
  pub device : IsDevice event.device
  pub status : event.status < 2 ^ 32
  pub header : IsHeader event.header
