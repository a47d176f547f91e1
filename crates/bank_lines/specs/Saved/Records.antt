-- The line that is printed for a record.
use Rattle.std.specs.Prelude.{ℕ, ◌==◌, List, [], ◌∷◌, ◌++◌, codes, decimal, length, take, if◌then◌else◌}
use Rattle.std.specs.Option.{option_map_or}
use Rattle.ras_facts.specs.declared.bank.BankReport.{BankReport}
use Rattle.ras_script.specs.SplittingLaws.{script_of}
use Rattle.bank_lines.specs.Finding.{found_of}
use Rattle.bank_lines.specs.Naming.{named_first}
use Rattle.bank_lines.specs.Texts.{found_text}
use Rattle.bank_lines.specs.Trace.{event_report}
use Rattle.bank_lines.specs.declared.event.TraceEvent.{TraceEvent}
use Rattle.bank_lines.specs.declared.found.Finding.{Finding}
use Rattle.bank_lines.specs.declared.found.Finding.TheVariants.{Foreign, Nothing}
use Rattle.bank_lines.specs.Saved.Layout.{saved_event}
use Rattle.bank_lines.specs.declared.saved.printing.TheConstants.{MOST_BYTES}

-- The report of a record. An error without a counter gets the counter that a log or a trace gives the first error
-- with its key.
abbrev pub saved_report : ℕ → TraceEvent → BankReport
saved_report boot event = named_first (event_report boot event)

abbrev pub record_found : ℕ → TraceEvent → Finding
record_found boot event =
    if event.vendor == 0 then found_of (saved_report boot event)
    else Foreign event.vendor event.cpu event.bank

-- ---- comments

-- the comment of bytes that aren't a record
abbrev pub unread_record : ℕ → List ℕ
unread_record bytes = codes "# unread mce bytes=" ++ decimal bytes

-- the comment of a record whose bank holds no error
abbrev pub empty_record : TraceEvent → List ℕ
empty_record event = codes "# no error cpu=" ++ decimal event.cpu ++ codes " bank=" ++ decimal event.bank

-- ---- all that is printed

abbrev pub finding_text : TraceEvent → Finding → List ℕ
finding_text event Nothing = script_of (empty_record event ∷ [])
finding_text event found = found_text 0 found

abbrev pub saved_text : ℕ → TraceEvent → List ℕ
saved_text boot event = finding_text event (record_found boot event)

-- the text printed for these bytes
abbrev pub record_text : ℕ → List ℕ → List ℕ
record_text boot bytes =
    option_map_or (saved_text boot) (saved_event bytes) (script_of (unread_record (length bytes) ∷ []))

-- the text printed for an input, which is read to at most one byte past the longest record
abbrev pub record_output : ℕ → List ℕ → List ℕ
record_output boot input = record_text boot (take MOST_BYTES input)
