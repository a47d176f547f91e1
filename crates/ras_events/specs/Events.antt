-- What a line asks a run to do, given the machine description of the lines before it; or why the line is rejected.
use Rattle.std.specs.Prelude.{◌≡◌, ℕ, Bool, false, List, [], ◌∷◌, ◌++◌, take, Option, None, Some, is_some, Result, Ok, Err, if◌then◌else◌, ⊤}
use Rattle.std.specs.Option.{option_map_or}
use Rattle.ras_base.specs.Chaining.{◌>>=◌}
use Rattle.apei_sources.specs.Bert.{bert_of}
use Rattle.apei_sources.specs.Blocks.{block_of}
use Rattle.apei_sources.specs.Hest.{Sources, hest_of, type_with_id}
use Rattle.dimm_topology.specs.declared.row.Row.{Row}
use Rattle.erst_interp.specs.Table.{erst_of}
use Rattle.erst_interp.specs.Walk.{is_admitted}
use Rattle.erst_interp.specs.declared.entries.InstructionEntry.{InstructionEntry}
use Rattle.mca_status.specs.Registers.{valid}
use Rattle.ras_facts.specs.Facts.{status_in}
use Rattle.ras_facts.specs.declared.bank.BankReport.{BankReport}
use Rattle.ras_panic.specs.Panics.{is_reserved_identifier, panic_bytes}
use Rattle.ras_panic.specs.declared.making.PanicRefused.{PanicRefused}
use Rattle.ras_panic.specs.declared.making.PanicRefused.TheVariants.{ReservedId, NotValid}
use Rattle.dimm_topology.specs.Refusals.{row_refusal}
use Rattle.ras_facts.specs.declared.name.Name.{Name}
use Rattle.ras_facts.specs.declared.name.Name.TheVariants as names
use Rattle.ras_facts.specs.declared.details.Report.{Report}
use Rattle.ras_facts.specs.Reports.{bank_report, block_report}
use Rattle.ras_script.specs.declared.line.ErrorReport.{ErrorReport}
use Rattle.ras_script.specs.declared.line.ErrorReport.TheVariants.{Bank, Block, Boot}
use Rattle.ras_script.specs.declared.line.Line.{Line}
use Rattle.ras_script.specs.declared.line.Line.TheVariants as asks
use Rattle.ras_script.specs.declared.line.Table.TheVariants.{Hest, Erst}
use Rattle.ras_events.specs.declared.event.Event.{Event}
use Rattle.ras_events.specs.declared.event.Event.TheVariants.{Nothing, Settled, Counted, Put, Saved, Polled, Reopened}
use Rattle.ras_events.specs.declared.event.EventRefused.{EventRefused}
use Rattle.ras_events.specs.declared.event.EventRefused.TheVariants.{Refused, NoMemory}
use Rattle.ras_events.specs.declared.event.LineRefusal.{LineRefusal}
use Rattle.ras_events.specs.declared.event.LineRefusal.TheVariants.{Bad, NoTable}
use Rattle.ras_exit.specs.declared.reason.Reason.{Reason}
use Rattle.ras_exit.specs.declared.reason.Reason.TheVariants as reason
use Rattle.ras_events.specs.declared.settings.Settings.{Settings}
use Rattle.ras_events.specs.Making.{made_by_report, made_of_entry}

-- the machine description before the first line: empty
abbrev pub no_settings : Settings
no_settings = record { topology = []; sources = None; driver = None }

-- the value that was read, or the reason why the line is rejected
abbrev pub or_reason : {A E : Type 0} → (E → Reason) → Result A E → Result A LineRefusal
or_reason why (Ok x) = Ok x
or_reason why (Err refused) = Err (Bad (why refused))

-- the event of a row of the machine description, which the rows before it accept or reject
abbrev pub row_event : List Row → Row → Result Event LineRefusal
row_event rows row = option_map_or (λ why. Err (Bad (reason.Topology why))) (row_refusal rows row) (Ok Settled)

-- the event of a table of error sources
abbrev pub hest_event : List ℕ → Result Event LineRefusal
hest_event bytes = or_reason reason.Hest (hest_of bytes) >>= λ sources. Ok Settled

-- the instruction lists of a table that drives the record store: for each action the list of its entries
abbrev pub Lists : Type 0
Lists = List (List InstructionEntry)

-- the event of a table that drives the record store, if the table is admitted
abbrev pub erst_event : List ℕ → Result Event LineRefusal
erst_event bytes =
    or_reason reason.Erst (erst_of bytes) >>= λ lists. if is_admitted lists then Ok Settled else Err NoTable

-- an event that needs a table that drives the record store, if there is one
abbrev pub with_table : Option Lists → Event → Result Event LineRefusal
with_table None event = Err NoTable
with_table (Some lists) event = Ok event

-- why a bank's report can't be a panic record under this identifier, if so
abbrev pub panic_refusal : ℕ → BankReport → Option PanicRefused
panic_refusal id bank =
    if is_reserved_identifier id then Some ReservedId
    else (if valid (status_in bank) then None else Some NotValid)

-- the event of a bank's report that is to be saved as a record, by the table that drives the store
abbrev pub panic_event : Option Lists → ℕ → BankReport → Result Event LineRefusal
panic_event driver id bank =
    option_map_or (λ why. Err (Bad (reason.Panic why))) (panic_refusal id bank)
    (with_table driver (Saved id (panic_bytes id bank)))

-- the event of a report, or of no report
abbrev pub counts_report : Option Report → Event
counts_report report = Counted (option_map_or made_by_report report [])

-- the event of a status block, which is counted under a name and at a time
abbrev pub block_event : List Row → Name → ℕ → List ℕ → Result Event LineRefusal
block_event rows name seconds bytes =
    or_reason reason.Block (block_of bytes) >>= λ block. Ok (counts_report (block_report rows name seconds block))

-- whether a table of error sources was read, and lists this identifier
abbrev pub has_source : Option Sources → ℕ → Bool
has_source sources id = option_map_or (λ listed. is_some (type_with_id id listed)) sources false

-- The event of a report. A status block has to come from a source in the table. In a region of boot errors, the block
-- has as many bytes as its table says, or all bytes if there are fewer.
abbrev pub report_event : Settings → ErrorReport → Result Event LineRefusal
report_event settings (Bank bank) = Ok (counts_report (bank_report bank settings.topology))
report_event settings (Block boot seconds source number bytes) =
    if has_source settings.sources source
    then block_event settings.topology (names.Block boot source number) seconds bytes
    else Err (Bad reason.Source)
report_event settings (Boot boot seconds table region) =
    or_reason reason.Bert (bert_of table) >>= λ bert.
    block_event settings.topology (names.Boot boot) seconds (take bert.length region)

-- The event of a line. Whether the record store accepts a put depends only on the store.
abbrev pub event_of : Settings → Line → Result Event LineRefusal
event_of settings (asks.Row row) = row_event settings.topology row
event_of settings (asks.Table (Hest bytes)) = hest_event bytes
event_of settings (asks.Table (Erst bytes)) = erst_event bytes
event_of settings (asks.Report report) = report_event settings report
event_of settings (asks.Entry entry) = Ok (Counted (made_of_entry entry))
event_of settings (asks.Put id bytes) = Ok (Put id bytes)
event_of settings (asks.Panic id bank) = panic_event settings.driver id bank
event_of settings (asks.Poll seconds) = with_table settings.driver (Polled seconds)
event_of settings asks.Restart = Ok Reopened
event_of settings asks.Nothing = Ok Nothing

-- the settings with the sources of a table, if it can be read
abbrev pub with_sources : Settings → {E : Type 0} → Result Sources E → Settings
with_sources settings (Ok sources) = record settings { sources = Some sources }
with_sources settings (Err why) = settings

-- the lists of a table, if it can be read and is admitted, and the settings with them
abbrev pub admitted_in : {E : Type 0} → Result Lists E → Option Lists
admitted_in (Ok lists) = if is_admitted lists then Some lists else None
admitted_in (Err why) = None

abbrev pub with_driver : Settings → Option Lists → Settings
with_driver settings (Some lists) = record settings { driver = Some lists }
with_driver settings None = settings

-- the machine description after a line
abbrev pub settings_after : Settings → Line → Settings
settings_after settings (asks.Row row) = record settings { topology = settings.topology ++ row ∷ [] }
settings_after settings (asks.Table (Hest bytes)) = with_sources settings (hest_of bytes)
settings_after settings (asks.Table (Erst bytes)) = with_driver settings (admitted_in (erst_of bytes))
settings_after settings line = settings

-- A call returns this event or this refusal, unless memory runs out.
abbrev pub AnswersEvent : Result Event EventRefused → Result Event LineRefusal → Type 0
AnswersEvent (Ok event) asked = asked ≡ Ok event
AnswersEvent (Err (Refused why)) asked = asked ≡ Err why
AnswersEvent (Err NoMemory) asked = ⊤
