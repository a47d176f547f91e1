-- Properties of the event of a line, kind of line by kind.
use Rattle.std.proofs.Common.{◌≡◌, ℕ, Bool, true, false, if◌then◌else◌, List, take, Option, None, Some, Result, Ok, Err, refl}
use Rattle.std.specs.Option.{option_map_or}
use Rattle.ras_base.specs.Chaining.{◌>>=◌}
use Rattle.apei_sources.specs.Bert.{bert_of}
use Rattle.apei_sources.specs.Blocks.{block_of}
use Rattle.apei_sources.specs.Hest.{hest_of}
use Rattle.dimm_topology.specs.Refusals.{row_refusal}
use Rattle.dimm_topology.specs.declared.row.Row.{Row}
use Rattle.erst_interp.specs.Table.{erst_of}
use Rattle.erst_interp.specs.Walk.{is_admitted}
use Rattle.ras_facts.specs.declared.name.Name.{Name}
use Rattle.ras_facts.specs.declared.name.Name.TheVariants as names
use Rattle.ras_panic.specs.Panics.{panic_bytes}
use Rattle.ras_script.specs.declared.line.ErrorReport.{ErrorReport}
use Rattle.ras_script.specs.declared.line.ErrorReport.TheVariants.{Bank, Block, Boot}
use Rattle.ras_script.specs.declared.line.Line.{Line}
use Rattle.ras_script.specs.declared.line.Line.TheVariants as asks
use Rattle.ras_script.specs.declared.line.Table.TheVariants.{Erst, Hest}
use Rattle.ras_exit.specs.declared.reason.Reason.{Reason}
use Rattle.ras_exit.specs.declared.reason.Reason.TheVariants as reason
use Rattle.ras_events.specs.declared.event.Event.{Event}
use Rattle.ras_events.specs.declared.event.Event.TheVariants.{Counted, Polled, Saved, Settled}
use Rattle.ras_events.specs.declared.event.LineRefusal.{LineRefusal}
use Rattle.ras_events.specs.declared.event.LineRefusal.TheVariants.{Bad, NoTable}
use Rattle.ras_events.specs.declared.made.Piece.{Piece}
use Rattle.ras_events.specs.declared.settings.Settings.{Settings}
use Rattle.ras_events.specs.Events.{Lists, block_event, event_of, has_source, or_reason, panic_refusal, report_event, with_table}

-- If a property holds of every rejected line, this suffices for the property of a line's event.
abbrev pub Asks : (Result Event LineRefusal → Type 0) → Settings → Line → Type 0
Asks P settings (asks.Row row) = P (Ok Settled)
Asks P settings (asks.Table table) = P (Ok Settled)
Asks P settings (asks.Report report) = (made : List Piece) → P (Ok (Counted made))
Asks P settings (asks.Panic id bank) = (lists : Lists) → settings.driver ≡ Some lists → panic_refusal id bank ≡ None → P (Ok (Saved id (panic_bytes id bank)))
Asks P settings (asks.Poll seconds) = (lists : Lists) → settings.driver ≡ Some lists → P (Ok (Polled seconds))
Asks P settings line = P (event_of settings line)

module _ (P : Result Event LineRefusal → Type 0) (bad : (why : LineRefusal) → P (Err why)) where
  unless : {E : Type 0} (why : E → LineRefusal) (refused : Option E) (event : Result Event LineRefusal) → (refused ≡ None → P event) → P (option_map_or (λ found. Err (why found)) refused event)
  unless why None event holds = holds refl
  unless why (Some found) event holds = bad (why found)

  each : {A E : Type 0} (why : E → Reason) (read : Result A E) (next : A → Result Event LineRefusal) → ((x : A) → P (next x)) → P (or_reason why read >>= next)
  each why (Ok x) next holds = holds x
  each why (Err found) next holds = bad (Bad (why found))

  either : (b : Bool) (one other : Result Event LineRefusal) → P one → P other → P (if b then one else other)
  either true one other holds rest = holds
  either false one other holds rest = rest

  tabled : (driver : Option Lists) (event : Event) → ((lists : Lists) → driver ≡ Some lists → P (Ok event)) → P (with_table driver event)
  tabled None event holds = bad NoTable
  tabled (Some lists) event holds = holds lists refl

  module _ (counts : (made : List Piece) → P (Ok (Counted made))) where
    of-block : (rows : List Row) (name : Name) (seconds : ℕ) (bytes : List ℕ) → P (block_event rows name seconds bytes)
    of-block rows name seconds bytes = each reason.Block (block_of bytes) _ (λ block. counts _)

    of-report : (settings : Settings) (report : ErrorReport) → P (report_event settings report)
    of-report settings (Bank bank) = counts _
    of-report settings (Block boot seconds source number bytes) =
        either (has_source settings.sources source) _ (Err (Bad reason.Source))
        (of-block settings.topology (names.Block boot source number) seconds bytes) (bad (Bad reason.Source))
    of-report settings (Boot boot seconds table region) =
        each reason.Bert (bert_of table) _ (λ bert. of-block settings.topology (names.Boot boot) seconds (take bert.length region))

  pub of-line : (settings : Settings) (line : Line) → Asks P settings line → P (event_of settings line)
  of-line settings (asks.Row row) holds = unless (λ why. Bad (reason.Topology why)) (row_refusal settings.topology row) (Ok Settled) (λ none. holds)
  of-line settings (asks.Table (Hest bytes)) holds = each reason.Hest (hest_of bytes) _ (λ sources. holds)
  of-line settings (asks.Table (Erst bytes)) holds =
      each reason.Erst (erst_of bytes) _ (λ lists. either (is_admitted lists) (Ok Settled) (Err NoTable) holds (bad NoTable))
  of-line settings (asks.Report report) holds = of-report holds settings report
  of-line settings (asks.Panic id bank) holds =
      unless (λ why. Bad (reason.Panic why)) (panic_refusal id bank) (with_table settings.driver (Saved id (panic_bytes id bank)))
      (λ none. tabled settings.driver (Saved id (panic_bytes id bank)) (λ lists is. holds lists is none))
  of-line settings (asks.Poll seconds) holds = tabled settings.driver (Polled seconds) holds
  of-line settings line holds = holds
