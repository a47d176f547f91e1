-- What a run makes of the lines that are printed for findings.
use Rattle.std.proofs.Common.{◌≡◌, ℕ, ◌+◌, List, [], ◌∷◌, ◌++◌, None, Some, Option, Result, Ok, refl, sym, ap, subst, ◌∙◌, length, map}
use Rattle.std.specs.Prelude.{filter}
use Rattle.std.specs.List.{cons_option, enumerate_from, filter_map}
use Rattle.std.specs.Option.{option_map}
use Rattle.bank_lines.specs.Texts.{asks_in}
use Rattle.dimm_topology.specs.declared.row.Row.{Row}
use Rattle.erst_store.specs.Store.{Stored}
use Rattle.ras_account.specs.Continued.{account_after_all}
use Rattle.ras_facts.specs.Facts.{bank_fact}
use Rattle.ras_facts.specs.declared.bank.BankReport.{BankReport}
use Rattle.ras_facts.specs.declared.entry.Entry.{Entry}
use Rattle.ras_facts.specs.declared.entry.Entry.TheVariants.{Fact}
use Rattle.ras_facts.specs.declared.fact.Fact.{Fact as FactOf}
use Rattle.ras_script.specs.Line.{is_asking, line_of}
use Rattle.ras_script.specs.Lines.{script_lines}
use Rattle.ras_script.specs.declared.line.Line.{Line}
use Rattle.ras_script.specs.declared.line.Line.TheVariants as asks
use Rattle.ras_script.specs.declared.line.LineRefused.{LineRefused}
use Rattle.ras_facts.specs.Reports.{bank_report}
use Rattle.ras_facts.specs.declared.details.Detail.TheVariants as detail
use Rattle.ras_events.specs.Making.{entries_in}
use Rattle.ras_events.specs.Events.{counts_report}
use Rattle.ras_events.specs.Described.{rows_told}
use Rattle.ras_run.specs.Sites.{Site, Start, first_site}
use Rattle.ras_run.specs.Places.{entries_at, places_from, reports, site_after, site_at}
use Rattle.ras_events.specs.Deeds.{made_in}
use Rattle.ras_run.proofs.PlaceLemmas.{site-settings}
use Rattle.ras_daemon.specs.Script.{events_of, is_event, reads_in, reads_of}
use Rattle.ras_events.specs.declared.settings.Settings.{Settings}
use Rattle.ras_daemon.specs.Feeding.{IsFed, asked_by, asks_bank, bank_entries}
use Rattle.ras_daemon.specs.Headline.{account_with}
use Rattle.ras_daemon.specs.Runs.{IsTakenWhole, event_count}
use Rattle.ras_daemon.proofs.PlaceLemmas.{reads-append, reads_behind}
use Rattle.ras_daemon.proofs.RunLawLemmas.{reported-whole, reports-append, taken-events}

-- ---- the events

-- an event is a line that asks for something, whatever its place
asked-along : (site : Site) (k : ℕ) (reads : List (Result Line LineRefused)) → asked_by (filter is_event (places_from site (enumerate_from k reads))) ≡ filter is_asking reads
asked-along site k [] = refl
asked-along site k (Ok asks.Nothing ∷ reads) = asked-along (site_after site (k, Ok asks.Nothing)) (k + 1) reads
asked-along site k (read ∷ reads) = ap (λ (others : List (Result Line LineRefused)). read ∷ others) (asked-along (site_after site (k, read)) (k + 1) reads)

pub taken-asks : (start : Start) (script : List ℕ) → IsTakenWhole start script → asked_by (events_of start script) ≡ asks_in (script_lines script).whole
taken-asks start script taken = ap asked_by (taken-events start script taken) ∙ asked-along (first_site start) 1 (map line_of (script_lines script).whole)

-- ---- what the lines report

-- a bank's report is one entry, by the machine description, if the bank holds an error
bank-report : (rows : List Row) (store : List Stored) (bank : BankReport) (banks : List BankReport)
    → entries_in (made_in rows store (Ok (counts_report (bank_report bank rows)))) ++ bank_entries rows banks ≡ bank_entries rows (bank ∷ banks)
bank-report rows store bank banks = by (bank_fact bank rows)
  where
    by : (fact : Option FactOf)
        → entries_in (made_in rows store (Ok (counts_report (option_map (λ f. record { fact = f; details = detail.Bank bank ∷ [] }) fact)))) ++ bank_entries rows banks
        ≡ map Fact (cons_option fact (filter_map (λ b. bank_fact b rows) banks))
    by None = refl
    by (Some fact) = refl

-- lines that ask only for the reports of banks report these by the machine description before them
banks-along : (site : Site) (k : ℕ) (reads : List (Result Line LineRefused)) (banks : List BankReport) → filter is_asking reads ≡ map asks_bank banks
    → reports site (enumerate_from k reads) ≡ bank_entries site.settings.topology banks
banks-along site k [] [] is = refl
banks-along site k [] (bank ∷ banks) is = absurd cc
banks-along site k (Ok asks.Nothing ∷ reads) banks is = banks-along (site_after site (k, Ok asks.Nothing)) (k + 1) reads banks is
banks-along site k (read ∷ reads) [] is = absurd cc
banks-along site k (read ∷ reads) (bank ∷ banks) is =
    let is_bank : read ≡ asks_bank bank = cc in
    let rest : filter is_asking reads ≡ map asks_bank banks = cc in
    subst (λ (asked : Result Line LineRefused). reports site (enumerate_from k (asked ∷ reads)) ≡ bank_entries site.settings.topology (bank ∷ banks)) (sym is_bank)
    (ap (λ (es : List Entry). entries_at (site, (k, asks_bank bank)) ++ es) (banks-along (site_after site (k, asks_bank bank)) (k + 1) reads banks rest)
    ∙ bank-report site.settings.topology site.store bank banks)

fed-reports : (start : Start) (rows : List (List ℕ)) (banks : List BankReport) (script : List ℕ) → IsFed start rows banks script
    → reports (first_site start) (reads_of script) ≡ bank_entries (rows_told (reads_in rows)) banks
fed-reports start rows banks script fed =
    let behind : Site = site_at start (reads_in rows) in
    ap (reports (first_site start)) (ap reads_in fed.lines ∙ reads-append rows fed.fed)
    ∙ reports-append (first_site start) (reads_in rows) (reads_behind rows fed.fed)
    ∙ ap (λ (es : List Entry). es ++ reports behind (reads_behind rows fed.fed)) fed.silent
    ∙ banks-along behind (1 + length rows) (map line_of fed.fed) banks fed.asks
    ∙ ap (λ (settings : Settings). bank_entries settings.topology banks) (site-settings start (reads_in rows))

pub fed-account : (start : Start) (rows : List (List ℕ)) (banks : List BankReport) (script : List ℕ) → IsFed start rows banks script → IsTakenWhole start script
    → account_with start script (event_count start script) ≡ account_after_all start.account (bank_entries (rows_told (reads_in rows)) banks)
fed-account start rows banks script fed taken = ap (account_after_all start.account) (reported-whole start script taken ∙ fed-reports start rows banks script fed)
