-- The piece that a poll makes from the record of a panic.
use Rattle.std.proofs.Common.{◌≡◌, ◌∙◌, ℕ, ◌-◌, ◌==◌, ◌<◌, ◌^◌, true, IsTrue, List, [], ◌∷◌, length, replicate, unwrap_or, Option, None, Some, Result, Ok, refl, ap, arith}
use Rattle.std.specs.Option.{option_and_then, option_map, option_map_or}
use Rattle.std.proofs.lemmas.Bool.Decides.{nat_tests}
use Rattle.cper_records.specs.Header.{record_id}
use Rattle.cper_records.specs.Readable.{filled, own_under}
use Rattle.cper_records.specs.Records.{record_of}
use Rattle.cper_records.specs.declared.refusals.Unreadable.{Unreadable}
use Rattle.dimm_topology.specs.declared.row.Row.{Row}
use Rattle.mca_status.specs.Registers.{valid}
use Rattle.ras_facts.specs.Facts.{bank_fact, status_in}
use Rattle.ras_facts.specs.declared.bank.BankReport.{BankReport}
use Rattle.ras_facts.specs.declared.fact.Fact.{Fact}
use Rattle.ras_panic.specs.Panics.{panic_bytes}
use Rattle.ras_panic.specs.Reading.{stored_fact}
use Rattle.ras_panic.specs.Reports.{FitsFields}
use Rattle.ras_panic.proofs.HeldLemmas.{fact_of_held, held_is_given}
use Rattle.ras_panic.proofs.RecordLemmas.{is_held, is_named, is_read_first}
use Rattle.ras_facts.specs.declared.details.Detail.TheVariants as detail
use Rattle.ras_facts.specs.declared.details.Report.{Report}
use Rattle.ras_facts.specs.Reports.{bank_report, record_report}
use Rattle.ras_events.specs.declared.made.Piece.{Piece}
use Rattle.ras_events.specs.Making.{made_by_report, piece_of, piece_of_report, polled}

-- A record that has the identifier under which it is stored is read.
own_read : (id : ℕ) (own : List ℕ) → record_id own ≡ id → own_under id (Ok own) ≡ Ok own
own_read id own is =
    let same : (record_id own == id) ≡ true = grind (arith, nat_tests) in
    rw same refl

-- The report of a bank whose snapshot has an error takes precedence over another report.
in_place : (bank : BankReport) (rows : List Row) (found : Fact) (other : Report) → Some found ≡ bank_fact bank rows
    → ◌≡◌ {A = List Piece} (piece_of_report (unwrap_or (bank_report bank rows) other) ∷ []) (option_map_or made_by_report (bank_report bank rows) [])
in_place bank rows found other is = by (bank_fact bank rows) is
  where
    report_of : Fact → Report
    report_of fact = record { fact = fact; details = detail.Bank bank ∷ [] }

    by : (fact : Option Fact) → Some found ≡ fact
        → ◌≡◌ {A = List Piece} (piece_of_report (unwrap_or (option_map report_of fact) other) ∷ []) (option_map_or made_by_report (option_map report_of fact) [])
    by None none = cc
    by (Some fact) some = refl

pub panic_polled : (rows : List Row) (seconds id : ℕ) (bank : BankReport) → id < 2 ^ 64 → FitsFields bank → IsTrue (valid (status_in bank))
    → polled rows seconds (record { id = id; bytes = panic_bytes id bank } ∷ []) ≡ option_map_or made_by_report (bank_report bank rows) []
panic_polled rows seconds id bank small fits holds =
    let own : List ℕ = panic_bytes id bank in
    let held = is_held id bank holds in
    let read : own_under id (record_of (filled own)) ≡ Ok own =
    ap (own_under id) (is_read_first id bank (replicate (16384 - length own) 0)) ∙ own_read id own (is_named id bank small) in
    ap (λ (r : Result (List ℕ) Unreadable). piece_of rows seconds id r ∷ []) read
    ∙ ap (λ (b : Option BankReport). piece_of_report (unwrap_or (option_and_then (λ (told : BankReport). bank_report told rows) b) (record_report rows seconds own)) ∷ []) (held_is_given own bank fits held)
    ∙ in_place bank rows (stored_fact rows seconds own) (record_report rows seconds own) (fact_of_held rows seconds own bank fits held)
