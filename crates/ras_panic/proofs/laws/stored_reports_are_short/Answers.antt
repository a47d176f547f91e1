-- A record has as many items as sections, and a panic record has one item.
use Rattle.std.proofs.Common.{◌≤◌, ℕ, List, [], ◌∷◌, length, Option, Some, None, unwrap_or, arith}
use Rattle.std.specs.Option.{option_map, option_and_then}
use Rattle.std.proofs.lemmas.List.FromFn.{length-map-range_with_len}
use Rattle.mca_status.specs.declared.classes.Class.{Class}
use Rattle.mca_status.specs.Classes.{class_of_rows}
use Rattle.cper_records.specs.Header.{section_count}
use Rattle.cper_records.specs.Laid.{IsRecord}
use Rattle.dimm_topology.specs.declared.row.Row.{Row}
use Rattle.ras_facts.specs.Facts.{bank_item, bank_name, cap_in, status_in}
use Rattle.ras_facts.specs.Reported.{record_item}
use Rattle.ras_facts.specs.declared.bank.BankReport.{BankReport}
use Rattle.ras_panic.specs.Reading.{panic_report}
use Rattle.ras_facts.specs.Reports.{bank_report, record_report}
use Rattle.ras_facts.specs.declared.details.Detail.TheVariants.{Bank}
use Rattle.ras_facts.specs.declared.details.Report.{Report}
use Rattle.ras_panic.proofs.laws.stored_reports_are_short.Goals as goal

record_few : (rows : List Row) (seconds : ℕ) (own : List ℕ) → IsRecord own → length own ≤ 16384 → length (record_report rows seconds own).fact.items ≤ 225
record_few rows seconds own is short =
    omega (arith, is.descriptors, length-map-range_with_len (record_item rows own) 0 (section_count own))

few : (rows : List Row) (other : Report) → length other.fact.items ≤ 225 → (bank : Option BankReport)
    → length (unwrap_or (option_and_then (λ (told : BankReport). bank_report told rows) bank) other).fact.items ≤ 225
few rows other short None = short
few rows other short (Some bank) = by (class_of_rows (cap_in bank) (status_in bank))
  where
    by : (class : Option Class)
        → length (unwrap_or (option_map (λ fact. record { fact = fact; details = Bank bank ∷ [] }) (option_map (λ (c : Class). record { name = bank_name bank; seconds = bank.seconds; items = bank_item bank rows c ∷ [] }) class)) other).fact.items ≤ 225
    by None = short
    by (Some class) = omega arith

pub returns : goal.returns
returns c = λ rows seconds own is short. few rows (record_report rows seconds own) (record_few rows seconds own is short) (panic_report own)
