-- How large the reports of records are.
use Rattle.std.proofs.Common.{◌≡◌, ◌∙◌, ◌≤◌, ℕ, ◌+◌, ◌==◌, Bool, true, false, List, [], ◌∷◌, ◌++◌, length, append-nil, Option, Some, None, Result, Ok, Err, All, unwrap_or, inl, sym, ap, subst, arith, length-append, if◌then◌else◌}
use Rattle.std.specs.List.{flat_map}
use Rattle.std.specs.Option.{option_map, option_and_then}
use Rattle.std.proofs.lemmas.Grind.{flat_map-append}
use Rattle.std.proofs.lemmas.List.Elements.{All-append, All-from_recursion, filter_map-append}
use Rattle.std.proofs.lemmas.List.FromFn.{length-map-range_with_len}
use Rattle.ras_base.specs.LittleEndian.{u32_bytes}
use Rattle.ras_base.specs.Steps.LittleEndianLemmas.{length-u32_bytes}
use Rattle.ras_base.specs.Prefix.{IsPrefixOf}
use Rattle.mca_status.specs.declared.classes.Class.{Class}
use Rattle.mca_status.specs.Classes.{class_of_rows}
use Rattle.cper_records.specs.Header.{record_id, section_count}
use Rattle.cper_records.specs.Laid.{IsRecord}
use Rattle.cper_records.specs.Readable.{own_under, read_under}
use Rattle.cper_records.specs.Records.{record_of}
use Rattle.cper_records.specs.declared.refusals.RecordRefused.{RecordRefused}
use Rattle.cper_records.specs.declared.refusals.Unreadable.{Unreadable}
use Rattle.cper_records.specs.declared.refusals.Unreadable.TheVariants.{OtherId}
use Rattle.cper_records.proofs.LaidLemmas.{IsAnswer, answered}
use Rattle.dimm_topology.specs.declared.row.Row.{Row}
use Rattle.ras_facts.specs.declared.bank.BankReport.{BankReport}
use Rattle.ras_facts.specs.declared.entry.Entry.{Entry}
use Rattle.ras_facts.specs.declared.entry.Entry.TheVariants.{Fact}
use Rattle.ras_facts.specs.Entries.{IsValidEntry}
use Rattle.ras_facts.specs.Facts.{bank_item, bank_name, cap_in, status_in}
use Rattle.ras_facts.specs.Reported.{record_item}
use Rattle.ras_facts.specs.Valid.{IsValidFact}
use Rattle.ras_panic.specs.Reading.{panic_report, stored_report}
use Rattle.ras_facts.specs.Reports.{bank_report, record_report}
use Rattle.ras_facts.specs.declared.details.Detail.TheVariants.{Bank}
use Rattle.ras_facts.specs.declared.details.Report.{Report}
use Rattle.entry_format.specs.Spelling.{entry_bytes}
use Rattle.entry_format.proofs.SizeLemmas.{fact_entry_most}
use Rattle.journal_format.specs.Links.{payload_bytes}
use Rattle.ras_records.specs.declared.looking.Looked.{Looked}
use Rattle.ras_events.specs.declared.made.Piece.TheVariants.{Unread}
use Rattle.ras_events.specs.Making.{entries_in, entry_in, piece_of_report}
use Rattle.ras_events.specs.Sizes.{IsFact, IsFit}
use Rattle.ras_records.specs.Steps.Reading.{ReachesTo}

-- ---- a record that was read is no longer than the buffer

abbrev own_or : List ℕ → Bool → Result (List ℕ) Unreadable
own_or there b = if b then Ok there else Err OtherId

own_if : (buffer there own : List ℕ) → IsPrefixOf there buffer × IsRecord there → (b : Bool) → own_or there b ≡ Ok own → IsPrefixOf own buffer × IsRecord own
own_if buffer there own laid false is = cc
own_if buffer there own laid true is = let same : there ≡ own = cc in subst (λ (xs : List ℕ). IsPrefixOf xs buffer × IsRecord xs) same laid

laid_in : (id : ℕ) (buffer own : List ℕ) (read : Result (List ℕ) RecordRefused) → IsAnswer buffer read → own_under id read ≡ Ok own → IsPrefixOf own buffer × IsRecord own
laid_in id buffer own (Err why) laid is = cc
laid_in id buffer own (Ok there) laid is = own_if buffer there own laid (record_id there == id) is

read_laid : (id : ℕ) (buffer own : List ℕ) → read_under id buffer ≡ Ok own → IsPrefixOf own buffer × IsRecord own
read_laid id buffer own is = laid_in id buffer own (record_of buffer) (answered buffer) is

-- ---- how many items it has

record_few : (rows : List Row) (seconds : ℕ) (own : List ℕ) → IsRecord own → length own ≤ 16384 → length (record_report rows seconds own).fact.items ≤ 225
record_few rows seconds own is short = omega (arith, is.descriptors, length-map-range_with_len (record_item rows own) 0 (section_count own))

stored_few : (rows : List Row) (other : Report) → length other.fact.items ≤ 225 → (bank : Option BankReport)
    → length (unwrap_or (option_and_then (λ (told : BankReport). bank_report told rows) bank) other).fact.items ≤ 225
stored_few rows other short None = short
stored_few rows other short (Some bank) = by (class_of_rows (cap_in bank) (status_in bank))
  where
    by : (class : Option Class)
        → length (unwrap_or (option_map (λ fact. record { fact = fact; details = Bank bank ∷ [] }) (option_map (λ (c : Class). record { name = bank_name bank; seconds = bank.seconds; items = bank_item bank rows c ∷ [] }) class)) other).fact.items ≤ 225
    by None = short
    by (Some class) = omega arith

items_few : (rows : List Row) (seconds id : ℕ) (buffer own : List ℕ) → read_under id buffer ≡ Ok own → length buffer ≤ 16384 → length (stored_report rows seconds own).fact.items ≤ 225
items_few rows seconds id buffer own is short =
    let laid = read_laid id buffer own is in
    let within : length own ≤ 16384 = omega (arith, short, ap (λ (xs : List ℕ). length xs) laid.0.1, length-append own laid.0.0) in
    stored_few rows (record_report rows seconds own) (record_few rows seconds own laid.1 within) (panic_report own)

-- ---- one record more

pub reaches_none : (looked : Looked) → looked.made ≡ [] → looked.readable.items ≡ [] → ReachesTo 0 looked
reaches_none looked made readable =
    let entries : entries_in looked.made ≡ [] = ap entries_in made in
    record {
      valid = subst (All IsValidEntry) (sym entries) (All-from_recursion IsValidEntry [] tt);
      facts = subst (All IsFact) (sym entries) (All-from_recursion IsFact [] tt);
      few = omega (arith, ap (λ (es : List Entry). length es) entries);
      short = omega (arith, ap (λ (es : List Entry). length (flat_map entry_bytes es)) entries);
      readable = omega (arith, ap (λ (ids : List ℕ). length ids) readable);
    }

pub reaches_report : (count : ℕ) (old new : Looked) (rows : List Row) (seconds id : ℕ) (buffer own : List ℕ) (report : Report)
    → read_under id buffer ≡ Ok own → length buffer ≤ 16384 → report ≡ stored_report rows seconds own → IsValidFact report.fact
    → new.made ≡ old.made ++ piece_of_report report ∷ [] → new.readable.items ≡ old.readable.items ++ id ∷ [] → ReachesTo count old → ReachesTo (count + 1) new
reaches_report count old new rows seconds id buffer own report read short is valid made readable reaches =
    let entry = Fact report.fact in
    let entries : entries_in new.made ≡ entries_in old.made ++ entry ∷ [] = ap entries_in made ∙ filter_map-append entry_in old.made (piece_of_report report ∷ []) in
    let items : length report.fact.items ≤ 225 = subst (λ (r : Report). length r.fact.items ≤ 225) (sym is) (items_few rows seconds id buffer own read short) in
    let size = fact_entry_most report.fact valid in
    record {
      valid = subst (All IsValidEntry) (sym entries) (All-append IsValidEntry (entries_in old.made) (entry ∷ []) reaches.valid (All-from_recursion IsValidEntry (entry ∷ []) (valid, tt)));
      facts = subst (All IsFact) (sym entries) (All-append IsFact (entries_in old.made) (entry ∷ []) reaches.facts (All-from_recursion IsFact (entry ∷ []) (tt, tt)));
      few = omega (arith, reaches.few, ap (λ (es : List Entry). length es) entries, length-append (entries_in old.made) (entry ∷ []));
      short = omega (
        arith,
        reaches.short,
        size,
        items,
        ap (λ (es : List Entry). length (flat_map entry_bytes es)) entries,
        ap (λ (xs : List ℕ). length xs) (flat_map-append entry_bytes (entries_in old.made) (entry ∷ [])),
        length-append (flat_map entry_bytes (entries_in old.made)) (entry_bytes entry ++ []),
        length-append (entry_bytes entry) [],
      );
      readable = omega (arith, reaches.readable, ap (λ (ids : List ℕ). length ids) readable, length-append old.readable.items (id ∷ []));
    }

pub reaches_unread : (count : ℕ) (old new : Looked) (id : ℕ) (why : Unreadable) → new.made ≡ old.made ++ Unread id why ∷ [] → new.readable ≡ old.readable → ReachesTo count old → ReachesTo (count + 1) new
reaches_unread count old new id why made readable reaches =
    let entries : entries_in new.made ≡ entries_in old.made ++ [] = ap entries_in made ∙ filter_map-append entry_in old.made (Unread id why ∷ []) in
    let same : entries_in new.made ≡ entries_in old.made = entries ∙ append-nil (entries_in old.made) in
    record {
      valid = subst (All IsValidEntry) (sym same) reaches.valid;
      facts = subst (All IsFact) (sym same) reaches.facts;
      few = omega (arith, reaches.few, ap (λ (es : List Entry). length es) same);
      short = omega (arith, reaches.short, ap (λ (es : List Entry). length (flat_map entry_bytes es)) same);
      readable = omega (arith, reaches.readable, ap (λ ids. length ids.items) readable);
    }

-- ---- what is made of a store's records can be one link

pub reaches_fits : (count : ℕ) (looked : Looked) → count ≤ 1024 → ReachesTo count looked → IsFit looked.made × (length looked.readable.items ≤ 1024)
unfolding payload_bytes
reaches_fits count looked within reaches = (
  record {
    valid = reaches.valid;
    few = omega (arith, within, reaches.few);
    short = omega (arith, within, reaches.short, length-append (u32_bytes (length (entries_in looked.made))) (flat_map entry_bytes (entries_in looked.made)), length-u32_bytes (length (entries_in looked.made)));
    alike = inl reaches.facts;
  },
  omega (arith, within, reaches.readable),
)
