-- A record gives a report if and only if it contains one.
use Rattle.std.proofs.Common.{◌≡◌, ◌∙◌, ℕ, ◌==◌, Bool, true, false, ◌&&◌, if◌then◌else◌, List, length, drop, [], ◌∷◌, Option, Some, None, IsSome, unwrap_or, refl, sym, ap, subst, eqb-true}
use Rattle.std.specs.List.{list_all}
use Rattle.std.specs.Option.{option_map, option_map_or, option_and_then}
use Rattle.std.specs.Str.{bytes_eq}
use Rattle.std.proofs.lemmas.Slice.Eq.{bytes_eq-Decides}
use Rattle.ras_base.specs.LittleEndian.{AreBytes}
use Rattle.ras_base.specs.Steps.LittleEndianLemmas.{AreBytes-drop, AreBytes-take}
use Rattle.mca_status.specs.Registers.{valid, uncorrected, context_corrupt, recovers_in_software, signaled, enabled, action_required}
use Rattle.mca_status.specs.Classes.{class_of_rows}
use Rattle.mca_status.proofs.RowLemmas.{class_by}
use Rattle.mca_status.specs.declared.classes.Class.{Class}
use Rattle.mca_status.specs.declared.registers.Cap.{Cap}
use Rattle.mca_status.specs.declared.registers.Status.{Status}
use Rattle.cper_sections.specs.Guids.{guid_of, x64_guid}
use Rattle.cper_records.specs.Header.{record_id, section_count}
use Rattle.cper_records.specs.Descriptors.{section_guid, section_bytes, section_length, section_offset}
use Rattle.dimm_topology.specs.declared.row.Row.{Row}
use Rattle.ras_facts.specs.declared.bank.BankReport.{BankReport}
use Rattle.ras_facts.specs.Facts.{bank_fact, bank_item, bank_name, cap_in, status_in}
use Rattle.ras_facts.specs.Reported.{record_fact}
use Rattle.ras_facts.specs.declared.name.Name.TheVariants.{Record}
use Rattle.ras_panic.specs.Panics.{report_type, saved_bytes}
use Rattle.ras_panic.specs.Reading.{report_in, is_report, is_panic, panic_report, stored_fact, stored_name}
use Rattle.ras_panic.specs.Reports.{FitsFields, HoldsReport}
use Rattle.ras_panic.proofs.ReportLemmas.{report_back, section_passes, section_back, report_fits}

-- Two tests that both pass.
both : (a b : Bool) → (a && b) ≡ true → (a ≡ true) × (b ≡ true)
both true b is = (refl, is)
both false b is = cc

all_pass : (a b c d e : Bool) → a ≡ true → b ≡ true → c ≡ true → d ≡ true → e ≡ true → (a && b && c && d && e) ≡ true
all_pass a b c d e is-a is-b is-c is-d is-e = λ k. is-a k && is-b k && is-c k && is-d k && is-e k

same_bytes : (xs ys : List ℕ) → xs ≡ ys → bytes_eq xs ys ≡ true
same_bytes xs ys same = (bytes_eq-Decides xs ys).1 same

-- A record that contains a report passes the tests.
pub held_passes : (own : List ℕ) (bank : BankReport) → FitsFields bank → HoldsReport own bank → is_panic own ≡ true
unfolding is_panic
held_passes own bank fits held =
    let back : report_in (section_bytes own 0) ≡ bank = ap report_in held.report ∙ report_back bank fits in
    all_pass (section_count own == 2) (bytes_eq (section_guid own 0) (guid_of report_type)) (is_report (section_bytes own 0))
    (bytes_eq (section_guid own 1) x64_guid) (bytes_eq (section_bytes own 1) (saved_bytes (report_in (section_bytes own 0))))
    (ap (λ (n : ℕ). n == 2) held.two)
    (same_bytes (section_guid own 0) (guid_of report_type) held.report_type)
    (ap (λ (bytes : List ℕ). is_report bytes) held.report ∙ section_passes bank fits held.valid)
    (same_bytes (section_guid own 1) x64_guid held.saved_type)
    (same_bytes (section_bytes own 1) (saved_bytes (report_in (section_bytes own 0))) (held.saved ∙ ap saved_bytes (sym back)))

-- A record that contains a report gives this report.
pub held_is_given : (own : List ℕ) (bank : BankReport) → FitsFields bank → HoldsReport own bank → panic_report own ≡ Some bank
held_is_given own bank fits held =
    let given : Option BankReport = Some (report_in (section_bytes own 0)) in
    ap (λ (test : Bool). if test then given else None) (held_passes own bank fits held)
    ∙ ap (λ (report : BankReport). Some report) (ap report_in held.report ∙ report_back bank fits)

-- A record that passes the tests contains the report of its first section.
pub passes_held : (own : List ℕ) → AreBytes own → is_panic own ≡ true → HoldsReport own (report_in (section_bytes own 0))
unfolding is_panic
passes_held own fits passes =
    let first : List ℕ = section_bytes own 0 in
    let four = both _ (bytes_eq (section_bytes own 1) (saved_bytes (report_in first))) passes in
    let three = both _ (bytes_eq (section_guid own 1) x64_guid) four.0 in
    let two = both _ (is_report first) three.0 in
    let one = both (section_count own == 2) (bytes_eq (section_guid own 0) (guid_of report_type)) two.0 in
    let told = both _ (valid (status_in (report_in first))) two.1 in
    let laid = both (length first == 72) (list_all (λ byte. byte == 0) (drop 67 first)) told.0 in
    let bytes : AreBytes first = AreBytes-take (section_length own 0) (drop (section_offset own 0) own) (AreBytes-drop (section_offset own 0) own fits) in
    record {
      two = eqb-true (section_count own) 2 one.0;
      report_type = (bytes_eq-Decides (section_guid own 0) (guid_of report_type)).0 one.1;
      report = sym (section_back first bytes (eqb-true (length first) 72 laid.0) laid.1);
      valid = told.1;
      saved_type = (bytes_eq-Decides (section_guid own 1) x64_guid).0 three.1;
      saved = (bytes_eq-Decides (section_bytes own 1) (saved_bytes (report_in first))).0 four.1;
    }

-- what a record gives
abbrev Gives : List ℕ → Option BankReport → Type 0
Gives own (Some bank) = FitsFields bank × HoldsReport own bank
Gives own None = is_panic own ≡ false

gives : (own : List ℕ) → AreBytes own → Gives own (panic_report own)
gives own fits = by (is_panic own) refl
  where
    by : (test : Bool) → is_panic own ≡ test → Gives own (if test then Some (report_in (section_bytes own 0)) else None)
    by true is =
        let bytes : AreBytes (section_bytes own 0) = AreBytes-take (section_length own 0) (drop (section_offset own 0) own) (AreBytes-drop (section_offset own 0) own fits) in
        (report_fits (section_bytes own 0) bytes, passes_held own fits is)
    by false is = is

pub given_is_held : (own : List ℕ) (bank : BankReport) → AreBytes own → panic_report own ≡ Some bank → HoldsReport own bank
given_is_held own bank fits is = (subst (Gives own) is (gives own fits)).1

-- A bank with an error has a class.
known_by : (u p r s e a : Bool) → IsSome (class_by true u p r s e a)
known_by false p r s e a = refl
known_by true true true s e a = refl
known_by true true false s e a = refl
known_by true false false s e a = refl
known_by true false true false e false = refl
known_by true false true false e true = refl
known_by true false true true false a = refl
known_by true false true true true false = refl
known_by true false true true true true = refl

class_known : (cap : Cap) (status : Status) → valid status ≡ true → IsSome (class_of_rows cap status)
class_known cap status held =
    let bits : Bool → Option Class = λ v. class_by v (uncorrected status) (context_corrupt status) (recovers_in_software cap) (signaled status) (enabled status) (action_required status) in
    let Known : Bool → Type 0 = λ v. IsSome (bits v) in
    subst Known (sym held) (known_by (uncorrected status) (context_corrupt status) (recovers_in_software cap) (signaled status) (enabled status) (action_required status))

some_is : {X Y : Type 0} (f : X → Y) (x : Option X) (other : Y) → IsSome x → Some (unwrap_or (option_map f x) other) ≡ option_map f x
some_is f (Some x) other is = refl
some_is f None other is = cc

-- The fact of a record that contains a report is the bank's fact.
pub fact_of_held : (rows : List Row) (seconds : ℕ) (own : List ℕ) (bank : BankReport) → FitsFields bank → HoldsReport own bank
    → Some (stored_fact rows seconds own) ≡ bank_fact bank rows
fact_of_held rows seconds own bank fits held =
    ap (λ (report : Option BankReport). Some (unwrap_or (option_and_then (λ (told : BankReport). bank_fact told rows) report) (record_fact rows seconds own))) (held_is_given own bank fits held)
    ∙ some_is (λ (class : Class). record { name = bank_name bank; seconds = bank.seconds; items = bank_item bank rows class ∷ [] }) (class_of_rows (cap_in bank) (status_in bank)) (record_fact rows seconds own)
    (class_known (cap_in bank) (status_in bank) held.valid)

-- The fact of every other record is the fact of its sections.
pub fact_of_ordinary : (rows : List Row) (seconds : ℕ) (own : List ℕ) → AreBytes own
    → ((bank : BankReport) → FitsFields bank → HoldsReport own bank → ⊥) → stored_fact rows seconds own ≡ record_fact rows seconds own
fact_of_ordinary rows seconds own fits none = by (panic_report own) (gives own fits)
  where
    by : (given : Option BankReport) → Gives own given
        → unwrap_or (option_and_then (λ (told : BankReport). bank_fact told rows) given) (record_fact rows seconds own) ≡ record_fact rows seconds own
    by (Some bank) held = absurd (none bank held.0 held.1)
    by None held = refl

-- The fact of a stored record has the record's name.
panic_valid : (own : List ℕ) → is_panic own ≡ true → valid (status_in (report_in (section_bytes own 0))) ≡ true
unfolding is_panic
panic_valid own passes =
    let four = both _ (bytes_eq (section_bytes own 1) (saved_bytes (report_in (section_bytes own 0)))) passes in
    let three = both _ (bytes_eq (section_guid own 1) x64_guid) four.0 in
    let two = both _ (is_report (section_bytes own 0)) three.0 in
    (both _ (valid (status_in (report_in (section_bytes own 0)))) two.1).1

pub fact_is_named : (rows : List Row) (seconds : ℕ) (own : List ℕ) → (stored_fact rows seconds own).name ≡ stored_name own
fact_is_named rows seconds own = by (is_panic own) refl
  where
    bank : BankReport
    bank = report_in (section_bytes own 0)

    named : (class : Option Class) → IsSome class
        → (unwrap_or (option_map (λ (c : Class). record { name = bank_name bank; seconds = bank.seconds; items = bank_item bank rows c ∷ [] }) class) (record_fact rows seconds own)).name ≡ bank_name bank
    named (Some class) is = refl
    named None is = cc

    by : (test : Bool) → is_panic own ≡ test
        → (unwrap_or (option_and_then (λ (told : BankReport). bank_fact told rows) (if test then Some bank else None)) (record_fact rows seconds own)).name
        ≡ option_map_or bank_name (if test then Some bank else None) (Record (record_id own))
    by true is = named (class_of_rows (cap_in bank) (status_in bank)) (class_known (cap_in bank) (status_in bank) (panic_valid own is))
    by false is = refl
