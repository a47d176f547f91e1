-- How bytes with a record at their front are read.
use Rattle.std.proofs.Common.{◌≡◌, ℕ, ◌==◌, ◌-◌, ◌∙◌, Bool, true, false, List, ◌++◌, length, replicate, Result, Ok, Err, if◌then◌else◌, refl, sym, ap, subst, arith, append_assoc}
use Rattle.std.proofs.lemmas.Bool.Decides.{nat_tests}
use Rattle.cper_records.specs.Header.{record_id}
use Rattle.cper_records.specs.Readable.{own_under, filled}
use Rattle.cper_records.specs.Records.{record_of}
use Rattle.cper_records.specs.declared.refusals.RecordRefused.{RecordRefused}
use Rattle.cper_records.specs.declared.refusals.Unreadable.{Unreadable}
use Rattle.cper_records.specs.declared.refusals.Unreadable.TheVariants.{OtherId}
use Rattle.cper_records.proofs.LaidLemmas.{IsAnswer, answered, reads}
use Rattle.cper_records.proofs.laws.stored_records_are_read.Goals as goal

-- A record read under an identifier is the record that was read, and has this identifier.
abbrev Reads : ℕ → Result (List ℕ) RecordRefused → List ℕ → Type 0
Reads id read own = (read ≡ Ok own) × (record_id own ≡ id)

abbrev own_if : ℕ → List ℕ → Bool → Result (List ℕ) Unreadable
own_if id there is_own = if is_own then Ok there else Err OtherId

if_own : (id : ℕ) (there own : List ℕ) (b : Bool) → (record_id there == id) ≡ b → own_if id there b ≡ Ok own
    → Reads id (Ok there) own
if_own id there own false tested is = cc
if_own id there own true tested is =
    let same : there ≡ own = cc in
    (ap Ok same, ap record_id (sym same) ∙ grind (arith, nat_tests))

was_read : (id : ℕ) (read : Result (List ℕ) RecordRefused) (own : List ℕ) → own_under id read ≡ Ok own → Reads id read own
was_read id (Err why) own is = cc
was_read id (Ok there) own is = if_own id there own (record_id there == id) refl is

own_read : (id : ℕ) (own : List ℕ) → record_id own ≡ id → own_under id (Ok own) ≡ Ok own
own_read id own is =
    let same : (record_id own == id) ≡ true = grind (arith, nat_tests) in
    rw same refl

pub returns-clause-read : goal.returns-clause-read
returns-clause-read c = λ id buffer own. (
  λ is.
      let found = was_read id (record_of buffer) own is in
      let laid = subst (IsAnswer buffer) found.0 (answered buffer) in
      (laid.0, laid.1, found.1),
  λ is. ap (own_under id) (reads buffer own is.0 is.1) ∙ own_read id own is.2,
)

pub returns-clause-filled : goal.returns-clause-filled
returns-clause-filled c = λ bytes own is.
    let laid = subst (IsAnswer bytes) is (answered bytes) in
    let zeros : List ℕ = replicate (16384 - length bytes) 0 in
    reads (filled bytes) own (laid.0.0 ++ zeros, sym (append_assoc own laid.0.0 zeros) ∙ ap (λ xs. xs ++ zeros) laid.0.1) laid.1
