-- The fact of a bank's snapshot is valid, by the rows of every topology.
use Rattle.std.proofs.Common.{◌≡◌, ℕ, ◌/◌, ◌^◌, ◌<◌, ◌≤◌, Bool, true, false, ◌&&◌, ◌==◌, not, if◌then◌else◌, List, [], ◌∷◌, Option, None, Some, IfSome, refl, arith}
use Rattle.std.specs.Prelude.{IsTrue, unwrap_or}
use Rattle.std.specs.Option.{option_map}
use Rattle.std.proofs.lemmas.Bool.Decides.{nat_tests}
use Rattle.std.proofs.lemmas.List.Elements.{All-from_recursion}
use Rattle.std.proofs.lemmas.Nat.{shr_split, mod_below}
use Rattle.mca_status.specs.declared.classes.Class.{Class}
use Rattle.mca_status.specs.declared.registers.Cap.{Cap}
use Rattle.mca_status.specs.declared.registers.Misc.{Misc}
use Rattle.mca_status.specs.declared.registers.Status.{Status}
use Rattle.mca_status.specs.Address.{has_usable_address, rounded_address, usable_address_of, usable_page_of}
use Rattle.mca_status.specs.Classes.{class_of_rows}
use Rattle.mca_status.specs.Registers.{corrected_count, error_code, least_bit}
use Rattle.mca_status.specs.Weight.{count_applies, weight_of}
use Rattle.mca_codes.specs.Codes.{code_of_rows}
use Rattle.dimm_topology.specs.declared.row.Location.{Location}
use Rattle.dimm_topology.specs.declared.row.Row.{Row}
use Rattle.dimm_topology.specs.Labels.{Bytes, is_label_or_none}
use Rattle.dimm_topology.specs.Owners.{bank_location, owner_by_rows}
use Rattle.dimm_topology.specs.Topology.{IsTopology}
use Rattle.dimm_topology.proofs.NamedLemmas.{owner_labelled}
use Rattle.ras_facts.specs.Facts.{bank_fact, bank_item, bank_name, cap_in, misc_in, status_in}
use Rattle.ras_facts.specs.Valid.{IsPage, IsValidFact, IsValidItem, IsValidName}
use Rattle.ras_facts.specs.declared.bank.BankReport.{BankReport}

-- An address of 64 bits is in one of the pages.
page_within : (cap : Cap) (status : Status) (address : ℕ) (misc : Misc) → address < 2 ^ 64 → IfSome (usable_page_of cap status address misc) IsPage
page_within cap status address misc below = by (has_usable_address cap status misc)
  where
    by : (usable : Bool) → IfSome (option_map (λ a. a / 4096) (if usable then Some (rounded_address address (least_bit misc)) else None)) IsPage
    by false = tt
    by true = omega (arith, below, shr_split address (least_bit misc))

-- A report counts for 1 to 32,767 errors.
record IsInField (weight : ℕ) : Type 0 where
  pub some : 1 ≤ weight
  pub most : weight ≤ 32767

weight_within : (cap : Cap) (status : Status) → IsInField (weight_of cap status)
weight_within cap status = by (count_applies cap status) (corrected_count status == 0) refl
  where
    count : ℕ
    count = corrected_count status

    by : (applies none : Bool) → (count == 0) ≡ none → IsInField (if applies && not none then count else 1)
    by false none is = record { some = omega arith; most = omega arith }
    by true true is = record { some = omega arith; most = omega arith }
    by true false is = record {
      some = grind (arith, nat_tests, is);
      most = omega (arith, mod_below (status.0 / 2 ^ 38) (2 ^ 15) (omega arith));
    }

-- The label is an owner's, or empty.
label_within : (owner : Option Bytes) → IfSome owner (λ label. IsTrue (is_label_or_none label)) → IsTrue (is_label_or_none (unwrap_or owner []))
label_within None is = refl
label_within (Some label) is = is

fact_within : (bank : BankReport) (rows : List Row) (class : Option Class) → IsValidName (bank_name bank) → bank.seconds < 2 ^ 64 → ((of : Class) → IsValidItem (bank_item bank rows of))
    → IfSome (option_map (λ of. record { name = bank_name bank; seconds = bank.seconds; items = bank_item bank rows of ∷ [] }) class) IsValidFact
fact_within bank rows None name seconds item = tt
fact_within bank rows (Some class) name seconds item = record {
  name = name;
  seconds = seconds;
  count = omega arith;
  items = All-from_recursion IsValidItem (bank_item bank rows class ∷ []) (item class, tt);
}

pub bank_valid : (bank : BankReport) (rows : List Row) → IsValidName (bank_name bank) → bank.seconds < 2 ^ 64 → bank.addr < 2 ^ 64 → IsTopology rows
    → IfSome (bank_fact bank rows) IsValidFact
bank_valid bank rows name seconds fits topology =
    let address : Option ℕ = usable_address_of (cap_in bank) (status_in bank) bank.addr (misc_in bank) in
    let location : Option Location = bank_location rows bank.cpu bank.bank (code_of_rows (error_code (status_in bank))) in
    let owner : Option Bytes = owner_by_rows rows address location in
    let weight : IsInField (weight_of (cap_in bank) (status_in bank)) = weight_within (cap_in bank) (status_in bank) in
    fact_within bank rows (class_of_rows (cap_in bank) (status_in bank)) name seconds (λ class. record {
      label = label_within owner (owner_labelled rows address location topology);
      page = page_within (cap_in bank) (status_in bank) bank.addr (misc_in bank) fits;
      some = weight.some;
      weight = weight.most;
    })
