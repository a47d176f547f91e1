-- The fact that a bank's snapshot gives.
use Rattle.std.specs.Prelude.{Option, List, [], ◌∷◌, unwrap_or}
use Rattle.std.specs.Option.{option_map}
use Rattle.mca_status.specs.declared.registers.Cap.{Cap}
use Rattle.mca_status.specs.declared.registers.Status.{Status}
use Rattle.mca_status.specs.declared.registers.Misc.{Misc}
use Rattle.mca_status.specs.declared.classes.Class.{Class}
use Rattle.mca_status.specs.Classes.{class_of_rows, item_class_of}
use Rattle.mca_status.specs.Registers.{error_code}
use Rattle.mca_status.specs.Address.{usable_address_of, usable_page_of}
use Rattle.mca_status.specs.Weight.{weight_of}
use Rattle.mca_codes.specs.Codes.{code_of_rows}
use Rattle.dimm_topology.specs.declared.row.Row.{Row}
use Rattle.dimm_topology.specs.Labels.{Bytes}
use Rattle.dimm_topology.specs.Owners.{owner_by_rows, bank_location}
use Rattle.ras_facts.specs.declared.name.Name.{Name}
use Rattle.ras_facts.specs.declared.name.Name.TheVariants.{Bank}
use Rattle.ras_facts.specs.declared.items.Item.{Item}
use Rattle.ras_facts.specs.declared.fact.Fact.{Fact}
use Rattle.ras_facts.specs.declared.bank.BankReport.{BankReport}

-- the registers of a snapshot
abbrev pub cap_in : BankReport → Cap
cap_in bank = record { 0 = bank.cap }

abbrev pub status_in : BankReport → Status
status_in bank = record { 0 = bank.status }

abbrev pub misc_in : BankReport → Misc
misc_in bank = record { 0 = bank.misc }

-- the name of a snapshot
abbrev pub bank_name : BankReport → Name
bank_name bank = Bank bank.boot bank.cpu bank.bank bank.tsc

-- the label of the module that owns the error of a snapshot, by the rows of a topology; empty for no label
abbrev pub bank_label : BankReport → List Row → Bytes
bank_label bank rows =
    unwrap_or
    (owner_by_rows rows (usable_address_of (cap_in bank) (status_in bank) bank.addr (misc_in bank))
    (bank_location rows bank.cpu bank.bank (code_of_rows (error_code (status_in bank)))))
    []

-- the item of an error of this class
abbrev pub bank_item : BankReport → List Row → Class → Item
bank_item bank rows class = record {
  class = item_class_of class;
  label = bank_label bank rows;
  page = usable_page_of (cap_in bank) (status_in bank) bank.addr (misc_in bank);
  weight = weight_of (cap_in bank) (status_in bank);
}

-- The fact of a snapshot, if the bank has an error. It has one item.
abbrev pub bank_fact : BankReport → List Row → Option Fact
bank_fact bank rows =
    option_map (λ class. record { name = bank_name bank; seconds = bank.seconds; items = bank_item bank rows class ∷ [] })
    (class_of_rows (cap_in bank) (status_in bank))
