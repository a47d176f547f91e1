-- What a bank, a record and a status block report: a fact, and a detail for each of its items.
use Rattle.std.specs.Prelude.{◌≡◌, ℕ, List, [], ◌∷◌, length, map, Option, Ok, Err}
use Rattle.std.specs.List.{range_with_len}
use Rattle.std.specs.Option.{option_map}
use Rattle.cper_sections.specs.Sections.{section_of}
use Rattle.cper_sections.specs.declared.sections.Section as Sections
use Rattle.cper_sections.specs.declared.sections.Section.{Section}
use Rattle.cper_records.specs.Header.{section_count}
use Rattle.cper_records.specs.Descriptors.{section_at}
use Rattle.apei_sources.specs.Entries.{entry_guid, entry_data}
use Rattle.apei_sources.specs.Blocks.{BlockParts}
use Rattle.dimm_topology.specs.Labels.{Bytes}
use Rattle.dimm_topology.specs.declared.row.Row.{Row}
use Rattle.ras_facts.specs.Facts.{bank_fact}
use Rattle.ras_facts.specs.Reported.{Read, record_fact, block_fact, section_label}
use Rattle.ras_facts.specs.declared.bank.BankReport.{BankReport}
use Rattle.ras_facts.specs.declared.items.Item.{Item}
use Rattle.ras_facts.specs.declared.name.Name.{Name}
use Rattle.ras_facts.specs.declared.details.Detail.{Detail}
use Rattle.ras_facts.specs.declared.details.Detail.TheVariants.{Bank, Memory, Processor, X64, Other}
use Rattle.ras_facts.specs.declared.details.Report.{Report}

-- A bank's report: the fact of its snapshot, and the snapshot as the detail of the fact's only item.
abbrev pub bank_report : BankReport → List Row → Option Report
bank_report bank rows = option_map (λ fact. record { fact = fact; details = Bank bank ∷ [] }) (bank_fact bank rows)

-- the detail of a section's item: the section's fields, or only its type
abbrev pub detail_of : Section → Detail
detail_of (Sections.TheVariants.Memory section) = Memory section
detail_of (Sections.TheVariants.Processor section) = Processor section
detail_of (Sections.TheVariants.X64 section) = X64 section
detail_of (Sections.TheVariants.Unknown guid) = Other guid

-- The detail of a section that was read. A section that can't be read, which no record and no block has, would have a
-- detail without a type.
abbrev pub section_detail : Read → Detail
section_detail (Ok section) = detail_of section
section_detail (Err why) = Other []

-- the details of a record's items, one for each section
abbrev pub record_details : List ℕ → List Detail
record_details own = map (λ i. section_detail (section_at own i)) (range_with_len 0 (section_count own))

-- the report of a record that was read at this time
abbrev pub record_report : List Row → ℕ → List ℕ → Report
record_report rows seconds own = record { fact = record_fact rows seconds own; details = record_details own }

-- the detail of an entry of a status block, and the details of all its entries
abbrev pub entry_detail : List ℕ → Detail
entry_detail entry = section_detail (section_of (entry_guid entry) (entry_data entry))

abbrev pub block_details : BlockParts → List Detail
block_details block = map entry_detail block.entries

-- the report of a status block of this name that was read at this time, if its status isn't 0
abbrev pub block_report : List Row → Name → ℕ → BlockParts → Option Report
block_report rows name seconds block =
    option_map (λ fact. record { fact = fact; details = block_details block }) (block_fact rows name seconds block)

-- A report has a detail for each of its items.
abbrev pub TellsOfEachItem : Report → Type 0
TellsOfEachItem report = length report.details ≡ length report.fact.items

-- the label of the module that owns the error of a detail, by the rows of a topology; the same as for the section's
-- item
abbrev pub label_of_detail : List Row → Detail → Bytes
label_of_detail rows (Memory section) = section_label rows (Ok (Sections.TheVariants.Memory section))
label_of_detail rows _ = []

-- Each item of a report has the label of its own detail.
abbrev pub OwnLabels : List Row → Report → Type 0
OwnLabels rows report =
    map (λ (item : Item). item.label) report.fact.items ≡ map (label_of_detail rows) report.details
