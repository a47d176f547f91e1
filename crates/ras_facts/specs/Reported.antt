-- The facts that firmware's records and status blocks give: an item for each section.
use Rattle.std.specs.Prelude.{ℕ, ◌==◌, List, [], ◌∷◌, map, unwrap_or, slice_index_or, Option, Some, None, Result, Ok, if◌then◌else◌}
use Rattle.std.specs.List.{range_with_len, slice_get}
use Rattle.std.specs.Option.{option_map}
use Rattle.mca_status.specs.Address.{page_of_address}
use Rattle.mca_status.specs.declared.classes.ItemClass.{ItemClass}
use Rattle.mca_status.specs.declared.classes.ItemClass.TheVariants.{Corrected, Recoverable, Fatal, Informational, Odd}
use Rattle.cper_sections.specs.Sections.{section_of}
use Rattle.cper_sections.specs.declared.sections.Section.{Section}
use Rattle.cper_sections.specs.declared.sections.Section.TheVariants.{Memory}
use Rattle.cper_sections.specs.declared.sections.SectionRefused.{SectionRefused}
use Rattle.cper_records.specs.Header.{record_id, section_count}
use Rattle.cper_records.specs.Descriptors.{section_severity, section_at}
use Rattle.apei_sources.specs.Entries.{entry_severity, entry_guid, entry_data}
use Rattle.apei_sources.specs.Blocks.{BlockParts}
use Rattle.dimm_topology.specs.Labels.{Bytes}
use Rattle.dimm_topology.specs.Owners.{owner_by_rows, section_location}
use Rattle.dimm_topology.specs.declared.row.Row.{Row}
use Rattle.ras_facts.specs.declared.name.Name.{Name}
use Rattle.ras_facts.specs.declared.name.Name.TheVariants.{Record}
use Rattle.ras_facts.specs.declared.items.Item.{Item}
use Rattle.ras_facts.specs.declared.fact.Fact.{Fact}

-- the class of a section by its severity: 0 recoverable, 1 fatal, 2 corrected, 3 informational
abbrev pub severity_class : ℕ → ItemClass
severity_class severity = slice_index_or (Recoverable ∷ Fatal ∷ Corrected ∷ Informational ∷ []) severity Odd

-- the section that was read, or why it can't be read
abbrev pub Read : Type 0
Read = Result Section SectionRefused

-- the label of the module that owns the error of a memory section, by the rows of a topology; empty for no label, as
-- for every other section
abbrev pub section_label : List Row → Read → Bytes
section_label rows (Ok (Memory section)) = unwrap_or (owner_by_rows rows section.physical (section_location section)) []
section_label rows _ = []

-- the page of a memory section's physical address
abbrev pub section_page : Read → Option ℕ
section_page (Ok (Memory section)) = option_map page_of_address section.physical
section_page _ = None

-- The item of a section of this severity. It counts for one error.
abbrev pub section_item : List Row → ℕ → Read → Item
section_item rows severity section = record {
  class = severity_class severity;
  label = section_label rows section;
  page = section_page section;
  weight = 1;
}

-- the item of a record's section by its number, with the section's own severity
abbrev pub record_item : List Row → List ℕ → ℕ → Item
record_item rows bytes i = section_item rows (section_severity bytes i) (section_at bytes i)

-- the fact of a record that was read at this time
abbrev pub record_fact : List Row → ℕ → List ℕ → Fact
record_fact rows seconds bytes = record {
  name = Record (record_id bytes);
  seconds = seconds;
  items = map (record_item rows bytes) (range_with_len 0 (section_count bytes));
}

-- the item of an entry of a status block
abbrev pub entry_item : List Row → List ℕ → Item
entry_item rows entry = section_item rows (entry_severity entry) (section_of (entry_guid entry) (entry_data entry))

-- the fact of a status block of this name that was read at this time, if its status isn't 0
abbrev pub block_fact : List Row → Name → ℕ → BlockParts → Option Fact
block_fact rows name seconds block =
    if block.status == 0 then None
    else Some (record { name = name; seconds = seconds; items = map (entry_item rows) block.entries })

-- the label of a fact's item by its number, if there is such an item
abbrev pub label_at : Fact → ℕ → Option Bytes
label_at fact i = option_map (λ (item : Item). item.label) (slice_get fact.items i)
