-- Each item has the label of its own detail.
use Rattle.std.proofs.Common.{◌≡◌, ◌∙◌, ◌==◌, ℕ, Bool, true, false, List, map, Some, None, IfSome, Ok, Err, if◌then◌else◌, refl, sym}
use Rattle.std.specs.List.{range_with_len}
use Rattle.std.specs.Option.{option_map}
use Rattle.std.proofs.lemmas.Simd.{map-map}
use Rattle.cper_sections.specs.Sections.{section_of}
use Rattle.cper_sections.specs.declared.sections.Section as Sections
use Rattle.cper_records.specs.Header.{section_count}
use Rattle.cper_records.specs.Descriptors.{section_at}
use Rattle.apei_sources.specs.Blocks.{BlockParts}
use Rattle.apei_sources.specs.Entries.{entry_guid, entry_data}
use Rattle.dimm_topology.specs.declared.row.Row.{Row}
use Rattle.ras_facts.specs.Reported.{Read, entry_item, record_item, section_label}
use Rattle.ras_facts.specs.declared.items.Item.{Item}
use Rattle.ras_facts.specs.declared.name.Name.{Name}
use Rattle.ras_facts.specs.Reports.{OwnLabels, block_details, block_report, label_of_detail, record_report, section_detail}

-- The label of a section's item is the label of its detail.
label_of_read : (rows : List Row) (read : Read) → section_label rows read ≡ label_of_detail rows (section_detail read)
label_of_read rows (Ok (Sections.TheVariants.Memory section)) = refl
label_of_read rows (Ok (Sections.TheVariants.Processor section)) = refl
label_of_read rows (Ok (Sections.TheVariants.X64 section)) = refl
label_of_read rows (Ok (Sections.TheVariants.Unknown guid)) = refl
label_of_read rows (Err why) = refl

-- The labels of a list of sections are the labels of their details.
labels_of_reads : {X : Type 0} (rows : List Row) (item : X → Item) (read : X → Read) (xs : List X)
    → ((x : X) → (item x).label ≡ section_label rows (read x))
    → map (λ (item : Item). item.label) (map item xs) ≡ map (label_of_detail rows) (map (λ x. section_detail (read x)) xs)
labels_of_reads {X} rows item read xs same =
    map-map (λ (item : Item). item.label) item xs
    ∙ (λ k. map (λ x. (same x ∙ label_of_read rows (read x)) k) xs)
    ∙ sym (map-map (label_of_detail rows) (λ x. section_detail (read x)) xs)

pub record_labels : (rows : List Row) (seconds : ℕ) (own : List ℕ) → OwnLabels rows (record_report rows seconds own)
record_labels rows seconds own =
    labels_of_reads rows (record_item rows own) (section_at own) (range_with_len 0 (section_count own)) (λ i. refl)

pub block_labels : (rows : List Row) (name : Name) (seconds : ℕ) (block : BlockParts)
    → IfSome (block_report rows name seconds block) (OwnLabels rows)
block_labels rows name seconds block = by (block.status == 0)
  where
    by : (silent : Bool)
        → IfSome (option_map (λ fact. record { fact = fact; details = block_details block })
        (if silent then None else Some (record { name = name; seconds = seconds; items = map (entry_item rows) block.entries }))) (OwnLabels rows)
    by true = tt
    by false = labels_of_reads rows (entry_item rows) (λ entry. section_of (entry_guid entry) (entry_data entry)) block.entries (λ entry. refl)
