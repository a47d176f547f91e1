-- The parts of an account as contracts see them, each with what is reserved in it.
use Rattle.std.specs.Prelude.{◌≡◌, ℕ, ◌+◌, ◌*◌, ◌≤◌, IfSome, length, Bool, if◌then◌else◌, List, ◌++◌, take, drop}
use Rattle.std.specs.List.{list_any, flat_map, AllByRecursion}
use Rattle.mca_status.specs.declared.classes.TheConstants.{CLASS_COUNT}
use Rattle.page_policy.specs.declared.buckets.TheConstants.{MOST_COUNT}
use Rattle.std.specs.Map.{keys_of}
use Rattle.dimm_topology.specs.Labels.{Bytes, same_label}
use Rattle.ras_facts.specs.declared.name.Name.{Name}
use Rattle.entry_format.specs.Spelling.{name_bytes}
use Rattle.ras_account.specs.declared.modules.ModuleRow.{ModuleRow}
use Rattle.ras_account.specs.Sightings.{Sighting, label_of}
use Rattle.ras_account.specs.Modules.{Module}
use Rattle.ras_account.specs.Continued.{modules_after}
use Rattle.ras_account.specs.Rows.{row_of}

-- counted names, and reserved names
pub record NameList : Type 0 where
  pub held : List Name
  pub waiting : List Name

-- rows of modules, and labels for which a row is reserved
pub record ModuleList : Type 0 where
  pub rows : List (Bytes × Module)
  pub waiting : List Bytes

-- Bytes spell the names that have rows, with memory for 20 bytes of each name, reserved names included.
pub record AreSpelled {R : Type 0} (rows : List (Name × R)) (waiting : List Name) (bytes : List ℕ) (memory : ℕ) : Type 0 where
  pub spelled : bytes ≡ flat_map name_bytes (keys_of rows)
  pub room : 20 * (length rows + length waiting) ≤ memory

-- all names, and all labels
abbrev pub all_names : NameList → List Name
all_names names = names.held ++ names.waiting

abbrev pub all_labels : ModuleList → List Bytes
all_labels modules = keys_of modules.rows ++ modules.waiting

-- Whether an item of a label can be counted: the label has a row, or is the first reserved label.
abbrev pub is_next_label : ModuleList → Bytes → Bool
is_next_label modules label = list_any (same_label label) (keys_of modules.rows ++ take 1 modules.waiting)

-- The rows after an item is counted: a reserved label has a row now, and the other labels are still reserved.
abbrev pub with_sighting : ModuleList → Sighting → ModuleList
with_sighting modules s = record {
  rows = modules_after modules.rows s;
  waiting = if list_any (same_label (label_of s)) (keys_of modules.rows) then modules.waiting else drop 1 modules.waiting;
}

-- an entry of the table as contracts see it
abbrev pub entry_of : Bytes × ModuleRow → Bytes × Module
entry_of e = (e.0, (row_of e.1).1)

-- A row can count more items: it has ten sums, and at most the most errors in its bucket.
pub record IsCounting (row : ModuleRow) : Type 0 where
  pub ten : length row.sums ≡ CLASS_COUNT
  pub small : IfSome row.bucket (λ bucket. bucket.count ≤ MOST_COUNT)

-- An entry of the table: its row has the label that is its key, and can count more items.
pub record IsModule (e : Bytes × ModuleRow) : Type 0 where
  pub label : e.1.label ≡ e.0
  pub counting : IsCounting e.1

abbrev pub AreModules : List (Bytes × ModuleRow) → Type 0
AreModules rows = AllByRecursion IsModule rows
