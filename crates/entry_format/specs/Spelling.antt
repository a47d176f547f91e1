-- How entries are spelled in a file. Each number of several bytes begins with its low byte.
use Rattle.std.specs.Prelude.{ℕ, List, [], ◌∷◌, ◌++◌, length, Option, None, Some}
use Rattle.std.specs.List.{flat_map}
use Rattle.ras_base.specs.LittleEndian.{u16_bytes, u64_bytes}
use Rattle.mca_status.specs.Classes.{class_number}
use Rattle.dimm_topology.specs.Labels.{Bytes}
use Rattle.page_policy.specs.declared.buckets.Limit.{Limit}
use Rattle.ras_facts.specs.declared.name.Name.{Name}
use Rattle.ras_facts.specs.declared.name.Name.TheVariants.{Bank, Record, Block, Boot}
use Rattle.ras_facts.specs.declared.items.Item.{Item}
use Rattle.ras_facts.specs.declared.fact.Fact.{Fact}
use Rattle.ras_facts.specs.declared.entry.Entry.{Entry}
use Rattle.ras_facts.specs.declared.entry.Entry.TheVariants as entry

-- a name: its kind (1 byte), and then of a bank the boot (8 bytes), the processor (2), the bank (1)
-- and the time-stamp counter (8), of a record its identifier (8), of a block the boot (8), the
-- source (2) and the number (8), of a boot its number (8)
unfoldable pub name_bytes : Name → List ℕ
name_bytes (Bank boot cpu bank tsc) =
    1 ∷ u64_bytes boot ++ u16_bytes cpu ++ bank ∷ [] ++ u64_bytes tsc
name_bytes (Record id) = 2 ∷ u64_bytes id
name_bytes (Block boot source number) = 3 ∷ u64_bytes boot ++ u16_bytes source ++ u64_bytes number
name_bytes (Boot boot) = 4 ∷ u64_bytes boot

-- a page: whether there is a page (1), and its number (8) if so
unfoldable pub page_bytes : Option ℕ → List ℕ
page_bytes None = 0 ∷ []
page_bytes (Some page) = 1 ∷ u64_bytes page

-- A label: the number of its bytes (1), and its bytes. An empty label has no bytes.
unfoldable pub label_bytes : Bytes → List ℕ
label_bytes label = length label ∷ label

-- an item: the number of its class (1), its label, its page, and its weight (2)
unfoldable pub item_bytes : Item → List ℕ
item_bytes item =
    class_number item.class ∷ label_bytes item.label ++ page_bytes item.page ++ u16_bytes item.weight

-- a fact: its name, its seconds (8), the number of its items (2), and the items in order
unfoldable pub fact_bytes : Fact → List ℕ
fact_bytes fact =
    name_bytes fact.name ++ u64_bytes fact.seconds ++ u16_bytes (length fact.items)
    ++ flat_map item_bytes fact.items

-- a limit: its capacity (8), and its period in seconds (8)
unfoldable pub limit_bytes : Limit → List ℕ
limit_bytes limit = u64_bytes limit.capacity ++ u64_bytes limit.period

-- an entry: its kind (1), and then the fact, the limit, the boot (8), or the limit of modules
unfoldable pub entry_bytes : Entry → List ℕ
entry_bytes (entry.Fact fact) = 1 ∷ fact_bytes fact
entry_bytes (entry.Limit limit) = 2 ∷ limit_bytes limit
entry_bytes (entry.Retire boot) = 3 ∷ u64_bytes boot
entry_bytes (entry.ModuleLimit limit) = 4 ∷ limit_bytes limit

-- a list of entries, one after the other
abbrev pub entries_bytes : List Entry → List ℕ
entries_bytes entries = flat_map entry_bytes entries
