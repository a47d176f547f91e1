-- Which items and facts are valid: each number fits its field, so the journal can store them.
use Rattle.std.specs.Prelude.{ℕ, ◌<◌, ◌≤◌, ◌^◌, length, All, IfSome, IsTrue}
use Rattle.dimm_topology.specs.Labels.{is_label_or_none}
use Rattle.ras_facts.specs.declared.name.Name.{Name}
use Rattle.ras_facts.specs.declared.name.Name.TheVariants.{Bank, Record, Block, Boot}
use Rattle.ras_facts.specs.declared.items.Item.{Item}
use Rattle.ras_facts.specs.declared.items.TheConstants.{MOST_ITEMS, MOST_WEIGHT, PAGES}
use Rattle.ras_facts.specs.declared.fact.Fact.{Fact}

-- A page is the number of one of the pages of 4,096 bytes that 64 bits address.
abbrev pub IsPage : ℕ → Type 0
IsPage page = page < PAGES

-- An item counts for 1 to 32,767 errors, and its label is valid or empty.
pub record IsValidItem (item : Item) : Type 0 where
  pub label : IsTrue (is_label_or_none item.label)
  pub page : IfSome item.page IsPage
  pub some : 1 ≤ item.weight
  pub weight : item.weight ≤ MOST_WEIGHT

-- Each number of a name fits its field.
abbrev pub IsValidName : Name → Type 0
IsValidName (Bank boot cpu bank tsc) = (boot < 2 ^ 64) × (cpu < 2 ^ 16) × (bank < 2 ^ 8) × (tsc < 2 ^ 64)
IsValidName (Record id) = id < 2 ^ 64
IsValidName (Block boot source number) = (boot < 2 ^ 64) × (source < 2 ^ 16) × (number < 2 ^ 64)
IsValidName (Boot boot) = boot < 2 ^ 64

-- A fact has at most 65,535 items, each of them valid.
pub record IsValidFact (fact : Fact) : Type 0 where
  pub name : IsValidName fact.name
  pub seconds : fact.seconds < 2 ^ 64
  pub count : length fact.items ≤ MOST_ITEMS
  pub items : All IsValidItem fact.items
