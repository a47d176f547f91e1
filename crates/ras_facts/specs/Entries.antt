-- Which entries are valid, and what they contain.
use Rattle.std.specs.Prelude.{ℕ, ◌*◌, ◌<◌, ◌^◌, List, [], length}
use Rattle.page_policy.specs.Buckets.{IsLimit}
use Rattle.ras_facts.specs.declared.items.Item.{Item}
use Rattle.ras_facts.specs.declared.entry.Entry.{Entry}
use Rattle.ras_facts.specs.declared.entry.Entry.TheVariants.{Fact, Limit, Retire, ModuleLimit}
use Rattle.ras_facts.specs.Valid.{IsValidFact}

-- An entry is valid: a valid fact, a limit in its ranges, the number of a boot, or a module limit in its ranges.
abbrev pub IsValidEntry : Entry → Type 0
IsValidEntry (Fact fact) = IsValidFact fact
IsValidEntry (Limit limit) = IsLimit limit
IsValidEntry (Retire boot) = boot < 2 ^ 64
IsValidEntry (ModuleLimit limit) = IsLimit limit

-- the items of an entry
abbrev pub items_in : Entry → List Item
items_in (Fact fact) = fact.items
items_in (Limit limit) = []
items_in (Retire boot) = []
items_in (ModuleLimit limit) = []

-- the most orders that an entry can give: two for each item, one for its page and one for its module
abbrev pub most_orders : Entry → ℕ
most_orders entry = 2 * length (items_in entry)
