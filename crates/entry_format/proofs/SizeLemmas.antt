-- The most bytes of an entry.
use Rattle.std.proofs.Common.{◌≡◌, ℕ, ◌+◌, ◌*◌, ◌≤◌, true, List, [], ◌∷◌, ◌++◌, length, Option, Some, None, arith, length-append}
use Rattle.std.specs.List.{flat_map, AllByRecursion}
use Rattle.std.proofs.lemmas.Bool.Decides.{nat_tests}
use Rattle.std.proofs.lemmas.List.Elements.{recursion_from_All}
use Rattle.ras_base.specs.LittleEndian.{u16_bytes, u64_bytes}
use Rattle.ras_base.specs.Steps.LittleEndianLemmas.{length-u16_bytes, length-u64_bytes}
use Rattle.dimm_topology.specs.Labels.{Bytes, is_label_or_none}
use Rattle.ras_facts.specs.declared.name.Name.{Name}
use Rattle.ras_facts.specs.declared.name.Name.TheVariants.{Bank, Record, Block, Boot}
use Rattle.ras_facts.specs.declared.items.Item.{Item}
use Rattle.ras_facts.specs.declared.fact.Fact.{Fact}
use Rattle.page_policy.specs.declared.buckets.Limit.{Limit}
use Rattle.ras_facts.specs.declared.entry.Entry.{Entry}
use Rattle.ras_facts.specs.declared.entry.Entry.TheVariants as entry
use Rattle.ras_facts.specs.Entries.{IsValidEntry}
use Rattle.ras_facts.specs.Valid.{IsValidItem, IsValidFact}
use Rattle.entry_format.specs.Spelling.{name_bytes, label_bytes, page_bytes, item_bytes, fact_bytes, limit_bytes, entry_bytes}

pub name_most : (name : Name) → length (name_bytes name) ≤ 20
unfolding name_bytes
name_most (Bank boot cpu bank tsc) = simp (length-append, length-u16_bytes, length-u64_bytes) (omega arith)
name_most (Record id) = omega (arith, length-u64_bytes id)
name_most (Block boot source number) = simp (length-append, length-u16_bytes, length-u64_bytes) (omega arith)
name_most (Boot boot) = omega (arith, length-u64_bytes boot)

page_most : (page : Option ℕ) → length (page_bytes page) ≤ 9
unfolding page_bytes
page_most None = omega arith
page_most (Some n) = omega (arith, length-u64_bytes n)

-- A valid or empty label has at most 32 bytes.
label_short : (label : Bytes) → is_label_or_none label ≡ true → length label ≤ 32
label_short label is = grind (arith, nat_tests, is)

item_most : (item : Item) → IsValidItem item → length (item_bytes item) ≤ 45
unfolding item_bytes label_bytes
item_most item valid =
    simp (length-append, length-u16_bytes) (omega (arith, page_most item.page, label_short item.label valid.label))

pub limit_size : (limit : Limit) → length (entry_bytes (entry.Limit limit)) ≡ 17
unfolding entry_bytes limit_bytes
limit_size limit = omega (arith, length-append (u64_bytes limit.capacity) (u64_bytes limit.period), length-u64_bytes limit.capacity, length-u64_bytes limit.period)

items_most : (items : List Item) → AllByRecursion IsValidItem items → length (flat_map item_bytes items) ≤ 45 * length items
items_most [] all = omega arith
items_most (item ∷ items) all =
    omega (arith, length-append (item_bytes item) (flat_map item_bytes items), item_most item all.0, items_most items all.1)

pub fact_entry_most : (fact : Fact) → IsValidFact fact → length (entry_bytes (entry.Fact fact)) ≤ 31 + 45 * length fact.items
unfolding entry_bytes fact_bytes
fact_entry_most fact valid =
    let name = name_bytes fact.name in
    let seconds = u64_bytes fact.seconds in
    let count = u16_bytes (length fact.items) in
    omega (
      arith,
      length-append (name ++ seconds ++ count) (flat_map item_bytes fact.items),
      length-append (name ++ seconds) count,
      length-append name seconds,
      name_most fact.name,
      length-u64_bytes fact.seconds,
      length-u16_bytes (length fact.items),
      items_most fact.items (recursion_from_All IsValidItem fact.items valid.items),
    )

-- An entry is far shorter than a link may be.
pub entry_most : (e : Entry) → IsValidEntry e → length (entry_bytes e) ≤ 3000001
unfolding entry_bytes limit_bytes
entry_most (entry.Fact fact) valid = omega (arith, fact_entry_most fact valid, valid.count)
entry_most (entry.Limit limit) valid = omega (arith, length-append (u64_bytes limit.capacity) (u64_bytes limit.period), length-u64_bytes limit.capacity, length-u64_bytes limit.period)
entry_most (entry.Retire boot) valid = omega (arith, length-u64_bytes boot)
entry_most (entry.ModuleLimit limit) valid = omega (arith, length-append (u64_bytes limit.capacity) (u64_bytes limit.period), length-u64_bytes limit.capacity, length-u64_bytes limit.period)

-- how many bytes the parts of spellings have
pub ruleset name_sizes = (length-append, length-u16_bytes, length-u64_bytes)
