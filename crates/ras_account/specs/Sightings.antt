-- The items of a history's new facts, each with the time and the limits in force at the fact.
use Rattle.std.specs.Prelude.{ℕ, Option, if◌then◌else◌, List, [], ◌++◌, map, filter_map, option_map}
use Rattle.dimm_topology.specs.Labels.{Bytes}
use Rattle.page_policy.specs.declared.buckets.Limit.{Limit}
use Rattle.page_policy.specs.Rows.{PageReport, report}
use Rattle.ras_facts.specs.declared.items.Item.{Item}
use Rattle.ras_facts.specs.declared.entry.Entry.{Entry}
use Rattle.ras_facts.specs.declared.entry.Entry.TheVariants.{Fact}
use Rattle.ras_account.specs.History.{History, empty, with_entry, with_mark, limit_after, module_limit_after}
use Rattle.ras_account.specs.Fresh.{is_fresh_behind}

-- An item, with the time of its fact in seconds, and the limits for pages and modules in force at the fact.
pub record Sighting : Type 0 where
  pub item : Item
  pub seconds : ℕ
  pub limit : Limit
  pub module_limit : Limit

-- the items of a fact with this time, in order, if these limits are in force
abbrev pub sightings_of : Limit → Limit → ℕ → List Item → List Sighting
sightings_of limit module_limit seconds items =
    map (λ item. record { item = item; seconds = seconds; limit = limit; module_limit = module_limit }) items

-- The items of an entry. Only facts have items.
abbrev pub sightings_in : Limit → Limit → Entry → List Sighting
sightings_in limit module_limit (Fact fact) = sightings_of limit module_limit fact.seconds fact.items
sightings_in limit module_limit other = []

-- The items that an entry adds after a history. An entry that isn't new adds no items.
abbrev pub sightings_behind : History → Entry → List Sighting
sightings_behind history entry =
    if is_fresh_behind history entry then sightings_in (limit_after history) (module_limit_after history) entry else []

-- the items of a history's new entries, in order
abbrev pub sightings : History → List Sighting
sightings empty = []
sightings (with_entry history entry) = sightings history ++ sightings_behind history entry
sightings (with_mark history) = sightings history

-- the items after the last upgrade marker
abbrev pub sightings_since_mark : History → List Sighting
sightings_since_mark empty = []
sightings_since_mark (with_entry history entry) = sightings_since_mark history ++ sightings_behind history entry
sightings_since_mark (with_mark history) = []

-- the label and the weight of an item
abbrev pub label_of : Sighting → Bytes
label_of s = s.item.label

abbrev pub sighting_weight : Sighting → ℕ
sighting_weight s = s.item.weight

-- the item as a report of a page, if it names a page
abbrev pub report_of : Sighting → Option PageReport
report_of s = option_map (λ page. report page s.item.class s.seconds s.item.weight s.limit) s.item.page

-- the reports of pages among items, in order
abbrev pub reports_of : List Sighting → List PageReport
reports_of ss = filter_map report_of ss
