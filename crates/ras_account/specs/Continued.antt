-- How one more entry or upgrade marker continues an account, even an account that isn't the account of a history.
use Rattle.std.specs.Prelude.{ℕ, ◌+◌, Bool, false, ◌&&◌, ◌||◌, not, nat_lt, if◌then◌else◌, None, Some, List, [], ◌∷◌, ◌++◌, fold, map, replicate, slice_index, slice_set}
use Rattle.std.specs.Option.{option_map_or}
use Rattle.mca_status.specs.Classes.{class_number}
use Rattle.mca_status.specs.declared.classes.TheConstants.{CLASS_COUNT}
use Rattle.dimm_topology.specs.Labels.{Bytes, same_label}
use Rattle.page_policy.specs.declared.rows.PageRow.{PageRow}
use Rattle.row_tables.specs.Tables.{updated_rows}
use Rattle.page_policy.specs.Histories.{rows_after}
use Rattle.ras_facts.specs.declared.name.Name.{Name}
use Rattle.ras_facts.specs.declared.items.Item.{Item}
use Rattle.ras_facts.specs.declared.entry.Entry.{Entry}
use Rattle.ras_facts.specs.declared.entry.Entry.TheVariants.{Fact, Limit as PageLimit, Retire, ModuleLimit}
use Rattle.ras_account.specs.History.{History, empty, with_entry, with_mark, is_retired}
use Rattle.ras_account.specs.Fresh.{same_limit, is_among}
use Rattle.ras_account.specs.Sightings.{Sighting, sightings_in, label_of, report_of}
use Rattle.ras_account.specs.Modules.{Module, fills_bucket, bucket_with, trips_at}
use Rattle.ras_account.specs.Account.{State, kept_names}

-- Whether an account knows a name: the name is in the account, or its boot is retired.
abbrev pub knows : State → Name → Bool
knows a name = is_among a.names name || is_retired a.floor name

-- Whether an entry is new in an account: a fact whose name the account doesn't know, a limit that isn't in force, or a
-- retire above the floor.
abbrev pub is_fresh_in : State → Entry → Bool
is_fresh_in a (Fact fact) = not (knows a fact.name)
is_fresh_in a (PageLimit limit) = not (same_limit limit a.limit)
is_fresh_in a (Retire boot) = nat_lt a.floor boot
is_fresh_in a (ModuleLimit limit) = not (same_limit limit a.module_limit)

-- a module without items
abbrev pub no_sums : List ℕ
no_sums = replicate CLASS_COUNT 0

abbrev pub new_module : Module
new_module = record { sums = no_sums; bucket = None; replace = false }

-- the sums of a module after an item: its weight is added to the sum of its class
abbrev pub sums_after : List ℕ → Item → List ℕ
sums_after sums item =
    slice_set sums (class_number item.class) (slice_index sums (class_number item.class) + item.weight)

-- A module after an item: an item that fills the bucket is added to it, and if the bucket trips, the module is to be
-- replaced.
abbrev pub module_after : Module → Sighting → Module
module_after m s = record {
  sums = sums_after m.sums s.item;
  bucket = if fills_bucket s then Some (bucket_with m.bucket s) else m.bucket;
  replace = m.replace || (fills_bucket s && trips_at m.bucket s);
}

-- The modules after an item: the item changes the row of its label, or appends a row.
abbrev pub modules_after : List (Bytes × Module) → Sighting → List (Bytes × Module)
modules_after modules s =
    updated_rows same_label (label_of s) (module_after new_module s) (λ m. module_after m s) modules

-- The rows of pages after an item: the item changes the row of its page, if it names a page.
abbrev pub pages_after : List (ℕ × PageRow) → Sighting → List (ℕ × PageRow)
pages_after pages s = option_map_or (rows_after pages) (report_of s) pages

-- an account with one more item
abbrev pub account_after_item : State → Sighting → State
account_after_item a s = record a {
  total = a.total + s.item.weight;
  modules = modules_after a.modules s;
  pages = pages_after a.pages s;
}

-- an account with more items, in order
abbrev pub account_after_items : State → List Sighting → State
account_after_items a ss = fold account_after_item a ss

-- an account with one more new entry, except for the number of entries: a fact's name and then its items, a limit that
-- is in force from now on, or a floor below which names are dropped
abbrev pub account_after_fresh : State → Entry → State
account_after_fresh a (Fact fact) =
    account_after_items (record a { names = a.names ++ fact.name ∷ [] }) (sightings_in a.limit a.module_limit (Fact fact))
account_after_fresh a (PageLimit limit) = record a { limit = limit }
account_after_fresh a (Retire boot) = record a { names = kept_names boot a.names; floor = boot }
account_after_fresh a (ModuleLimit limit) = record a { module_limit = limit }

-- an account with one more counted entry
abbrev pub account_with_count : State → State
account_with_count a = record a { entries = a.entries + 1 }

-- an account continued by an entry: it counts the entry if it is new, and otherwise is unchanged
abbrev pub account_after : State → Entry → State
account_after a entry = if is_fresh_in a entry then account_after_fresh (account_with_count a) entry else a

-- an account continued by each entry of a list in order
abbrev pub account_after_all : State → List Entry → State
account_after_all a entries = fold account_after a entries

-- a module without a bucket, which isn't to be replaced
abbrev pub without_bucket : Module → Module
without_bucket m = record m { bucket = None; replace = false }

-- an account with one more upgrade marker: no module has a bucket, and none is to be replaced
abbrev pub account_after_mark : State → State
account_after_mark a = record a { modules = map {B = Bytes × Module} (λ row. (row.0, without_bucket row.1)) a.modules }

-- an account continued by all of a history
abbrev pub account_after_history : State → History → State
account_after_history a empty = a
account_after_history a (with_entry history entry) = account_after (account_after_history a history) entry
account_after_history a (with_mark history) = account_after_mark (account_after_history a history)
