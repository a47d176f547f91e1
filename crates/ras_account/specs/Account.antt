-- What the account of a history is. Each of its parts depends only on the new entries, and each row only on its own
-- items: the sums of a module are sums over the items with its label, its bucket runs along its own corrected errors
-- since the last upgrade marker, and the row of a page runs one bucket along the items that name the page.
use Rattle.std.specs.Prelude.{◌≡◌, ℕ, Bool, not, List, [], ◌∷◌, map, filter, length, sum, Contains}
use Rattle.std.specs.Bool.{IsFalse}
use Rattle.std.specs.List.{sum_by, list_any}
use Rattle.mca_status.specs.declared.classes.ItemClass.{ItemClass}
use Rattle.dimm_topology.specs.Labels.{Bytes, same_label}
use Rattle.page_policy.specs.declared.buckets.Limit.{Limit}
use Rattle.page_policy.specs.declared.rows.PageRow.{PageRow}
use Rattle.page_policy.specs.Rows.{PageReport}
use Rattle.row_tables.specs.Tables.{distinct_keys}
use Rattle.page_policy.specs.Histories.{page_rows_of, page_history as page_history_of}
use Rattle.ras_facts.specs.declared.name.Name.{Name}
use Rattle.ras_facts.specs.declared.entry.Entry.{Entry}
use Rattle.ras_facts.specs.declared.entry.Entry.TheVariants.{Fact}
use Rattle.ras_account.specs.History.{History, with_entry, names_in, limit_after, module_limit_after, floor_after, is_retired}
use Rattle.ras_account.specs.Fresh.{fresh_entries}
use Rattle.ras_account.specs.Sightings.{Sighting, sightings, sightings_since_mark, label_of, sighting_weight, reports_of}
use Rattle.ras_account.specs.Modules.{Module, class_weight, is_labeled, errors_of, module_by_items}

-- the names of the facts among entries, in order
abbrev pub names_of : List Entry → List Name
names_of [] = []
names_of (Fact fact ∷ entries) = fact.name ∷ names_of entries
names_of (other ∷ entries) = names_of entries

-- the names of a list whose boots aren't retired
abbrev pub kept_names : ℕ → List Name → List Name
kept_names floor names = filter (λ name. not (is_retired floor name)) names

-- the items of a history's new entries that have a label, in order
abbrev pub module_items : History → Bytes → List Sighting
module_items history label = filter (is_labeled label) (sightings history)

-- the items of a label that count towards the replacement of its module: the corrected errors since the last upgrade
-- marker, each with its time and the limit for modules in force at that time
abbrev pub module_errors : History → Bytes → List Sighting
module_errors history label = errors_of label (sightings_since_mark history)

-- the weights of a label's items of a class, together
abbrev pub module_count : History → Bytes → ItemClass → ℕ
module_count history label class = class_weight (module_items history label) class

-- the items of a history's new entries that name a page, in order, each with its time and the limit for pages in force
-- at that time
abbrev pub page_history : History → ℕ → List PageReport
page_history history page = page_history_of (reports_of (sightings history)) page

-- the modules that all items and those since the last upgrade marker give: each label in first-seen order
abbrev pub modules_of : List Sighting → List Sighting → List (Bytes × Module)
modules_of all since_mark =
    map {B = Bytes × Module} (λ label. (label, module_by_items all since_mark label)) (distinct_keys same_label (map label_of all))

-- the account: what is counted of all reports
pub record State : Type 0 where
  -- the names of facts, except for retired boots
  pub names : List Name
  -- the boot below which all boots are retired
  pub floor : ℕ
  -- the limit in force for pages
  pub limit : Limit
  -- the limit in force for modules
  pub module_limit : Limit
  -- the number of entries
  pub entries : ℕ
  -- the weights of all items together
  pub total : ℕ
  -- the labels in first-seen order, each with its module's sums, bucket and whether it is to be replaced
  pub modules : List (Bytes × Module)
  -- the pages in first-seen order, each with its bucket and its state
  pub pages : List (ℕ × PageRow)

-- the account of a history
abbrev pub account_of : History → State
account_of history = record {
  names = kept_names (floor_after history) (names_of (fresh_entries history));
  floor = floor_after history;
  limit = limit_after history;
  module_limit = module_limit_after history;
  entries = length (fresh_entries history);
  total = sum_by sighting_weight (sightings history);
  modules = modules_of (sightings history) (sightings_since_mark history);
  pages = page_rows_of (reports_of (sightings history));
}

-- the sum of all weights in the rows of modules
abbrev pub weight_in : List (Bytes × Module) → ℕ
weight_in modules = sum_by (λ row. sum row.1.sums) modules

-- This account is the account of a history.
abbrev pub IsAccountOf : History → State → Type 0
IsAccountOf history a = a ≡ account_of history

-- Two histories have the same account.
abbrev pub AreSame : History → History → Type 0
AreSame one other = account_of one ≡ account_of other

-- An entry after a history changes nothing.
abbrev pub ChangesNothing : History → Entry → Type 0
ChangesNothing history entry = AreSame (with_entry history entry) history

-- A name of one of the history's facts whose boot isn't retired.
abbrev pub IsKeptAfter : History → Name → Type 0
IsKeptAfter history name =
    Contains (names_in history) name × IsFalse (is_retired (floor_after history) name)

-- Whether an item of the history has this label.
abbrev pub is_seen : History → Bytes → Bool
is_seen history label = list_any (same_label label) (map label_of (sightings history))

-- the row of the module with this label
abbrev pub module_of : History → Bytes → Module
module_of history label =
    module_by_items (sightings history) (sightings_since_mark history) label
