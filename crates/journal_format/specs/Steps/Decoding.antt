-- Which rows an account can have, and how they are read from bytes.
use Rattle.std.specs.Prelude.{◌≡◌, ℕ, ◌≤◌, false, List, length, nat_eq, Ok}
use Rattle.std.specs.List.{IsDistinct}
use Rattle.std.specs.Map.{keys_of}
use Rattle.dimm_topology.specs.Labels.{Bytes, same_label}
use Rattle.page_policy.specs.declared.rows.PageRow.{PageRow}
use Rattle.ras_facts.specs.declared.name.Name.{Name}
use Rattle.ras_facts.specs.Names.{same_name}
use Rattle.ras_account.specs.declared.limits.TheConstants.{MOST_NAMES, MOST_TOTAL}
use Rattle.ras_account.specs.Modules.{Module}
use Rattle.ras_account.specs.Account.{State, account_of, weight_in}
use Rattle.ras_account.specs.History.{empty}
use Rattle.ras_account.specs.Rows.{has_retired}
use Rattle.page_policy.specs.declared.buckets.Limit.{Limit}
use Rattle.entry_format.specs.declared.version.Version.{Version}
use Rattle.entry_format.specs.Reading.{name_at}
use Rattle.journal_format.specs.CheckpointReading.{list_at, module_at, page_row_at, floor_in}

-- Names that are few enough, none of them twice.
pub record AreNames (names : List Name) : Type 0 where
  pub few : length names ≤ MOST_NAMES
  pub once : IsDistinct same_name names

-- Rows of modules within the total weight, no label twice.
pub record AreModules (rows : List (Bytes × Module)) : Type 0 where
  pub within : weight_in rows ≤ MOST_TOTAL
  pub once : IsDistinct same_label (keys_of rows)

-- Rows of pages, no page twice.
pub record ArePages (rows : List (ℕ × PageRow)) : Type 0 where
  pub once : IsDistinct nat_eq (keys_of rows)

-- The names, the rows and the floor of an account are in the bytes after the numbers at the front, which give this
-- floor.
pub record Holds (version : Version) (front : ℕ) (bytes : List ℕ) (a : State) : Type 0 where
  pub after_names : List ℕ
  pub names_are : list_at name_at bytes ≡ Ok (a.names, after_names)
  pub after_modules : List ℕ
  pub modules_are : list_at (module_at version) after_names ≡ Ok (a.modules, after_modules)
  pub after_pages : List ℕ
  pub pages_are : list_at page_row_at after_modules ≡ Ok (a.pages, after_pages)
  pub floor_is : floor_in version front after_pages ≡ Ok a.floor

-- An account with its floor can have these names and rows.
pub record AreTaken (a : State) : Type 0 where
  pub names : AreNames a.names
  pub modules : AreModules a.modules
  pub pages : ArePages a.pages
  pub kept : has_retired a.floor a.names ≡ false

-- an account with these numbers of a checkpoint's front, without names and rows
abbrev pub account_with : Limit → Limit → ℕ → State
account_with limit module_limit entries = record (account_of empty) { limit = limit; module_limit = module_limit; entries = entries }

-- an account with the names, the rows, the total and the floor of another
abbrev pub with_rows_of : State → State → State
with_rows_of a other = record a {
  names = other.names;
  floor = other.floor;
  total = other.total;
  modules = other.modules;
  pages = other.pages;
}
