-- An account rebuilt from its numbers and rows, which are read one after the other.
use Rattle.std.specs.Prelude.{ℕ, ◌+◌, Bool, nat_eq, List, [], ◌∷◌, ◌++◌, fold, sum}
use Rattle.std.specs.List.{list_any}
use Rattle.dimm_topology.specs.Labels.{Bytes, same_label}
use Rattle.row_tables.specs.Held.{is_held}
use Rattle.page_policy.specs.declared.rows.PageRow.{PageRow}
use Rattle.ras_facts.specs.declared.name.Name.{Name}
use Rattle.ras_account.specs.declared.modules.ModuleRow.{ModuleRow}
use Rattle.ras_account.specs.History.{empty, is_retired}
use Rattle.ras_account.specs.Modules.{Module}
use Rattle.ras_account.specs.Account.{State, account_of}

-- A module's row as contracts see it: its label, and its sums, bucket and whether it is to be replaced.
abbrev pub row_of : ModuleRow → Bytes × Module
row_of row = (row.label, record { sums = row.sums; bucket = row.bucket; replace = row.replace })

-- Whether one of the names is of a boot below a floor.
abbrev pub has_retired : ℕ → List Name → Bool
has_retired floor names = list_any (is_retired floor) names

-- Whether an account has a row for a label, or for a page.
abbrev pub has_module : State → Bytes → Bool
has_module a label = is_held same_label a.modules label

abbrev pub has_page : State → ℕ → Bool
has_page a page = is_held nat_eq a.pages page

-- An account with one more name, module or page. A module adds its weight.
abbrev pub with_name : State → Name → State
with_name a name = record a { names = a.names ++ name ∷ [] }

abbrev pub with_module : State → Bytes × Module → State
with_module a row = record a { modules = a.modules ++ row ∷ []; total = a.total + sum row.1.sums }

abbrev pub with_page : State → ℕ × PageRow → State
with_page a row = record a { pages = a.pages ++ row ∷ [] }

-- the empty account with the limits, the floor and the number of entries of another
abbrev pub base_of : State → State
base_of a = record (account_of empty) { limit = a.limit; module_limit = a.module_limit; floor = a.floor; entries = a.entries }

-- the empty account with these numbers, and with each row of the account, in order
abbrev pub account_from_rows : State → State
account_from_rows a = fold with_page (fold with_module (fold with_name (base_of a) a.names) a.modules) a.pages
