-- The line that sums up an account: how many names it has, the weights of its items of class CE, and how many of its
-- pages are to be soft-offlined and hard-offlined.
use Rattle.std.specs.Prelude.{ℕ, Bool, ◌==◌, List, ◌++◌, codes, decimal, length, slice_index}
use Rattle.std.specs.List.{count_by, sum_by}
use Rattle.ras_base.specs.Text.{line_with}
use Rattle.dimm_topology.specs.Labels.{Bytes}
use Rattle.mca_status.specs.Classes.{class_number}
use Rattle.mca_status.specs.declared.classes.ItemClass.{ItemClass}
use Rattle.mca_status.specs.declared.classes.ItemClass.TheVariants.{Ce}
use Rattle.page_policy.specs.declared.rows.PageRow.{PageRow}
use Rattle.page_policy.specs.declared.rows.PageState.{PageState}
use Rattle.page_policy.specs.declared.rows.PageState.TheVariants.{Soft, Hard}
use Rattle.page_policy.specs.Rows.{height}
use Rattle.ras_account.specs.Account.{State}
use Rattle.ras_account.specs.Modules.{Module}

-- the weight of a class in a module's row, and in the rows of all modules
abbrev pub weight_of_class : ItemClass → Bytes × Module → ℕ
weight_of_class class row = slice_index row.1.sums (class_number class)

abbrev pub class_total : ItemClass → List (Bytes × Module) → ℕ
class_total class modules = sum_by (weight_of_class class) modules

-- how many pages are in a state
abbrev pub is_in : PageState → ℕ × PageRow → Bool
is_in state row = height row.1.state == height state

abbrev pub pages_in : PageState → List (ℕ × PageRow) → ℕ
pages_in state pages = count_by (is_in state) pages

-- the line of the account after a number of lines
abbrev pub load_line : ℕ → State → List ℕ
load_line n account = line_with (
    codes "load n=" ++ decimal n ++ codes " names=" ++ decimal (length account.names)
    ++ codes " CE=" ++ decimal (class_total Ce account.modules)
    ++ codes " soft=" ++ decimal (pages_in Soft account.pages)
    ++ codes " hard=" ++ decimal (pages_in Hard account.pages))
