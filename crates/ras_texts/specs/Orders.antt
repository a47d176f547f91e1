-- The lines of orders: to take pages offline, and to replace modules.
use Rattle.std.specs.Prelude.{ℕ, List, [], ◌++◌, codes, if◌then◌else◌, slice_get}
use Rattle.std.specs.List.{flat_map}
use Rattle.std.specs.Option.{option_map_or}
use Rattle.ras_base.specs.Text.{line_with}
use Rattle.dimm_topology.specs.Labels.{Bytes}
use Rattle.page_policy.specs.declared.rows.Order.{Order}
use Rattle.page_policy.specs.declared.rows.Order as Ordered
use Rattle.page_policy.specs.declared.rows.PageRow.{PageRow}
use Rattle.page_policy.specs.declared.rows.PageState.{PageState}
use Rattle.page_policy.specs.declared.rows.PageState.TheVariants.{Kept, Soft, Hard}
use Rattle.ras_account.specs.Account.{State}
use Rattle.ras_account.specs.Modules.{Module}
use Rattle.ras_texts.specs.Text.{address_text, label_text}

-- The line of a page in a state. A page that stays in use has no line.
abbrev pub state_line : ℕ → PageState → List ℕ
state_line page Kept = []
state_line page Soft = line_with (codes "order soft page=" ++ address_text page)
state_line page Hard = line_with (codes "order hard page=" ++ address_text page)

-- the line of a module that is to be replaced
abbrev pub module_line : Bytes → List ℕ
module_line label = line_with (codes "order module label=" ++ label_text label)

-- the label of the module at an index
abbrev pub module_label : List (Bytes × Module) → ℕ → Bytes
module_label modules place = option_map_or (λ (row : Bytes × Module). row.0) (slice_get modules place) []

-- the line of an order, if these modules have rows
abbrev pub order_line : List (Bytes × Module) → Order → List ℕ
order_line modules (Ordered.TheVariants.Soft page) = state_line page Soft
order_line modules (Ordered.TheVariants.Hard page) = state_line page Hard
order_line modules (Ordered.TheVariants.Module place) = module_line (module_label modules place)

abbrev pub order_lines : List (Bytes × Module) → List Order → List ℕ
order_lines modules orders = flat_map (order_line modules) orders

-- the lines of pages and of modules with an outstanding order
abbrev pub page_line : ℕ × PageRow → List ℕ
page_line row = state_line row.0 row.1.state

abbrev pub replaced_line : Bytes × Module → List ℕ
replaced_line row = if row.1.replace then module_line row.0 else []

-- the lines of the outstanding orders of an account, for pages and then for modules, each in the order in which they
-- were first seen
abbrev pub standing_lines : State → List ℕ
standing_lines account = flat_map page_line account.pages ++ flat_map replaced_line account.modules
