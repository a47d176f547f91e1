-- The printed lines of entries, of orders and of the end of a run are quiet.
use Rattle.std.proofs.Common.{◌≡◌, ℕ, zero, suc, Bool, true, false, if◌then◌else◌, List, [], ◌∷◌, ◌++◌, codes, decimal, length, All, IsTrue, flat_map, refl}
use Rattle.std.proofs.lemmas.List.Elements.{All-head, All-tail}
use Rattle.ras_base.specs.Text.{line_with}
use Rattle.dimm_topology.specs.Labels.{Bytes, is_label_or_none}
use Rattle.page_policy.specs.declared.buckets.Limit.{Limit}
use Rattle.page_policy.specs.declared.rows.Order.{Order}
use Rattle.page_policy.specs.declared.rows.Order as Ordered
use Rattle.page_policy.specs.declared.rows.PageRow.{PageRow}
use Rattle.page_policy.specs.declared.rows.PageState.{PageState}
use Rattle.page_policy.specs.declared.rows.PageState.TheVariants.{Kept, Soft, Hard}
use Rattle.ras_facts.specs.declared.fact.Fact.{Fact}
use Rattle.ras_facts.specs.declared.items.Item.{Item}
use Rattle.ras_facts.specs.declared.name.Name.{Name}
use Rattle.ras_facts.specs.declared.entry.Entry.{Entry}
use Rattle.ras_facts.specs.declared.entry.Entry.TheVariants.{Fact as FactEntry, Limit as PageLimit, Retire, ModuleLimit}
use Rattle.ras_account.specs.Account.{State}
use Rattle.ras_account.specs.Accounts.{IsAccount, IsModuleRow}
use Rattle.ras_account.specs.History.{is_retired}
use Rattle.ras_account.specs.Modules.{Module}
use Rattle.ras_texts.specs.Orders.{state_line, module_line, module_label, order_line, order_lines, page_line, replaced_line, standing_lines}
use Rattle.ras_texts.specs.Text.{item_head, item_line, limit_line, limit_text, module_limit_line, retire_line, repeat_line, end_line, name_text, label_text, page_text, address_text}
use Rattle.ras_script.specs.SplittingLaws.{Lacks}
use Rattle.ras_events.specs.QuietLines.{AreQuietLines}
use Rattle.ras_events.proofs.ByteLemmas.{is_unbroken, unbroken_from, unbroken-append, decimal_unbroken}
use Rattle.ras_events.proofs.PieceLemmas.{name_unbroken, class_unbroken, address_unbroken, page_unbroken, label_text_unbroken}
use Rattle.ras_events.proofs.QuietLemmas.{quiet_none, quiet_both, quiet_line, quiet_all, quiet_each}

-- ---- entries

pub item_quiet : (fact : Fact) (detail : List ℕ) (item : Item) → is_unbroken detail ≡ true → IsTrue (is_label_or_none item.label) → AreQuietLines (item_line fact detail item)
unfolding item_line item_head
item_quiet fact detail item told label =
    let labeled : is_unbroken (label_text item.label) ≡ true = label_text_unbroken item.label label in
    quiet_line (item_head fact item ++ codes " label=" ++ label_text item.label ++ codes " page=" ++ page_text item.page ++ codes " " ++ detail)
    (simp (unbroken-append, name_unbroken, decimal_unbroken, class_unbroken, page_unbroken, labeled, told)) refl

pub limit_quiet : (limit : Limit) → AreQuietLines (limit_line limit)
limit_quiet limit = quiet_line (codes "limit " ++ limit_text limit) (simp (unbroken-append, decimal_unbroken)) refl

pub module_limit_quiet : (limit : Limit) → AreQuietLines (module_limit_line limit)
module_limit_quiet limit = quiet_line (codes "module-limit " ++ limit_text limit) (simp (unbroken-append, decimal_unbroken)) refl

pub retire_quiet : (boot dropped : ℕ) → AreQuietLines (retire_line boot dropped)
retire_quiet boot dropped =
    quiet_line (codes "retire boot=" ++ decimal boot ++ codes " names=" ++ decimal dropped) (simp (unbroken-append, decimal_unbroken)) refl

again_quiet : (stale : Bool) (name : Name) → AreQuietLines (line_with ((if stale then codes "stale " else codes "repeat ") ++ name_text name))
again_quiet true name = quiet_line (codes "stale " ++ name_text name) (name_unbroken name) refl
again_quiet false name = quiet_line (codes "repeat " ++ name_text name) (name_unbroken name) refl

pub repeat_quiet : (a : State) (entry : Entry) → AreQuietLines (repeat_line a entry)
repeat_quiet a (FactEntry fact) = again_quiet (is_retired a.floor fact.name) fact.name
repeat_quiet a (PageLimit limit) = quiet_none
repeat_quiet a (Retire boot) = quiet_none
repeat_quiet a (ModuleLimit limit) = quiet_none

-- ---- orders

state_quiet : (page : ℕ) (state : PageState) → AreQuietLines (state_line page state)
state_quiet page Kept = quiet_none
state_quiet page Soft = quiet_line (codes "order soft page=" ++ address_text page) (address_unbroken page) refl
state_quiet page Hard = quiet_line (codes "order hard page=" ++ address_text page) (address_unbroken page) refl

module_quiet : (label : Bytes) → IsTrue (is_label_or_none label) → AreQuietLines (module_line label)
module_quiet label is = quiet_line (codes "order module label=" ++ label_text label) (label_text_unbroken label is) refl

-- Whether the label of a module's row is a valid label or empty.
abbrev pub HasLabel : Bytes × Module → Type 0
HasLabel row = IsTrue (is_label_or_none row.0)

label_at : (modules : List (Bytes × Module)) (place : ℕ) → All HasLabel modules → IsTrue (is_label_or_none (module_label modules place))
label_at [] place all = refl
label_at (row ∷ modules) zero all = All-head HasLabel row modules all
label_at (row ∷ modules) (suc place) all = label_at modules place (All-tail HasLabel row modules all)

order_quiet : (modules : List (Bytes × Module)) → All HasLabel modules → (order : Order) → AreQuietLines (order_line modules order)
order_quiet modules all (Ordered.TheVariants.Soft page) = state_quiet page Soft
order_quiet modules all (Ordered.TheVariants.Hard page) = state_quiet page Hard
order_quiet modules all (Ordered.TheVariants.Module place) = module_quiet (module_label modules place) (label_at modules place all)

pub orders_quiet : (modules : List (Bytes × Module)) (orders : List Order) → All HasLabel modules → AreQuietLines (order_lines modules orders)
orders_quiet modules orders all = quiet_all (order_line modules) (order_quiet modules all) orders

page_quiet : (row : ℕ × PageRow) → AreQuietLines (page_line row)
page_quiet row = state_quiet row.0 row.1.state

replaced_by : (replaced : Bool) (label : Bytes) → IsTrue (is_label_or_none label) → AreQuietLines (if replaced then module_line label else [])
replaced_by true label is = module_quiet label is
replaced_by false label is = quiet_none

replaced_quiet : (row : Bytes × Module) → IsModuleRow row → AreQuietLines (replaced_line row)
replaced_quiet row is = replaced_by row.1.replace row.0 is.label

pub standing_quiet : (a : State) → IsAccount a → AreQuietLines (standing_lines a)
standing_quiet a account =
    quiet_both (flat_map page_line a.pages) (flat_map replaced_line a.modules) (quiet_all page_line page_quiet a.pages)
    (quiet_each IsModuleRow replaced_line replaced_quiet a.modules account.modules)

-- ---- the end

pub end_quiet : (a : State) → AreQuietLines (end_line a)
end_quiet a =
    quiet_line (codes "end entries=" ++ decimal a.entries ++ codes " names=" ++ decimal (length a.names)) (simp (unbroken-append, decimal_unbroken)) refl

-- The line that gives the reason for a rejected line is quiet.
pub refused_quiet : (line : ℕ) (reason : List ℕ) → Lacks 10 reason → AreQuietLines (line_with (codes "stop 2 line=" ++ decimal line ++ codes " reason=" ++ reason))
refused_quiet line reason lacks =
    let told : is_unbroken reason ≡ true = unbroken_from reason lacks in
    quiet_line (codes "stop 2 line=" ++ decimal line ++ codes " reason=" ++ reason) (simp (unbroken-append, decimal_unbroken, told)) refl
