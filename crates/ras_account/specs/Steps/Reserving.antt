-- What is recorded of entries before any of them is counted.
use Rattle.std.specs.Prelude.{◌≡◌, ◌+◌, min, if◌then◌else◌, List, [], ◌∷◌, ◌++◌}
use Rattle.dimm_topology.specs.Labels.{same_label}
use Rattle.row_tables.specs.Tables.{added_keys}
use Rattle.ras_facts.specs.declared.items.Item.{Item}
use Rattle.ras_facts.specs.declared.entry.Entry.{Entry}
use Rattle.ras_facts.specs.declared.entry.Entry.TheVariants.{Fact, Limit as PageLimit, Retire, ModuleLimit}
use Rattle.ras_account.specs.declared.in_force.InForce.{InForce}
use Rattle.ras_account.specs.declared.reserve.Tally.{Tally}
use Rattle.ras_account.specs.Account.{State}
use Rattle.ras_account.specs.Continued.{is_fresh_in}
use Rattle.ras_account.specs.View.{labels_in, pages_in}
use Rattle.ras_account.specs.Tallies.{greatest}
use Rattle.ras_account.specs.Steps.Parts.{ModuleList, all_labels}
use Rattle.ras_account.specs.Steps.Taking.{weights_in}

-- what is in force after an entry
abbrev pub in_force_after : InForce → Entry → InForce
in_force_after now (Fact fact) = now
in_force_after now (PageLimit limit) = record now { limit = limit }
in_force_after now (Retire boot) = record now { floor = boot }
in_force_after now (ModuleLimit limit) = record now { module_limit = limit }

-- Items were recorded: their labels are reserved, and their pages and weights are in the tally.
pub record NotesItems (modules modules' : ModuleList) (tally tally' : Tally) (items : List Item) : Type 0 where
  pub rows : modules'.rows ≡ modules.rows
  pub labels : modules'.waiting ≡ modules.waiting ++ added_keys same_label (all_labels modules) (labels_in items)
  pub pages : tally'.pages.items ≡ tally.pages.items ++ pages_in items
  pub in_force : tally'.in_force ≡ tally.in_force
  pub entries : tally'.entries ≡ tally.entries
  pub total : min tally'.total greatest ≡ min (tally.total + weights_in items) greatest

-- the new entries that lead an account to b, with one more entry if it is new
abbrev pub with_fresh : State → List Entry → Entry → List Entry
with_fresh b fresh entry = if is_fresh_in b entry then fresh ++ entry ∷ [] else fresh
