-- A tally of entries that may follow an account: what is reserved for them, and the numbers of the account after them.
use Rattle.std.specs.Prelude.{◌≡◌, ℕ, ◌+◌, min, ◌||◌, List, [], ◌++◌, length, Result, Err, OnOk}
use Rattle.std.specs.List.{sum_by}
use Rattle.std.specs.Map.{keys_of}
use Rattle.dimm_topology.specs.Labels.{same_label}
use Rattle.row_tables.specs.Tables.{added_keys}
use Rattle.ras_facts.specs.declared.name.Name.{Name}
use Rattle.ras_facts.specs.declared.items.Item.{Item}
use Rattle.ras_facts.specs.declared.entry.Entry.{Entry}
use Rattle.ras_account.specs.declared.reserve.ReserveRefused.{ReserveRefused}
use Rattle.ras_account.specs.declared.reserve.ReserveRefused.TheVariants.{Full}
use Rattle.ras_account.specs.declared.reserve.Tally.{Tally}
use Rattle.ras_account.specs.History.{is_retired}
use Rattle.ras_account.specs.Fresh.{is_among}
use Rattle.ras_account.specs.Account.{State, names_of}
use Rattle.ras_account.specs.Continued.{knows, account_after_all}
use Rattle.ras_account.specs.Numbers.{fresh_entries_in, items_of, HasRoomFor, HasNoRoomFor}
use Rattle.ras_account.specs.View.{View, labels_in, pages_in, added_by}

-- the greatest number of 64 bits, at which the numbers of a tally stop
abbrev pub greatest : ℕ
greatest = 18446744073709551615

-- New entries lead an account to another: their names and labels are reserved, and the tally has their pages, their
-- numbers, and what is in force after them.
pub record Tallies (account : View) (after : State) (fresh : List Entry) (tally : Tally) : Type 0 where
  pub names : account.waiting.names ≡ names_of fresh
  pub labels : account.waiting.labels ≡ added_keys same_label (keys_of account.state.modules) (labels_in (items_of fresh))
  pub none : account.waiting.pages ≡ []
  pub pages : tally.pages.items ≡ pages_in (items_of fresh)
  pub known : (name : Name) → knows after name ≡ (is_among (account.state.names ++ account.waiting.names) name || is_retired tally.in_force.floor name)
  pub floor : tally.in_force.floor ≡ after.floor
  pub limit : tally.in_force.limit ≡ after.limit
  pub module_limit : tally.in_force.module_limit ≡ after.module_limit
  pub entries : min tally.entries greatest ≡ min (account.state.entries + length fresh) greatest
  pub total : min tally.total greatest ≡ min (account.state.total + sum_by (λ (item : Item). item.weight) (items_of fresh)) greatest

-- a tally of entries that follow an account
abbrev pub IsTallyOf : View → Tally → List Entry → Type 0
IsTallyOf account tally entries =
    Tallies account (account_after_all account.state entries) (fresh_entries_in account.state entries) tally

-- What entries add is reserved, if there is room for it.
pub record Reserves (result : Result (Unit {0}) ReserveRefused) (before : State) (account : View) (entries : List Entry) : Type 0 where
  pub state : account.state ≡ before
  pub ok : OnOk result (account.waiting ≡ added_by before entries)
  pub full : result ≡ Err Full → HasNoRoomFor before entries
  pub within : OnOk result (HasRoomFor before entries)
