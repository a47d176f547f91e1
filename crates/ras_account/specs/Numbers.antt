-- The three numbers of an account that have bounds, and these numbers after a list of entries.
use Rattle.std.specs.Prelude.{ℕ, ◌+◌, ◌≤◌, Bool, ◌||◌, nat_lt, if◌then◌else◌, List, [], ◌∷◌, length, IsTrue}
use Rattle.std.specs.List.{sum_by, flat_map}
use Rattle.ras_facts.specs.declared.items.Item.{Item}
use Rattle.ras_facts.specs.declared.entry.Entry.{Entry}
use Rattle.ras_facts.specs.Entries.{items_in}
use Rattle.ras_account.specs.declared.limits.TheConstants.{MOST_NAMES, MOST_ENTRIES, MOST_TOTAL}
use Rattle.ras_account.specs.Account.{State, names_of}
use Rattle.ras_account.specs.Continued.{is_fresh_in, account_after}

-- the number of names, the number of entries, and the total weight
pub record Numbers : Type 0 where
  pub names : ℕ
  pub entries : ℕ
  pub total : ℕ

-- The numbers are within an account's bounds.
pub record AreWithin (numbers : Numbers) : Type 0 where
  pub names : numbers.names ≤ MOST_NAMES
  pub entries : numbers.entries ≤ MOST_ENTRIES
  pub total : numbers.total ≤ MOST_TOTAL

-- Whether one of the numbers is above its bound.
abbrev pub are_past : Numbers → Bool
are_past numbers =
    nat_lt MOST_NAMES numbers.names || (nat_lt MOST_ENTRIES numbers.entries || nat_lt MOST_TOTAL numbers.total)

-- the numbers of an account
abbrev pub numbers_of : State → Numbers
numbers_of a = record { names = length a.names; entries = a.entries; total = a.total }

-- An account is within its bounds.
abbrev pub IsWithin : State → Type 0
IsWithin a = AreWithin (numbers_of a)

-- The account is within its bounds after each entry of the list.
abbrev pub StaysWithin : State → List Entry → Type 0
StaysWithin a [] = Unit {0}
StaysWithin a (entry ∷ entries) = IsWithin (account_after a entry) × StaysWithin (account_after a entry) entries

-- the entries of a list that are new at their place after an account
abbrev pub fresh_entries_in : State → List Entry → List Entry
fresh_entries_in a [] = []
fresh_entries_in a (entry ∷ entries) =
    if is_fresh_in a entry then entry ∷ fresh_entries_in (account_after a entry) entries else fresh_entries_in a entries

-- the items of entries, in order
abbrev pub items_of : List Entry → List Item
items_of entries = flat_map items_in entries

-- The numbers of an account with all new entries of a list. A retire in the list removes no name here.
abbrev pub numbers_with : State → List Entry → Numbers
numbers_with a entries = record {
  names = length a.names + length (names_of (fresh_entries_in a entries));
  entries = a.entries + length (fresh_entries_in a entries);
  total = a.total + sum_by (λ (item : Item). item.weight) (items_of (fresh_entries_in a entries));
}

-- There is room for all new entries of a list.
abbrev pub HasRoomFor : State → List Entry → Type 0
HasRoomFor a entries = AreWithin (numbers_with a entries)

abbrev pub HasNoRoomFor : State → List Entry → Type 0
HasNoRoomFor a entries = IsTrue (are_past (numbers_with a entries))
