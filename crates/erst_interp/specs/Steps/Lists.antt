-- What private functions return while a table is read.
use Rattle.std.specs.Prelude.{◌≡◌, ℕ, ◌+◌, ◌*◌, ◌≤◌, List, [], ◌∷◌, ◌++◌, length, set, Result, Ok, Err}
use Rattle.erst_interp.specs.declared.entries.InstructionEntry.{InstructionEntry}
use Rattle.erst_interp.specs.declared.entries.TheConstants.{ENTRY_LENGTH}
use Rattle.erst_interp.specs.declared.table.TheConstants.{ERST_FIXED_LENGTH}
use Rattle.erst_interp.specs.declared.refusals.ErstTableRefused.{ErstTableRefused}
use Rattle.erst_interp.specs.Table.{list_of, entry_count}

-- one empty list for each number of an action
pub record AreEmpty (lists : List (List InstructionEntry)) : Type 0 where
  pub count : length lists ≡ 256
  pub empty : (action : ℕ) → list_of action lists ≡ []

-- the lists with an entry after those of its action
abbrev pub with_entry : InstructionEntry → List (List InstructionEntry) → List (List InstructionEntry)
with_entry e lists = set lists e.action (list_of e.action lists ++ e ∷ [])

-- the result of a reader that allocates nothing
abbrev pub ReadsTable : {X Y : Type 0} → (X → Y) → Result X ErstTableRefused → Result Y ErstTableRefused → Type 0
ReadsTable view (Ok value) answer = answer ≡ Ok (view value)
ReadsTable view (Err why) answer = answer ≡ Err why

-- A table whose entries are all inside it.
pub record HoldsEntries (table : List ℕ) : Type 0 where
  pub fixed : ERST_FIXED_LENGTH ≤ length table
  pub entries : ERST_FIXED_LENGTH + ENTRY_LENGTH * entry_count table ≤ length table
