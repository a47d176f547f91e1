-- What an account was given, in order, and what is in force after it.
use Rattle.std.specs.Prelude.{ℕ, max, List, [], ◌∷◌, ◌++◌, fold}
use Rattle.page_policy.specs.declared.buckets.Limit.{Limit}
use Rattle.ras_facts.specs.declared.name.Name.{Name}
use Rattle.ras_facts.specs.declared.entry.Entry.{Entry}
use Rattle.ras_facts.specs.declared.entry.Entry.TheVariants.{Fact, Limit as PageLimit, Retire, ModuleLimit}
pub use Rattle.ras_facts.specs.Names.{is_retired}
use Rattle.ras_account.specs.declared.limits.TheConstants.{FIRST_LIMIT, FIRST_MODULE_LIMIT}

-- Entries and upgrade markers, the latest last. An upgrade marker is where an account was taken over from a journal of
-- version 1, which stored no buckets of modules: they start again after it.
pub data History : Type 0 where
  empty : History
  with_entry : History → Entry → History
  with_mark : History → History

-- a history with the entries of a list after it
abbrev pub with_entries : History → List Entry → History
with_entries history entries = fold with_entry history entries

-- a list of entries as a history, without upgrade markers
abbrev pub history_of : List Entry → History
history_of entries = with_entries empty entries

-- a history followed by a retire of the boots below a number
abbrev pub with_retire : History → ℕ → History
with_retire history boot = with_entry history (Retire boot)

-- a history followed by another history
abbrev pub followed_by : History → History → History
followed_by history empty = history
followed_by history (with_entry more entry) = with_entry (followed_by history more) entry
followed_by history (with_mark more) = with_mark (followed_by history more)

-- A history has no upgrade markers.
abbrev pub IsUnmarked : History → Type 0
IsUnmarked empty = Unit {0}
IsUnmarked (with_entry history entry) = IsUnmarked history
IsUnmarked (with_mark history) = ⊥

-- the names of all facts of a history, in order
abbrev pub names_in : History → List Name
names_in empty = []
names_in (with_entry history (Fact fact)) = names_in history ++ fact.name ∷ []
names_in (with_entry history other) = names_in history
names_in (with_mark history) = names_in history

-- the limit in force for pages: the last one of the history, or ten errors a day
abbrev pub limit_after : History → Limit
limit_after empty = FIRST_LIMIT
limit_after (with_entry history (PageLimit limit)) = limit
limit_after (with_entry history other) = limit_after history
limit_after (with_mark history) = limit_after history

-- the limit in force for modules: the last one of the history, or a hundred errors a day
abbrev pub module_limit_after : History → Limit
module_limit_after empty = FIRST_MODULE_LIMIT
module_limit_after (with_entry history (ModuleLimit limit)) = limit
module_limit_after (with_entry history other) = module_limit_after history
module_limit_after (with_mark history) = module_limit_after history

-- the floor in force: the greatest number of a retire of the history, or 0. Boots below it are
-- retired.
abbrev pub floor_after : History → ℕ
floor_after empty = 0
floor_after (with_entry history (Retire boot)) = max (floor_after history) boot
floor_after (with_entry history other) = floor_after history
floor_after (with_mark history) = floor_after history
