-- Which entries are new at their place in a history: only these are counted.
use Rattle.std.specs.Prelude.{Bool, ◌&&◌, ◌==◌, not, nat_lt, if◌then◌else◌, List, [], ◌∷◌, ◌++◌}
use Rattle.std.specs.List.{list_any}
use Rattle.page_policy.specs.declared.buckets.Limit.{Limit}
use Rattle.ras_facts.specs.declared.name.Name.{Name}
use Rattle.ras_facts.specs.declared.entry.Entry.{Entry}
use Rattle.ras_facts.specs.declared.entry.Entry.TheVariants.{Fact, Limit as PageLimit, Retire, ModuleLimit}
use Rattle.ras_facts.specs.Names.{same_name}
use Rattle.ras_account.specs.History.{History, empty, with_entry, with_mark, names_in, limit_after, module_limit_after, floor_after, is_retired}

-- Two limits are the same if both their numbers are.
abbrev pub same_limit : Limit → Limit → Bool
same_limit one other = (one.capacity == other.capacity) && (one.period == other.period)

-- Whether a name is among names.
abbrev pub is_among : List Name → Name → Bool
is_among names name = list_any (same_name name) names

-- Whether an entry is new after a history: a fact whose name no fact of the history has and whose boot isn't retired,
-- a limit that isn't in force, or a retire above the floor.
abbrev pub is_fresh_behind : History → Entry → Bool
is_fresh_behind history (Fact fact) =
    not (is_among (names_in history) fact.name) && not (is_retired (floor_after history) fact.name)
is_fresh_behind history (PageLimit limit) = not (same_limit limit (limit_after history))
is_fresh_behind history (Retire boot) = nat_lt (floor_after history) boot
is_fresh_behind history (ModuleLimit limit) = not (same_limit limit (module_limit_after history))

-- the entries of a history that are new at their place, in order
abbrev pub fresh_entries : History → List Entry
fresh_entries empty = []
fresh_entries (with_entry history entry) = if is_fresh_behind history entry then fresh_entries history ++ entry ∷ [] else fresh_entries history
fresh_entries (with_mark history) = fresh_entries history
