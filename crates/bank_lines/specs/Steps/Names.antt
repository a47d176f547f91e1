-- A search for the last event name of a line.
use Rattle.std.specs.Prelude.{ℕ, ◌+◌, ◌<◌, ◌≤◌, List, Option, None, Some}
use Rattle.memchr.specs.Find.{OccursAt}
use Rattle.bank_lines.specs.Trace.{event_mark}

-- no event name begins at `low` or after it with its fourth byte before `end`
abbrev pub NoNameIn : List ℕ → ℕ → ℕ → Type 0
NoNameIn line low end = (k : ℕ) → low ≤ k → k + 3 < end → ¬ OccursAt line event_mark k

-- after a search for event names up to `end`: the last one in the line so far, or `None` if there was none
abbrev pub LastBelow : List ℕ → ℕ → Option ℕ → Type 0
LastBelow line end None = NoNameIn line 0 end
LastBelow line end (Some place) = OccursAt line event_mark place × NoNameIn line (place + 1) end
