-- A property of the rows of every `Pages`.
use Rattle.std.specs.Prelude.{ℕ, ◌≤◌, List}
use Rattle.std.specs.List.{AllByRecursion}
use Rattle.page_policy.specs.declared.rows.PageRow.{PageRow}
use Rattle.page_policy.specs.Buckets.{most_count}

-- A bucket has at most the most errors.
abbrev pub IsSmall : ℕ × PageRow → Type 0
IsSmall e = e.1.bucket.count ≤ most_count

abbrev pub AreSmall : List (ℕ × PageRow) → Type 0
AreSmall rows = AllByRecursion IsSmall rows
