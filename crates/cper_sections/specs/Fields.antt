-- The fields of a section that are there only if a bit says so.
use Rattle.std.specs.Prelude.{ℕ, Option, Some, None, if◌then◌else◌}
use Rattle.ras_base.specs.Bits.{is_set}

-- the value if its validation bit is set, else None
abbrev pub if_valid : {X : Type 0} → ℕ → ℕ → X → Option X
if_valid bit validation value = if is_set bit validation then Some value else None
