-- The parts that are left.
use Rattle.std.specs.Prelude.{ℕ, List, []}
use Rattle.std.specs.Option.{option_map_or}
use Rattle.bank_lines.specs.declared.parts.Parts.{Parts}
use Rattle.bank_lines.specs.Parts.{cut_at}

abbrev pub parts_in : Parts → List (List ℕ)
parts_in parts = option_map_or (λ text. cut_at parts.separator text.now) parts.rest []
