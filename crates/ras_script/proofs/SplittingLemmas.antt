-- The parts of a text that are lines.
use Rattle.std.proofs.Common.{◌≡◌, ℕ, ◌<◌, List, [], ◌∷◌, length, refl, arith}
use Rattle.std.proofs.lemmas.Bool.Decides.{nat_tests}
use Rattle.ras_script.specs.Splitting.{without_empty_last}

-- A part before others is a line, whatever it contains.
pub part_first : (part : List ℕ) (parts : List (List ℕ)) → 0 < length parts → without_empty_last (part ∷ parts) ≡ part ∷ without_empty_last parts
part_first part [] h = absurd (omega arith)
part_first part (next ∷ parts) h = refl

-- A last line without a line feed.
pub last_line : (line : List ℕ) → 0 < length line → without_empty_last (line ∷ []) ≡ line ∷ []
last_line line some = grind (arith, nat_tests, some)
