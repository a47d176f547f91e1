-- A list that is a beginning of another, or equal to it.
use Rattle.std.specs.Prelude.{◌≡◌, List, ◌++◌}

-- The first list is a beginning of the second, or equal to it.
abbrev pub IsPrefixOf : {X : Type 0} → List X → List X → Type 0
IsPrefixOf {X} xs ys = (rest : List X) × (xs ++ rest ≡ ys)
