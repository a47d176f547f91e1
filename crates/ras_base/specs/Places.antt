-- Each element of a list with the elements before it.
use Rattle.std.specs.Prelude.{List, [], ◌∷◌, ◌++◌}

-- Each element of a list with all elements before it, if another list comes before the whole list.
abbrev pub places_behind : {X : Type 0} → List X → List X → List (List X × X)
places_behind before [] = []
places_behind before (x ∷ xs) = (before, x) ∷ places_behind (before ++ x ∷ []) xs

-- each element of a list with all elements before it
abbrev pub places : {X : Type 0} → List X → List (List X × X)
places xs = places_behind [] xs
