-- The lines of printed text.
use Rattle.std.specs.Prelude.{ℕ, List, [], ◌∷◌, ◌++◌}

-- a text as a line, which ends with a line feed
abbrev pub line_with : List ℕ → List ℕ
line_with text = text ++ 10 ∷ []
