-- The parts of a text.
use Rattle.std.specs.Prelude.{ℕ, ◌==◌, List, [], ◌∷◌, drop, take, length, Option, None, Some, if◌then◌else◌}
use Rattle.std.specs.List.{slice_split}
use Rattle.std.specs.Str.{bytes_eq}

-- the parts between the separators, including empty ones
abbrev pub cut_at : ℕ → List ℕ → List (List ℕ)
cut_at separator text = slice_split (λ b. b == separator) text

-- the text after the spaces that it begins with
abbrev pub after_spaces : List ℕ → List ℕ
after_spaces [] = []
after_spaces (b ∷ text) = if b == 32 then after_spaces text else b ∷ text

-- the text after a name, if the text begins with this name
abbrev pub value_after : List ℕ → List ℕ → Option (List ℕ)
value_after name text = if bytes_eq (take (length name) text) name then Some (drop (length name) text) else None
