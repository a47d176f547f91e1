-- How a script is split into lines, and a line into words.
use Rattle.std.specs.Prelude.{◌≡◌, ℕ, ◌==◌, List, [], ◌∷◌, length, nat_lt, filter, take, if◌then◌else◌}
use Rattle.std.specs.List.{slice_split}
use Rattle.ras_script.specs.declared.splitting.TheConstants.{HELD_WORDS}

-- the parts of a text around a byte, without an empty last part
abbrev pub without_empty_last : List (List ℕ) → List (List ℕ)
without_empty_last [] = []
without_empty_last (part ∷ []) = if length part == 0 then [] else part ∷ []
without_empty_last (part ∷ next ∷ parts) = part ∷ without_empty_last (next ∷ parts)

-- A script is split at line feeds. Bytes after the last line feed, if there are any, are a line.
abbrev pub lines_of : List ℕ → List (List ℕ)
lines_of script = without_empty_last (slice_split (λ b. b == 10) script)

-- Words are separated by one or more spaces, and spaces may come before the first word and after the last.
abbrev pub words_of : List ℕ → List (List ℕ)
words_of line = filter (λ word. nat_lt 0 (length word)) (slice_split (λ b. b == 32) line)

-- the words of a line that are stored
abbrev pub AreHeldWords : List (List ℕ) → List ℕ → Type 0
AreHeldWords words line = words ≡ take HELD_WORDS (words_of line)
