-- Terms of the laws of lines and words.
use Rattle.std.specs.Prelude.{◌≡◌, ℕ, ◌==◌, List, [], ◌∷◌, ◌++◌, ◌<◌, length, if◌then◌else◌}
use Rattle.std.specs.List.{flat_map, AllByRecursion}

-- A byte isn't in a text.
abbrev pub Lacks : ℕ → List ℕ → Type 0
Lacks byte text = AllByRecursion (λ b. ¬ (b ≡ byte)) text

-- A word is between spaces: it isn't empty, and has no space.
abbrev pub IsWord : List ℕ → Type 0
IsWord word = (0 < length word) × Lacks 32 word

-- lines as a script: each ends with a line feed
abbrev pub script_of : List (List ℕ) → List ℕ
script_of lines = flat_map (λ line. line ++ 10 ∷ []) lines

-- A script with a line feed at its end, which is added if the last byte is another byte.
abbrev pub with_last_line_feed : List ℕ → List ℕ
with_last_line_feed [] = []
with_last_line_feed (b ∷ []) = if b == 10 then b ∷ [] else b ∷ 10 ∷ []
with_last_line_feed (b ∷ c ∷ bs) = b ∷ with_last_line_feed (c ∷ bs)
