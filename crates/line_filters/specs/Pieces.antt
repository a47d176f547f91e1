-- How texts are gathered into calls that print them.
use Rattle.std.specs.Prelude.{ℕ, ◌+◌, ◌≤◌, List, [], ◌∷◌, ◌++◌, length, nat_lt, if◌then◌else◌}
use Rattle.std.specs.List.{AllByRecursion, flat_map}
use Rattle.line_filters.specs.declared.feeding.TheConstants.{MOST_AT_ONCE}

-- the texts, one after another
abbrev pub texts_joined : List (List ℕ) → List ℕ
texts_joined texts = flat_map (λ text. text) texts

-- the calls that print these texts after the gathered ones: each prints as many texts together as it may
abbrev pub pieces_after : List ℕ → List (List ℕ) → List (List ℕ)
pieces_after gathered [] = gathered ∷ []
pieces_after gathered (text ∷ texts) =
    if nat_lt MOST_AT_ONCE (length gathered + length text) then gathered ∷ pieces_after text texts
    else pieces_after (gathered ++ text) texts

-- the calls that print these texts
abbrev pub pieces_of : List (List ℕ) → List (List ℕ)
pieces_of texts = pieces_after [] texts

-- whether one call can print each of these texts
abbrev pub AreShort : List (List ℕ) → Type 0
AreShort texts = AllByRecursion (λ (text : List ℕ). length text ≤ MOST_AT_ONCE) texts
