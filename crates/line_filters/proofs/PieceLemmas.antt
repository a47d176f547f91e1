-- How texts are gathered into pieces.
use Rattle.std.proofs.Common.{◌≡◌, ℕ, ◌+◌, ◌≤◌, Bool, true, false, nat_lt, List, [], ◌∷◌, ◌++◌, length, refl, ap, ◌∙◌, arith, append_assoc, length-append, if◌then◌else◌}
use Rattle.std.proofs.lemmas.Bool.Decides.{nat_tests}
use Rattle.line_filters.specs.declared.feeding.TheConstants.{MOST_AT_ONCE}
use Rattle.line_filters.specs.Pieces.{AreShort, pieces_after, texts_joined}

pub all_printed : (gathered : List ℕ) (texts : List (List ℕ)) → texts_joined (pieces_after gathered texts) ≡ gathered ++ texts_joined texts
all_printed gathered [] = refl
all_printed gathered (text ∷ texts) = by (nat_lt MOST_AT_ONCE (length gathered + length text)) (all_printed text texts) (all_printed (gathered ++ text) texts)
  where
    by : (is : Bool) → texts_joined (pieces_after text texts) ≡ text ++ texts_joined texts
        → texts_joined (pieces_after (gathered ++ text) texts) ≡ (gathered ++ text) ++ texts_joined texts
        → texts_joined (if is then gathered ∷ pieces_after text texts else pieces_after (gathered ++ text) texts) ≡ gathered ++ (text ++ texts_joined texts)
    by true fresh on = ap (λ (t : List ℕ). gathered ++ t) fresh
    by false fresh on = on ∙ append_assoc gathered text (texts_joined texts)

pub are_short : (gathered : List ℕ) (texts : List (List ℕ)) → length gathered ≤ MOST_AT_ONCE → AreShort texts → AreShort (pieces_after gathered texts)
are_short gathered [] few all = (few, tt)
are_short gathered (text ∷ texts) few all =
    by (nat_lt MOST_AT_ONCE (length gathered + length text)) refl (are_short text texts all.0 all.1) (λ fits. are_short (gathered ++ text) texts fits all.1)
  where
    by : (is : Bool) → nat_lt MOST_AT_ONCE (length gathered + length text) ≡ is → AreShort (pieces_after text texts)
        → (length (gathered ++ text) ≤ MOST_AT_ONCE → AreShort (pieces_after (gathered ++ text) texts))
        → AreShort (if is then gathered ∷ pieces_after text texts else pieces_after (gathered ++ text) texts)
    by true test fresh on = (few, fresh)
    by false test fresh on = on (grind (arith, nat_tests, test, length-append gathered text))
