-- The stored words of a line ask for what all its words ask for: a line with more words is rejected, or is a comment,
-- whatever the other words are.
use Rattle.std.proofs.Common.{◌≡◌, ℕ, ◌==◌, Bool, true, false, cond, List, [], ◌∷◌, length, take, refl, ap, sym, subst, ◌∙◌, arith, Result, Ok, Err}
use Rattle.std.proofs.lemmas.Bool.Decides.{nat_tests}
use Rattle.std.specs.Prelude.{slice_index}
use Rattle.std.specs.Str.{bytes_eq}
use Rattle.ras_script.specs.declared.line.Line.{Line}
use Rattle.ras_script.specs.declared.line.LineRefused.{LineRefused}
use Rattle.ras_script.specs.declared.splitting.TheConstants.{HELD_WORDS}
use Rattle.ras_script.specs.Kinds.{Reading}
use Rattle.ras_script.specs.Line.{GivesLine, ReadsLine, kinds, line_named, line_of_words}
use Rattle.ras_script.specs.Splitting.{AreHeldWords, words_of}

-- Each of these readings rejects this number of words.
abbrev Refuse : List (List ℕ × Reading) → List (List ℕ) → Type 0
Refuse [] words = Unit {0}
Refuse (reading ∷ readings) words = (reading.1 words ≡ Err LineRefused.Words) × Refuse readings words

named_agree : (readings : List (List ℕ × Reading)) (kind : List ℕ) (left right : List (List ℕ)) → Refuse readings left → Refuse readings right → line_named readings kind left ≡ line_named readings kind right
named_agree [] kind left right all both = refl
named_agree (reading ∷ readings) kind left right all both = by (bytes_eq kind reading.0) (named_agree readings kind left right all.1 both.1)
  where
    by : (b : Bool) → line_named readings kind left ≡ line_named readings kind right → cond b (reading.1 left) (line_named readings kind left) ≡ cond b (reading.1 right) (line_named readings kind right)
    by true ih = all.0 ∙ sym both.0
    by false ih = ih

-- No kind has more than eleven words after its name.
all_refuse : (a b c d e f g h i j k l : List ℕ) (words : List (List ℕ)) → Refuse kinds (a ∷ b ∷ c ∷ d ∷ e ∷ f ∷ g ∷ h ∷ i ∷ j ∷ k ∷ l ∷ words)
all_refuse a b c d e f g h i j k l words =
    let other : (length (b ∷ c ∷ d ∷ e ∷ f ∷ g ∷ h ∷ i ∷ j ∷ k ∷ l ∷ words) == 10) ≡ false = grind (arith, nat_tests) in
    (refl, (refl, (refl, (refl, (refl, (refl, (refl, (refl, (refl, (refl, (refl, (refl, (refl, (refl, (rw other refl, (refl, tt))))))))))))))))

named_held : (kind : List ℕ) (words : List (List ℕ)) → line_named kinds kind (take 12 words) ≡ line_named kinds kind words
named_held kind (a ∷ b ∷ c ∷ d ∷ e ∷ f ∷ g ∷ h ∷ i ∷ j ∷ k ∷ l ∷ words) =
    named_agree kinds kind (a ∷ b ∷ c ∷ d ∷ e ∷ f ∷ g ∷ h ∷ i ∷ j ∷ k ∷ l ∷ []) (a ∷ b ∷ c ∷ d ∷ e ∷ f ∷ g ∷ h ∷ i ∷ j ∷ k ∷ l ∷ words)
    (all_refuse a b c d e f g h i j k l []) (all_refuse a b c d e f g h i j k l words)
named_held kind words = refl

held_ask : (words : List (List ℕ)) → line_of_words (take HELD_WORDS words) ≡ line_of_words words
held_ask [] = refl
held_ask (kind ∷ words) = ap (λ event. cond (slice_index kind 0 == 35) (Ok Line.Nothing) event) (named_held kind words)

-- What is read from the stored words is read from the line.
pub reads_held : (words : List (List ℕ)) (bytes : List ℕ) (read : Result Line LineRefused) → AreHeldWords words bytes → GivesLine read (line_of_words words) → ReadsLine read bytes
reads_held words bytes read held gives = subst (GivesLine read) (ap line_of_words held ∙ held_ask (words_of bytes)) gives
