-- The first line feed of a text, of a text without a line feed, and of a text after another.
use Rattle.std.proofs.Common.{◌≡◌, ℕ, ◌+◌, ◌<◌, ◌≤◌, ◌==◌, eqb, Bool, true, false, not, List, ◌∷◌, ◌++◌, length, take, drop, get_or, refl, sym, ap, ◌∙◌, arith, Option, Some, None, MatchOption}
use Rattle.std.proofs.lemmas.Bool.{eqb-true, eq-eqb, false≢true}
use Rattle.std.proofs.lemmas.Bool.Decides.{nat_tests}
use Rattle.std.proofs.lemmas.List.{length-take-le, get_or-take}
use Rattle.std.proofs.lemmas.List.Folds.{prefix_len-append}
use Rattle.std.proofs.lemmas.List.Sums.{fails_before_first, passes_at_first, position_or_len_is, prefix_len-le-length, split_at_first}
use Rattle.memchr.specs.Find.{IsFirstByte, is_byte}
use Rattle.ras_script.specs.Steps.Feeds.{line_feed_in}
use Rattle.ras_script.specs.Steps.ReaderSteps.{FeedAt}
use Rattle.ras_script.specs.SplittingLaws.{Lacks}
use Rattle.ras_script.proofs.SpaceLemmas.{lacks_places}

pub not_true : (t : Bool) → ¬ (t ≡ true) → t ≡ false
not_true true none = absurd (none refl)
not_true false none = refl

-- No byte before the first line feed is a line feed.
feed_before : (text : List ℕ) (k : ℕ) → k < line_feed_in text → ¬ (get_or text k 0 ≡ 10)
feed_before text k low is = absurd (false≢true (sym (fails_before_first (λ b. b == 10) text k 0 low) ∙ eq-eqb _ 10 is))

pub no_feed : (text : List ℕ) → length text ≤ line_feed_in text → Lacks 10 text
no_feed text late = lacks_places 10 text (λ k low. feed_before text k (omega arith))

pub feed_at : (text : List ℕ) → line_feed_in text < length text → FeedAt (line_feed_in text) text
feed_at text inside =
    let place : ℕ = line_feed_in text in
    let size : length (take place text) ≡ place = length-take-le place text (omega arith) in
    let feed : get_or text place 0 ≡ 10 = eqb-true _ _ (passes_at_first (λ b. b == 10) text 0 inside) in
    record {
      before = lacks_places 10 (take place text) (λ k low is. feed_before text k (omega (arith, size)) (sym (get_or-take place text k 0 (omega (arith, size))) ∙ is));
      inside = inside;
      parts = split_at_first (λ b. b == 10) text 0 inside ∙ ap (λ b. take place text ++ b ∷ drop (place + 1) text) feed;
    }

-- What a search for a line feed finds.
pub feed_found : (text : List ℕ) (found : Option ℕ) → IsFirstByte (is_byte 10) text found → MatchOption found (line_feed_in text ≡ length text) (λ place. line_feed_in text ≡ place)
feed_found text None none =
    position_or_len_is (λ b. b == 10) text (length text) 0 (omega arith) (λ k low. not_true _ (none k (omega arith) low)) (λ low. absurd (omega arith))
feed_found text (Some place) is =
    position_or_len_is (λ b. b == 10) text place 0 (omega (arith, is.0.high)) (λ k low. not_true _ (is.0.before k (omega arith) low)) (λ low. is.1)

-- A line feed in the first of two texts, or in the second.
pub feed_kept : (front back : List ℕ) → line_feed_in front < length front → line_feed_in (front ++ back) ≡ line_feed_in front
feed_kept front back inside =
    let other : eqb (line_feed_in front) (length front) ≡ false = grind (arith, nat_tests, inside) in
    prefix_len-append (λ b. not (b == 10)) front back ∙ rw other refl

pub feed_behind : (front back : List ℕ) → line_feed_in front ≡ length front → line_feed_in (front ++ back) ≡ length front + line_feed_in back
feed_behind front back none =
    prefix_len-append (λ b. not (b == 10)) front back ∙ rw (eq-eqb _ _ none) refl

-- The index of the first line feed is at most the text's length.
pub feed_within : (text : List ℕ) → line_feed_in text ≤ length text
feed_within text = prefix_len-le-length (λ b. not (b == 10)) text

pub feed_late : (text : List ℕ) → length text ≤ line_feed_in text → line_feed_in text ≡ length text
feed_late text late = omega (arith, late, feed_within text)
