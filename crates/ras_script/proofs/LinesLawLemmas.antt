-- The lines of a script within its limits are the script again, up to where their list ends.
use Rattle.std.proofs.Common.{◌≡◌, ℕ, zero, suc, ◌+◌, ◌-◌, ◌<◌, ◌≤◌, ◌==◌, ◌⊎◌, inl, inr, Bool, true, false, List, [], ◌∷◌, ◌++◌, length, take, drop, refl, ap, sym, ◌∙◌, arith, length-append, append_assoc}
use Rattle.std.proofs.lemmas.Bool.{cases_lt}
use Rattle.std.proofs.lemmas.Bool.Decides.{nat_tests}
use Rattle.std.proofs.lemmas.List.{append-nil, take-append-drop, length-take-le, length-drop}
use Rattle.ras_script.specs.Lines.{Ending, script_ended, line_too_long, script_too_long, lines_within, no_line}
use Rattle.ras_script.specs.LinesLaws.{EndsBy, AreLinesOf}
use Rattle.ras_script.specs.SplittingLaws.{Lacks, script_of, with_last_line_feed}
use Rattle.ras_script.specs.declared.reader.TheConstants.{LONGEST_LINE}
use Rattle.ras_script.proofs.LineAndWordLemmas.{lines_joined}
use Rattle.ras_script.proofs.LinesLemmas.{line_cut, line_alone, lines_cut, feed_past, too_long_line, script_past, line_at_end, no_lines}
use Rattle.ras_script.proofs.ReaderLemmas.{front_lacks}

feed_by : (b : ℕ) (text : List ℕ) (t : Bool) → (b == 10) ≡ t → (((line : List ℕ) × (rest : List ℕ) × (text ≡ line ++ 10 ∷ rest) × Lacks 10 line) ⊎ Lacks 10 text)
    → (((line : List ℕ) × (rest : List ℕ) × ((b ∷ text) ≡ line ++ 10 ∷ rest) × Lacks 10 line) ⊎ Lacks 10 (b ∷ text))
feed_by b text true is later =
    let feed : b ≡ 10 = grind (arith, nat_tests, is) in
    inl ([], text, ap (λ k. k ∷ text) feed, tt)
feed_by b text false is (inl (line, rest, parts, lacks)) = inl (b ∷ line, rest, ap (λ (t : List ℕ). b ∷ t) parts, ((λ same. grind (arith, nat_tests, is, same)), lacks))
feed_by b text false is (inr lacks) = inr ((λ same. grind (arith, nat_tests, is, same)), lacks)

-- Either a text has a first line feed, or it has no line feed.
first_feed : (text : List ℕ) → ((line : List ℕ) × (rest : List ℕ) × (text ≡ line ++ 10 ∷ rest) × Lacks 10 line) ⊎ Lacks 10 text
first_feed [] = inr tt
first_feed (b ∷ text) = feed_by b text (b == 10) refl (first_feed text)

take_lacks : (n : ℕ) (text : List ℕ) → Lacks 10 text → Lacks 10 (take n text)
take_lacks n text lacks = front_lacks (take n text) (drop n text) (rw (take-append-drop n text) lacks)

-- A line before others.
line_first : (ending : Ending) (most : ℕ) (line rest : List ℕ) (lines : List (List ℕ)) → Lacks 10 line → length line < most
    → EndsBy ending (most - (length line + 1)) rest lines → EndsBy ending most (line ++ 10 ∷ rest) (line ∷ lines)
line_first script_ended most line rest lines lacks less (joined, short) = (
  ap (λ (t : List ℕ). (line ++ 10 ∷ []) ++ t) (joined ∙ sym (lines_joined rest)) ∙ sym (ap script_of (line_cut line rest lacks)) ∙ lines_joined (line ++ 10 ∷ rest),
  omega (arith, length-append line (10 ∷ rest), short, less),
)
line_first line_too_long most line rest lines lacks less (begun, later, is, none, size, within) =
    (begun, later, rw is (simp append_assoc), none, size, omega (arith, length-append (line ++ 10 ∷ []) (script_of lines), length-append line (10 ∷ []), within, less))
line_first script_too_long most line rest lines lacks less (begun, later, is, none, size, within, more) =
    (begun, later, rw is (simp append_assoc), none, size, omega (arith, length-append (line ++ 10 ∷ []) (script_of lines), length-append line (10 ∷ []), within, less), more)

-- The text continues past its most bytes within its first line.
past_line : (most : ℕ) (line rest : List ℕ) → Lacks 10 line → most < LONGEST_LINE → most < length line → AreLinesOf most (line ++ rest) (lines_within most (line ++ rest))
past_line most line rest lacks small long =
    let front : List ℕ = take (most + 1) line in
    let later : List ℕ = drop (most + 1) line ++ rest in
    let size : length front ≡ most + 1 = length-take-le (most + 1) line (omega arith) in
    let parts : line ++ rest ≡ front ++ later = ap (λ (t : List ℕ). t ++ rest) (sym (take-append-drop (most + 1) line)) ∙ append_assoc front (drop (most + 1) line) rest in
    let ends : lines_within most (line ++ rest) ≡ no_line script_too_long = ap (lines_within most) parts ∙ script_past most front later (take_lacks (most + 1) line lacks) (omega (arith, size)) size in
    let begun : List ℕ = take most line in
    let after : List ℕ = drop most line ++ rest in
    let short : length begun ≡ most = length-take-le most line (omega arith) in
    let whole : line ++ rest ≡ begun ++ after = ap (λ (t : List ℕ). t ++ rest) (sym (take-append-drop most line)) ∙ append_assoc begun (drop most line) rest in
    rw ends (record { each = tt; ends = (begun, after, whole, take_lacks most line lacks, omega (arith, short), omega (arith, short), omega (arith, length-append (drop most line) rest, length-drop most line)) })

-- The text begins with bytes of one line that are too many.
too_many : (most : ℕ) (line rest : List ℕ) → Lacks 10 line → LONGEST_LINE < length line → AreLinesOf most (line ++ rest) (lines_within most (line ++ rest))
too_many most line rest lacks long = many_by (cases_lt most LONGEST_LINE)
  where
    many_by : ((most < LONGEST_LINE) ⊎ (LONGEST_LINE ≤ most)) → AreLinesOf most (line ++ rest) (lines_within most (line ++ rest))
    many_by (inl small) = past_line most line rest lacks small (omega arith)
    many_by (inr large) =
        let front : List ℕ = take (LONGEST_LINE + 1) line in
        let later : List ℕ = drop (LONGEST_LINE + 1) line ++ rest in
        let size : length front ≡ LONGEST_LINE + 1 = length-take-le (LONGEST_LINE + 1) line (omega arith) in
        let parts : line ++ rest ≡ front ++ later = ap (λ (t : List ℕ). t ++ rest) (sym (take-append-drop (LONGEST_LINE + 1) line)) ∙ append_assoc front (drop (LONGEST_LINE + 1) line) rest in
        let ends = too_long_line most front later (take_lacks (LONGEST_LINE + 1) line lacks) (omega (arith, size)) (omega (arith, size)) in
        rw (parts, ends) (record { each = tt; ends = (front, later, refl, take_lacks (LONGEST_LINE + 1) line lacks, size, omega (arith, size)) })

-- A text without a line feed.
unbroken_short : (most : ℕ) (text : List ℕ) → Lacks 10 text → length text ≤ LONGEST_LINE → length text ≤ most → AreLinesOf most text (lines_within most text)
unbroken_short most [] lacks short within = rw (no_lines most) (record { each = tt; ends = (refl, omega arith) })
unbroken_short most (b ∷ text) lacks short within =
    let some : 0 < length (b ∷ text) = omega arith in
    let joined : script_of ((b ∷ text) ∷ []) ≡ with_last_line_feed (b ∷ text) = sym (ap script_of (line_alone (b ∷ text) lacks some)) ∙ lines_joined (b ∷ text) in
    rw (line_at_end most (b ∷ text) lacks some short within) (record { each = ((lacks, short), tt); ends = (joined, within) })

unbroken : (most : ℕ) (text : List ℕ) → Lacks 10 text → AreLinesOf most text (lines_within most text)
unbroken most text lacks = by (cases_lt LONGEST_LINE (length text)) (cases_lt most (length text))
  where
    by : ((LONGEST_LINE < length text) ⊎ (length text ≤ LONGEST_LINE)) → ((most < length text) ⊎ (length text ≤ most)) → AreLinesOf most text (lines_within most text)
    by (inl long) other = rw (append-nil text) at (too_many most text [] lacks long)
    by (inr short) (inl past) = rw (append-nil text) at (past_line most text [] lacks (omega arith) past)
    by (inr short) (inr within) = unbroken_short most text lacks short within

-- The first line's line feed is the byte after the most.
feed_too_many : (most : ℕ) (line rest : List ℕ) → Lacks 10 line → length line ≤ LONGEST_LINE → most ≡ length line → AreLinesOf most (line ++ 10 ∷ rest) (lines_within most (line ++ 10 ∷ rest))
feed_too_many most line rest lacks short is =
    rw (is, feed_past line rest lacks short) (record { each = tt; ends = (line, 10 ∷ rest, refl, lacks, short, omega arith, omega arith) })

-- A line with its line feed, and then a shorter text.
feed_first : (most : ℕ) (line rest : List ℕ) → Lacks 10 line → AreLinesOf (most - (length line + 1)) rest (lines_within (most - (length line + 1)) rest)
    → ((LONGEST_LINE < length line) ⊎ (length line ≤ LONGEST_LINE)) → ((length line < most) ⊎ (most ≤ length line)) → ((most < length line) ⊎ (length line ≤ most)) → AreLinesOf most (line ++ 10 ∷ rest) (lines_within most (line ++ 10 ∷ rest))
feed_first most line rest lacks later (inl long) less past = too_many most line (10 ∷ rest) lacks long
feed_first most line rest lacks later (inr short) (inl less) past =
    rw (lines_cut most line rest lacks short less) (record {
      each = ((lacks, short), later.each);
      ends = line_first (lines_within (most - (length line + 1)) rest).ending most line rest (lines_within (most - (length line + 1)) rest).whole lacks less later.ends;
    })
feed_first most line rest lacks later (inr short) (inr more) (inl past) = past_line most line (10 ∷ rest) lacks (omega arith) past
feed_first most line rest lacks later (inr short) (inr more) (inr all) = feed_too_many most line rest lacks short (omega arith)

lines_step : (n most : ℕ) (text : List ℕ) → length text < suc n → ((most : ℕ) (text : List ℕ) → length text < n → AreLinesOf most text (lines_within most text))
    → (((line : List ℕ) × (rest : List ℕ) × (text ≡ line ++ 10 ∷ rest) × Lacks 10 line) ⊎ Lacks 10 text) → AreLinesOf most text (lines_within most text)
lines_step n most text few again (inr lacks) = unbroken most text lacks
lines_step n most text few again (inl (line, rest, is, lacks)) =
    let size : length text ≡ length line + suc (length rest) = ap length is ∙ length-append line (10 ∷ rest) in
    rw is (feed_first most line rest lacks (again (most - (length line + 1)) rest (omega arith)) (cases_lt LONGEST_LINE (length line)) (cases_lt (length line) most) (cases_lt most (length line)))

lines_by : (n most : ℕ) (text : List ℕ) → length text < n → AreLinesOf most text (lines_within most text)
lines_by zero most text few = absurd (omega arith)
lines_by (suc n) most text few = lines_step n most text few (λ m t less. lines_by n m t less) (first_feed text)

pub lines_are_lines : (most : ℕ) (text : List ℕ) → AreLinesOf most text (lines_within most text)
lines_are_lines most text = lines_by (length text + 1) most text (omega arith)
