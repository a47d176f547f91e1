-- The lines of a script within its limits, one at a time.
use Rattle.std.proofs.Common.{one-add, take_all, ◌≡◌, ℕ, suc, ◌+◌, ◌-◌, ◌<◌, ◌≤◌, ◌==◌, Bool, true, false, cond, not, nat_lt, List, [], ◌∷◌, ◌++◌, length, take, refl, ap, sym, ◌∙◌, arith, length-append}
use Rattle.std.proofs.Math.Seq.{take-append-add, take-append_seam, take-nil}
use Rattle.std.proofs.lemmas.Bool.Decides.{nat_tests}
use Rattle.std.proofs.lemmas.List.{append-nil, length-take}
use Rattle.std.specs.List.{slice_split, list_any, take_while, prefix_len}
use Rattle.ras_script.specs.Lines.{script_ended, line_too_long, script_too_long, lines_within, with_line, no_line, is_too_long, without_last}
use Rattle.ras_script.specs.Splitting.{lines_of, without_empty_last}
use Rattle.ras_script.specs.SplittingLaws.{Lacks}
use Rattle.ras_script.specs.declared.reader.TheConstants.{LONGEST_LINE}
use Rattle.ras_script.proofs.SplittingLemmas.{part_first, last_line}
use Rattle.ras_script.proofs.LineAndWordLemmas.{some_part, split_between, split_lacking, some_line}

-- A line that ends with a line feed, and a line that ends with the text.
pub line_cut : (line rest : List ℕ) → Lacks 10 line → lines_of (line ++ 10 ∷ rest) ≡ line ∷ lines_of rest
line_cut line rest lacks =
    ap without_empty_last (split_between 10 line rest ∙ ap (λ (parts : List (List ℕ)). parts ++ slice_split (λ b. b == 10) rest) (split_lacking 10 line lacks))
    ∙ part_first line (slice_split (λ b. b == 10) rest) (some_part (λ b. b == 10) rest)

pub line_alone : (line : List ℕ) → Lacks 10 line → 0 < length line → lines_of line ≡ line ∷ []
line_alone line lacks some = ap without_empty_last (split_lacking 10 line lacks) ∙ last_line line some

-- A line that continues.
onto_head : (line : List ℕ) (b : ℕ) (parts : List (List ℕ)) → 0 < length parts → (head : List ℕ) × (tail : List (List ℕ)) × (parts ≡ head ∷ tail)
onto_head line b [] some = absurd (omega arith)
onto_head line b (part ∷ parts) some = (part, parts, refl)

-- The lines of a text whose front has no line feed: the first line begins with that front.
fronts : (line rest : List ℕ) → Lacks 10 line → (head : List ℕ) × (tail : List (List ℕ)) × (slice_split (λ b. b == 10) (line ++ rest) ≡ (line ++ head) ∷ tail)
fronts [] rest lacks = onto_head [] 0 (slice_split (λ b. b == 10) rest) (some_part (λ b. b == 10) rest)
fronts (b ∷ line) rest lacks =
    let (head, tail, is) = fronts line rest lacks.1 in
    let other : (b == 10) ≡ false = grind (arith, nat_tests, lacks.0) in
    (head, tail, rw (other, is) refl)

kept_first : (part : List ℕ) (parts : List (List ℕ)) → 0 < length part → (tail : List (List ℕ)) × (without_empty_last (part ∷ parts) ≡ part ∷ tail)
kept_first part [] some = ([], last_line part some)
kept_first part (next ∷ parts) some = (without_empty_last (next ∷ parts), refl)

first_goes_on : (line rest : List ℕ) → Lacks 10 line → 0 < length line → (head : List ℕ) × (tail : List (List ℕ)) × (lines_of (line ++ rest) ≡ (line ++ head) ∷ tail)
first_goes_on line rest lacks some =
    let (head, parts, is) = fronts line rest lacks in
    let some_first : 0 < length (line ++ head) = omega (arith, length-append line head) in
    let (tail, kept) = kept_first (line ++ head) parts some_first in
    (head, tail, ap without_empty_last is ∙ kept)

-- A line before others, if the text is past its most bytes only with further lines.
lines_step : (line : List ℕ) (lines : List (List ℕ)) (any past : Bool) → (past ≡ true → 0 < length lines)
    → cond any (record { whole = take (1 + prefix_len (λ l. not (is_too_long l)) lines) (line ∷ lines); ending = line_too_long }) (cond past (record { whole = without_last (line ∷ lines); ending = script_too_long }) (record { whole = line ∷ lines; ending = script_ended }))
    ≡ with_line line (cond any (record { whole = take_while (λ l. not (is_too_long l)) lines; ending = line_too_long }) (cond past (record { whole = without_last lines; ending = script_too_long }) (record { whole = lines; ending = script_ended })))
lines_step line lines true past some = rw one-add refl
lines_step line [] false true some = absurd (omega (arith, some refl))
lines_step line (next ∷ lines) false true some = refl
lines_step line lines false false some = refl

some_lines : (text : List ℕ) → 0 < length text → 0 < length (lines_of text)
some_lines [] some = absurd (omega arith)
some_lines (b ∷ text) some = some_line b text (b == 10) refl

-- The bytes of a text with a line feed that are read.
front_taken : (most : ℕ) (line rest : List ℕ) → length line < most → take (most + 1) (line ++ 10 ∷ rest) ≡ line ++ 10 ∷ take (most - (length line + 1) + 1) rest
front_taken most line rest less =
    let sum : most + 1 ≡ length line + suc (most - (length line + 1) + 1) = omega arith in
    ap (λ n. take n (line ++ 10 ∷ rest)) sum ∙ take-append-add line (10 ∷ rest) (suc (most - (length line + 1) + 1))

past_by : (most size rest whole : ℕ) → whole ≡ size + suc rest → size < most → (t : Bool) → nat_lt (most - (size + 1)) rest ≡ t → nat_lt most whole ≡ t
past_by most size rest whole sum less true is = grind (arith, nat_tests, sum, less, is)
past_by most size rest whole sum less false is = grind (arith, nat_tests, sum, less, is)

same_past : (most : ℕ) (line rest : List ℕ) → length line < most → nat_lt most (length (line ++ 10 ∷ rest)) ≡ nat_lt (most - (length line + 1)) (length rest)
same_past most line rest less =
    let sum : length (line ++ 10 ∷ rest) ≡ length line + suc (length rest) = length-append line (10 ∷ rest) in
    past_by most (length line) (length rest) (length (line ++ 10 ∷ rest)) sum less (nat_lt (most - (length line + 1)) (length rest)) refl

some_taken : (most : ℕ) (rest : List ℕ) → nat_lt most (length rest) ≡ true → 0 < length (take (most + 1) rest)
some_taken most rest over =
    let past : most < length rest = grind (arith, nat_tests, over) in
    omega (arith, length-take (most + 1) rest)

-- A script is cut at a line feed.
pub lines_cut : (most : ℕ) (line rest : List ℕ) → Lacks 10 line → length line ≤ LONGEST_LINE → length line < most
    → lines_within most (line ++ 10 ∷ rest) ≡ with_line line (lines_within (most - (length line + 1)) rest)
unfolding lines_within
lines_cut most line rest lacks short less =
    let lines : List (List ℕ) = lines_of (take (most - (length line + 1) + 1) rest) in
    let is : lines_of (take (most + 1) (line ++ 10 ∷ rest)) ≡ line ∷ lines = ap lines_of (front_taken most line rest less) ∙ line_cut line (take (most - (length line + 1) + 1) rest) lacks in
    let few : is_too_long line ≡ false = grind (arith, nat_tests, short) in
    let past : nat_lt most (length (line ++ 10 ∷ rest)) ≡ nat_lt (most - (length line + 1)) (length rest) = same_past most line rest less in
    rw (is, few, past) (lines_step line lines (list_any is_too_long lines) (nat_lt (most - (length line + 1)) (length rest)) (λ over. some_lines _ (some_taken _ rest over)))

-- A line feed that is the byte after the most.
pub feed_past : (line rest : List ℕ) → Lacks 10 line → length line ≤ LONGEST_LINE → lines_within (length line) (line ++ 10 ∷ rest) ≡ no_line script_too_long
unfolding lines_within
feed_past line rest lacks short =
    let front : take (length line + 1) (line ++ 10 ∷ rest) ≡ line ++ 10 ∷ [] = take-append-add line (10 ∷ rest) 1 in
    let is : lines_of (take (length line + 1) (line ++ 10 ∷ rest)) ≡ line ∷ [] = ap lines_of front ∙ line_cut line [] lacks in
    let few : is_too_long line ≡ false = grind (arith, nat_tests, short) in
    let more : length line < length (line ++ 10 ∷ rest) = omega (arith, length-append line (10 ∷ rest)) in
    let past : nat_lt (length line) (length (line ++ 10 ∷ rest)) ≡ true = grind (arith, nat_tests, more) in
    rw (is, few, past) refl

-- A line whose bytes so far are too many.
pub too_long_line : (most : ℕ) (line rest : List ℕ) → Lacks 10 line → LONGEST_LINE < length line → length line ≤ most + 1 → lines_within most (line ++ rest) ≡ no_line line_too_long
unfolding lines_within
too_long_line most line rest lacks long counts =
    let sum : most + 1 ≡ length line + (most + 1 - length line) = omega arith in
    let front : take (most + 1) (line ++ rest) ≡ line ++ take (most + 1 - length line) rest = ap (λ n. take n (line ++ rest)) sum ∙ take-append-add line rest (most + 1 - length line) in
    let (head, tail, is) = first_goes_on line (take (most + 1 - length line) rest) lacks (omega arith) in
    let more : LONGEST_LINE < length (line ++ head) = omega (arith, length-append line head) in
    let many : is_too_long (line ++ head) ≡ true = grind (arith, nat_tests, more) in
    rw (front, is, many) refl

-- A line that doesn't end at the byte after the most.
pub script_past : (most : ℕ) (line rest : List ℕ) → Lacks 10 line → length line ≤ LONGEST_LINE → length line ≡ most + 1 → lines_within most (line ++ rest) ≡ no_line script_too_long
unfolding lines_within
script_past most line rest lacks short all =
    let front : take (most + 1) (line ++ rest) ≡ line = ap (λ n. take n (line ++ rest)) (sym all) ∙ take-append_seam line rest in
    let is : lines_of (take (most + 1) (line ++ rest)) ≡ line ∷ [] = ap lines_of front ∙ line_alone line lacks (omega arith) in
    let few : is_too_long line ≡ false = grind (arith, nat_tests, short) in
    let more : most < length (line ++ rest) = omega (arith, length-append line rest) in
    let past : nat_lt most (length (line ++ rest)) ≡ true = grind (arith, nat_tests, more) in
    rw (is, few, past) refl

-- A last line without a line feed.
pub line_at_end : (most : ℕ) (line : List ℕ) → Lacks 10 line → 0 < length line → length line ≤ LONGEST_LINE → length line ≤ most → lines_within most line ≡ with_line line (no_line script_ended)
unfolding lines_within
line_at_end most line lacks some short within =
    let front : take (most + 1) line ≡ line = take_all (most + 1) line (omega arith) in
    let is : lines_of (take (most + 1) line) ≡ line ∷ [] = ap lines_of front ∙ line_alone line lacks some in
    let few : is_too_long line ≡ false = grind (arith, nat_tests, short) in
    let all : nat_lt most (length line) ≡ false = grind (arith, nat_tests, within) in
    rw (is, few, all) refl

pub no_lines : (most : ℕ) → lines_within most [] ≡ no_line script_ended
unfolding lines_within
no_lines most =
    let few : nat_lt most 0 ≡ false = grind (arith, nat_tests) in
    rw (take-nil (most + 1), few) refl

-- Joined lists of parts have the last part of the second list.
last_append : (xs ys : List (List ℕ)) → 0 < length ys → without_empty_last (xs ++ ys) ≡ xs ++ without_empty_last ys
last_append [] ys some = refl
last_append (x ∷ xs) ys some =
    let more : 0 < length (xs ++ ys) = omega (arith, length-append xs ys) in
    part_first x (xs ++ ys) more ∙ ap (λ (t : List (List ℕ)). x ∷ t) (last_append xs ys some)

split_cut : (front rest : List ℕ) → lines_of (front ++ 10 ∷ rest) ≡ slice_split (λ b. b == 10) front ++ lines_of rest
split_cut front rest =
    ap without_empty_last (split_between 10 front rest) ∙ last_append (slice_split (λ b. b == 10) front) (slice_split (λ b. b == 10) rest) (some_part (λ b. b == 10) rest)

pub lines_feed_cut : (front rest : List ℕ) → lines_of (front ++ 10 ∷ rest) ≡ lines_of (front ++ 10 ∷ []) ++ lines_of rest
lines_feed_cut front rest =
    let alone : lines_of (front ++ 10 ∷ []) ≡ slice_split (λ b. b == 10) front = split_cut front [] ∙ append-nil (slice_split (λ b. b == 10) front) in
    split_cut front rest ∙ ap (λ (t : List (List ℕ)). t ++ lines_of rest) (sym alone)
