-- How scripts split into lines and lines into words.
use Rattle.std.proofs.Common.{◌≡◌, ℕ, ◌+◌, ◌<◌, ◌≤◌, ◌==◌, Bool, true, false, cond, nat_lt, List, [], ◌∷◌, ◌++◌, length, refl, ap, sym, ◌∙◌, arith}
use Rattle.std.proofs.lemmas.Bool.Decides.{nat_tests}
use Rattle.std.proofs.lemmas.List.Elements.{filter-append}
use Rattle.std.proofs.lemmas.List.Splits.{length-slice_split}
use Rattle.std.specs.List.{join_with_byte, slice_split, onto_first, AllByRecursion, filter}
use Rattle.ras_script.specs.Splitting.{lines_of, words_of, without_empty_last}
use Rattle.ras_script.specs.SplittingLaws.{Lacks, IsWord, script_of, with_last_line_feed}
use Rattle.ras_script.proofs.SplittingLemmas.{part_first, last_line}

pub some_part : {X : Type 0} (p : X → Bool) (xs : List X) → 0 < length (slice_split p xs)
some_part p xs = omega (arith, length-slice_split p xs)

-- A byte before the first line.
front_some : (b : ℕ) (parts : List (List ℕ)) → 0 < length (without_empty_last (onto_first b parts))
front_some b [] = omega (arith, ap length (last_line (b ∷ []) (omega arith)))
front_some b (part ∷ []) = omega (arith, ap length (last_line (b ∷ part) (omega arith)))
front_some b (part ∷ next ∷ parts) = omega arith

front_ended : (b : ℕ) (parts : List (List ℕ)) → 0 < length (without_empty_last parts) → script_of (without_empty_last (onto_first b parts)) ≡ b ∷ script_of (without_empty_last parts)
front_ended b [] h = absurd (omega arith)
front_ended b ([] ∷ []) h = absurd (omega arith)
front_ended b ((c ∷ cs) ∷ []) h = ap script_of (last_line (b ∷ c ∷ cs) (omega arith)) ∙ ap (λ lines. b ∷ script_of lines) (sym (last_line (c ∷ cs) (omega arith)))
front_ended b (part ∷ next ∷ parts) h = refl

-- A line feed before a script, and another byte before it.
lines_cons : (b : ℕ) (script : List ℕ) (t : Bool) → (b == 10) ≡ t → lines_of (b ∷ script) ≡ cond t ([] ∷ lines_of script) (without_empty_last (onto_first b (slice_split (λ c. c == 10) script)))
lines_cons b script true h = rw h (part_first [] (slice_split (λ c. c == 10) script) (some_part (λ c. c == 10) script))
lines_cons b script false h = rw h refl

pub some_line : (b : ℕ) (script : List ℕ) (t : Bool) → (b == 10) ≡ t → 0 < length (lines_of (b ∷ script))
some_line b script true h = omega (arith, ap length (lines_cons b script true h))
some_line b script false h = omega (arith, ap length (lines_cons b script false h), front_some b (slice_split (λ c. c == 10) script))

one_byte : (b : ℕ) (t : Bool) → (b == 10) ≡ t → script_of (lines_of (b ∷ [])) ≡ with_last_line_feed (b ∷ [])
one_byte b true h =
    let feed : 10 ≡ b = grind (arith, nat_tests, h) in
    ap script_of (lines_cons b [] true h) ∙ rw h (ap (λ k. k ∷ []) feed)
one_byte b false h = ap script_of (lines_cons b [] false h) ∙ rw h refl

more_bytes : (b c : ℕ) (script : List ℕ) (t : Bool) → (b == 10) ≡ t → script_of (lines_of (c ∷ script)) ≡ with_last_line_feed (c ∷ script) → script_of (lines_of (b ∷ c ∷ script)) ≡ with_last_line_feed (b ∷ c ∷ script)
more_bytes b c script true h rest =
    let feed : 10 ≡ b = grind (arith, nat_tests, h) in
    ap script_of (lines_cons b (c ∷ script) true h) ∙ ap (λ k. k ∷ script_of (lines_of (c ∷ script))) feed ∙ ap (λ k. b ∷ k) rest
more_bytes b c script false h rest =
    ap script_of (lines_cons b (c ∷ script) false h) ∙ front_ended b (slice_split (λ k. k == 10) (c ∷ script)) (some_line c script (c == 10) refl) ∙ ap (λ k. b ∷ k) rest

pub lines_joined : (script : List ℕ) → script_of (lines_of script) ≡ with_last_line_feed script
lines_joined [] = refl
lines_joined (b ∷ []) = one_byte b (b == 10) refl
lines_joined (b ∷ c ∷ script) = more_bytes b c script (b == 10) refl (lines_joined (c ∷ script))

-- Each line has at least one byte of the script.
front_few : (b : ℕ) (parts : List (List ℕ)) → length (without_empty_last (onto_first b parts)) ≤ length (without_empty_last parts) + 1
front_few b [] = omega (arith, ap length (last_line (b ∷ []) (omega arith)))
front_few b (part ∷ []) = omega (arith, ap length (last_line (b ∷ part) (omega arith)))
front_few b (part ∷ next ∷ parts) = omega arith

few_step : (b : ℕ) (script : List ℕ) (t : Bool) → (b == 10) ≡ t → length (lines_of (b ∷ script)) ≤ length (lines_of script) + 1
few_step b script true h = omega (arith, ap length (lines_cons b script true h))
few_step b script false h = omega (arith, ap length (lines_cons b script false h), front_few b (slice_split (λ c. c == 10) script))

pub few_lines : (script : List ℕ) → length (lines_of script) ≤ length script
few_lines [] = omega arith
few_lines (b ∷ script) = omega (arith, few_step b script (b == 10) refl, few_lines script)

-- The parts between occurrences of a byte don't have the byte.
onto_lacking : (byte b : ℕ) (parts : List (List ℕ)) → ¬ (b ≡ byte) → AllByRecursion (Lacks byte) parts → AllByRecursion (Lacks byte) (onto_first b parts)
onto_lacking byte b [] other all = ((other, tt), tt)
onto_lacking byte b (part ∷ parts) other all = ((other, all.0), all.1)

lacking_step : (byte b : ℕ) (parts : List (List ℕ)) (t : Bool) → (b == byte) ≡ t → AllByRecursion (Lacks byte) parts → AllByRecursion (Lacks byte) (cond t ([] ∷ parts) (onto_first b parts))
lacking_step byte b parts true h all = (tt, all)
lacking_step byte b parts false h all = onto_lacking byte b parts (λ same. grind (arith, nat_tests, h, same)) all

pub parts_lack : (byte : ℕ) (text : List ℕ) → AllByRecursion (Lacks byte) (slice_split (λ b. b == byte) text)
parts_lack byte [] = (tt, tt)
parts_lack byte (b ∷ text) = lacking_step byte b (slice_split (λ b. b == byte) text) (b == byte) refl (parts_lack byte text)

last_lacking : (byte : ℕ) (part : List ℕ) (t : Bool) → (length part == 0) ≡ t → Lacks byte part → AllByRecursion (Lacks byte) (cond t [] (part ∷ []))
last_lacking byte part true h all = tt
last_lacking byte part false h all = (all, tt)

lines_lacking : (parts : List (List ℕ)) → AllByRecursion (Lacks 10) parts → AllByRecursion (Lacks 10) (without_empty_last parts)
lines_lacking [] all = tt
lines_lacking (part ∷ []) all = last_lacking 10 part (length part == 0) refl all.0
lines_lacking (part ∷ next ∷ parts) all = (all.0, lines_lacking (next ∷ parts) all.1)

pub lines_unbroken : (script : List ℕ) → AllByRecursion (Lacks 10) (lines_of script)
lines_unbroken script = lines_lacking (slice_split (λ b. b == 10) script) (parts_lack 10 script)

-- words
words_step : (part : List ℕ) (parts : List (List ℕ)) (t : Bool) → nat_lt 0 (length part) ≡ t → Lacks 32 part → AllByRecursion IsWord parts → AllByRecursion IsWord (cond t (part ∷ parts) parts)
words_step part parts true h lacks all = ((grind (arith, nat_tests, h), lacks), all)
words_step part parts false h lacks all = all

words_kept : (parts : List (List ℕ)) → AllByRecursion (Lacks 32) parts → AllByRecursion IsWord (filter (λ word. nat_lt 0 (length word)) parts)
words_kept [] all = tt
words_kept (part ∷ parts) all = words_step part (filter (λ word. nat_lt 0 (length word)) parts) (nat_lt 0 (length part)) refl all.0 (words_kept parts all.1)

pub words_apart : (line : List ℕ) → AllByRecursion IsWord (words_of line)
words_apart line = words_kept (slice_split (λ b. b == 32) line) (parts_lack 32 line)

onto_append : (b : ℕ) (parts more : List (List ℕ)) → 0 < length parts → onto_first b (parts ++ more) ≡ onto_first b parts ++ more
onto_append b [] more h = absurd (omega arith)
onto_append b (part ∷ parts) more h = refl

split_step : (b byte : ℕ) (left right : List ℕ) (t : Bool) → (b == byte) ≡ t → slice_split (λ c. c == byte) (left ++ byte ∷ right) ≡ slice_split (λ c. c == byte) left ++ slice_split (λ c. c == byte) right → slice_split (λ c. c == byte) ((b ∷ left) ++ byte ∷ right) ≡ slice_split (λ c. c == byte) (b ∷ left) ++ slice_split (λ c. c == byte) right
split_step b byte left right true h rest = rw h (ap (λ parts. [] ∷ parts) rest)
split_step b byte left right false h rest = rw h (ap (onto_first b) rest ∙ onto_append b (slice_split (λ c. c == byte) left) (slice_split (λ c. c == byte) right) (some_part (λ c. c == byte) left))

pub split_between : (byte : ℕ) (left right : List ℕ) → slice_split (λ b. b == byte) (left ++ byte ∷ right) ≡ slice_split (λ b. b == byte) left ++ slice_split (λ b. b == byte) right
split_between byte [] right = let same : (byte == byte) ≡ true = grind (arith, nat_tests) in rw same refl
split_between byte (b ∷ left) right = split_step b byte left right (b == byte) refl (split_between byte left right)

pub words_separated : (left right : List ℕ) → words_of (left ++ 32 ∷ right) ≡ words_of left ++ words_of right
words_separated left right = ap (filter (λ word. nat_lt 0 (length word))) (split_between 32 left right) ∙ filter-append (λ word. nat_lt 0 (length word)) (slice_split (λ b. b == 32) left) (slice_split (λ b. b == 32) right)

pub split_lacking : (byte : ℕ) (text : List ℕ) → Lacks byte text → slice_split (λ b. b == byte) text ≡ text ∷ []
split_lacking byte [] h = refl
split_lacking byte (b ∷ text) h =
    let other : (b == byte) ≡ false = grind (arith, nat_tests, h.0) in
    rw other (ap (onto_first b) (split_lacking byte text h.1))

pub words_single : (word : List ℕ) → IsWord word → words_of word ≡ word ∷ []
words_single word is =
    let test : nat_lt 0 (length word) ≡ true = grind (arith, nat_tests, is.0) in
    ap (filter (λ word. nat_lt 0 (length word))) (split_lacking 32 word is.1) ∙ rw test refl

pub words_joined : (words : List (List ℕ)) → AllByRecursion IsWord words → words_of (join_with_byte 32 words) ≡ words
words_joined [] all = refl
words_joined (word ∷ []) all = words_single word all.0
words_joined (word ∷ next ∷ words) all =
    words_separated word (join_with_byte 32 (next ∷ words)) ∙ rw (words_single word all.0, words_joined (next ∷ words) all.1) refl
