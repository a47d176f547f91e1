-- The lines of joined texts, and how many of them say that an event is done.
use Rattle.std.proofs.Common.{◌≡◌, ℕ, ◌+◌, ◌<◌, ◌≤◌, ◌==◌, Bool, true, false, cond, List, [], ◌∷◌, ◌++◌, length, drop, get_or, codes, decimal, filter, flat_map, refl, sym, ap, ◌∙◌, arith, append_assoc, append-nil, length-append}
use Rattle.std.specs.List.{AllByRecursion, slice_split, onto_first}
use Rattle.std.proofs.lemmas.List.Elements.{filter-append}
use Rattle.ras_base.specs.Text.{line_with}
use Rattle.ras_script.specs.Lines.{without_last}
use Rattle.ras_script.specs.SplittingLaws.{Lacks}
use Rattle.ras_texts.specs.Text.{done_line}
use Rattle.ras_events.specs.DoneLines.{ended_lines, is_done_line, done_lines, done_count}
use Rattle.ras_events.specs.QuietLines.{AreLines, AreQuietLines, IsQuietLine}
use Rattle.ras_script.proofs.LineAndWordLemmas.{some_part, split_between, split_lacking}
use Rattle.ras_script.proofs.ReaderLemmas.{lacks_both}
use Rattle.ras_events.proofs.ByteLemmas.{lacks_from, decimal_lacks}

-- the parts of a text between line feeds
abbrev parts : List ℕ → List (List ℕ)
parts text = slice_split (λ b. b == 10) text

some_parts : (text : List ℕ) → 0 < length (parts text)
some_parts text = some_part (λ b. b == 10) text

last_first : (x : List ℕ) (xs : List (List ℕ)) → 0 < length xs → without_last (x ∷ xs) ≡ x ∷ without_last xs
last_first x [] some = absurd (omega arith)
last_first x (y ∷ xs) some = refl

-- ---- a line in front

ended_cut : (line more : List ℕ) → Lacks 10 line → ended_lines (line ++ 10 ∷ more) ≡ line ∷ ended_lines more
ended_cut line more lacks =
    ap without_last (split_between 10 line more ∙ ap (λ (front : List (List ℕ)). front ++ parts more) (split_lacking 10 line lacks))
    ∙ last_first line (parts more) (some_parts more)

none_ended : (line : List ℕ) → Lacks 10 line → done_count line ≡ 0
none_ended line lacks = ap (λ (ps : List (List ℕ)). length (filter is_done_line (without_last ps))) (split_lacking 10 line lacks)

counted_by : (line : List ℕ) (lines : List (List ℕ)) (t : Bool) → length (cond t (line ∷ filter is_done_line lines) (filter is_done_line lines)) ≡ cond t 1 0 + length (filter is_done_line lines)
counted_by line lines true = omega arith
counted_by line lines false = omega arith

line_counts : (line more : List ℕ) → Lacks 10 line → done_count (line_with line ++ more) ≡ cond (is_done_line line) 1 0 + done_count more
line_counts line more lacks =
    ap done_count (append_assoc line (10 ∷ []) more) ∙ ap (λ (lines : List (List ℕ)). length (filter is_done_line lines)) (ended_cut line more lacks)
    ∙ counted_by line (ended_lines more) (is_done_line line)

-- ---- lines in front

quiet_lines : (lines : List (List ℕ)) (more : List ℕ) → AllByRecursion IsQuietLine lines → done_count (flat_map line_with lines ++ more) ≡ done_count more
quiet_lines [] more all = refl
quiet_lines (line ∷ lines) more all =
    ap done_count (append_assoc (line_with line) (flat_map line_with lines) more) ∙ line_counts line (flat_map line_with lines ++ more) all.0.0
    ∙ ap (λ (t : Bool). cond t 1 0 + done_count (flat_map line_with lines ++ more)) all.0.1
    ∙ omega (arith, quiet_lines lines more all.1)

joined_lines : (lines : List (List ℕ)) (more : List ℕ) → AllByRecursion (Lacks 10) lines → done_count (flat_map line_with lines ++ more) ≡ done_count (flat_map line_with lines) + done_count more
joined_lines [] more all = omega arith
joined_lines (line ∷ lines) more all =
    let front : done_count (line_with line ++ flat_map line_with lines) ≡ cond (is_done_line line) 1 0 + done_count (flat_map line_with lines) = line_counts line (flat_map line_with lines) all.0 in
    ap done_count (append_assoc (line_with line) (flat_map line_with lines) more) ∙ line_counts line (flat_map line_with lines ++ more) all.0
    ∙ omega (arith, front, joined_lines lines more all.1)

pub quiet_count : (text more : List ℕ) → AreQuietLines text → done_count (text ++ more) ≡ done_count more
quiet_count text more quiet = ap (λ (t : List ℕ). done_count (t ++ more)) quiet.whole ∙ quiet_lines quiet.lines more quiet.each

pub joined_count : (text more : List ℕ) → AreLines text → done_count (text ++ more) ≡ done_count text + done_count more
joined_count text more are =
    ap (λ (t : List ℕ). done_count (t ++ more)) are.whole ∙ joined_lines are.lines more are.each ∙ ap (λ (t : List ℕ). done_count t + done_count more) (sym are.whole)

-- ---- a done line

abbrev pub done_text : ℕ → List ℕ
done_text number = codes "done " ++ decimal number

pub done_lacks : (number : ℕ) → Lacks 10 (done_text number)
done_lacks number = lacks_both (codes "done ") (decimal number) (lacks_from (codes "done ") refl) (decimal_lacks number)

done_is : (number : ℕ) → is_done_line (done_text number) ≡ true
done_is number = refl

pub done_counts : (number : ℕ) (more : List ℕ) → done_count (done_line number ++ more) ≡ 1 + done_count more
done_counts number more =
    line_counts (done_text number) more (done_lacks number) ∙ ap (λ (t : Bool). cond t 1 0 + done_count more) (done_is number)

-- ---- a beginning of a text

pub last_kept : (xs more : List (List ℕ)) → 0 < length more → without_last (xs ++ more) ≡ xs ++ without_last more
last_kept [] more some = refl
last_kept (x ∷ xs) more some =
    let longer : 0 < length (xs ++ more) = omega (arith, length-append xs more) in
    last_first x (xs ++ more) longer ∙ ap (λ (t : List (List ℕ)). x ∷ t) (last_kept xs more some)

onto_last : (b : ℕ) (ps tail : List (List ℕ)) → 0 < length ps → 0 < length tail
    → (more : List (List ℕ)) × (0 < length more) × (onto_first b (without_last ps ++ tail) ≡ without_last (onto_first b ps) ++ more)
onto_last b [] tail some more = absurd (omega arith)
onto_last b (p ∷ []) [] some more = absurd (omega arith)
onto_last b (p ∷ []) (t ∷ tail) some more = ((b ∷ t) ∷ tail, omega arith, refl)
onto_last b (p ∷ q ∷ ps) tail some more = (tail, more, refl)

parts_step : (b : ℕ) (part rest : List ℕ) (t : Bool) → (b == 10) ≡ t
    → (tail : List (List ℕ)) × (0 < length tail) × (parts (part ++ rest) ≡ without_last (parts part) ++ tail)
    → (tail : List (List ℕ)) × (0 < length tail) × (parts ((b ∷ part) ++ rest) ≡ without_last (parts (b ∷ part)) ++ tail)
parts_step b part rest true is (tail, some, parted) =
    (tail, some, rw is (ap (λ (ps : List (List ℕ)). [] ∷ ps) parted ∙ ap (λ (ps : List (List ℕ)). ps ++ tail) (sym (last_first [] (parts part) (some_parts part)))))
parts_step b part rest false is (tail, some, parted) =
    let (more, longer, kept) = onto_last b (parts part) tail (some_parts part) some in
    (more, longer, rw is (ap (onto_first b) parted ∙ kept))

parts_front : (part rest : List ℕ) → (tail : List (List ℕ)) × (0 < length tail) × (parts (part ++ rest) ≡ without_last (parts part) ++ tail)
parts_front [] rest = (parts rest, some_parts rest, refl)
parts_front (b ∷ part) rest = parts_step b part rest (b == 10) refl (parts_front part rest)

pub front_count : (part rest : List ℕ) → done_count part ≤ done_count (part ++ rest)
front_count part rest =
    let (tail, some, parted) = parts_front part rest in
    let ended : ended_lines (part ++ rest) ≡ ended_lines part ++ without_last tail = ap without_last parted ∙ last_kept (ended_lines part) tail some in
    let done : done_lines (part ++ rest) ≡ done_lines part ++ filter is_done_line (without_last tail) =
    ap (filter is_done_line) ended ∙ filter-append is_done_line (ended_lines part) (without_last tail) in
    let size : done_count (part ++ rest) ≡ done_count part + length (filter is_done_line (without_last tail)) =
    ap length done ∙ length-append (done_lines part) (filter is_done_line (without_last tail)) in
    omega (arith, size)

pub none_done : (text part rest : List ℕ) → AreQuietLines text → part ++ rest ≡ text → done_count part ≡ 0
none_done text part rest quiet is =
    let whole : done_count text ≡ 0 = ap done_count (sym (append-nil text)) ∙ quiet_count text [] quiet in
    let all : done_count (part ++ rest) ≡ 0 = ap done_count is ∙ whole in
    omega (arith, front_count part rest, all)

-- A beginning of a text that isn't the whole text is a beginning of the text without its last byte.
pub before_last : (part rest xs : List ℕ) (x : ℕ) → part ++ rest ≡ xs ++ x ∷ [] → 1 ≤ length rest → (left : List ℕ) × (part ++ left ≡ xs)
before_last [] rest xs x is some = (xs, refl)
before_last (b ∷ part) rest [] x is some = absurd (omega (arith, ap length is, length-append part rest, some))
before_last (b ∷ part) rest (c ∷ xs) x is some =
    let (left, kept) = before_last part rest xs x (ap (λ (t : List ℕ). drop 1 t) is) some in
    let same : b ≡ c = ap (λ (t : List ℕ). get_or t 0 0) is in
    (left, λ i. same i ∷ kept i)

pub event_begun : (text part rest : List ℕ) (number : ℕ) → AreQuietLines text → part ++ rest ≡ text ++ done_line number → 1 ≤ length rest → done_count part ≡ 0
event_begun text part rest number quiet is some =
    let (left, kept) = before_last part rest (text ++ done_text number) 10 (is ∙ sym (append_assoc text (done_text number) (10 ∷ []))) some in
    let whole : done_count (text ++ done_text number) ≡ 0 = quiet_count text (done_text number) quiet ∙ none_ended (done_text number) (done_lacks number) in
    let all : done_count (part ++ left) ≡ 0 = ap done_count kept ∙ whole in
    omega (arith, front_count part left, all)

pub no_lines_quiet : AreQuietLines []
no_lines_quiet = record { lines = []; each = tt; whole = refl }

pub done_begun : (number : ℕ) (part rest : List ℕ) → part ++ rest ≡ done_line number → 1 ≤ length rest → done_count part ≡ 0
done_begun number part rest is some = event_begun [] part rest number no_lines_quiet is some
