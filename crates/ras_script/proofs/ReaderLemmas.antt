-- What a reader of lines returns and buffers, from one step to the next.
use Rattle.std.proofs.Common.{◌≡◌, ℕ, subst, MatchOption, is_some, ◌+◌, ◌-◌, ◌<◌, ◌≤◌, List, [], ◌∷◌, ◌++◌, length, take, drop, Option, None, Some, IfSome, Result, Ok, Err, Bool, true, false, inl, Contains, get_or, zero, suc, IsTrue, ◌↔◌, refl, ap, sym, ◌∙◌, arith, length-append, append_assoc}
use Rattle.std.proofs.lemmas.List.{append-nil, take-append-drop, drop-drop, length-drop, length-take-le}
use Rattle.std.proofs.lemmas.List.Elements.{at_from_Contains, Contains-append_right, Contains-from_at}
use Rattle.std.proofs.Math.Seq.{take-append_seam}
use lib.Seq.{take-add}
use Rattle.ras_script.specs.Lines.{Lines, lines_within, with_line, no_line, script_ended, line_too_long, script_too_long}
use Rattle.ras_script.specs.Reader.{Advances, Reader, given_count, lines_to_come, AreTaken, Moves, MovesLine, GivesNext}
use Rattle.ras_script.specs.Steps.ReaderSteps.{FeedAt, Finds, GivesLine, IsHeld}
use Rattle.ras_script.specs.SplittingLaws.{Lacks}
use Rattle.ras_script.specs.declared.reader.NextRefused.{NextRefused}
use Rattle.ras_script.specs.declared.reader.NextRefused.TheVariants.{Source, LineTooLong, TooLong}
use Rattle.ras_script.specs.declared.reader.TheConstants.{LONGEST_LINE, LONGEST_SCRIPT}
use Rattle.ras_script.proofs.LinesLemmas.{lines_cut, feed_past, too_long_line, script_past, line_at_end, no_lines}

-- No bytes, and bytes after others.
pub taken_none : (x : Option (List ℕ)) → AreTaken [] x x
taken_none None = refl
taken_none (Some left) = refl

pub taken_more : (xs ys : List ℕ) (first before now : Option (List ℕ)) → AreTaken xs first before → AreTaken ys before now → AreTaken (xs ++ ys) first now
taken_more xs ys None before now one two = rw one at two
taken_more xs ys (Some left) None now one two = absurd one
taken_more xs ys (Some left) (Some rest) None one two = absurd two
taken_more xs ys (Some left) (Some rest) (Some end) one two = one ∙ ap (λ (t : List ℕ). xs ++ t) two ∙ sym (append_assoc xs ys end)

pub moves_none : (r : Reader) (x : Option (List ℕ)) → Moves [] r r x x
moves_none r x = record { bytes = []; taken = taken_none x; kept = append-nil r.held; count = omega arith }

pub moves_more : (old mid new : Reader) (first before now : Option (List ℕ)) → Moves [] old mid first before → Moves [] mid new before now → Moves [] old new first now
moves_more old mid new first before now one two = record {
  bytes = one.bytes ++ two.bytes;
  taken = taken_more one.bytes two.bytes first before now one.taken two.taken;
  kept = sym (append_assoc old.held one.bytes two.bytes) ∙ ap (λ (t : List ℕ). t ++ two.bytes) one.kept ∙ two.kept;
  count = two.count ∙ ap (λ n. n + length two.bytes) one.count ∙ omega (arith, length-append one.bytes two.bytes);
}

pub lacks_both : (xs ys : List ℕ) → Lacks 10 xs → Lacks 10 ys → Lacks 10 (xs ++ ys)
lacks_both [] ys one two = two
lacks_both (x ∷ xs) ys one two = (one.0, lacks_both xs ys one.1 two)

-- The first line feed of a text whose front has no line feed.
pub feed_none : (from : ℕ) (text rest : List ℕ) → rest ≡ drop from text → Lacks 10 (take from text) → Lacks 10 rest → Lacks 10 text
feed_none from text rest is one two =
    let both : Lacks 10 (take from text ++ drop from text) = lacks_both (take from text) (drop from text) one (rw (← is) two) in
    rw take-append-drop at both

pub feed_found : (from place : ℕ) (text rest : List ℕ) → rest ≡ drop from text → from ≤ length text → Lacks 10 (take from text) → FeedAt place rest → FeedAt (from + place) text
feed_found from place text rest is inside one at = record {
  before = rw (take-add from place text, ← is) (lacks_both (take from text) (take place rest) one at.before);
  inside = omega (arith, at.inside, ap length is, length-drop from text);
  parts =
      let sum : from + place + 1 ≡ from + (place + 1) = omega arith in
      sym (take-append-drop from text) ∙ ap (λ (t : List ℕ). take from text ++ t) (sym is ∙ at.parts)
      ∙ sym (append_assoc (take from text) (take place rest) (10 ∷ drop (place + 1) rest))
      ∙ rw (take-add from place text, ← is, sum, ← drop-drop (place + 1) from text, ← is) refl;
}

-- The lines to come don't change while bytes are read.
pub come_same : (old mid : Reader) (before now : Option (List ℕ)) → Moves [] old mid before now
    → IfSome before (λ b. IfSome now (λ n. lines_to_come old b ≡ lines_to_come mid n))
come_same old mid None now moves = tt
come_same old mid (Some b) None moves = tt
come_same old mid (Some b) (Some n) moves =
    let taken : b ≡ moves.bytes ++ n = moves.taken in
    let same : given_count old ≡ given_count mid = omega (arith, moves.count, ap length moves.kept, length-append old.held moves.bytes) in
    let text : old.held ++ b ≡ mid.held ++ n =
    ap (λ (t : List ℕ). old.held ++ t) taken ∙ sym (append_assoc old.held moves.bytes n) ∙ ap (λ (t : List ℕ). t ++ n) moves.kept in
    rw (same, text) refl

-- A statement about the lines to come of the present reader is a statement about the lines at first.
pub of_first : (old mid : Reader) (before now : Option (List ℕ)) (lines : List ℕ → Lines) → Moves [] old mid before now
    → ((n : List ℕ) → lines_to_come mid n ≡ lines n) → IfSome before (λ b. IfSome now (λ n. lines_to_come old b ≡ lines n))
of_first old mid None now lines moves is = tt
of_first old mid (Some b) None lines moves is = tt
of_first old mid (Some b) (Some n) lines moves is = come_same old mid (Some b) (Some n) moves ∙ is n

-- A line was returned.
pub come_line : (size : ℕ) (mid new : Reader) → FeedAt size mid.held → length mid.held ≤ mid.taken → length mid.held ≤ LONGEST_LINE + 1 → given_count mid + size < LONGEST_SCRIPT
    → new.line ≡ take size mid.held → new.held ≡ drop (size + 1) mid.held → new.taken ≡ mid.taken
    → (n : List ℕ) → lines_to_come mid n ≡ with_line new.line (lines_to_come new n)
come_line size mid new at known short within line held taken n =
    let front : length (take size mid.held) ≡ size = length-take-le size mid.held (omega (arith, at.inside)) in
    let text : mid.held ++ n ≡ take size mid.held ++ 10 ∷ (drop (size + 1) mid.held ++ n) =
    ap (λ (t : List ℕ). t ++ n) at.parts ∙ append_assoc (take size mid.held) (10 ∷ drop (size + 1) mid.held) n in
    let left : LONGEST_SCRIPT - given_count new ≡ (LONGEST_SCRIPT - given_count mid) - (length (take size mid.held) + 1) =
    omega (arith, front, taken, ap length held, length-drop (size + 1) mid.held, at.inside, known, within) in
    ap (lines_within (LONGEST_SCRIPT - given_count mid)) text
    ∙ lines_cut (LONGEST_SCRIPT - given_count mid) (take size mid.held) (drop (size + 1) mid.held ++ n) at.before (omega (arith, front, at.inside, short)) (omega (arith, front, within))
    ∙ rw (left, line, held) refl

-- A line feed is the byte after the script's most bytes.
pub come_feed_past : (size : ℕ) (mid : Reader) → FeedAt size mid.held → length mid.held ≤ mid.taken → mid.taken ≤ LONGEST_SCRIPT + 1 → length mid.held ≤ LONGEST_LINE + 1
    → LONGEST_SCRIPT ≤ given_count mid + size → (n : List ℕ) → lines_to_come mid n ≡ no_line script_too_long
come_feed_past size mid at known few short past n =
    let front : length (take size mid.held) ≡ size = length-take-le size mid.held (omega (arith, at.inside)) in
    let text : mid.held ++ n ≡ take size mid.held ++ 10 ∷ (drop (size + 1) mid.held ++ n) =
    ap (λ (t : List ℕ). t ++ n) at.parts ∙ append_assoc (take size mid.held) (10 ∷ drop (size + 1) mid.held) n in
    let most : LONGEST_SCRIPT - given_count mid ≡ length (take size mid.held) = omega (arith, front, at.inside, known, few, past) in
    rw (most, text) (feed_past (take size mid.held) (drop (size + 1) mid.held ++ n) at.before (omega (arith, front, at.inside, short)))

-- The buffer has no line feed, and its bytes are too many.
pub come_line_too_long : (mid : Reader) → Lacks 10 mid.held → LONGEST_LINE < length mid.held → length mid.held ≤ mid.taken → mid.taken ≤ LONGEST_SCRIPT + 1
    → (n : List ℕ) → lines_to_come mid n ≡ no_line line_too_long
come_line_too_long mid lacks long known few n = too_long_line (LONGEST_SCRIPT - given_count mid) mid.held n lacks long (omega (arith, known, few))

pub come_too_long : (mid : Reader) → Lacks 10 mid.held → length mid.held ≤ LONGEST_LINE → IsHeld mid → mid.taken ≡ LONGEST_SCRIPT + 1
    → (n : List ℕ) → lines_to_come mid n ≡ no_line script_too_long
come_too_long mid lacks short is past n =
    script_past (LONGEST_SCRIPT - given_count mid) mid.held n lacks short (omega (arith, is.known, is.allowed, past))

false_not_true : false ≡ true → ⊥
false_not_true h = cc

line_not_script : LineTooLong ≡ TooLong → ⊥
line_not_script h = cc

source_not_script : Source ≡ TooLong → ⊥
source_not_script h = cc

err_not_ok : (refused : NextRefused) (more : Bool) → Err refused ≡ Ok more → ⊥
err_not_ok refused more h = cc

abbrev answer : Bool → Result Bool NextRefused
answer more = Ok more

ok_not_true : answer false ≡ answer true → ⊥
ok_not_true h = cc

no_bytes : (xs : List ℕ) → (0 < length xs → ⊥) → xs ≡ []
no_bytes [] none = refl
no_bytes (x ∷ xs) none = absurd (none (omega arith))

-- What the search for a line's end means for the lines to come.
pub gives_refused : (refused : NextRefused) (old mid : Reader) (before now : Option (List ℕ)) → Moves [] old mid before now → IsHeld mid → Finds (Err refused) mid now
    → IfSome before (λ b. IfSome now (λ n. GivesNext (Err refused) (lines_to_come old b) mid n))
gives_refused LineTooLong old mid before now moves is found =
    of_first old mid before now (λ _. no_line line_too_long) moves (come_line_too_long mid found.0 found.1 is.known is.few)
gives_refused TooLong old mid before now moves is found =
    of_first old mid before now (λ _. no_line script_too_long) moves (come_too_long mid found.0 found.1 is found.2)
gives_refused Source old mid before now moves is found = come_same old mid before now moves

pub gives_line : (result : Result Bool NextRefused) (size : ℕ) (old mid new : Reader) (before now : Option (List ℕ)) → Moves [] old mid before now → IsHeld mid → FeedAt size mid.held
    → GivesLine result size mid new → IfSome before (λ b. IfSome now (λ n. GivesNext result (lines_to_come old b) new n))
gives_line (Ok true) size old mid new before now moves is at gave =
    of_first old mid before now (λ n. with_line new.line (lines_to_come new n)) moves (come_line size mid new at is.known is.buffer gave.within gave.line gave.held gave.taken)
gives_line (Ok false) size old mid new before now moves is at gave = absurd gave
gives_line (Err TooLong) size old mid new before now moves is at gave =
    of_first old mid before now (λ _. no_line script_too_long) moves (come_feed_past size mid at is.known is.few is.buffer gave.1)
gives_line (Err LineTooLong) size old mid new before now moves is at gave = absurd gave
gives_line (Err Source) size old mid new before now moves is at gave = absurd gave

-- What was returned, with its line feed.
pub moves_line : (result : Result Bool NextRefused) (size : ℕ) (old mid new : Reader) (before now : Option (List ℕ)) → Moves [] old mid before now → FeedAt size mid.held
    → GivesLine result size mid new → MovesLine result old new before now
moves_line (Ok true) size old mid new before now moves at gave = inl (record {
  bytes = moves.bytes;
  taken = moves.taken;
  kept = moves.kept ∙ at.parts ∙ rw (← gave.line, ← gave.held) (sym (append_assoc new.line (10 ∷ []) new.held));
  count = gave.taken ∙ moves.count;
})
moves_line (Ok false) size old mid new before now moves at gave = absurd gave
moves_line (Err TooLong) size old mid new before now moves at gave = rw gave.0 moves
moves_line (Err LineTooLong) size old mid new before now moves at gave = absurd gave
moves_line (Err Source) size old mid new before now moves at gave = absurd gave

-- The front of bytes without a line feed has no line feed.
pub front_lacks : (xs ys : List ℕ) → Lacks 10 (xs ++ ys) → Lacks 10 xs
front_lacks [] ys lacks = tt
front_lacks (x ∷ xs) ys lacks = (lacks.0, front_lacks xs ys lacks.1)

pub held_lacks : (old mid : Reader) (before now : Option (List ℕ)) → Moves [] old mid before now → Lacks 10 mid.held → Lacks 10 old.held
held_lacks old mid before now moves lacks = front_lacks old.held moves.bytes (rw moves.kept lacks)

pub read_lacks : (mid new : Reader) (n : ℕ) (before now : Option (List ℕ)) → n ≡ length mid.held → Moves [] mid new before now → Lacks 10 mid.held → Lacks 10 (take n new.held)
read_lacks mid new n before now is moves lacks =
    let front : take n new.held ≡ mid.held = ap (take n) (sym moves.kept) ∙ ap (λ j. take j (mid.held ++ moves.bytes)) is ∙ take-append_seam mid.held moves.bytes in
    rw front lacks

lacks_at : (xs : List ℕ) → Lacks 10 xs → (k d : ℕ) → k < length xs → get_or xs k d ≡ 10 → ⊥
lacks_at [] lacks k d inside is = omega arith
lacks_at (x ∷ xs) lacks zero d inside is = lacks.0 is
lacks_at (x ∷ xs) lacks (suc k) d inside is = lacks_at xs lacks.1 k d (omega arith) is

pub lacks_not_contains : (xs : List ℕ) → Lacks 10 xs → Contains xs 10 → ⊥
lacks_not_contains xs lacks contains =
    let (k, inside, at) = at_from_Contains xs 10 contains in
    lacks_at xs lacks k 0 inside (at 0)

nothing_left : (new : Reader) → new.held ≡ [] → lines_to_come new [] ≡ no_line script_ended
nothing_left new held = ap (lines_within (LONGEST_SCRIPT - given_count new)) (append-nil new.held ∙ held) ∙ no_lines (LONGEST_SCRIPT - given_count new)

pub gives_rest : (result : Bool) (old mid new : Reader) (before now : Option (List ℕ)) → Moves [] old mid before now → IsHeld mid → Finds (Ok None) mid now
    → (IsTrue result ↔ (0 < length mid.held)) → new.line ≡ mid.held → new.held ≡ []
    → IfSome before (λ b. IfSome now (λ n. GivesNext (Ok result) (lines_to_come old b) new n))
gives_rest result old mid new None now moves is found some line held = tt
gives_rest result old mid new (Some b) None moves is found some line held = tt
gives_rest true old mid new (Some b) (Some n) moves is found some line held =
    let none : n ≡ [] = found.3 in
    let more : 0 < length mid.held = some.0 refl in
    come_same old mid (Some b) (Some n) moves ∙ rw (none, append-nil mid.held)
    (line_at_end (LONGEST_SCRIPT - given_count mid) mid.held found.0 more found.1 (omega (arith, is.known, found.2))
    ∙ rw (← line) (ap (with_line new.line) (sym (nothing_left new held))))
gives_rest false old mid new (Some b) (Some n) moves is found some line held =
    let none : n ≡ [] = found.3 in
    let nothing : mid.held ≡ [] = no_bytes mid.held (λ more. false_not_true (some.1 more)) in
    come_same old mid (Some b) (Some n) moves ∙ rw (none, nothing) (no_lines _)

-- With each line the number of returned bytes grows.
count_same : (old mid : Reader) (before now : Option (List ℕ)) → Moves [] old mid before now → given_count mid ≡ given_count old
count_same old mid before now moves = omega (arith, moves.count, ap length moves.kept, length-append old.held moves.bytes)

-- The buffer has at most a line and a byte.
taken_ahead : (old mid : Reader) (before now : Option (List ℕ)) → Moves [] old mid before now → IsHeld mid → length old.held + (mid.taken - old.taken) ≤ LONGEST_LINE + 1
taken_ahead old mid before now moves is = omega (arith, moves.count, ap length moves.kept, length-append old.held moves.bytes, is.buffer)

-- No line was returned, because the search for its end failed.
pub advances_refused : (why : NextRefused) (old mid : Reader) (before now : Option (List ℕ)) → Moves [] old mid before now → IsHeld mid → Finds (Err why) mid now
    → Advances (◌≡◌ {A = Result Bool NextRefused} (Err why) (Ok true)) (◌≡◌ {A = Result Bool NextRefused} (Err why) (Err Source)) old mid
advances_refused why old mid before now moves is found = record {
  line = λ given. absurd (err_not_ok why true given);
  grows = λ given. absurd (err_not_ok why true given);
  ahead = taken_ahead old mid before now moves is;
  few = is.few;
  none = λ failed. lacks why found failed;
}
  where
    lacks : (why : NextRefused) → Finds (Err why) mid now → ◌≡◌ {A = Result Bool NextRefused} (Err why) (Err Source) → Lacks 10 mid.held
    lacks LineTooLong found failed = found.0
    lacks TooLong found failed = found.0
    lacks Source found failed = found

pub advances_line : (result : Result Bool NextRefused) (size : ℕ) (old mid new : Reader) (before now : Option (List ℕ)) → Moves [] old mid before now → IsHeld mid → FeedAt size mid.held
    → GivesLine result size mid new → Advances (result ≡ Ok true) (result ≡ Err Source) old new
advances_line (Ok true) size old mid new before now moves is at gave = record {
  line = λ given. (rw gave.line at.before, omega (arith, ap length gave.line, length-take-le size mid.held (omega (arith, at.inside)), at.inside, is.buffer));
  grows = λ given. omega (arith, count_same old mid before now moves, is.known, at.inside, ap length gave.held, length-drop (size + 1) mid.held, gave.taken);
  ahead = omega (arith, taken_ahead old mid before now moves is, gave.taken);
  few = omega (arith, is.few, gave.taken);
  none = λ failed. absurd cc;
}
advances_line (Ok false) size old mid new before now moves is at gave = absurd gave
advances_line (Err TooLong) size old mid new before now moves is at gave = rw gave.0 (record {
  line = λ given. absurd cc;
  grows = λ given. absurd cc;
  ahead = taken_ahead old mid before now moves is;
  few = is.few;
  none = λ failed. absurd cc;
})
advances_line (Err LineTooLong) size old mid new before now moves is at gave = absurd gave
advances_line (Err Source) size old mid new before now moves is at gave = absurd gave

pub advances_rest : (result : Bool) (old mid new : Reader) (before now : Option (List ℕ)) → Moves [] old mid before now → IsHeld mid → Finds (Ok None) mid now
    → (IsTrue result ↔ (0 < length mid.held)) → new.line ≡ mid.held → new.held ≡ [] → new.taken ≡ mid.taken → Advances (answer result ≡ Ok true) (answer result ≡ Err Source) old new
advances_rest result old mid new before now moves is found some line held taken = record {
  line = λ given. rw line (found.0, found.1);
  grows = λ given. (let more : 0 < length mid.held = some.0 (given_true result given) in omega (arith, count_same old mid before now moves, is.known, ap length held, taken, more));
  ahead = omega (arith, taken_ahead old mid before now moves is, taken);
  few = omega (arith, is.few, taken);
  none = λ failed. absurd cc;
}
  where
    given_true : (result : Bool) → answer result ≡ Ok true → IsTrue result
    given_true true given = refl
    given_true false given = absurd (ok_not_true given)

-- ---- a line feed is held, or none is

contains_first : (text : List ℕ) → Contains (10 ∷ text) 10
contains_first text = Contains-from_at (10 ∷ text) 10 (0, omega arith, λ d. refl)

contains_feed : (size : ℕ) (text : List ℕ) → FeedAt size text → Contains text 10
contains_feed size text at = subst (λ (t : List ℕ). Contains t 10) (sym at.parts) (Contains-append_right (take size text) (10 ∷ drop (size + 1) text) 10 (contains_first (drop (size + 1) text)))

pub holds_feed : (found : Option ℕ) (text : List ℕ) → MatchOption found (Lacks 10 text) (λ place. FeedAt place text) → (is_some found ≡ true) ↔ Contains text 10
holds_feed None text lacks = (λ is. absurd cc, λ holds. absurd (lacks_not_contains text lacks holds))
holds_feed (Some place) text at = (λ is. contains_feed place text at, λ holds. refl)
