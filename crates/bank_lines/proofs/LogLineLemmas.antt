-- What a line says, by its pieces as the code cuts them.
use Rattle.std.proofs.Common.{◌≡◌, ℕ, suc, ◌+◌, ◌-◌, nat_eq, Bool, true, false, List, [], ◌∷◌, ◌++◌, length, take, drop, refl, sym, ap, ◌∙◌, arith, Option, None, Some, if◌then◌else◌}
use Rattle.std.specs.Prelude.{unwrap_or}
use Rattle.std.specs.List.{starts_with}
use Rattle.std.specs.Option.{option_map, option_map_or}
use Rattle.std.proofs.lemmas.List.{drop-drop, take-append-drop}
use Rattle.std.proofs.lemmas.Slice.Eq.{bytes_eq-Decides}
use Rattle.ras_klog.specs.Reading.{klog_line_after}
use Rattle.ras_klog.specs.declared.line.KlogLine.{KlogLine}
use Rattle.bank_lines.specs.EdacLines.{driver_text, edac_mark}
use Rattle.bank_lines.specs.LogHeads.{is_own, mark_place}
use Rattle.bank_lines.specs.LogLines.{driver_told, edac_line_after, left_unread, line_told_by, log_line_after, log_line_by, log_line_of, log_mark, mark_by, mark_of, printed_plain}
use Rattle.bank_lines.specs.declared.log_line.LogLine.{LogLine}
use Rattle.bank_lines.specs.declared.log_line.LogLine.TheVariants.{Nothing}
use Rattle.bank_lines.specs.declared.log_line.MarkedLine.{MarkedLine}
use Rattle.bank_lines.specs.declared.log_line.MarkedLine.TheVariants.{Plain}
use Rattle.bank_lines.specs.declared.mark.LogMark.{LogMark}
use Rattle.bank_lines.specs.declared.mark.LogMark.TheVariants.{AtPlain, AtEdac}
use Rattle.bank_lines.proofs.LogHeadLemmas.{rest_is}

some_is : (k n : ℕ) → Some k ≡ Some n → k ≡ n
some_is k n is = ap (λ (o : Option ℕ). unwrap_or o 0) is

plain_in : Option LogMark → Option ℕ
plain_in (Some (AtPlain place)) = Some place
plain_in (Some (AtEdac place)) = None
plain_in None = None

pub after_is : (head text : List ℕ) (line : KlogLine) (told : LogLine)
    → is_own head ≡ true → line ≡ klog_line_after text
    → told ≡ line_told_by printed_plain text line
    → told ≡ log_line_after head (log_mark ++ text)
after_is head text line told own line_is told_is =
    told_is
    ∙ ap (λ (l : KlogLine). line_told_by printed_plain text l) line_is
    ∙ ap (λ (holds : Bool). if holds then line_told_by printed_plain text (klog_line_after text) else left_unread text) (sym own)

pub other_is : (head text : List ℕ) (told : LogLine)
    → is_own head ≡ false → told ≡ left_unread text
    → told ≡ log_line_after head (log_mark ++ text)
other_is head text told own told_is =
    told_is ∙ ap (λ (holds : Bool). if holds then line_told_by printed_plain text (klog_line_after text) else left_unread text) (sym own)

-- a prefix begins at its index
at_mark : (line : List ℕ) (place : ℕ) → mark_place log_mark line ≡ Some place → starts_with nat_eq (drop place line) log_mark ≡ true
at_mark [] place found = absurd cc
at_mark (b ∷ line) place found = by (starts_with nat_eq (b ∷ line) log_mark) refl (mark_place log_mark line) refl (at_mark line) found
  where
    by : (starts : Bool) → starts_with nat_eq (b ∷ line) log_mark ≡ starts → (o : Option ℕ) → mark_place log_mark line ≡ o
        → ((k : ℕ) → mark_place log_mark line ≡ Some k → starts_with nat_eq (drop k line) log_mark ≡ true)
        → (if starts then Some 0 else option_map (λ (k : ℕ). k + 1) o) ≡ Some place
        → starts_with nat_eq (drop place (b ∷ line)) log_mark ≡ true
    by true is o o_is ih e =
        let first : 0 ≡ place = some_is 0 place e in
        ap (λ (k : ℕ). starts_with nat_eq (drop k (b ∷ line)) log_mark) (sym first) ∙ is
    by false is None o_is ih e = absurd cc
    by false is (Some k) o_is ih e =
        let next : k + 1 ≡ place = some_is (k + 1) place e in
        let further : place ≡ suc k = omega (arith, next) in
        ap (λ (n : ℕ). starts_with nat_eq (drop n (b ∷ line)) log_mark) further ∙ ih k o_is

plain_place : (line : List ℕ) (place : ℕ) → Some (AtPlain place) ≡ mark_of line → mark_place log_mark line ≡ Some place
unfolding plain_in
plain_place line place found = by (mark_place log_mark line) (mark_place edac_mark line) found
  where
    by : (plain edac : Option ℕ) → Some (AtPlain place) ≡ mark_by plain edac → plain ≡ Some place
    by (Some k) edac is = ap plain_in (sym is)
    by None (Some k) is = absurd cc
    by None None is = absurd cc

-- a line from its prefix on
marked_is : (line : List ℕ) (place : ℕ) → Some (AtPlain place) ≡ mark_of line
    → drop place line ≡ log_mark ++ take (length line - (place + 23)) (drop (place + 23) line)
marked_is line place found =
    let starts : starts_with nat_eq (drop place line) log_mark ≡ true = at_mark line place (plain_place line place found) in
    let front : log_mark ≡ take (length log_mark) (drop place line) = (bytes_eq-Decides log_mark (take (length log_mark) (drop place line))).0 starts in
    let back : drop (length log_mark) (drop place line) ≡ take (length line - (place + 23)) (drop (place + 23) line) =
    drop-drop 23 place line ∙ sym (rest_is (place + 23) line) in
    sym (take-append-drop (length log_mark) (drop place line)) ∙ (λ i. sym front i ++ back i)

pub line_is : (line : List ℕ) (place : ℕ) (told : LogLine) → Some (AtPlain place) ≡ mark_of line
    → told ≡ log_line_after (take place line) (log_mark ++ take (length line - (place + 23)) (drop (place + 23) line))
    → Plain told ≡ log_line_of line
line_is line place told found told_is =
    ap (λ (t : LogLine). Plain t) told_is
    ∙ ap (λ (marked : List ℕ). Plain (log_line_after (take place line) marked)) (sym (marked_is line place found))
    ∙ ap (λ (o : Option LogMark). log_line_by line o) found

pub edac_is : (line : List ℕ) (place : ℕ) (told : MarkedLine) → Some (AtEdac place) ≡ mark_of line
    → told ≡ edac_line_after (take place line) (take (length line - place) (drop place line))
    → told ≡ log_line_of line
edac_is line place told found told_is =
    told_is
    ∙ ap (λ (marked : List ℕ). edac_line_after (take place line) marked) (rest_is place line)
    ∙ ap (λ (o : Option LogMark). log_line_by line o) found

pub none_is : (line : List ℕ) → None ≡ mark_of line → Plain Nothing ≡ log_line_of line
none_is line none = ap (λ (o : Option LogMark). log_line_by line o) none

pub driver_is : (head marked : List ℕ) (text : List ℕ) (told : MarkedLine)
    → Some text ≡ driver_text (take (length marked - 5) (drop 5 marked)) → told ≡ driver_told head text
    → told ≡ edac_line_after head marked
driver_is head marked text told found told_is =
    told_is
    ∙ ap (λ (o : Option (List ℕ)). option_map_or (driver_told head) o (Plain Nothing)) (found ∙ ap driver_text (rest_is 5 marked))

pub no_driver : (head marked : List ℕ) → None ≡ driver_text (take (length marked - 5) (drop 5 marked)) → Plain Nothing ≡ edac_line_after head marked
no_driver head marked none =
    ap (λ (o : Option (List ℕ)). option_map_or (driver_told head) o (Plain Nothing)) (none ∙ ap driver_text (rest_is 5 marked))
