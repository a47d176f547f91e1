-- An event that counts its line's pieces, by the account before the event.
use Rattle.std.proofs.Common.{◌≡◌, ℕ, Bool, true, false, if◌then◌else◌, ◌||◌, Option, None, Some, List, [], ◌++◌, Result, Ok, Err, OnErr, IfErr, refl, sym, ap, subst, ◌∙◌, append-nil, arith}
use Rattle.std.proofs.lemmas.Bool.Decides.{nat_tests}
use Rattle.board_core.specs.Cause.{print_call}
use Rattle.board_core.specs.Doing.{Act, Does, IsBad, Seen, one_end, went_well}
use Rattle.board_core.proofs.DoingLemmas.{does_first, does_then, made_one}
use Rattle.ras_account.specs.Account.{State}
use Rattle.ras_account.specs.Continued.{account_after_all}
use Rattle.ras_account.specs.Numbers.{AreWithin, HasRoomFor, Numbers, are_past, fresh_entries_in, numbers_with}
use Rattle.ras_facts.specs.declared.entry.Entry.{Entry}
use Rattle.ras_journal.specs.declared.standing.Standing.{Standing}
use Rattle.ras_run.specs.declared.ledger.Ledger.{Ledger}
use Rattle.ras_texts.specs.Orders.{order_lines}
use Rattle.ras_texts.specs.Text.{done_line}
use Rattle.ras_events.specs.declared.made.Piece.{Piece}
use Rattle.ras_events.specs.Making.{entries_in}
use Rattle.ras_events.specs.Preparing.{event_text_in, orders_along_entries, text_along}
use Rattle.ras_events.specs.Repeats.{IsRepeat}
use Rattle.ras_events.specs.Sizes.{IsFit}
use Rattle.ras_events.specs.declared.settings.Settings.{Settings}
use Rattle.ras_script.specs.declared.line.Line.{Line}
use Rattle.ras_events.proofs.HistoryLemmas.{event_by_news, news_account}
use Rattle.ras_exit.specs.Acts.{end_of, part_end, print_acts}
use Rattle.ras_exit.specs.Endings.{AnyFault, CallEnding, EndsBy, OnlyFault, answered, ending_of, faulted, source_failed, starved}
use Rattle.ras_exit.specs.declared.exit.Exit.{Exit}
use Rattle.ras_exit.specs.declared.exit.Exit.TheVariants.{Full, PrintFault}
use Rattle.ras_exit.proofs.EndingLemmas.{ends_weaker}
use Rattle.ras_exit.proofs.PrintLemmas.{as_part}
use Rattle.ras_run.specs.LineActs.{event_prints, made_acts, news_acts, told_acts}
use Rattle.ras_run.specs.News.{has_no_room_for, lacks_room_for, standing_with_news}
use Rattle.ras_run.specs.Taking.{CountsMade, CountsNews, CountsPolled, IsPrintExit}

-- ---- room

pub within_past : (n : Numbers) → AreWithin n → are_past n ≡ false
within_past n within = grind (arith, nat_tests, within.names, within.entries, within.total)

pub no_or : (a b : Bool) → a ≡ false → b ≡ false → (a || b) ≡ false
no_or a b one two = rw (one, two) refl

pub text_told : (a now : State) (made : List Piece) (news : List Entry) (first text : List ℕ) → now ≡ a → news ≡ fresh_entries_in a (entries_in made) → first ≡ text_along a made
    → text ≡ first ++ order_lines (account_after_all now news).modules (orders_along_entries now news) → text ≡ event_text_in a made
text_told a now made news first text same news_are first_is text_is =
    text_is
    ∙ (ap (λ bytes. bytes ++ order_lines (account_after_all now news).modules (orders_along_entries now news)) first_is
    ∙ (ap (λ (b : State). text_along a made ++ order_lines (account_after_all b news).modules (orders_along_entries b news)) same
    ∙ (ap (λ (entries : List Entry). text_along a made ++ order_lines (account_after_all a entries).modules (orders_along_entries a entries)) news_are
    ∙ event_by_news a made)))

-- ---- results

pub print_exit : {T : Type 0} (result : Result T Exit) → OnErr result (result ≡ Err PrintFault) → IfErr result IsPrintExit
print_exit (Ok done) is = tt
print_exit {T} (Err why) is = subst (λ (r : Result T Exit). IfErr r IsPrintExit) (sym is) refl

-- The run was cut short after the new entries were counted.
abbrev pub IsCutShort : Exit → Type 0
IsCutShort exit = EndsBy ⊥ (Unit {0}) AnyFault (ending_of exit)

pub cut_short : (result : Result (Unit {0}) Exit) → IfErr result IsPrintExit → IfErr result IsCutShort
cut_short (Ok done) ends = tt
cut_short (Err exit) ends = ends_weaker ⊥ ⊥ (Unit {0}) (Unit {0}) (OnlyFault print_call) AnyFault exit (λ never. never) (λ memory over. over) (λ kind is. tt) ends

pub end_is_bad : (ending : CallEnding) → IsBad (end_of ending)
end_is_bad answered = tt
end_is_bad starved = tt
end_is_bad source_failed = tt
end_is_bad (faulted kind) = tt

-- The pieces are counted even if the part after that is cut short.
pub counted_still : {T : Type 0} (made : List Piece) (before after : Ledger) (result : Result T Exit) → CountsMade {T = Unit {0}} made (Ok tt) before after → IfErr result IsCutShort → CountsMade made result before after
counted_still made before after (Ok done) counts ends = counts
counted_still made before after (Err exit) counts ends =
    ends_weaker ⊥ ((exit ≡ Full) × (has_no_room_for before.account.state before.journal.standing (entries_in made) ≡ true)) (Unit {0}) (Unit {0}) AnyFault
    (λ kind. has_no_room_for before.account.state before.journal.standing (entries_in made) ≡ false) exit (λ never. absurd never) (λ memory over. over) (λ kind any. counts.0) ends

module _ (made : List Piece) (news : List Entry) (before now after : Ledger) (same : now.account.state ≡ before.account.state) (still : now.journal.standing ≡ before.journal.standing)
    (news_are : news ≡ fresh_entries_in before.account.state (entries_in made)) (within : HasRoomFor before.account.state (entries_in made)) where
  abbrev a : State
  a = before.account.state

  abbrev s : Standing
  s = before.journal.standing

  room_is : lacks_room_for now.account.state now.journal.standing news ≡ lacks_room_for a s (fresh_entries_in a (entries_in made))
  room_is = rw (same, still) (ap (lacks_room_for a s) news_are)

  is_not_full : lacks_room_for now.account.state now.journal.standing news ≡ false → has_no_room_for a s (entries_in made) ≡ false
  is_not_full room = no_or _ _ (within_past (numbers_with a (entries_in made)) within) (sym room_is ∙ room)

  pub made_counted : {T : Type 0} (printed : Result T Exit) → CountsNews news (Ok tt) now after → IfErr printed IsCutShort → CountsMade made printed before after
  made_counted printed counts ends =
      counted_still made before after printed (
        is_not_full counts.0,
        counts.1 ∙ (ap (λ (b : State). account_after_all b news) same ∙ (ap (account_after_all a) news_are ∙ news_account a (entries_in made))),
        counts.2 ∙ (rw (same, still) (ap (standing_with_news a s) news_are)),
      ) ends

  -- ---- acts

  list_is : news_acts now.journal.standing now.account.state news ≡ news_acts s a (fresh_entries_in a (entries_in made))
  list_is = rw (same, still) (ap (news_acts s a) news_are)

  module _ {X : Type 0} (see : X → Seen) where
    -- The new entries aren't appended.
    pub told_not_kept : (exit : Exit) (x y : X) → Does see (news_acts now.journal.standing now.account.state news) (end_of (ending_of exit)) x y → Does see (told_acts a s made) (end_of (ending_of exit)) x y
    told_not_kept exit x y does =
        does_first see (news_acts s a (fresh_entries_in a (entries_in made))) (print_acts (event_text_in a made)) (end_of (ending_of exit)) x y (end_is_bad (ending_of exit))
        (subst (λ (acts : List Act). Does see acts (end_of (ending_of exit)) x y) list_is does)

    -- The new entries are appended, and the text is printed.
    pub told_kept : (text : List ℕ) (printed : Result (Unit {0}) Exit) (x y z : X) → text ≡ event_text_in a made → Does see (news_acts now.journal.standing now.account.state news) went_well x y
        → Does see (print_acts text) (one_end print_call printed) y z → OnErr printed (printed ≡ Err PrintFault) → Does see (told_acts a s made) (part_end printed) x z
    told_kept text printed x y z text_is first second fault =
        as_part see (told_acts a s made) printed x z fault
        (does_then see (news_acts s a (fresh_entries_in a (entries_in made))) (print_acts (event_text_in a made)) (one_end print_call printed) x y z
        (subst (λ (acts : List Act). Does see acts went_well x y) list_is first) (made_one print_call printed)
        (subst (λ bytes. Does see (print_acts bytes) (one_end print_call printed) y z) text_is second))

-- ---- the pieces are counted unless the part is rejected, for which only the lack of room isn't known before

module _ (made : List Piece) (before after : Ledger) (fit : IsFit made) (refusal : Option Exit)
    (by_room : (full : Bool) → has_no_room_for before.account.state before.journal.standing (entries_in made) ≡ full → refusal ≡ (if full then Some Full else None)) where
  abbrev lacks : Bool
  lacks = has_no_room_for before.account.state before.journal.standing (entries_in made)

  pub counts_unless : (result : Result (Unit {0}) Exit) → CountsMade made result before after → CountsPolled refusal made result before after
  counts_unless (Ok done) c = (by_room false c.0, fit, c.1, c.2)
  counts_unless (Err exit) e =
      ends_weaker ((exit ≡ Full) × (lacks ≡ true)) (refusal ≡ Some exit) (Unit {0}) (Unit {0}) (λ kind. lacks ≡ false) AnyFault exit
      (λ full. by_room true full.1 ∙ ap (λ (e : Exit). Some e) (sym full.0)) (λ memory over. over) (λ kind room. tt) e

  pub ends_unless : (result : Result (Unit {0}) Exit) → CountsMade made result before after → IfErr result (λ exit. EndsBy (Unit {0}) (Unit {0}) (λ kind. (refusal ≡ None) × IsFit made) (ending_of exit))
  ends_unless (Ok done) c = tt
  ends_unless (Err exit) e =
      ends_weaker ((exit ≡ Full) × (lacks ≡ true)) (Unit {0}) (Unit {0}) (Unit {0}) (λ kind. lacks ≡ false) (λ kind. (refusal ≡ None) × IsFit made) exit
      (λ full. tt) (λ memory over. over) (λ kind room. (by_room false room, fit)) e

-- ---- the text is printed, and then the done line

module _ {X : Type 0} (see : X → Seen) (a : State) (number : ℕ) (s : Standing) (made : List Piece) where
  pub not_told : (exit : Exit) (x y : X) → Does see (told_acts a s made) (end_of (ending_of exit)) x y → Does see (made_acts a number s made) (end_of (ending_of exit)) x y
  not_told exit x y does =
      does_first see (told_acts a s made) (print_acts (done_line number)) (end_of (ending_of exit)) x y (end_is_bad (ending_of exit)) does

  pub told_done : (done : List ℕ) (printed : Result (Unit {0}) Exit) (x y z : X) → done ≡ done_line number → Does see (told_acts a s made) went_well x y → Does see (print_acts done) (one_end print_call printed) y z
      → OnErr printed (printed ≡ Err PrintFault) → Does see (made_acts a number s made) (part_end printed) x z
  told_done done printed x y z done_is first second fault =
      as_part see (made_acts a number s made) printed x z fault
      (does_then see (told_acts a s made) (print_acts (done_line number)) (one_end print_call printed) x y z first (made_one print_call printed)
      (subst (λ bytes. Does see (print_acts bytes) (one_end print_call printed) y z) done_is second))

-- ---- a line that reports nothing new

module _ (number : ℕ) (settings : Settings) (line : Line) (text : List ℕ) (before : Ledger) (repeat : IsRepeat before.account.state settings line text) where
  pub repeat_counted : (result : Result (Unit {0}) Exit) → IfErr result IsPrintExit → CountsMade repeat.made result before before
  repeat_counted result ends = made_counted repeat.made [] before before before refl refl (sym repeat.none) repeat.room result (refl, refl, refl) (cut_short result ends)

  pub repeat_acts : event_prints text number ≡ made_acts before.account.state number before.journal.standing repeat.made
  repeat_acts =
      ap (λ bytes. event_prints bytes number)
      (text_told before.account.state before.account.state repeat.made [] text text refl (sym repeat.none) repeat.lines (sym (append-nil text)))
      ∙ ap (λ (news : List Entry). (news_acts before.journal.standing before.account.state news ++ print_acts (event_text_in before.account.state repeat.made)) ++ print_acts (done_line number)) (sym repeat.none)
