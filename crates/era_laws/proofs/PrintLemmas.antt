-- Printed texts as pieces: new reports, orders to replace modules, and other lines.
use Rattle.std.proofs.Common.{◌≡◌, ℕ, Bool, true, false, if◌then◌else◌, List, [], ◌∷◌, ◌++◌, codes, decimal, length, count_by, flat_map, refl, sym, ap, subst, ◌∙◌, append-nil}
use Rattle.std.specs.Prelude.{nat_eq}
use Rattle.std.specs.Int.{to_be_bytes, w64}
use Rattle.std.specs.List.{AllByRecursion, starts_with}
use Rattle.std.proofs.lemmas.List.Concat.{flat_map-append}
use Rattle.hex.specs.Hex.{encode_lower}
use Rattle.cper_records.specs.declared.refusals.RecordRefused.TheVariants.{Short, Signature, Length, DescriptorOut, SectionOut, Section}
use Rattle.cper_records.specs.declared.refusals.Unreadable.{Unreadable as Why}
use Rattle.cper_records.specs.declared.refusals.Unreadable.TheVariants.{NoRecord, OtherId}
use Rattle.dimm_topology.specs.Labels.{Bytes}
use Rattle.page_policy.specs.declared.rows.Order.{Order}
use Rattle.page_policy.specs.declared.rows.Order as Ordered
use Rattle.page_policy.specs.declared.rows.PageRow.{PageRow}
use Rattle.page_policy.specs.declared.rows.PageState.{PageState}
use Rattle.page_policy.specs.declared.rows.PageState.TheVariants.{Kept, Soft, Hard}
use Rattle.ras_account.specs.Account.{State}
use Rattle.ras_account.specs.Continued.{account_after, account_after_all, account_after_fresh, account_with_count, is_fresh_in}
use Rattle.ras_account.specs.History.{is_retired}
use Rattle.ras_account.specs.Modules.{Module}
use Rattle.ras_account.specs.Numbers.{fresh_entries_in}
use Rattle.ras_base.specs.Text.{line_with}
use Rattle.ras_facts.specs.declared.details.Detail.{Detail}
use Rattle.ras_facts.specs.declared.entry.Entry.{Entry}
use Rattle.ras_facts.specs.declared.entry.Entry.TheVariants.{Fact as FactEntry, Limit as PageLimit, Retire, ModuleLimit}
use Rattle.ras_facts.specs.declared.fact.Fact.{Fact}
use Rattle.ras_facts.specs.declared.name.Name.{Name}
use Rattle.ras_texts.specs.Orders.{module_label, module_line, order_line, order_lines, page_line, replaced_line, standing_lines, state_line}
use Rattle.ras_texts.specs.Reports.{entry_lines, report_lines}
use Rattle.ras_texts.specs.Text.{address_text, done_line, limit_text, name_text, repeat_line}
use Rattle.ras_texts.specs.Unreadable.{unreadable_line, unreadable_word}
use Rattle.ras_events.specs.declared.made.Piece.{Piece}
use Rattle.ras_events.specs.declared.made.Piece.TheVariants.{Counted, Unread}
use Rattle.ras_events.specs.Making.{entries_in}
use Rattle.ras_events.specs.Preparing.{event_text_in, orders_along_entries, text_along}
use Rattle.ras_events.proofs.ByteLemmas.{decimal_unbroken, hexadecimal_unbroken, is_unbroken, lacks_from, unbroken-append}
use Rattle.ras_events.proofs.PieceLemmas.{address_unbroken, name_unbroken}
use Rattle.ras_events.proofs.QuietLemmas.{all_both}
use Rattle.ras_exit.specs.declared.exit.Exit.{Exit}
use Rattle.ras_exit.specs.declared.exit.Exit.TheVariants.{BadLine, Damaged, Done, ErstBusy, ErstRefused, ErstStatus, Full, TooLong, Usage}
use Rattle.ras_exit.specs.Reasons.{reason_text}
use Rattle.ras_exit.specs.StopLine.{stop_line}
use Rattle.ras_daemon.proofs.StopLemmas.{reason-unbroken}
use Rattle.ras_daemon.specs.RunOutput.{closing_line}
use Rattle.ras_daemon.specs.Runs.{facts_of}
use Rattle.ras_daemon.proofs.AgainLemmas.{facts_of-append}
use Rattle.era_laws.specs.Printed.{IsPrint, Print, log, other, print_text, replace, told_in}

-- a text consists of pieces, and `told` are the new reports among them
pub record HasPrints (text : List ℕ) (told : List Fact) : Type 0 where
  pub prints : List Print
  pub each : AllByRecursion IsPrint prints
  pub whole : text ≡ flat_map print_text prints
  pub tells : told_in prints ≡ told

-- ---- texts that follow one another

told-both : (xs ys : List Print) → told_in (xs ++ ys) ≡ told_in xs ++ told_in ys
told-both [] ys = refl
told-both (log fact details ∷ xs) ys = ap (λ (facts : List Fact). fact ∷ facts) (told-both xs ys)
told-both (replace label ∷ xs) ys = told-both xs ys
told-both (other line ∷ xs) ys = told-both xs ys

pub prints-none : HasPrints [] []
prints-none = record { prints = []; each = tt; whole = refl; tells = refl }

pub prints-both : (one more : List ℕ) (first second : List Fact) → HasPrints one first → HasPrints more second → HasPrints (one ++ more) (first ++ second)
prints-both one more first second a b = record {
  prints = a.prints ++ b.prints;
  each = all_both IsPrint a.prints b.prints a.each b.each;
  whole = (λ i. a.whole i ++ b.whole i) ∙ sym (flat_map-append print_text a.prints b.prints);
  tells = told-both a.prints b.prints ∙ (λ i. a.tells i ++ b.tells i);
}

-- ---- one piece

prints-line : (line : List ℕ) → is_unbroken line ≡ true → starts_with nat_eq line (codes "log ") ≡ false → HasPrints (line_with line) []
prints-line line unbroken not =
    record { prints = other line ∷ []; each = ((lacks_from line unbroken, not), tt); whole = sym (append-nil (line_with line)); tells = refl }

prints-replace : (label : Bytes) → HasPrints (module_line label) []
prints-replace label = record { prints = replace label ∷ []; each = (tt, tt); whole = sym (append-nil (module_line label)); tells = refl }

prints-log : (fact : Fact) (details : List Detail) → HasPrints (report_lines fact details) (fact ∷ [])
prints-log fact details = record { prints = log fact details ∷ []; each = (tt, tt); whole = sym (append-nil (report_lines fact details)); tells = refl }

prints-all : {X : Type 0} (line : X → List ℕ) → ((x : X) → HasPrints (line x) []) → (xs : List X) → HasPrints (flat_map line xs) []
prints-all line each [] = prints-none
prints-all line each (x ∷ xs) = prints-both (line x) (flat_map line xs) [] [] (each x) (prints-all line each xs)

-- ---- orders

prints-state : (page : ℕ) (state : PageState) → HasPrints (state_line page state) []
prints-state page Kept = prints-none
prints-state page Soft = prints-line (codes "order soft page=" ++ address_text page) (address_unbroken page) refl
prints-state page Hard = prints-line (codes "order hard page=" ++ address_text page) (address_unbroken page) refl

prints-order : (modules : List (Bytes × Module)) (order : Order) → HasPrints (order_line modules order) []
prints-order modules (Ordered.TheVariants.Soft page) = prints-state page Soft
prints-order modules (Ordered.TheVariants.Hard page) = prints-state page Hard
prints-order modules (Ordered.TheVariants.Module place) = prints-replace (module_label modules place)

prints-replaced : (row : Bytes × Module) → HasPrints (replaced_line row) []
prints-replaced row = by row.1.replace
  where
    by : (replaced : Bool) → HasPrints (if replaced then module_line row.0 else []) []
    by true = prints-replace row.0
    by false = prints-none

pub prints-standing : (a : State) → HasPrints (standing_lines a) []
prints-standing a =
    prints-both (flat_map page_line a.pages) (flat_map replaced_line a.modules) [] []
    (prints-all page_line (λ (row : ℕ × PageRow). prints-state row.0 row.1.state) a.pages)
    (prints-all replaced_line prints-replaced a.modules)

-- ---- entries

prints-known : (stale : Bool) (name : Name) → HasPrints (line_with ((if stale then codes "stale " else codes "repeat ") ++ name_text name)) []
prints-known true name = prints-line (codes "stale " ++ name_text name) (name_unbroken name) refl
prints-known false name = prints-line (codes "repeat " ++ name_text name) (name_unbroken name) refl

prints-repeat : (a : State) (entry : Entry) → HasPrints (repeat_line a entry) []
prints-repeat a (FactEntry fact) = prints-known (is_retired a.floor fact.name) fact.name
prints-repeat a (PageLimit limit) = prints-none
prints-repeat a (Retire boot) = prints-none
prints-repeat a (ModuleLimit limit) = prints-none

prints-entry : (details : List Detail) (a : State) (entry : Entry) → HasPrints (entry_lines details a entry) (facts_of (entry ∷ []))
prints-entry details a (FactEntry fact) = prints-log fact details
prints-entry details a (PageLimit limit) = prints-line (codes "limit " ++ limit_text limit) (simp (unbroken-append, decimal_unbroken)) refl
prints-entry details a (Retire boot) =
    prints-line (codes "retire boot=" ++ decimal boot ++ codes " names=" ++ decimal (count_by (is_retired boot) a.names))
    (simp (unbroken-append, decimal_unbroken)) refl
prints-entry details a (ModuleLimit limit) = prints-line (codes "module-limit " ++ limit_text limit) (simp (unbroken-append, decimal_unbroken)) refl

word-unbroken : (why : Why) → is_unbroken (unreadable_word why) ≡ true
word-unbroken (NoRecord Short) = refl
word-unbroken (NoRecord Signature) = refl
word-unbroken (NoRecord Length) = refl
word-unbroken (NoRecord DescriptorOut) = refl
word-unbroken (NoRecord SectionOut) = refl
word-unbroken (NoRecord Section) = refl
word-unbroken OtherId = refl

prints-unread : (id : ℕ) (why : Why) → HasPrints (unreadable_line id why) []
unfolding unreadable_line
prints-unread id why =
    prints-line (codes "unreadable record=" ++ encode_lower (to_be_bytes w64 id) ++ codes " reason=" ++ unreadable_word why)
    (simp (unbroken-append, hexadecimal_unbroken, word-unbroken)) refl

-- ---- an event: its new reports are the reports of the entries that are new at their places

prints-along : (a : State) (pieces : List Piece) → HasPrints (text_along a pieces) (facts_of (fresh_entries_in a (entries_in pieces)))
prints-along a [] = prints-none
prints-along a (Unread id why ∷ pieces) =
    prints-both (unreadable_line id why) (text_along a pieces) [] (facts_of (fresh_entries_in a (entries_in pieces))) (prints-unread id why) (prints-along a pieces)
prints-along a (Counted entry details ∷ pieces) = by (is_fresh_in a entry) (prints-along (account_after a entry) pieces)
  where
    after : Bool → State
    after b = if b then account_after_fresh (account_with_count a) entry else a

    by : (b : Bool) → HasPrints (text_along (after b) pieces) (facts_of (fresh_entries_in (after b) (entries_in pieces)))
        → HasPrints ((if b then entry_lines details a entry else repeat_line a entry) ++ text_along (after b) pieces)
        (facts_of (if b then entry ∷ fresh_entries_in (after b) (entries_in pieces) else fresh_entries_in a (entries_in pieces)))
    by true others =
        let later : List Entry = fresh_entries_in (after true) (entries_in pieces) in
        subst (HasPrints (entry_lines details a entry ++ text_along (after true) pieces)) (sym (facts_of-append (entry ∷ []) later))
        (prints-both (entry_lines details a entry) (text_along (after true) pieces) (facts_of (entry ∷ [])) (facts_of later) (prints-entry details a entry) others)
    by false others = prints-both (repeat_line a entry) (text_along a pieces) [] (facts_of (fresh_entries_in a (entries_in pieces))) (prints-repeat a entry) others

-- a text without new reports, after another text
pub prints-behind : (one more : List ℕ) (told : List Fact) → HasPrints one told → HasPrints more [] → HasPrints (one ++ more) told
prints-behind one more told first second = subst (HasPrints (one ++ more)) (append-nil told) (prints-both one more told [] first second)

pub prints-event : (a : State) (made : List Piece) → HasPrints (event_text_in a made) (facts_of (fresh_entries_in a (entries_in made)))
prints-event a made =
    let entries : List Entry = entries_in made in
    let modules : List (Bytes × Module) = (account_after_all a entries).modules in
    let given : List Order = orders_along_entries a entries in
    prints-behind (text_along a made) (order_lines modules given) (facts_of (fresh_entries_in a entries)) (prints-along a made) (prints-all (order_line modules) (prints-order modules) given)

pub prints-done : (number : ℕ) → HasPrints (done_line number) []
prints-done number = prints-line (codes "done " ++ decimal number) (decimal_unbroken number) refl

-- ---- the last line of a run

prints-refused : (line : ℕ) (why : List ℕ) → is_unbroken why ≡ true → HasPrints (line_with (codes "stop 2 line=" ++ decimal line ++ codes " reason=" ++ why)) []
prints-refused line why told = prints-line (codes "stop 2 line=" ++ decimal line ++ codes " reason=" ++ why) (simp (unbroken-append, decimal_unbroken, told)) refl

prints-stop : (exit : Exit) → HasPrints (stop_line exit) []
prints-stop Usage = prints-line (codes "stop 1 usage") refl refl
prints-stop (BadLine line why) = prints-refused line (reason_text why) (reason-unbroken why)
prints-stop (Damaged file place) =
    prints-line (codes "stop 7 file=" ++ decimal file ++ codes " place=" ++ decimal place) (simp (unbroken-append, decimal_unbroken)) refl
prints-stop (ErstRefused line) = prints-line (codes "stop 9 line=" ++ decimal line) (decimal_unbroken line) refl
prints-stop ErstBusy = prints-line (codes "stop 10 busy") refl refl
prints-stop (ErstStatus code) = prints-line (codes "stop 11 code=" ++ decimal code) (decimal_unbroken code) refl
prints-stop Full = prints-line (codes "stop 8 full") refl refl
prints-stop TooLong = prints-line (codes "stop 13 too-long") refl refl
prints-stop exit = prints-none

pub prints-closing : (a : State) (exit : Exit) → HasPrints (closing_line a exit) []
prints-closing a Done =
    prints-line (codes "end entries=" ++ decimal a.entries ++ codes " names=" ++ decimal (length a.names)) (simp (unbroken-append, decimal_unbroken)) refl
prints-closing a Usage = prints-stop Usage
prints-closing a exit = prints-stop exit
