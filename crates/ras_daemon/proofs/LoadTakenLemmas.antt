-- No line of a made-up script is rejected: its machine description is accepted, and the account and the journal have
-- room for all that its reports add.
use Rattle.std.proofs.Common.{◌≡◌, ℕ, ◌+◌, ◌<◌, ◌≤◌, suc, zero, cond, Bool, true, false, List, [], ◌∷◌, ◌++◌, codes, length, map, Option, Some, None, Result, Ok, IfSome, refl, sym, ap, subst, ◌∙◌, arith}
use Rattle.std.specs.Prelude.{if◌then◌else◌}
use Rattle.std.specs.List.{AllByRecursion, enumerate_from}
use Rattle.std.specs.Option.{option_map, option_map_or}
use Rattle.std.proofs.lemmas.List.{map-append}
use Rattle.mca_status.specs.Classes.{class_of_rows}
use Rattle.dimm_topology.specs.declared.row.Row.{Row as RowOf}
use Rattle.dimm_topology.specs.declared.row.Row.TheVariants.{Cpu, Module}
use Rattle.dimm_topology.specs.Topology.{IsTopology}
use Rattle.ras_facts.specs.declared.bank.BankReport.{BankReport}
use Rattle.ras_facts.specs.declared.entry.Entry.{Entry}
use Rattle.ras_facts.specs.declared.fact.Fact.{Fact as FactOf}
use Rattle.ras_facts.specs.declared.items.Item.{Item}
use Rattle.ras_facts.specs.declared.name.Name.{Name}
use Rattle.ras_facts.specs.Facts.{bank_item, bank_name, cap_in, status_in}
use Rattle.ras_facts.specs.Valid.{IsValidFact}
use Rattle.ras_facts.proofs.BankLemmas.{bank_valid}
use Rattle.ras_facts.specs.declared.details.Detail.TheVariants.{Bank as bank_detail}
use Rattle.ras_account.specs.Account.{State}
use Rattle.ras_account.specs.Continued.{account_after, account_after_all, is_fresh_in}
use Rattle.ras_account.specs.Numbers.{fresh_entries_in}
use Rattle.ras_account.proofs.SoundLemmas.{empty-sound}
use Rattle.ras_journal.specs.declared.standing.Standing.{Standing}
use Rattle.ras_journal.specs.File.{front_of}
use Rattle.ras_journal.specs.Recovered.{journal_of, position_of}
use Rattle.ras_script.specs.Line.{line_of}
use Rattle.ras_script.specs.LineLaws.{IsBankInRange, IsInRange, line_text}
use Rattle.ras_script.specs.Lines.{Lines, script_ended, script_lines}
use Rattle.ras_script.specs.declared.line.Line.{Line}
use Rattle.ras_script.specs.declared.line.Line.TheVariants.{Report}
use Rattle.ras_script.specs.declared.line.LineRefused.{LineRefused}
use Rattle.ras_script.specs.declared.line.ErrorReport.TheVariants.{Bank}
use Rattle.ras_script.proofs.LineTextLemmas.{text_read}
use Rattle.ras_events.specs.Making.{entries_in, made_by_report}
use Rattle.ras_events.specs.declared.made.Piece.{Piece}
use Rattle.ras_events.specs.Described.{NumberedLine}
use Rattle.ras_run.specs.Sites.{Site, Start, first_site}
use Rattle.ras_run.specs.News.{has_no_room_for, lacks_room_for, standing_with_news}
use Rattle.ras_run.specs.Places.{Place, entries_at, places_from, site_at}
use Rattle.ras_daemon.specs.Script.{reads_in}
use Rattle.ras_exit.specs.declared.exit.Exit.{Exit}
use Rattle.ras_exit.specs.declared.exit.Exit.TheVariants.{Done, Full}
use Rattle.ras_exit.specs.ScriptEnd.{ending_exit}
use Rattle.ras_load.specs.LoadScript.{bank_line, bank_lines, bank_number, generated, load_bank, load_lines, load_script, machine_lines}
use Rattle.ras_load.specs.declared.script.TheConstants.{MOST_LINES}
use Rattle.ras_load.proofs.FeedLemmas.{lines_whole}
use Rattle.ras_load.proofs.ReadingLemmas.{line_in_range, lines_in_range}
use Rattle.ras_run.specs.Status.{refusal_at}
use Rattle.ras_run.proofs.PlaceLemmas.{places-append, site-snoc}
use Rattle.ras_daemon.proofs.PlaceLemmas.{enumerate-append}
use Rattle.ras_daemon.specs.RunStatus.{empty_start, first_refused, refused_or, run_exit}
use Rattle.ras_daemon.proofs.LoadRoomLemmas.{HasPlace, account_has_room, entry_of_one, journal_has_room, kept, nothing_past, report_of_one, stays, wider}
use Rattle.ras_run.proofs.CountLemmas.{no_or}

-- ---- what the lines are read as

abbrev pub asked : Line → Result Line LineRefused
asked line = Ok line

-- lines as they were written, numbered from 1
abbrev pub numbered : List Line → List NumberedLine
numbered lines = enumerate_from 1 (map asked lines)

lines_read : (lines : List Line) → AllByRecursion IsInRange lines → map line_of (map line_text lines) ≡ map asked lines
lines_read [] all = refl
lines_read (line ∷ lines) all = λ i. text_read line all.0 i ∷ lines_read lines all.1 i

pub reads_are : (n : ℕ) → n ≤ MOST_LINES → reads_in (map line_text (load_lines n)) ≡ numbered (load_lines n)
reads_are n few = ap (enumerate_from 1) (lines_read (load_lines n) (lines_in_range n few))

pub numbered-snoc : (lines : List Line) (line : Line) → numbered (lines ++ line ∷ []) ≡ numbered lines ++ (1 + length (map asked lines), asked line) ∷ []
numbered-snoc lines line = ap (enumerate_from 1) (map-append asked lines (line ∷ [])) ∙ enumerate-append 1 (map asked lines) (asked line ∷ [])

-- ---- what a report adds after an account

record TakesEntries (k : ℕ) (account : State) (standing : Standing) (entries : List Entry) : Type 0 where
  pub room : has_no_room_for account standing entries ≡ false
  pub place : HasPlace (k + 1) (account_after_all account entries) (standing_with_news account standing (fresh_entries_in account entries))

takes_none : (k : ℕ) (account : State) (standing : Standing) → k < 50000 → HasPlace k account standing → TakesEntries k account standing []
takes_none k account standing few is = record { room = no_or _ false (nothing_past k account standing few is) refl; place = wider k account standing is }

module _ (k : ℕ) (account : State) (standing : Standing) (name : Name) (seconds : ℕ) (item : Item) (few : k < 50000) (is : HasPlace k account standing) (valid : IsValidFact (report_of_one name seconds item)) where
  abbrev entry : Entry
  entry = entry_of_one name seconds item

  news_room : (fresh : Bool) → lacks_room_for account standing (if fresh then entry ∷ [] else []) ≡ false
  news_room true = journal_has_room k account standing name seconds item few is valid
  news_room false = refl

  news_place : (fresh : Bool) → HasPlace (k + 1) (account_after account entry) (standing_with_news account standing (if fresh then entry ∷ [] else []))
  news_place true = kept k account standing name seconds item few is valid
  news_place false = stays k account standing name seconds item few is valid

  takes_one : TakesEntries k account standing (entry ∷ [])
  takes_one = record {
    room = no_or _ _ (account_has_room k account standing name seconds item few is valid) (news_room (is_fresh_in account entry));
    place = news_place (is_fresh_in account entry);
  }

-- what the report of a bank makes: nothing, or a fact with one item
abbrev pub made_by : {C : Type 0} → BankReport → (C → Item) → Option C → List Piece
made_by bank item_of class =
    option_map_or made_by_report (
    option_map (λ (fact : FactOf). record { fact = fact; details = bank_detail bank ∷ [] })
    (option_map (λ c. report_of_one (bank_name bank) bank.seconds (item_of c)) class))
    []

takes_made : {C : Type 0} (k : ℕ) (account : State) (standing : Standing) (bank : BankReport) (item_of : C → Item) (class : Option C) → k < 50000 → HasPlace k account standing
    → IfSome (option_map (λ c. report_of_one (bank_name bank) bank.seconds (item_of c)) class) IsValidFact
    → TakesEntries k account standing (entries_in (made_by bank item_of class))
takes_made k account standing bank item_of None few is valid = takes_none k account standing few is
takes_made k account standing bank item_of (Some c) few is valid = takes_one k account standing (bank_name bank) bank.seconds (item_of c) few is valid

-- ---- the lines so far

abbrev machine_rows : List RowOf
machine_rows = Cpu 0 0 ∷ Module (codes "M0") 0 7 0 ∷ Module (codes "M1") 0 7 1 ∷ Module (codes "M2") 0 7 2 ∷ Module (codes "M3") 0 7 3 ∷ []

machine_is : IsTopology machine_rows
machine_is = record { apart = (refl, (refl, (refl, (refl, (refl, tt))))); upright = refl; named = refl; labelled = refl; small = omega arith }

-- none of these lines is rejected
refused-snoc : (ps : List Place) (p : Place) → first_refused ps ≡ None → refusal_at p ≡ None → first_refused (ps ++ p ∷ []) ≡ None
refused-snoc [] p none taken = rw taken refl
refused-snoc (q ∷ ps) p none taken = by (refusal_at q) (λ rest. refused-snoc ps p rest taken) none
  where
    by : (found : Option Exit) → (first_refused ps ≡ None → first_refused (ps ++ p ∷ []) ≡ None) → refused_or found q (first_refused ps) ≡ None → refused_or found q (first_refused (ps ++ p ∷ [])) ≡ None
    by None rest none = rest none
    by (Some why) rest none = absurd cc

-- this many reports were taken
pub record HasTaken (k : ℕ) (site : Site) : Type 0 where
  pub rows : site.settings.topology ≡ machine_rows
  pub place : HasPlace k site.account site.standing

pub record AreTaken (start : Start) (k : ℕ) (before : List NumberedLine) : Type 0 where
  pub none : first_refused (places_from (first_site start) before) ≡ None
  pub has : HasTaken k (site_at start before)

module _ (start : Start) (k : ℕ) (before : List NumberedLine) (number : ℕ) (bank : BankReport) (few : k < 50000) (are : AreTaken start k before) (range : IsBankInRange bank) where
  abbrev site : Site
  site = site_at start before

  abbrev read : NumberedLine
  read = (number, Ok (Report (Bank bank)))

  takes : TakesEntries k site.account site.standing (entries_at (site, read))
  takes =
      let numbers = range.0 in
      takes_made k site.account site.standing bank (bank_item bank site.settings.topology) (class_of_rows (cap_in bank) (status_in bank)) few are.has.place
      (bank_valid bank site.settings.topology (numbers.0, range.1, range.2, numbers.1.1.0) numbers.1.0 numbers.1.1.1.1.1.1.0 (subst IsTopology (sym are.has.rows) machine_is))

  not_refused : refusal_at (site, read) ≡ None
  not_refused = ap (λ full. cond full (Some Full) None) takes.room

  taken_more : AreTaken start (k + 1) (before ++ read ∷ [])
  taken_more = record {
    none = rw (places-append (first_site start) before (read ∷ [])) (refused-snoc (places_from (first_site start) before) (site, read) are.none not_refused);
    has = subst (HasTaken (k + 1)) (sym (site-snoc (first_site start) before read)) (record { rows = are.has.rows; place = takes.place });
  }

machine_taken : (start : Start) → HasPlace 0 start.account start.standing → AreTaken start 0 (numbered machine_lines)
machine_taken start place = record { none = refl; has = record { rows = refl; place = place } }

pub banks_more : (start : Start) (n : ℕ) → HasPlace 0 start.account start.standing → n ≤ MOST_LINES → AreTaken start n (numbered (load_lines n))
unfolding bank_lines
banks_more start zero place few = machine_taken start place
banks_more start (suc n) place few =
    let next : ℕ = bank_number (n + 1) in
    let more : AreTaken start (n + 1) (numbered (load_lines n) ++ (1 + length (map asked (load_lines n)), asked (bank_line (n + 1))) ∷ []) =
    taken_more start n (numbered (load_lines n)) (1 + length (map asked (load_lines n))) (load_bank next (generated next)) (omega (arith, few)) (banks_more start n place (omega (arith, few))) (line_in_range (n + 1) (omega (arith, few))) in
    let count : n + 1 ≡ suc n = omega arith in
    subst (λ k. AreTaken start k (numbered (load_lines n ++ bank_line (n + 1) ∷ []))) count
    (subst (AreTaken start (n + 1)) (sym (numbered-snoc (load_lines n) (bank_line (n + 1)))) more)

-- ---- the whole script

pub nothing_opened : HasPlace 0 empty_start.account empty_start.standing
unfolding position_of journal_of front_of
nothing_opened = record {
  account = empty-sound;
  numbers = record { names = omega arith; entries = omega arith; total = omega arith; modules = omega arith; pages = omega arith };
  generation = omega arith;
}

exit_of : (start : Start) (script : List ℕ) (lines : List (List ℕ)) → script_lines script ≡ record { whole = lines; ending = script_ended } → first_refused (places_from (first_site start) (reads_in lines)) ≡ None
    → run_exit start script ≡ Done
exit_of start script lines is none =
    ap (λ (ls : Lines). option_map_or (λ (r : Place × Exit). r.1) (first_refused (places_from (first_site start) (reads_in ls.whole))) (ending_exit (length ls.whole) ls.ending)) is
    ∙ ap (λ refused. option_map_or (λ (r : Place × Exit). r.1) refused Done) none

pub taken_whole : (n : ℕ) → n ≤ MOST_LINES → run_exit empty_start (load_script n) ≡ Done
taken_whole n few =
    let taken : AreTaken empty_start n (numbered (load_lines n)) = banks_more empty_start n nothing_opened few in
    exit_of empty_start (load_script n) (map line_text (load_lines n)) (lines_whole n few) (ap (λ reads. first_refused (places_from (first_site empty_start) reads)) (reads_are n few) ∙ taken.none)
