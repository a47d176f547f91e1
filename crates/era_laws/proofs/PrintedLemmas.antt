-- An era prints only text of events that are counted.
use Rattle.std.proofs.Common.{◌≡◌, ℕ, zero, suc, ◌+◌, ◌<◌, ◌≤◌, ◌==◌, nat_lt, Bool, true, false, if◌then◌else◌, List, [], ◌∷◌, ◌++◌, length, map, take, drop, filter, codes, decimal, Option, None, Some, refl, sym, ap, subst, ◌∙◌, inl, inr, append_assoc, length-append, arith}
use Rattle.std.specs.Prelude.{◌⊎◌, All, unwrap_or}
use Rattle.std.specs.List.{AllByRecursion, IsDistinct, flat_map, slice_split, zip}
use Rattle.std.proofs.lemmas.Bool.{ltb-false, ltb-true}
use Rattle.std.proofs.lemmas.List.{take-append-drop}
use Rattle.std.proofs.Math.ListN.{drop_of_length-le}
use Rattle.std.proofs.lemmas.List.Concat.{flat_map-append}
use Rattle.std.proofs.lemmas.List.Elements.{All-from_recursion, filter-append, recursion_from_All}
use Rattle.board_core.specs.Stop.{Left}
use Rattle.ras_base.specs.Prefix.{IsPrefixOf}
use Rattle.ras_base.specs.Text.{line_with}
use Rattle.ras_account.specs.Account.{State, account_of, names_of}
use Rattle.ras_account.specs.Continued.{account_after, account_after_all, account_after_fresh, account_with_count, is_fresh_in}
use Rattle.ras_account.specs.Fresh.{fresh_entries}
use Rattle.ras_account.specs.History.{History}
use Rattle.ras_account.specs.Numbers.{fresh_entries_in}
use Rattle.ras_account.proofs.FreshLemmas.{names_of-append}
use Rattle.ras_facts.specs.declared.details.Detail.{Detail}
use Rattle.ras_facts.specs.declared.entry.Entry.{Entry}
use Rattle.ras_facts.specs.declared.fact.Fact.{Fact}
use Rattle.ras_facts.specs.declared.items.Item.{Item}
use Rattle.ras_facts.specs.declared.name.Name.{Name}
use Rattle.ras_facts.specs.Names.{same_name}
use Rattle.ras_journal.specs.Recovered.{Recovers}
use Rattle.ras_script.specs.Lines.{without_last}
use Rattle.ras_script.proofs.LineAndWordLemmas.{some_part, split_between}
use Rattle.ras_texts.specs.Orders.{standing_lines}
use Rattle.ras_texts.specs.Reports.{detail_text, empty_line, told_line}
use Rattle.ras_texts.specs.Text.{done_line, item_head, item_line, label_text, name_text, page_text}
use Rattle.ras_events.specs.declared.made.Piece.{Piece}
use Rattle.ras_events.specs.Deeds.{Asking, nothing, polls, reopens}
use Rattle.ras_events.specs.DoneLines.{done_count, ended_lines, is_done_line}
use Rattle.ras_events.specs.Making.{entries_in, polled}
use Rattle.ras_events.specs.Described.{NumberedLine}
use Rattle.ras_events.proofs.DoneLemmas.{done_counts}
use Rattle.ras_run.specs.Deeds.{counted_by, text_by}
use Rattle.ras_run.specs.Output.{done_at, output_at, text_at}
use Rattle.ras_run.specs.Places.{Place, deed_at, entries_at, site_after, site_at}
use Rattle.ras_run.specs.Sites.{Site, Start, first_site}
use Rattle.ras_run.specs.Status.{refusal_at}
use Rattle.ras_daemon.specs.Machine.{Run, RunEvent, text_of, text_upto}
use Rattle.ras_daemon.specs.RunOutput.{output_upto}
use Rattle.ras_daemon.specs.RunStatus.{run_exit}
use Rattle.ras_daemon.specs.Runs.{event_count, facts_of, logged}
use Rattle.ras_script.specs.Line.{is_asking}
use Rattle.ras_events.proofs.DoneLemmas.{last_kept}
use Rattle.ras_daemon.specs.Script.{events_of, reads_of}
use Rattle.ras_daemon.proofs.AgainLemmas.{facts_of-append, names-facts}
use Rattle.ras_daemon.proofs.EventLemmas.{place-done}
use Rattle.ras_daemon.proofs.MachineLemmas.{text-same}
use Rattle.ras_daemon.proofs.RunLawLemmas.{prints-none as silent, reports-none}
use Rattle.era_laws.specs.Eras.{AreEras, Counts, CountsEach, Era, IsEra, TakesScript, done_in, logged_in, logs_upto, printed_in}
use Rattle.era_laws.specs.Printed.{IsPrint, Print, Prints, PrintsEach, TakesSome, log, names_told, other, print_text, replace, told_in}
use Rattle.era_laws.proofs.EraLemmas.{each-counts, logs-once-along, printed-is}
use Rattle.era_laws.proofs.FirstEventLemmas.{events, events-cut, events-some, first_events, left, taken-or}
use Rattle.era_laws.proofs.PrintLemmas.{HasPrints, prints-behind, prints-both, prints-closing, prints-done, prints-event, prints-none, prints-standing}
use Rattle.era_laws.proofs.TakesLemmas.{takes-count, takes-logs}

-- ---- what events print

fresh-append : (a : State) (xs ys : List Entry) → fresh_entries_in a (xs ++ ys) ≡ fresh_entries_in a xs ++ fresh_entries_in (account_after_all a xs) ys
fresh-append a [] ys = refl
fresh-append a (x ∷ xs) ys = by (is_fresh_in a x) (fresh-append (account_after a x) xs ys)
  where
    after : Bool → State
    after b = if b then account_after_fresh (account_with_count a) x else a

    by : (b : Bool) → fresh_entries_in (after b) (xs ++ ys) ≡ fresh_entries_in (after b) xs ++ fresh_entries_in (account_after_all (after b) xs) ys
        → (if b then x ∷ fresh_entries_in (after b) (xs ++ ys) else fresh_entries_in a (xs ++ ys))
        ≡ (if b then x ∷ fresh_entries_in (after b) xs else fresh_entries_in a xs) ++ fresh_entries_in (account_after_all (after b) xs) ys
    by true rest = ap (λ (es : List Entry). x ∷ es) rest
    by false rest = rest

-- the new reports of a line at its place
abbrev told-at : Place → List Fact
told-at place = facts_of (fresh_entries_in place.0.account (entries_at place))

module _ (site : Site) where
  abbrev told-by : Asking → Option (List Piece) → List Fact
  told-by asks reported = facts_of (fresh_entries_in site.account (entries_in (unwrap_or (counted_by site asks reported) [])))

  text-prints : (asks : Asking) (reported : Option (List Piece)) → HasPrints (text_by site.account asks (counted_by site asks reported)) (told-by asks reported)
  text-prints nothing (Some made) = prints-event site.account made
  text-prints (polls seconds) reported = prints-event site.account (polled site.settings.topology seconds site.store)
  text-prints reopens reported = prints-standing site.account
  text-prints asks reported = prints-none

place-text : (p : Place) → HasPrints (text_at p) (told-at p)
place-text p = text-prints p.0 (deed_at p).asks (deed_at p).reported

place-prints : (p : Place) → HasPrints (output_at p) (told-at p)
place-prints p = prints-behind (text_at p) (done_at p) (told-at p) (place-text p) (done (deed_at p).has_done_line)
  where
    done : (b : Bool) → HasPrints (if b then done_line p.1.0 else []) []
    done true = prints-done p.1.0
    done false = prints-none

-- the first events print pieces, whose new reports are the new ones among all that these events report
abbrev ArePrinted : ℕ → Site → List NumberedLine → Type 0
ArePrinted n site reads = HasPrints (flat_map output_at (first_events n site reads)) (facts_of (fresh_entries_in site.account (flat_map entries_at (first_events n site reads))))

events-print : (n : ℕ) (site : Site) (reads : List NumberedLine) → ArePrinted n site reads
events-print zero site reads = prints-none
events-print (suc n) site [] = prints-none
events-print (suc n) site (read ∷ reads) = elim (taken-or (site, read)) [
  | inr refused ↦ rw refused.1 prints-none
  | inl taken ↦
      let entries : List Entry = entries_at (site, read) in
      let next : Site = site_after site read in
      let later : List Place = first_events (left (is_asking read.1) n) next reads in
      let more : List Entry = fresh_entries_in next.account (flat_map entries_at later) in
      rw (events-cut n site read reads output_at silent taken)
      (subst (HasPrints (output_at (site, read) ++ flat_map output_at later))
      (sym (ap (λ (es : List Entry). facts_of (fresh_entries_in site.account es)) (events-cut n site read reads entries_at reports-none taken)
      ∙ ap facts_of (fresh-append site.account entries (flat_map entries_at later))
      ∙ facts_of-append (fresh_entries_in site.account entries) more))
      (prints-both (output_at (site, read)) (flat_map output_at later) (told-at (site, read)) (facts_of more)
      (place-prints (site, read)) (events-print (left (is_asking read.1) n) next reads)))
]

-- the first events of a script print such pieces
output-prints : (start : Start) (script : List ℕ) (n : ℕ) → HasPrints (output_upto start script n) (facts_of (logged start script n))
output-prints start script n =
    prints-both (standing_lines start.account) (flat_map output_at (take n (events_of start script))) [] (facts_of (logged start script n))
    (prints-standing start.account) (events-print n (first_site start) (reads_of script))

-- ---- their done lines

-- text in front of another text takes no done line from it
abbrev KeepsDone : List ℕ → Type 0
KeepsDone text = (more : List ℕ) → done_count more ≤ done_count (text ++ more)

keeps-line : (line : List ℕ) → KeepsDone (line_with line)
keeps-line line more =
    let parts : List ℕ → List (List ℕ) = slice_split (λ b. b == 10) in
    let ended : ended_lines (line_with line ++ more) ≡ parts line ++ ended_lines more =
    ap ended_lines (append_assoc line (10 ∷ []) more) ∙ ap without_last (split_between 10 line more)
    ∙ last_kept (parts line) (parts more) (some_part (λ b. b == 10) more) in
    let size : done_count (line_with line ++ more) ≡ length (filter is_done_line (parts line)) + done_count more =
    ap length (ap (filter is_done_line) ended ∙ filter-append is_done_line (parts line) (ended_lines more))
    ∙ length-append (filter is_done_line (parts line)) (filter is_done_line (ended_lines more)) in
    omega (arith, size)

keeps-none : KeepsDone []
keeps-none more = omega arith

keeps-both : (one next : List ℕ) → KeepsDone one → KeepsDone next → KeepsDone (one ++ next)
keeps-both one next first second more = omega (arith, ap done_count (append_assoc one next more), first (next ++ more), second more)

keeps-all : {X : Type 0} (line : X → List ℕ) → ((x : X) → KeepsDone (line x)) → (xs : List X) → KeepsDone (flat_map line xs)
keeps-all line each [] = keeps-none
keeps-all line each (x ∷ xs) = keeps-both (line x) (flat_map line xs) (each x) (keeps-all line each xs)

keeps-told : (fact : Fact) (told : Item × Detail) → KeepsDone (told_line fact told)
unfolding item_line
keeps-told fact (item, detail) =
    keeps-line (item_head fact item ++ codes " label=" ++ label_text item.label ++ codes " page=" ++ page_text item.page ++ codes " " ++ detail_text detail)

keeps-empty : (fact : Fact) → KeepsDone (empty_line fact)
unfolding empty_line
keeps-empty fact = keeps-line (codes "log " ++ name_text fact.name ++ codes " t=" ++ decimal fact.seconds ++ codes " empty")

keeps-print : (print : Print) → KeepsDone (print_text print)
keeps-print (log fact details) = by (length fact.items == 0)
  where
    by : (b : Bool) → KeepsDone (if b then empty_line fact else flat_map (told_line fact) (zip fact.items details))
    by true = keeps-empty fact
    by false = keeps-all (told_line fact) (keeps-told fact) (zip fact.items details)
keeps-print (replace label) = keeps-line (codes "order module label=" ++ label_text label)
keeps-print (other line) = keeps-line line

keeps-prints : (text : List ℕ) (told : List Fact) → HasPrints text told → KeepsDone text
keeps-prints text told has = subst (λ (printed : List ℕ). KeepsDone printed) (sym has.whole) (keeps-all print_text keeps-print has.prints)

-- n events print n done lines
count-events : (n : ℕ) (site : Site) (reads : List NumberedLine) (more : List ℕ) → n ≤ length (events site reads)
    → n + done_count more ≤ done_count (flat_map output_at (first_events n site reads) ++ more)
count-events zero site reads more few = omega arith
count-events (suc n) site [] more few = absurd (omega arith)
count-events (suc n) site (read ∷ reads) more few =
    let (taken, fewer) = events-some n site read reads few in
    by taken (is_asking read.1) refl (count-events (left (is_asking read.1) n) (site_after site read) reads more fewer)
  where
    p : Place
    p = (site, read)

    later : ℕ → List ℕ
    later m = flat_map output_at (first_events m (site_after site read) reads)

    by : refusal_at p ≡ None → (b : Bool) → is_asking read.1 ≡ b → left b n + done_count more ≤ done_count (later (left b n) ++ more)
        → suc n + done_count more ≤ done_count (flat_map output_at (first_events (suc n) site (read ∷ reads)) ++ more)
    by taken false silent rest = rw (taken, silent) rest
    by taken true event rest =
        let others : List ℕ = later n ++ more in
        rw (taken, event) (omega (
          arith,
          ap done_count
              (append_assoc (output_at p) (later n) more
              ∙ ap (λ (done : List ℕ). (text_at p ++ done) ++ others) (place-done p taken event)
              ∙ append_assoc (text_at p) (done_line p.1.0) others),
          keeps-prints (text_at p) (told-at p) (place-text p) (done_line p.1.0 ++ others),
          done_counts p.1.0 others,
          rest,
        ))

count-output : (start : Start) (script : List ℕ) (n : ℕ) (more : List ℕ) → n ≤ event_count start script → n ≤ done_count (output_upto start script n ++ more)
count-output start script n more few =
    let text : List ℕ = flat_map output_at (take n (events_of start script)) in
    omega (
      arith,
      ap done_count (append_assoc (standing_lines start.account) text more),
      keeps-prints (standing_lines start.account) [] (prints-standing start.account) (text ++ more),
      count-events n (first_site start) (reads_of script) more few,
    )

-- ---- an era

-- of two beginnings of a text, one is a beginning of the other
compare : (xs ys r s : List ℕ) → xs ++ r ≡ ys ++ s → IsPrefixOf xs ys ⊎ ((more : List ℕ) × (1 ≤ length more) × (xs ≡ ys ++ more))
compare [] ys r s is = inl (ys, refl)
compare (x ∷ xs) [] r s is = inr (x ∷ xs, omega arith, refl)
compare (x ∷ xs) (y ∷ ys) r s is =
    let same : x ≡ y = cc in
    let later : xs ++ r ≡ ys ++ s = cc in
    elim (compare xs ys r s later) [ inl front ↦ inl (front.0, λ i. same i ∷ front.1 i) | inr over ↦ inr (over.0, over.1, λ i. same i ∷ over.2 i) ]

-- the text of a run, split after its first events
text-split : (run : Run) (n : ℕ) → text_of run ≡ text_upto run n ++ (flat_map (λ (event : RunEvent). event.prints) (drop n run.does) ++ run.closing)
text-split run n =
    let prints : RunEvent → List ℕ = λ (event : RunEvent). event.prints in
    let one : List ℕ = flat_map prints (take n run.does) in
    let others : List ℕ = flat_map prints (drop n run.does) in
    ap (λ (text : List ℕ). run.opening ++ (text ++ run.closing)) (ap (flat_map prints) (sym (take-append-drop n run.does)) ∙ flat_map-append prints (take n run.does) (drop n run.does))
    ∙ ap (λ (text : List ℕ). run.opening ++ text) (append_assoc one others run.closing)
    ∙ sym (append_assoc run.opening one (others ++ run.closing))

text-whole : (run : Run) (n : ℕ) → length run.does ≤ n → text_of run ≡ text_upto run n ++ run.closing
text-whole run n all =
    text-split run n
    ∙ ap (λ (events : List RunEvent). text_upto run n ++ (flat_map (λ (event : RunEvent). event.prints) events ++ run.closing)) (drop_of_length-le run.does all)

module _ (era : Era) (is : IsEra era) (script : List ℕ) (takes : TakesScript script era) (n : ℕ) (counts : Counts era n) where
  abbrev start : Start
  start = takes.start

  abbrev run : Run
  run = era.run

  abbrev told : List Fact
  told = facts_of (logs_upto run n)

  text-is : text_upto run n ≡ output_upto start script n
  text-is = ap (λ (r : Run). text_upto r n) takes.is ∙ text-same start script n

  upto-prints : HasPrints (text_upto run n) told
  upto-prints =
      subst (λ (text : List ℕ). HasPrints text told) (sym text-is)
      (subst (HasPrints (output_upto start script n)) (ap facts_of (sym (takes-logs script era takes n))) (output-prints start script n))

  closing-prints : HasPrints run.closing []
  closing-prints =
      subst (λ (r : Run). HasPrints r.closing []) (sym takes.is) (prints-closing (site_at start (reads_of script)).account (run_exit start script))

  printed-front : IsPrefixOf (printed_in era) (text_of run)
  printed-front = subst (λ (text : List ℕ). IsPrefixOf text (text_of run)) (sym (printed-is era is)) is.leaves.begins

  abbrev IsPrinted : Type 0
  IsPrinted = (prints : List Print) × Prints era prints × (told_in prints ≡ told)

  printed-of : (text : List ℕ) → HasPrints text told → IsPrefixOf (printed_in era) text → IsPrinted
  printed-of text has front = (
    has.prints,
    record {
      text = subst (IsPrefixOf (printed_in era)) has.whole front;
      each = All-from_recursion IsPrint has.prints has.each;
    },
    has.tells,
  )

  -- an era prints nothing of an event that isn't counted
  overrun : n < length run.does → (more : List ℕ) → 1 ≤ length more → printed_in era ≡ text_upto run n ++ more → ⊥
  overrun less more some whole =
      let few : n ≤ done_count (output_upto start script n ++ more) = count-output start script n more (omega (arith, less, takes-count script era takes)) in
      let printed : printed_in era ≡ output_upto start script n ++ more = whole ∙ ap (λ (text : List ℕ). text ++ more) text-is in
      let most : n ≤ done_in era = subst (λ (text : List ℕ). n ≤ done_count text) (sym printed) few in
      let same : n ≡ done_in era = elim counts.whole [ inl whole ↦ whole | inr next ↦ absurd (omega (arith, most, next)) ] in
      let longer : length (text_upto run n) < length (printed_in era) = omega (arith, ap length whole, length-append (text_upto run n) more, some) in
      let next : n ≡ done_in era + 1 = counts.acknowledged (subst (λ (k : ℕ). length (text_upto run k) < length (printed_in era)) same longer) in
      omega (arith, same, next)

  within : n < length run.does → IsPrefixOf (printed_in era) (text_upto run n)
  within less = elim (compare (printed_in era) (text_upto run n) printed-front.0 (flat_map (λ (event : RunEvent). event.prints) (drop n run.does) ++ run.closing) (printed-front.1 ∙ text-split run n)) [
    | inl front ↦ front
    | inr over ↦ absurd (overrun less over.0 over.1 over.2)
  ]

  era-prints : IsPrinted
  era-prints = by (nat_lt n (length run.does)) refl
    where
      by : (b : Bool) → nat_lt n (length run.does) ≡ b → IsPrinted
      by true less = printed-of (text_upto run n) upto-prints (within (ltb-true n (length run.does) less))
      by false not =
          printed-of (text_upto run n ++ run.closing) (prints-behind (text_upto run n) run.closing told upto-prints closing-prints)
          (subst (IsPrefixOf (printed_in era)) (text-whole run n (ltb-false n (length run.does) not)) printed-front)

-- ---- along eras

prints-along : (eras : List Era) (counts : List ℕ) (here : Left) → AreEras here eras → CountsEach eras counts → AllByRecursion TakesSome eras
    → (prints : List (List Print)) × PrintsEach eras prints × (flat_map told_in prints ≡ facts_of (logged_in eras counts))
prints-along [] [] here follow counted takes = ([], tt, refl)
prints-along [] (n ∷ counts) here follow counted takes = absurd counted
prints-along (era ∷ eras) [] here follow counted takes = absurd counted
prints-along (era ∷ eras) (n ∷ counts) here (begins, is, follow) (one, others) ((script, take_one), takes) =
    let (print, has, tells) = era-prints era is script take_one n one in
    let (prints, each, rest) = prints-along eras counts era.left follow others takes in
    (print ∷ prints, (has, each), (λ i. tells i ++ rest i) ∙ sym (facts_of-append (logs_upto era.run n) (logged_in eras counts)))

pub era-printed : (here : Left) (eras : List Era) (counts : List ℕ) → AreEras here eras → CountsEach eras counts → All TakesSome eras
    → (prints : List (List Print)) × PrintsEach eras prints × (flat_map told_in prints ≡ facts_of (logged_in eras counts))
era-printed here eras counts follow counted takes = prints-along eras counts here follow counted (recursion_from_All TakesSome eras takes)

pub printed-once : (history : History) (here : Left) (eras : List Era) → Recovers (account_of history) here → AreEras here eras → All TakesSome eras
    → (prints : List (List Print)) × PrintsEach eras prints × IsDistinct same_name (names_of (fresh_entries history) ++ names_told prints)
printed-once history here eras opens follow takes =
    let (counts, counted) = each-counts here eras follow in
    let (prints, each, told) = era-printed here eras counts follow counted takes in
    let entries : List Entry = logged_in eras counts in
    let names : names_of (fresh_entries history ++ entries) ≡ names_of (fresh_entries history) ++ names_told prints =
    names_of-append (fresh_entries history) entries
    ∙ ap (λ (names : List Name). names_of (fresh_entries history) ++ names) (names-facts entries ∙ ap (map (λ (fact : Fact). fact.name)) (sym told)) in
    (prints, each, subst (IsDistinct same_name) names (logs-once-along history here eras counts opens follow counted))
