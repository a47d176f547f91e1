-- What crashes of a run leave, given the state at its moments.
use Rattle.std.proofs.Common.{◌≡◌, ℕ, ◌+◌, ◌<◌, ◌≤◌, List, [], ◌∷◌, ◌++◌, length, take, refl, sym, ap, ◌∙◌, subst, append_assoc, append-nil, arith, inl, inr, length-append}
use Rattle.std.specs.Prelude.{◌⊎◌, filter}
use Rattle.std.specs.List.{flat_map}
use Rattle.std.proofs.lemmas.List.Concat.{flat_map-append}
use Rattle.std.proofs.lemmas.List.Elements.{filter-append}
use Rattle.board_core.specs.Clock.{Clock, LeftNow}
use Rattle.board_core.specs.Stop.{Left}
use Rattle.erst_store.specs.Store.{Stored}
use Rattle.ras_base.specs.Prefix.{IsPrefixOf}
use Rattle.ras_base.specs.Steps.PrefixLemmas.{IsPrefixOf-trans}
use Rattle.ras_account.specs.Account.{State}
use Rattle.ras_account.specs.Accounts.{IsAccount}
use Rattle.ras_account.specs.Continued.{account_after_all}
use Rattle.ras_journal.specs.Recovered.{Recovers}
use Rattle.ras_texts.specs.Orders.{standing_lines}
use Rattle.ras_events.specs.Described.{NumberedLine}
use Rattle.ras_run.specs.Sites.{Site, Start, first_site}
use Rattle.ras_run.specs.Places.{Place, entries_at, places_from, site_after, site_at}
use Rattle.ras_daemon.specs.Script.{events_of, is_event, reads_of}
use Rattle.ras_events.specs.DoneLines.{done_count}
use Rattle.ras_events.specs.QuietLines.{AreQuietLines}
use Rattle.ras_exit.specs.declared.exit.Exit.{Exit}
use Rattle.ras_exit.specs.declared.exit.Exit.TheVariants.{Done, Usage}
use Rattle.ras_run.specs.Output.{output_at}
use Rattle.ras_run.proofs.PlaceLemmas.{places-append, site-snoc}
use Rattle.ras_run.specs.Status.{places_before_refusal}
use Rattle.ras_exit.specs.Telling.{PrintsPart}
use Rattle.ras_daemon.specs.Headline.{AtOpening, Headline, StopsRecover, account_with}
use Rattle.ras_daemon.specs.Machine.{StoreChange, change_next, last_upto, store_upto}
use Rattle.ras_daemon.specs.RunOf.{run_of}
use Rattle.ras_daemon.specs.RunOutput.{closing_line, lines_output, output_upto, run_output}
use Rattle.ras_daemon.specs.RunStatus.{run_exit}
use Rattle.ras_daemon.specs.Steps.Running.{AreAll, AreFirst, AtEnd, AtLine, AtStart, BetweenLines, OpenMoment, RunMoment, lines_from, outputs}
use Rattle.ras_daemon.specs.StoreDuring.{KeepsRecords, KnownBy}
use Rattle.ras_daemon.proofs.CountLemmas.{account-first, count-first, events_among, events_before, output-first, placed}
use Rattle.ras_daemon.proofs.EventLemmas.{PrintsEvent, Tells, account-along, tells}
use Rattle.ras_daemon.proofs.ListLemmas.{take-whole}
use Rattle.ras_daemon.proofs.FirstLinesLemmas.{closing-same, first-before}
use Rattle.ras_daemon.proofs.PlaceLemmas.{first_more, outputs-snoc}
use Rattle.ras_daemon.proofs.CourseLemmas.{InLine, begun-now, end-now, line-course, part-now}
use Rattle.ras_daemon.proofs.KeptLemmas.{StoreNow, cleared-during, first-kept, kept-during, kept-weaker, known-next, none-kept, store-during}
use Rattle.ras_daemon.proofs.MachineLemmas.{account-same, output-same, text-same}
use Rattle.ras_daemon.proofs.StoreLemmas.{store-first}
use Rattle.ras_events.proofs.DoneLemmas.{event_begun, none_done}
use Rattle.ras_events.proofs.WholeLineLemmas.{end_quiet, standing_quiet}
use Rattle.ras_daemon.proofs.StopLemmas.{stop_quiet}

-- ---- beginnings of what a run prints

-- the outstanding orders at the run's start
abbrev at_start : Start → List ℕ
at_start start = standing_lines start.account

joined-twice : (one two three four : List ℕ) → ((one ++ two) ++ three) ++ four ≡ one ++ (two ++ (three ++ four))
joined-twice one two three four = append_assoc (one ++ two) three four ∙ append_assoc one two (three ++ four)

begins-start : (start : Start) (script part missing : List ℕ) → part ++ missing ≡ at_start start → IsPrefixOf part (run_output start script)
begins-start start script part missing is =
    let others : List ℕ = lines_output start (reads_of script) ++ closing_line (site_at start (reads_of script)).account (run_exit start script) in
    (missing ++ others, sym (append_assoc part missing others) ∙ ap (λ (text : List ℕ). text ++ others) is)

module _ (start : Start) (script : List ℕ) (before : List NumberedLine) where
  lines-split : (first : AreFirst start script before)
      → lines_output start (reads_of script) ≡ outputs start before ++ flat_map output_at (places_before_refusal (places_from (site_at start before) first.rest))
  lines-split first =
      ap (flat_map output_at) (first-before start script before first)
      ∙ flat_map-append output_at (placed start before) (places_before_refusal (places_from (site_at start before) first.rest))

  -- the text of first lines is a beginning of the output
  pub begins-between : AreFirst start script before → IsPrefixOf (at_start start ++ outputs start before) (run_output start script)
  begins-between first =
      let rest : List ℕ = flat_map output_at (places_before_refusal (places_from (site_at start before) first.rest)) in
      let closing : List ℕ = closing_line (site_at start (reads_of script)).account (run_exit start script) in (
        rest ++ closing,
        append_assoc (at_start start) (outputs start before) (rest ++ closing)
            ∙ ap (λ (text : List ℕ). at_start start ++ text) (sym (append_assoc (outputs start before) rest closing) ∙ ap (λ (text : List ℕ). text ++ closing) (sym (lines-split first))),
      )

  -- with a beginning of the last line after all lines it is one, too
  pub begins-end : (exit : Exit) → AreAll start script exit before → (part missing : List ℕ) → part ++ missing ≡ closing_line (site_at start before).account exit
      → IsPrefixOf ((at_start start ++ outputs start before) ++ part) (run_output start script)
  begins-end exit all part missing is = (
    missing,
    joined-twice (at_start start) (outputs start before) part missing
        ∙ (λ i. at_start start ++ (flat_map output_at (sym all.all i) ++ (is ∙ closing-same start script exit before all) i)),
  )

-- with a beginning of what the next line prints it is one, too
pub begins-in : (start : Start) (script : List ℕ) (before : List NumberedLine) (read : NumberedLine) → AreFirst start script (before ++ read ∷ [])
    → (part missing : List ℕ) → part ++ missing ≡ output_at (site_at start before, read)
    → IsPrefixOf ((at_start start ++ outputs start before) ++ part) (run_output start script)
begins-in start script before read first part missing is =
    IsPrefixOf-trans ((at_start start ++ outputs start before) ++ part) (at_start start ++ outputs start (before ++ read ∷ [])) (run_output start script) (
      missing,
      joined-twice (at_start start) (outputs start before) part missing
          ∙ ap (λ (text : List ℕ). at_start start ++ text) (ap (λ (text : List ℕ). outputs start before ++ text) is ∙ sym (outputs-snoc start before read)),
    )
    (begins-between start script (before ++ read ∷ []) first)

-- the same text, grouped another way
behind-here : (here start lines part : List ℕ) → ((here ++ start) ++ lines) ++ part ≡ here ++ ((start ++ lines) ++ part)
behind-here here start lines part = joined-twice here start lines part ∙ ap (λ (text : List ℕ). here ++ text) (sym (append_assoc start lines part))

-- the last line says of no event that it is done
pub closing-quiet : (account : State) (exit : Exit) → AreQuietLines (closing_line account exit)
closing-quiet account Done = end_quiet account
closing-quiet account Usage = stop_quiet Usage
closing-quiet account exit = stop_quiet exit

-- ---- the headline at a moment

module _ (start : Start) (script : List ℕ) (here left : Left) where
  -- the headline, given the number of events that are done by what was printed
  headline-by : (printed : List ℕ) (n : ℕ) → left.out ≡ here.out ++ printed → IsPrefixOf printed (run_output start script) → done_count printed ≡ n
      → (account : State) → Recovers account left
      → (account ≡ account_with start script n) ⊎ (account ≡ account_with start script (n + 1))
      → (length (output_upto start script n) < length printed → account ≡ account_with start script (n + 1))
      → StoreNow (change_next (run_of start script) n) (KnownBy account) (store_upto (run_of start script) n) left.store
      → KeepsRecords (last_upto (run_of start script) n) (KnownBy account) (store_upto (run_of start script) n) → Headline (run_of start script) here left
  headline-by printed n text begins count account recovers whole acknowledged store kept =
      let change : StoreChange = change_next (run_of start script) n in
      let laid : List Stored = store_upto (run_of start script) n in
      record {
        printed = printed;
        text = text;
        begins = subst (IsPrefixOf printed) (sym (output-same start script)) begins;
        done = n;
        counted = count;
        account = account;
        recovers = recovers;
        whole = elim whole [ inl same ↦ inl (same ∙ sym (account-same start script n)) | inr more ↦ inr (more ∙ sym (account-same start script (n + 1))) ];
        acknowledged = λ longer.
            acknowledged (subst (λ (text : List ℕ). length text < length printed) (text-same start script n) longer) ∙ sym (account-same start script (n + 1));
        store = store-during (KnownBy account) laid left.store change store;
        cleared = cleared-during (KnownBy account) laid left.store change store;
        kept = kept-during change (last_upto (run_of start script) n) (KnownBy account) laid left.store store kept;
      }

  -- nothing was printed
  pub headline-nothing : left.out ≡ here.out → Recovers start.account left → left.store ≡ start.store → Headline (run_of start script) here left
  headline-nothing text recovers store =
      headline-by [] 0 (text ∙ sym (append-nil here.out)) (begins-start start script [] (at_start start) refl) refl start.account recovers (inl refl) (λ longer. absurd (omega arith))
      (inl store) (none-kept start script (KnownBy start.account))

  module _ (account : IsAccount start.account) where
    -- the outstanding orders are being printed
    pub headline-start : AtStart start here.out left → Headline (run_of start script) here left
    headline-start at =
        headline-by at.text.part 0 at.text.is (begins-start start script at.text.part at.text.missing at.text.splits)
        (none_done (at_start start) at.text.part at.text.missing (standing_quiet start.account account) at.text.splits)
        start.account at.recovers (inl refl)
        (λ longer. absurd (omega (arith, longer, length-append (at_start start) [], length-append at.text.part at.text.missing, ap (λ (text : List ℕ). length text) at.text.splits)))
        (inl at.store) (none-kept start script (KnownBy start.account))

    -- the headline after whole lines, with nothing of the next line printed
    headline-behind : (before : List NumberedLine) → AreFirst start script before → Recovers (site_at start before).account left → left.out ≡ lines_from start here.out ++ outputs start before
        → StoreNow (change_next (run_of start script) (events_before start before)) (KnownBy (site_at start before).account) (store_upto (run_of start script) (events_before start before)) left.store
        → Headline (run_of start script) here left
    headline-behind before first recovers text store =
        let n : ℕ = events_before start before in
        let printed : List ℕ = at_start start ++ outputs start before in
        let counted : done_count (printed ++ []) ≡ n + done_count [] = count-first start script before first account [] in
        headline-by printed n (text ∙ append_assoc here.out (at_start start) (outputs start before)) (begins-between start script before first)
        (sym (ap done_count (append-nil printed)) ∙ counted ∙ omega arith)
        (site_at start before).account recovers
        (inl (sym (account-first start script before first)))
        (λ longer. absurd (omega (arith, longer, ap (λ (text : List ℕ). length text) (output-first start script before first))))
        store (first-kept start script before first)

    pub headline-between : BetweenLines start script (lines_from start here.out) left → Headline (run_of start script) here left
    headline-between between =
        headline-behind between.before between.first between.recovers between.text (inl (between.store ∙ sym (store-first start script between.before between.first)))

    -- the next line is being processed
    module _ (at : AtLine start script (lines_from start here.out) left) where
      abbrev place : Place
      place = (site_at start at.before, at.read)

      abbrev out : List ℕ
      out = lines_from start here.out ++ outputs start at.before

      abbrev first : AreFirst start script at.before
      first = record { rest = at.read ∷ at.rest; splits = at.splits; accepted = at.accepted }

      module _ (line : InLine place out left) where
        abbrev more : AreFirst start script (at.before ++ at.read ∷ [])
        more = first_more start script at.before at.rest at.read at.splits at.accepted line.accepted

        abbrev next : Site
        next = site_after place.0 place.1

        next-site : next ≡ site_at start (at.before ++ at.read ∷ [])
        next-site = sym (site-snoc (first_site start) at.before at.read)

        -- the next line's whole output is printed: then only whole lines are
        whole-line : line.text.missing ≡ [] → Headline (run_of start script) here left
        whole-line none =
            headline-between (record {
              before = at.before ++ at.read ∷ [];
              first = more;
              recovers = subst (λ (site : Site). Recovers site.account left) next-site line.recovers;
              store = line.whole none ∙ ap (λ (site : Site). site.store) next-site;
              text = line.text.is
                  ∙ append_assoc (lines_from start here.out) (outputs start at.before) line.text.part
                  ∙ ap (λ (text : List ℕ). lines_from start here.out ++ (outputs start at.before ++ text))
                  (sym (append-nil line.text.part) ∙ ap (λ (text : List ℕ). line.text.part ++ text) (sym none) ∙ line.text.splits)
                  ∙ ap (λ (text : List ℕ). lines_from start here.out ++ text) (sym (outputs-snoc start at.before at.read));
            })

        -- a beginning of the next line's output is printed: its event is done only once the whole output is
        part-line : 1 ≤ length line.text.missing → PrintsEvent place → Headline (run_of start script) here left
        part-line some event =
            let n : ℕ = events_before start at.before in
            let none : done_count line.text.part ≡ 0 = event_begun event.text line.text.part line.text.missing at.read.0 event.quiet (line.text.splits ∙ event.printed) some in
            let one : events_before start (at.before ++ at.read ∷ []) ≡ n + 1 =
            ap events_among (places-append (first_site start) at.before (at.read ∷ []))
            ∙ ap (λ (ps : List Place). length ps) (filter-append is_event (placed start at.before) (place ∷ []))
            ∙ rw event.event (length-append (filter is_event (placed start at.before)) (place ∷ [])) in
            let account-more : next.account ≡ account_with start script (n + 1) =
            ap (λ (site : Site). site.account) next-site ∙ sym (account-first start script (at.before ++ at.read ∷ []) more) ∙ ap (account_with start script) one in
            headline-by ((at_start start ++ outputs start at.before) ++ line.text.part) n (line.text.is ∙ behind-here here.out (at_start start) (outputs start at.before) line.text.part)
            (begins-in start script at.before at.read more line.text.part line.text.missing line.text.splits)
            (count-first start script at.before first account line.text.part ∙ omega (arith, none))
            next.account line.recovers (inr account-more) (λ longer. account-more)
            (part-now start script at.before at.rest at.read at.splits at.accepted left.store line.count event.event line.accepted.taken line.store)
            (kept-weaker (last_upto (run_of start script) n) (KnownBy place.0.account) (KnownBy next.account) (store_upto (run_of start script) n) (known-next place) (first-kept start script at.before first))

        -- a line that isn't an event prints nothing
        headline-in : (missing : List ℕ) → line.text.missing ≡ missing → Tells place → Headline (run_of start script) here left
        headline-in [] none tells = whole-line none
        headline-in (b ∷ missing) some (inl event) = part-line (omega (arith, ap (λ (text : List ℕ). length text) some)) event
        headline-in (b ∷ missing) some (inr none) =
            absurd (omega (
              arith,
              length-append line.text.part line.text.missing,
              ap (λ (text : List ℕ). length text) some,
              ap (λ (text : List ℕ). length text) (line.text.splits ∙ none.silent),
            ))

      headline-line : Headline (run_of start script) here left
      headline-line = elim (line-course place out left at.course) [
        | inl begun ↦
            headline-behind at.before first begun.recovers begun.text
            (begun-now start script at.before at.rest at.read at.splits at.accepted (KnownBy place.0.account) left out begun)
        | inr line ↦ headline-in line line.text.missing refl (tells place line.accepted (account-along (first_site start) at.before at.accepted account))
      ]

    -- no event comes after the last line
    events-all : (exit : Exit) (before : List NumberedLine) → AreAll start script exit before → events_of start script ≡ filter is_event (placed start before)
    events-all exit before all = ap (λ (ps : List Place). filter is_event ps) all.all

    account-past : (exit : Exit) (before : List NumberedLine) → AreAll start script exit before
        → account_with start script (events_before start before + 1) ≡ (site_at start before).account
    account-past exit before all =
        let n : ℕ = events_before start before in
        let events : List Place = filter is_event (placed start before) in
        ap (λ (ps : List Place). account_after_all start.account (flat_map entries_at ps))
        (ap (take (n + 1)) (events-all exit before all)
        ∙ take-whole events (n + 1) (omega arith)
        ∙ sym (take-whole events n (omega arith))
        ∙ ap (take n) (sym (events-all exit before all)))
        ∙ account-first start script before all.first

    -- the last line is being printed
    pub headline-end : AtEnd start script (lines_from start here.out) left → Headline (run_of start script) here left
    headline-end at =
        let n : ℕ = events_before start at.before in
        let none : done_count at.text.part ≡ 0 = none_done (closing_line (site_at start at.before).account at.exit) at.text.part at.text.missing (closing-quiet (site_at start at.before).account at.exit) at.text.splits in
        headline-by ((at_start start ++ outputs start at.before) ++ at.text.part) n
        (at.text.is ∙ behind-here here.out (at_start start) (outputs start at.before) at.text.part)
        (begins-end start script at.before at.exit at.all at.text.part at.text.missing at.text.splits)
        (count-first start script at.before at.all.first account at.text.part ∙ omega (arith, none))
        (site_at start at.before).account at.recovers
        (inl (sym (account-first start script at.before at.all.first)))
        (λ longer. sym (account-past at.exit at.before at.all))
        (end-now start script at.exit at.before left.store at.all (KnownBy (site_at start at.before).account) at.store)
        (first-kept start script at.before at.all.first)

-- ---- at every moment

pub headline-since : (start : Start) (script : List ℕ) (here left : Left) → AtOpening start here.out left ⊎ (IsAccount start.account × OpenMoment start script here.out left) → Headline (run_of start script) here left
headline-since start script here left (inl opening) = headline-nothing start script here left opening.text opening.recovers opening.store
headline-since start script here left (inr (account, inl at)) = headline-start start script here left account at
headline-since start script here left (inr (account, inr (inl (inl between)))) = headline-between start script here left account between
headline-since start script here left (inr (account, inr (inl (inr at)))) = headline-line start script here left account at
headline-since start script here left (inr (account, inr (inr end))) = headline-end start script here left account end

pub headline : (clock : Clock) (start : Start) (script : List ℕ) (here left : Left) → StopsRecover start clock
    → (LeftNow clock left → left.out ≡ here.out)
    → RunMoment clock start script here left → Headline (run_of start script) here left
headline clock start script here left stops text (inl now) = headline-nothing start script here left (text now) (stops left now).recovers (stops left now).store
headline clock start script here left stops text (inr moment) = headline-since start script here left moment

-- what is printed is a beginning of the output
pub moment-prints : (clock : Clock) (start : Start) (script : List ℕ) (here left : Left) → (LeftNow clock left → left.out ≡ here.out)
    → RunMoment clock start script here left → PrintsPart (run_output start script) here.out left.out
moment-prints clock start script here left same (inl now) = ([], begins-start start script [] (at_start start) refl, same now ∙ sym (append-nil here.out))
moment-prints clock start script here left same (inr moment) =
    let leaves : Headline (run_of start script) here left = headline-since start script here left moment in
    (leaves.printed, subst (IsPrefixOf leaves.printed) (output-same start script) leaves.begins, leaves.text)
