-- A script that is run again from its first line after each crash.
use Rattle.std.proofs.Common.{◌≡◌, ℕ, ◌≤◌, List, [], ◌∷◌, ◌++◌, length, take, refl, sym, ap, ◌∙◌, subst, inl, inr, append-nil, arith}
use Rattle.std.specs.Prelude.{filter}
use Rattle.std.specs.List.{AllByRecursion, flat_map}
use Rattle.std.proofs.lemmas.List.{append_cancel_left}
use Rattle.std.proofs.lemmas.List.Concat.{flat_map-append}
use Rattle.std.proofs.lemmas.List.Elements.{recursion_from_All}
use Rattle.board_core.specs.Stop.{Left}
use Rattle.ras_base.specs.Prefix.{IsPrefixOf}
use Rattle.ras_base.specs.Steps.PrefixLemmas.{IsPrefixOf-trans}
use Rattle.ras_account.specs.Account.{State, account_of}
use Rattle.ras_account.specs.Fresh.{fresh_entries}
use Rattle.ras_account.specs.History.{History, with_entries}
use Rattle.ras_facts.specs.declared.entry.Entry.{Entry}
use Rattle.ras_journal.specs.Recovered.{Recovers}
use Rattle.ras_events.specs.Described.{NumberedLine}
use Rattle.ras_run.specs.Sites.{Site, Start, first_site}
use Rattle.ras_run.specs.Places.{Place, entries_at, places_from, reports, site_along}
use Rattle.ras_run.proofs.PlaceLemmas.{places-append}
use Rattle.ras_daemon.specs.Script.{events_of, is_event, places_of, reads_in, reads_of}
use Rattle.ras_events.specs.Sizes.{IsFact}
use Rattle.ras_script.specs.Lines.{script_lines}
use Rattle.ras_daemon.specs.Headline.{reported}
use Rattle.ras_daemon.specs.Machine.{Run, account_upto}
use Rattle.ras_daemon.specs.RunOf.{run_of}
use Rattle.ras_daemon.specs.Runs.{CountTheSame, IsTakenWhole, PollsNothing, ReportsFacts, event_count, facts_of, logged}
use Rattle.ras_daemon.proofs.AgainLemmas.{counts-again, facts-again, facts_of-append}
use Rattle.ras_daemon.proofs.HistoryLemmas.{again-counted, with_entries-append}
use Rattle.ras_daemon.proofs.ListLemmas.{all-front, flat_map-passing, take-whole}
use Rattle.ras_daemon.proofs.PlaceLemmas.{reads-append, reads_behind}
use Rattle.ras_daemon.proofs.RunLawLemmas.{accounts-follow, events-front, logs-follow, prefix-flat_map, reported-whole, reports-none, script-reports, taken-events}
use Rattle.era_laws.specs.Eras.{AreEras, Counts, CountsEach, Era, IsReplayed, TakesFirst, TakesScript, done_in, logged_in, logs_upto, reported_in, reports_upto}
use Rattle.era_laws.proofs.EraLemmas.{counts-of, leaves-history, logs-along, one-account}
use Rattle.era_laws.proofs.TakesLemmas.{takes-count, takes-reports, whole-account, whole-logs}

-- ---- what each run reports

module _ (script : List ℕ) (polls : PollsNothing script) (one : Start) (whole : IsTakenWhole one script) where
  abbrev all : List Entry
  all = reported one script (event_count one script)

  any-reports : (next : Start) → reports (first_site next) (reads_of script) ≡ all
  any-reports next = script-reports next one script polls ∙ sym (reported-whole one script whole)

  -- a run that takes the whole script reports all of it
  last-reports : (next : Start) (n : ℕ) → IsTakenWhole next script → event_count next script ≤ n → reported next script n ≡ all
  last-reports next n taken most =
      ap (flat_map entries_at) (take-whole (events_of next script) n most ∙ taken-events next script taken)
      ∙ flat_map-passing is_event entries_at reports-none (places_of next script) ∙ any-reports next

  -- a run of the script's first lines reports a beginning of that
  reports-front : (own : List ℕ) → IsPrefixOf (script_lines own).whole (script_lines script).whole → (next : Start) (n : ℕ) → IsPrefixOf (reported next own n) all
  reports-front own first next n =
      let site : Site = first_site next in
      let more : List NumberedLine = reads_behind (script_lines own).whole first.0 in
      let events : List Place = take n (events_of next own) in
      let split : reports site (reads_of own) ++ reports (site_along site (reads_of own)) more ≡ all =
      sym (flat_map-append entries_at (places_of next own) (places_from (site_along site (reads_of own)) more))
      ∙ ap (flat_map entries_at) (sym (places-append site (reads_of own) more) ∙ ap (places_from site) (sym (reads-append (script_lines own).whole first.0) ∙ ap reads_in first.1))
      ∙ any-reports next in
      IsPrefixOf-trans (reported next own n) (reports site (reads_of own)) all
      (subst (IsPrefixOf (reported next own n)) (flat_map-passing is_event entries_at reports-none (places_of next own))
      (prefix-flat_map entries_at events (filter is_event (places_of next own)) (events-front next own n)))
      (reports (site_along site (reads_of own)) more, split)

  -- ---- one run after another, and one uninterrupted run

  module _ (last : Era) (takes : TakesScript script last) (taken : IsTakenWhole takes.start script) (done : length last.run.does ≤ done_in last) where
    most : (n : ℕ) → Counts last n → event_count takes.start script ≤ n
    most n one = subst (λ (count : ℕ). count ≤ n) (takes-count script last takes) (elim one.whole [ inl is ↦ omega arith | inr is ↦ omega arith ])

    -- the last run reports everything
    ends : (n : ℕ) → Counts last n → reports_upto last.run n ≡ all
    ends n counted = takes-reports script last takes n ∙ last-reports takes.start n taken (most n counted)

    -- every other run reports a beginning of that
    other-front : (era : Era) (n : ℕ) → TakesFirst script era → IsPrefixOf (reports_upto era.run n) all
    other-front era n other =
        subst (λ (es : List Entry). IsPrefixOf es all) (sym (takes-reports other.own era other.takes n)) (reports-front other.own other.first other.takes.start n)

    abbrev TakeIt : List Era → Type 0
    TakeIt eras = AllByRecursion (TakesFirst script) eras

    -- The account at the end is the account with all reports, as far as `Same` compares accounts.
    module _ (Same : State → State → Type 0) (self : (a : State) → Same a a) (chain : (a b c : State) → Same a b → Same b c → Same a c)
        (again : (h : History) (xs ys : List Entry) → xs ++ ys ≡ all → Same (account_of (with_entries (with_entries h xs) all)) (account_of (with_entries h all))) where
      replayed : (eras : List Era) (history : History) (here : Left) (now : State) → Recovers (account_of history) here → AreEras here (eras ++ last ∷ []) → TakeIt eras → Recovers now last.left
          → Same now (account_of (with_entries history all))
      replayed [] history here now opens (begins, is, follow) others of =
          let (n, counted) = counts-of last is in
          let same : now ≡ account_of (with_entries history all) =
          one-account now (account_of (with_entries history (reports_upto last.run n))) last.left of (leaves-history history here last begins is opens n counted)
          ∙ ap (λ (es : List Entry). account_of (with_entries history es)) (ends n counted) in
          subst (λ (a : State). Same a (account_of (with_entries history all))) (sym same) (self (account_of (with_entries history all)))
      replayed (era ∷ eras) history here now opens (begins, is, follow) others of =
          let (n, counted) = counts-of era is in
          let (rest, front) = other-front era n others.0 in
          let xs : List Entry = reports_upto era.run n in
          chain now (account_of (with_entries (with_entries history xs) all)) (account_of (with_entries history all))
          (replayed eras (with_entries history xs) era.left now (leaves-history history here era begins is opens n counted) follow others.1 of)
          (again history xs rest front)

    -- the reports that are new over all eras
    facts-along : (eras : List Era) (counts : List ℕ) (history : History) → CountsEach (eras ++ last ∷ []) counts → TakeIt eras
        → facts_of (fresh_entries (with_entries history (reported_in (eras ++ last ∷ []) counts))) ≡ facts_of (fresh_entries (with_entries history all))
    facts-along [] [] history counted others = absurd counted
    facts-along [] (n ∷ []) history counted others =
        ap (λ (es : List Entry). facts_of (fresh_entries (with_entries history es))) (append-nil (reports_upto last.run n) ∙ ends n counted.0)
    facts-along [] (n ∷ m ∷ counts) history counted others = absurd counted.1
    facts-along (era ∷ eras) [] history counted others = absurd counted
    facts-along (era ∷ eras) (n ∷ counts) history counted others =
        let (rest, front) = other-front era n others.0 in
        let xs : List Entry = reports_upto era.run n in
        ap (λ (h : History). facts_of (fresh_entries h)) (with_entries-append history xs (reported_in (eras ++ last ∷ []) counts))
        ∙ facts-along eras counts (with_entries history xs) counted.1 others.1
        ∙ ap (λ (es : List Entry). facts_of (fresh_entries (with_entries (with_entries history xs) es))) (sym front)
        ∙ facts-again history xs rest
        ∙ ap (λ (es : List Entry). facts_of (fresh_entries (with_entries history es))) front

-- ---- the laws

module _ (history : History) (one : Start) (script : List ℕ) (here : Left) (eras : List Era) (last : Era) (is : IsReplayed history one script here eras last) where
  abbrev one-run : Run
  one-run = run_of one script

  abbrev reports-all : List Entry
  reports-all = reported one script (event_count one script)

  abbrev undisturbed : State
  undisturbed = account_upto one-run (length one-run.does)

  undisturbed-is : account_of (with_entries history reports-all) ≡ undisturbed
  undisturbed-is = sym (whole-account one script ∙ accounts-follow history one is.begins script (event_count one script))

  others : AllByRecursion (TakesFirst script) eras
  others = recursion_from_All (TakesFirst script) eras is.takes

  pub replayed-counts : (now : State) → Recovers now last.left → CountTheSame now undisturbed
  replayed-counts now of =
      subst (CountTheSame now) undisturbed-is
      (replayed script is.polls one is.whole last is.ends is.taken is.done CountTheSame (λ a. refl) (λ a b c ab bc. ab ∙ bc)
      (λ h xs ys front. subst (λ (es : List Entry). CountTheSame (account_of (with_entries (with_entries h xs) es)) (account_of (with_entries h es))) front (counts-again h xs ys))
      eras history here now is.opens is.follow others of)

  pub replayed-same : (now : State) → ReportsFacts one script → Recovers now last.left → now ≡ undisturbed
  replayed-same now facts of =
      replayed script is.polls one is.whole last is.ends is.taken is.done (λ a b. a ≡ b) (λ a. refl) (λ a b c ab bc. ab ∙ bc)
      (λ h xs ys front. subst (λ (es : List Entry). account_of (with_entries (with_entries h xs) es) ≡ account_of (with_entries h es)) front
      (again-counted h xs ys (all-front IsFact xs ys (subst (AllByRecursion IsFact) (sym front) (recursion_from_All IsFact reports-all facts)))))
      eras history here now is.opens is.follow others of
      ∙ undisturbed-is

  pub replayed-together : (counts : List ℕ) → CountsEach (eras ++ last ∷ []) counts
      → facts_of (logged_in (eras ++ last ∷ []) counts) ≡ facts_of (logs_upto one-run (length one-run.does))
  replayed-together counts counted =
      let every : List Entry = logged_in (eras ++ last ∷ []) counts in
      let once : List Entry = logged one script (event_count one script) in
      append_cancel_left (facts_of (fresh_entries history)) (facts_of every) (facts_of once)
      (sym (facts_of-append (fresh_entries history) every)
      ∙ ap facts_of (sym (logs-along (eras ++ last ∷ []) counts history here is.opens is.follow counted))
      ∙ facts-along script is.polls one is.whole last is.ends is.taken is.done eras counts history counted others
      ∙ ap facts_of (logs-follow history one is.begins script (event_count one script))
      ∙ facts_of-append (fresh_entries history) once)
      ∙ ap facts_of (sym (whole-logs one script))
