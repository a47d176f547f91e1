-- How many events are done by a printed text, and what these events report and have printed.
use Rattle.std.proofs.Common.{◌≡◌, ℕ, ◌+◌, List, [], ◌∷◌, ◌++◌, length, take, sym, ap, ◌∙◌, append_assoc, arith, inl, inr}
use Rattle.std.specs.Prelude.{filter}
use Rattle.std.specs.List.{AllByRecursion, flat_map}
use Rattle.ras_account.specs.Accounts.{IsAccount}
use Rattle.ras_account.specs.Continued.{account_after_all}
use Rattle.ras_facts.specs.declared.entry.Entry.{Entry}
use Rattle.ras_texts.specs.Orders.{standing_lines}
use Rattle.ras_texts.specs.Text.{done_line}
use Rattle.ras_events.specs.Described.{NumberedLine}
use Rattle.ras_run.specs.Sites.{Start, first_site}
use Rattle.ras_run.specs.Places.{Place, entries_at, places_from, site_at}
use Rattle.ras_daemon.specs.Script.{events_of, is_event}
use Rattle.ras_events.specs.DoneLines.{done_count}
use Rattle.ras_run.specs.Output.{output_at}
use Rattle.ras_run.proofs.PlaceLemmas.{site-account}
use Rattle.ras_daemon.specs.Headline.{account_with}
use Rattle.ras_daemon.specs.RunOutput.{output_upto}
use Rattle.ras_daemon.specs.Steps.Running.{AreFirst, outputs}
use Rattle.ras_daemon.proofs.EventLemmas.{Tells, tells-along}
use Rattle.ras_daemon.proofs.ListLemmas.{flat_map-passing, take-passing}
use Rattle.ras_daemon.proofs.FirstLinesLemmas.{first-before}
use Rattle.ras_daemon.proofs.RunLawLemmas.{prints-none, reports-none}
use Rattle.ras_events.proofs.DoneLemmas.{done_counts, quiet_count}
use Rattle.ras_events.proofs.WholeLineLemmas.{standing_quiet}

-- how many of these places are events
abbrev pub events_among : List Place → ℕ
events_among ps = length (filter is_event ps)

-- the places of the first lines of a script, and how many of them are events
abbrev pub placed : Start → List NumberedLine → List Place
placed start before = places_from (first_site start) before

abbrev pub events_before : Start → List NumberedLine → ℕ
events_before start before = events_among (placed start before)

-- ---- the done lines of what places print

count-place : (p : Place) (ps : List Place) (more : List ℕ) → Tells p → done_count (output_at p ++ more) + events_among ps ≡ events_among (p ∷ ps) + done_count more
count-place p ps more (inl event) =
    rw (event.printed, event.event) (omega (
      arith,
      ap done_count (append_assoc event.text (done_line p.1.0) more),
      quiet_count event.text (done_line p.1.0 ++ more) event.quiet,
      done_counts p.1.0 more,
    ))
count-place p ps more (inr none) = rw (none.silent, none.event) (omega arith)

count-places : (ps : List Place) (more : List ℕ) → AllByRecursion Tells ps → done_count (flat_map output_at ps ++ more) ≡ events_among ps + done_count more
count-places [] more all = omega arith
count-places (p ∷ ps) more all =
    let others = flat_map output_at ps in
    let one = count-place p ps (others ++ more) all.0 in
    let rest = count-places ps more all.1 in
    omega (arith, ap done_count (append_assoc (output_at p) others more), one, rest)

-- ---- the first lines of a script are its first events

module _ (start : Start) (script : List ℕ) (before : List NumberedLine) (first : AreFirst start script before) where
  pub first-events : take (events_before start before) (events_of start script) ≡ filter is_event (placed start before)
  first-events = ap (λ (ps : List Place). take (events_before start before) (filter is_event ps)) (first-before start script before first) ∙ take-passing is_event (placed start before) _

  -- the account of the first lines
  pub account-first : account_with start script (events_before start before) ≡ (site_at start before).account
  account-first =
      ap (λ (es : List Entry). account_after_all start.account es) (ap (flat_map entries_at) first-events ∙ flat_map-passing is_event entries_at reports-none (placed start before))
      ∙ sym (site-account (first_site start) before)

  -- what the first lines have printed
  pub output-first : output_upto start script (events_before start before) ≡ standing_lines start.account ++ outputs start before
  output-first =
      ap (λ (text : List ℕ). standing_lines start.account ++ text)
      (ap (flat_map output_at) first-events ∙ flat_map-passing is_event output_at prints-none (placed start before))

  -- how many events are done by the text of the first lines
  pub count-first : IsAccount start.account → (more : List ℕ) → done_count ((standing_lines start.account ++ outputs start before) ++ more) ≡ events_before start before + done_count more
  count-first account more =
      ap done_count (append_assoc (standing_lines start.account) (outputs start before) more)
      ∙ quiet_count (standing_lines start.account) (outputs start before ++ more) (standing_quiet start.account account)
      ∙ count-places (placed start before) more (tells-along (first_site start) before first.accepted account)
