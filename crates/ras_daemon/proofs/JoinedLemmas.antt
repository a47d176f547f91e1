-- Two scripts, one after the other, and the script that joins them.
use Rattle.std.proofs.Common.{◌≡◌, ℕ, ◌+◌, List, [], ◌∷◌, ◌++◌, length, None, Option, Result, Ok, Err, refl, sym, ap, subst, ◌∙◌, append-nil, append_assoc, map}
use Rattle.std.specs.List.{AllByRecursion, enumerate_from, filter_map, fold}
use Rattle.std.proofs.lemmas.List.Sums.{fold-append}
use Rattle.std.proofs.lemmas.List.Elements.{filter_map-append, recursion_from_All}
use Rattle.ras_facts.specs.declared.entry.Entry.{Entry}
use Rattle.ras_account.specs.Continued.{account_after, account_after_all}
use Rattle.ras_script.specs.declared.line.Line.{Line}
use Rattle.ras_script.specs.declared.line.LineRefused.{LineRefused}
use Rattle.ras_script.specs.declared.line.Line.TheVariants.{Poll}
use Rattle.ras_script.specs.Line.{line_of}
use Rattle.ras_script.specs.Lines.{script_lines}
use Rattle.ras_events.specs.declared.settings.Settings.{Settings}
use Rattle.ras_events.specs.Events.{no_settings}
use Rattle.ras_events.specs.Described.{NumberedLine, driver_by, last_of, row_by, settings_read, settings_told, sources_by}
use Rattle.ras_events.proofs.DescribedLemmas.{told-along}
use Rattle.ras_run.specs.Sites.{Site, Start, first_site}
use Rattle.ras_run.specs.Places.{reports, site_along}
use Rattle.ras_run.proofs.PlaceLemmas.{site-settings}
use Rattle.ras_daemon.specs.Script.{reads_in, reads_of}
use Rattle.ras_daemon.specs.Headline.{account_with, reported}
use Rattle.ras_daemon.specs.RunStatus.{empty_start}
use Rattle.ras_daemon.specs.Runs.{AreJoined, Follows, IsNoPoll, IsTakenWhole, PollsNothing, event_count}
use Rattle.ras_daemon.proofs.ListLemmas.{all-front}
use Rattle.ras_daemon.proofs.PlaceLemmas.{reads-append, reads_behind}
use Rattle.ras_daemon.proofs.RunLawLemmas.{reported-whole, reports-any, reports-append, settings-any}
use Rattle.ras_events.proofs.QuietLemmas.{all_both}

-- ---- the machine description

-- lines describe the same machine, whatever their numbers
told-any : (settings : Settings) (k m : ℕ) (reads : List (Result Line LineRefused)) → fold settings_read settings (enumerate_from k reads) ≡ fold settings_read settings (enumerate_from m reads)
told-any settings k m [] = refl
told-any settings k m (read ∷ reads) =
    ap (λ (s : Settings). fold settings_read s (enumerate_from (k + 1) reads)) (settings-any settings k m read) ∙ told-any (settings_read settings (m, read)) (k + 1) (m + 1) reads

none-last : {X : Type 0} (xs : List X) → last_of xs ≡ None → xs ≡ []
none-last [] is = refl
none-last (x ∷ []) is = cc
none-last {X} (x ∷ y ∷ xs) is = absurd (some (none-last (y ∷ xs) is))
  where
    some : (y ∷ xs) ≡ [] → ⊥
    some none = cc

none-behind : {X Y : Type 0} (f : X → Option Y) (xs ys : List X) → filter_map f ys ≡ [] → filter_map f (xs ++ ys) ≡ filter_map f xs
none-behind {X} {Y} f xs ys none = filter_map-append f xs ys ∙ ap (λ (zs : List Y). filter_map f xs ++ zs) none ∙ append-nil (filter_map f xs)

-- lines that describe nothing describe nothing after other lines either
settings-untold : (before others : List NumberedLine) → settings_told others ≡ no_settings → settings_told (before ++ others) ≡ settings_told before
settings-untold before others none = λ i. record {
  topology = none-behind row_by before others (ap (λ (s : Settings). s.topology) none) i;
  sources = last_of (none-behind sources_by before others (none-last (filter_map sources_by others) (ap (λ (s : Settings). s.sources) none)) i);
  driver = last_of (none-behind driver_by before others (none-last (filter_map driver_by others) (ap (λ (s : Settings). s.driver) none)) i);
}

-- ---- lines that poll nothing

-- lines poll nothing, whatever their numbers
unpolled-any : (k m : ℕ) (reads : List (Result Line LineRefused)) → AllByRecursion IsNoPoll (enumerate_from k reads) → AllByRecursion IsNoPoll (enumerate_from m reads)
unpolled-any k m [] none = tt
unpolled-any k m (read ∷ reads) none = (by read none.0, unpolled-any (k + 1) (m + 1) reads none.1)
  where
    by : (r : Result Line LineRefused) → IsNoPoll (k, r) → IsNoPoll (m, r)
    by (Ok (Poll seconds)) none = none
    by (Ok line) none = tt
    by (Err why) none = tt

all-behind : {X : Type 0} (P : X → Type 0) (xs ys : List X) → AllByRecursion P (xs ++ ys) → AllByRecursion P ys
all-behind P [] ys all = all
all-behind P (x ∷ xs) ys all = all-behind P xs ys all.1

-- ---- what lines report

-- a script that is taken whole reports what it would report over an empty journal, wherever it begins
script-whole : (start : Start) (script : List ℕ) → AllByRecursion IsNoPoll (reads_of script) → IsTakenWhole start script
    → reported start script (event_count start script) ≡ reports (first_site empty_start) (reads_of script)
script-whole start script none taken = reported-whole start script taken ∙ reports-any (first_site start) (first_site empty_start) 1 1 (map line_of (script_lines script).whole) none refl

module _ (one other both : List ℕ) (joined : AreJoined one other both) (none : PollsNothing both) where
  abbrev empty_site : Site
  empty_site = first_site empty_start

  -- the lines that both scripts have, the other lines of each, and where these are in the joined script
  abbrev rows : List NumberedLine
  rows = reads_in joined.rows

  abbrev first : List NumberedLine
  first = reads_behind joined.rows joined.first

  abbrev second : List NumberedLine
  second = reads_behind joined.rows joined.second

  abbrev last : List NumberedLine
  last = reads_behind (joined.rows ++ joined.first) joined.second

  one-reads : reads_of one ≡ rows ++ first
  one-reads = ap (λ (lines : List (List ℕ)). reads_in lines) joined.one_is ∙ reads-append joined.rows joined.first

  other-reads : reads_of other ≡ rows ++ second
  other-reads = ap (λ (lines : List (List ℕ)). reads_in lines) joined.other_is ∙ reads-append joined.rows joined.second

  both-reads : reads_of both ≡ (rows ++ first) ++ last
  both-reads =
      ap (λ (lines : List (List ℕ)). reads_in lines) (joined.both_is ∙ sym (append_assoc joined.rows joined.first joined.second))
      ∙ reads-append (joined.rows ++ joined.first) joined.second
      ∙ ap (λ (reads : List NumberedLine). reads ++ last) (reads-append joined.rows joined.first)

  none-both : AllByRecursion IsNoPoll (reads_of both)
  none-both = recursion_from_All IsNoPoll (reads_of both) none

  none-front : AllByRecursion IsNoPoll (rows ++ first)
  none-front = all-front IsNoPoll (rows ++ first) last (subst (AllByRecursion IsNoPoll) both-reads none-both)

  none-second : AllByRecursion IsNoPoll second
  none-second =
      unpolled-any (1 + length (joined.rows ++ joined.first)) (1 + length joined.rows) (map line_of joined.second)
      (all-behind IsNoPoll (rows ++ first) last (subst (AllByRecursion IsNoPoll) both-reads none-both))

  none-one : AllByRecursion IsNoPoll (reads_of one)
  none-one = subst (AllByRecursion IsNoPoll) (sym one-reads) none-front

  none-other : AllByRecursion IsNoPoll (reads_of other)
  none-other = subst (AllByRecursion IsNoPoll) (sym other-reads) (all_both IsNoPoll rows second (all-front IsNoPoll rows first none-front) none-second)

  -- after the lines of the first script, the second script's lines describe the machine as they do right after the
  -- rows
  told-last : settings_told (rows ++ first) ≡ settings_told rows
  told-last =
      settings-untold rows first
      (sym (told-along first) ∙ told-any no_settings (1 + length joined.rows) 1 (map line_of joined.first) ∙ told-along (reads_in joined.first) ∙ joined.untold)

  reports-joined : reports empty_site (reads_of both) ≡ reports empty_site (reads_of one) ++ reports empty_site (reads_of other)
  reports-joined =
      let behind : Site = site_along empty_site rows in
      let same : reports (site_along empty_site (rows ++ first)) last ≡ reports behind second =
      reports-any (site_along empty_site (rows ++ first)) behind (1 + length (joined.rows ++ joined.first)) (1 + length joined.rows) (map line_of joined.second) none-second
      (site-settings empty_start (rows ++ first) ∙ told-last ∙ sym (site-settings empty_start rows)) in
      let others : reports empty_site (reads_of other) ≡ reports behind second =
      ap (reports empty_site) other-reads ∙ reports-append empty_site rows second ∙ ap (λ (es : List Entry). es ++ reports behind second) joined.silent in
      ap (reports empty_site) both-reads
      ∙ reports-append empty_site (rows ++ first) last
      ∙ (λ i. reports empty_site (sym one-reads i) ++ (same ∙ sym others) i)

  pub account-joined : (start next : Start) → IsTakenWhole start one → Follows start one (event_count start one) next → IsTakenWhole next other → IsTakenWhole start both
      → account_with next other (event_count next other) ≡ account_with start both (event_count start both)
  account-joined start next taken follows then whole =
      (λ i. account_after_all ((follows ∙ ap (account_after_all start.account) (script-whole start one none-one taken)) i) (script-whole next other none-other then i))
      ∙ sym (fold-append account_after start.account (reports empty_site (reads_of one)) (reports empty_site (reads_of other)))
      ∙ ap (account_after_all start.account) (sym reports-joined ∙ sym (script-whole start both none-both whole))
