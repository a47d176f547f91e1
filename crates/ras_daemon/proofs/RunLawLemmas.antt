-- The laws of runs on one journal.
use Rattle.std.proofs.Common.{Bool, Err, List, None, Ok, Option, Result, Some, [], ap, append-nil, append_assoc, arith, drop, false, refl, subst, suc, sym, take, true, zero, ℕ, ◌++◌, ◌∙◌, ◌∷◌, ◌≡◌, map, ◌+◌}
use Rattle.std.specs.Prelude.{filter, if◌then◌else◌, is_some}
use Rattle.std.specs.List.{AllByRecursion, IsDistinct, flat_map, enumerate_from}
use Rattle.std.specs.Map.{lookup}
use Rattle.std.specs.Option.{option_map_or}
use Rattle.std.proofs.lemmas.List.{append_cancel_left, take-append-drop}
use Rattle.std.proofs.lemmas.List.Concat.{flat_map-append}
use Rattle.std.proofs.lemmas.List.Elements.{filter-append, recursion_from_All}
use Rattle.ras_base.specs.Places.{places}
use Rattle.ras_base.specs.Prefix.{IsPrefixOf}
use Rattle.ras_base.specs.Steps.PrefixLemmas.{IsPrefixOf-trans}
use Rattle.page_policy.specs.Histories.{AreOnceInOrder, state_in, state_under}
use Rattle.page_policy.specs.declared.rows.Order.{Order}
use Rattle.page_policy.proofs.OrderLemmas.{once_in_order, state-under}
use Rattle.ras_facts.specs.declared.entry.Entry.{Entry}
use Rattle.ras_facts.specs.Names.{same_name}
use Rattle.ras_account.specs.Account.{State, account_of, is_seen, names_of, module_errors, module_of}
use Rattle.ras_account.specs.Asked.{orders_for_page, HasRow, module_place, orders_for_module, replace_order}
use Rattle.ras_account.specs.Fresh.{fresh_entries, is_among}
use Rattle.ras_account.specs.History.{History, names_in, with_entries, with_entry}
use Rattle.ras_account.specs.Orders.{orders, orders_behind, orders_since_mark}
use Rattle.ras_account.specs.Sightings.{reports_of, sightings}
use Rattle.ras_account.proofs.FreshLemmas.{names_of-append}
use Rattle.ras_account.proofs.LawLemmas.{module-row}
use Rattle.ras_account.proofs.PageOrderLemmas.{page-orders}
use Rattle.ras_script.specs.declared.line.Line.TheVariants as asks
use Rattle.ras_texts.specs.Orders.{standing_lines}
use Rattle.ras_events.specs.declared.event.Event.{Event}
use Rattle.ras_events.specs.declared.event.Event.TheVariants.{Nothing}
use Rattle.ras_events.specs.declared.event.LineRefusal.{LineRefusal}
use Rattle.ras_events.specs.Making.{entries_in}
use Rattle.ras_events.specs.Preparing.{orders_along_entries}
use Rattle.ras_events.specs.Deeds.{deed_of, made_in}
use Rattle.ras_events.specs.declared.settings.Settings.{Settings}
use Rattle.ras_events.specs.Described.{NumberedLine, settings_read}
use Rattle.ras_run.specs.Deeds.{deed_done, deed_text}
use Rattle.ras_run.specs.Sites.{Site, Start, first_site}
use Rattle.ras_run.specs.Places.{Place, entries_at, event_at, places_from, reports, site_after, site_along, site_at}
use Rattle.ras_daemon.specs.Script.{events_of, is_event, places_of, reads_in, reads_of, places_taken}
use Rattle.ras_events.specs.Sizes.{IsFact}
use Rattle.ras_events.proofs.HistoryLemmas.{account_by_history, news_behind}
use Rattle.ras_account.specs.Continued.{account_after_all}
use Rattle.ras_account.specs.Numbers.{fresh_entries_in}
use Rattle.ras_run.specs.Output.{output_at}
use Rattle.ras_run.proofs.PlaceLemmas.{places-append}
use Rattle.ras_script.specs.Lines.{script_lines}
use Rattle.ras_daemon.proofs.PlaceLemmas.{reads-append, reads_behind}
use Rattle.ras_run.specs.Status.{places_before_refusal, refusal_at}
use Rattle.ras_account.specs.Modules.{Module, has_tripped}
use Rattle.ras_account.proofs.ModuleOrderLemmas.{module-orders}
use Rattle.dimm_topology.specs.Labels.{Bytes, same_label}
use Rattle.ras_script.specs.declared.line.Line.{Line}
use Rattle.ras_script.specs.declared.line.LineRefused.{LineRefused}
use Rattle.ras_script.specs.Line.{line_of}
use Rattle.ras_daemon.specs.Headline.{account_with, reported}
use Rattle.ras_daemon.specs.RunOutput.{closing_line, lines_output, output_upto, run_output}
use Rattle.ras_daemon.specs.RunStatus.{run_exit}
use Rattle.ras_daemon.specs.Runs.{BeginsWith, CountTheSame, Follows, IsNoPoll, IsTakenWhole, PollsNothing, ReportsFacts, event_count, facts_of, history_after, logged, ordered}
use Rattle.ras_daemon.proofs.EventLemmas.{entries-unpolled}
use Rattle.ras_daemon.proofs.AgainLemmas.{counts-again, facts-again, facts_of-append}
use Rattle.ras_daemon.proofs.HistoryLemmas.{again-counted, among-own, fresh-once, none-logged, orders-entries, with_entries-append}
use Rattle.ras_daemon.proofs.ListLemmas.{all-front, flat_map-passing, take-whole}
use Rattle.ras_daemon.proofs.FirstLinesLemmas.{done-all}

-- ---- a line that is no event

pub no-event : (p : Place) → is_event p ≡ false → event_at p ≡ Ok Nothing
no-event (site, (number, Ok asks.Nothing)) is = refl
no-event (site, (number, Ok line)) is = absurd cc
no-event (site, (number, Err why)) is = absurd cc

pub reports-none : (p : Place) → is_event p ≡ false → entries_at p ≡ []
reports-none p is = ap (λ (event : Result Event LineRefusal). entries_in (made_in p.0.settings.topology p.0.store event)) (no-event p is)

pub prints-none : (p : Place) → is_event p ≡ false → output_at p ≡ []
prints-none p is = ap (λ (event : Result Event LineRefusal). deed_text p.0 (deed_of event) ++ deed_done p.1.0 (deed_of event)) (no-event p is)

-- ---- beginnings of lists

prefix-filter : {X : Type 0} (p : X → Bool) (xs ys : List X) → IsPrefixOf xs ys → IsPrefixOf (filter p xs) (filter p ys)
prefix-filter p xs ys (rest, is) = (filter p rest, sym (filter-append p xs rest) ∙ ap (filter p) is)

pub prefix-flat_map : {X Y : Type 0} (f : X → List Y) (xs ys : List X) → IsPrefixOf xs ys → IsPrefixOf (flat_map f xs) (flat_map f ys)
prefix-flat_map f xs ys (rest, is) = (flat_map f rest, sym (flat_map-append f xs rest) ∙ ap (flat_map f) is)

pub prefix-take : {X : Type 0} (n : ℕ) (xs : List X) → IsPrefixOf (take n xs) xs
prefix-take n xs = (drop n xs, take-append-drop n xs)

before-front : (ps : List Place) → IsPrefixOf (places_before_refusal ps) ps
before-front [] = ([], refl)
before-front (p ∷ ps) = by (is_some (refusal_at p)) (before-front ps)
  where
    by : (b : Bool) → IsPrefixOf (places_before_refusal ps) ps → IsPrefixOf (if b then [] else p ∷ places_before_refusal ps) (p ∷ ps)
    by true (rest, is) = (p ∷ ps, refl)
    by false (rest, is) = (rest, ap (λ (qs : List Place). p ∷ qs) is)

pub events-front : (start : Start) (script : List ℕ) (n : ℕ) → IsPrefixOf (take n (events_of start script)) (filter is_event (places_of start script))
events-front start script n =
    IsPrefixOf-trans (take n (events_of start script)) (events_of start script) (filter is_event (places_of start script)) (prefix-take n (events_of start script))
    (prefix-filter is_event (places_taken start script) (places_of start script) (before-front (places_of start script)))

-- ---- what is printed

pub output-begins : (start : Start) (script : List ℕ) (n : ℕ) → IsPrefixOf (output_upto start script n) (run_output start script)
output-begins start script n =
    let standing : List ℕ = standing_lines start.account in
    let closing : List ℕ = closing_line (site_at start (reads_of script)).account (run_exit start script) in
    let events : List Place = events_of start script in
    let (other, is) = prefix-flat_map output_at (take n events) events (prefix-take n events) in (
      other ++ closing,
      append_assoc standing (flat_map output_at (take n events)) (other ++ closing)
          ∙ ap (λ (text : List ℕ). standing ++ text)
          (sym (append_assoc (flat_map output_at (take n events)) other closing)
          ∙ ap (λ (text : List ℕ). text ++ closing) (is ∙ flat_map-passing is_event output_at prints-none (places_taken start script))),
    )

-- ---- what is reported hangs on no account, and on no record store that isn't polled

pub settings-any : (settings : Settings) (k m : ℕ) (read : Result Line LineRefused) → settings_read settings (k, read) ≡ settings_read settings (m, read)
settings-any settings k m (Ok line) = refl
settings-any settings k m (Err why) = refl

-- lines report the same at any place with the same machine description
pub reports-any : (one other : Site) (k m : ℕ) (reads : List (Result Line LineRefused)) → AllByRecursion IsNoPoll (enumerate_from m reads) → one.settings ≡ other.settings
    → reports one (enumerate_from k reads) ≡ reports other (enumerate_from m reads)
reports-any one other k m [] none same = refl
reports-any one other k m (read ∷ reads) none same =
    let after : settings_read one.settings (k, read) ≡ settings_read other.settings (m, read) =
    ap (λ (s : Settings). settings_read s (k, read)) same ∙ settings-any other.settings k m read in
    λ i. entries-unpolled one other k m read none.0 same i
    ++ reports-any (site_after one (k, read)) (site_after other (m, read)) (k + 1) (m + 1) reads none.1 after i

pub reports-append : (site : Site) (first others : List NumberedLine) → reports site (first ++ others) ≡ reports site first ++ reports (site_along site first) others
reports-append site first others =
    ap (flat_map entries_at) (places-append site first others) ∙ flat_map-append entries_at (places_from site first) (places_from (site_along site first) others)

pub script-reports : (start next : Start) (script : List ℕ) → PollsNothing script → reports (first_site start) (reads_of script) ≡ reports (first_site next) (reads_of script)
script-reports start next script none =
    reports-any (first_site start) (first_site next) 1 1 (map line_of (script_lines script).whole) (recursion_from_All IsNoPoll (reads_of script) none) refl

-- a script that is taken whole does all of its events
pub taken-events : (start : Start) (script : List ℕ) → IsTakenWhole start script → events_of start script ≡ filter is_event (places_of start script)
taken-events start script taken = ap (filter is_event) (done-all start script taken)

pub reported-whole : (start : Start) (script : List ℕ) → IsTakenWhole start script → reported start script (event_count start script) ≡ reports (first_site start) (reads_of script)
reported-whole start script taken =
    ap (flat_map entries_at) (take-whole (events_of start script) (event_count start script) (omega arith) ∙ taken-events start script taken)
    ∙ flat_map-passing is_event entries_at reports-none (places_of start script)

-- any run's reports of the script are a beginning of these reports
reported-front : (start next : Start) (script : List ℕ) (n : ℕ) → PollsNothing script → IsTakenWhole start script → IsPrefixOf (reported next script n) (reported start script (event_count start script))
reported-front start next script n none taken =
    subst (IsPrefixOf (reported next script n))
    (flat_map-passing is_event entries_at reports-none (places_of next script) ∙ script-reports next start script none ∙ sym (reported-whole start script taken))
    (prefix-flat_map entries_at (take n (events_of next script)) (filter is_event (places_of next script)) (events-front next script n))

-- ---- the account of a history

module _ (history : History) (start : Start) (is : BeginsWith history start) where
  pub accounts-follow : (script : List ℕ) (n : ℕ) → account_with start script n ≡ account_of (history_after history start script n)
  accounts-follow script n =
      ap (λ (a : State). account_after_all a (reported start script n)) is ∙ account_by_history history (reported start script n)

  -- ---- what is logged

  pub logs-follow : (script : List ℕ) (n : ℕ) → fresh_entries (history_after history start script n) ≡ fresh_entries history ++ logged start script n
  logs-follow script n =
      news_behind history (reported start script n)
      ∙ ap (λ (a : State). fresh_entries history ++ fresh_entries_in a (reported start script n)) (sym is)

  pub logs-once : (script : List ℕ) (n : ℕ) → IsDistinct same_name (names_of (fresh_entries history ++ logged start script n))
  logs-once script n = subst (λ (es : List Entry). IsDistinct same_name (names_of es)) (logs-follow script n) (fresh-once (history_after history start script n))

pub logs-again : (history : History) (start next : Start) (script : List ℕ) (n : ℕ) → PollsNothing script → BeginsWith history start → IsTakenWhole start script → Follows start script (event_count start script) next
    → names_of (logged next script n) ≡ []
logs-again history start next script n none is taken follows =
    let all : List Entry = reported start script (event_count start script) in
    let front = reported-front start next script n none taken in
    let names : names_of (reported next script n) ++ names_of front.0 ≡ names_of all = sym (names_of-append (reported next script n) front.0) ∙ ap names_of front.1 in
    ap (λ (a : State). names_of (fresh_entries_in a (reported next script n))) (follows ∙ accounts-follow history start is script (event_count start script))
    ∙ none-logged (with_entries history all) (reported next script n)
    (all-front (λ name. is_among (names_in (with_entries history all)) name ≡ true) (names_of (reported next script n)) (names_of front.0)
    (subst (AllByRecursion (λ name. is_among (names_in (with_entries history all)) name ≡ true)) (sym names) (among-own history all)))

-- a run after a crash reports the first reports again, and then the others
module _ (history : History) (start next : Start) (script : List ℕ) (n : ℕ) (none : PollsNothing script) (begins : BeginsWith history start) (taken : IsTakenWhole start script) (follows : Follows start script n next) (whole : IsTakenWhole next script) where
  abbrev stopped : History
  stopped = with_entries history (reported start script n)

  next-is : next.account ≡ account_of stopped
  next-is = follows ∙ accounts-follow history start begins script n

  all-again : reported next script (event_count next script) ≡ reported start script (event_count start script)
  all-again = reported-whole next script whole ∙ script-reports next start script none ∙ sym (reported-whole start script taken)

  account-again : (rest : List Entry) → reported start script n ++ rest ≡ reported start script (event_count start script)
      → account_with next script (event_count next script) ≡ account_of (with_entries stopped (reported start script n ++ rest))
  account-again rest is =
      (λ i. account_after_all (next-is i) ((all-again ∙ sym is) i))
      ∙ account_by_history stopped (reported start script n ++ rest)

  pub resumed-counts : CountTheSame (account_with next script (event_count next script)) (account_with start script (event_count start script))
  resumed-counts =
      let front = reported-front start start script n none taken in
      subst (λ (a : State). CountTheSame a (account_with start script (event_count start script))) (sym (account-again front.0 front.1))
      (subst (λ (a : State). CountTheSame (account_of (with_entries stopped (reported start script n ++ front.0))) a)
      (ap (λ (es : List Entry). account_of (with_entries history es)) front.1 ∙ sym (accounts-follow history start begins script (event_count start script)))
      (counts-again history (reported start script n) front.0))

  -- both runs together log what the uninterrupted run logs
  pub logs-together : facts_of (logged start script n ++ logged next script (event_count next script)) ≡ facts_of (logged start script (event_count start script))
  logs-together =
      let h : History = history in
      let xs : List Entry = reported start script n in
      let (rest, is) = reported-front start start script n none taken in
      let one : List Entry = logged start script n in
      let other : List Entry = logged next script (event_count next script) in
      let all : List Entry = logged start script (event_count start script) in
      let later : other ≡ fresh_entries_in (account_of stopped) (xs ++ rest) = (λ i. fresh_entries_in (next-is i) ((all-again ∙ sym is) i)) in
      let news : fresh_entries (with_entries stopped (xs ++ rest)) ≡ fresh_entries h ++ (one ++ other) =
      news_behind stopped (xs ++ rest)
      ∙ (λ i. logs-follow history start begins script n i ++ sym later i)
      ∙ append_assoc (fresh_entries h) one other in
      append_cancel_left (facts_of (fresh_entries h)) (facts_of (one ++ other)) (facts_of all)
      (sym (facts_of-append (fresh_entries h) (one ++ other))
      ∙ ap facts_of (sym news)
      ∙ facts-again h xs rest
      ∙ ap (λ (es : List Entry). facts_of (fresh_entries (with_entries h es))) is
      ∙ ap facts_of (logs-follow history start begins script (event_count start script))
      ∙ facts_of-append (fresh_entries h) all)

  pub resumed-same : ReportsFacts start script → account_with next script (event_count next script) ≡ account_with start script (event_count start script)
  resumed-same facts =
      let front = reported-front start start script n none taken in
      account-again front.0 front.1
      ∙ again-counted history (reported start script n) front.0
      (all-front IsFact (reported start script n) front.0 (subst (AllByRecursion IsFact) (sym front.1) (recursion_from_All IsFact (reported start script (event_count start script)) facts)))
      ∙ ap (λ (es : List Entry). account_of (with_entries history es)) front.1
      ∙ sym (accounts-follow history start begins script (event_count start script))

-- ---- what is ordered

-- the orders that a line gives after everything that was reported before it
abbrev ordered_at : Place → List Order
ordered_at place = orders_along_entries place.0.account (entries_at place)

-- events in order, after a history with the site's account
module _ (given : History → List Order) (grows : (h : History) (e : Entry) → given (with_entry h e) ≡ given h ++ orders_behind h e) where
  abbrev Follow : History → List Place → Type 0
  Follow h places = given (with_entries h (flat_map entries_at places)) ≡ given h ++ flat_map ordered_at places

  orders-first : (h : History) (place : Place) (places : List Place) → place.0.account ≡ account_of h → Follow (with_entries h (entries_at place)) places → Follow h (place ∷ places)
  orders-first h place places is rest =
      let entries : List Entry = entries_at place in
      let others : List Order = flat_map ordered_at places in
      ap given (with_entries-append h entries (flat_map entries_at places))
      ∙ rest
      ∙ ap (λ (os : List Order). os ++ others) (orders-entries given grows h entries ∙ ap (λ (a : State). given h ++ orders_along_entries a entries) (sym is))
      ∙ append_assoc (given h) (ordered_at place) others

  pub given-along : (h : History) (site : Site) (reads : List NumberedLine) (n : ℕ) → site.account ≡ account_of h
      → Follow h (take n (filter is_event (places_before_refusal (places_from site reads))))
  given-along h site reads zero is = sym (append-nil (given h))
  given-along h site [] (suc n) is = sym (append-nil (given h))
  given-along h site ((number, Ok asks.Nothing) ∷ reads) (suc n) is = given-along h (site_after site (number, Ok asks.Nothing)) reads (suc n) is
  given-along h site (read ∷ reads) (suc n) is =
      let place : Place = (site, read) in
      let later : List Place = places_before_refusal (places_from (site_after site read) reads) in
      let rest : Follow (with_entries h (entries_at place)) (take n (filter is_event later)) =
      given-along (with_entries h (entries_at place)) (site_after site read) reads n (ap (λ (a : State). account_after_all a (entries_at place)) is ∙ account_by_history h (entries_at place)) in
      by (is_some (refusal_at place)) (orders-first h place (take n (filter is_event later)) is rest)
    where
      by : (refused : Bool) → Follow h ((site, read) ∷ take n (filter is_event (places_before_refusal (places_from (site_after site read) reads))))
          → Follow h (take (suc n) (filter is_event (if refused then [] else (site, read) ∷ places_before_refusal (places_from (site_after site read) reads))))
      by true first = sym (append-nil (given h))
      by false first = first

-- the orders of a history, and what is outstanding after them
module _ (h : History) where
  pub pages-once : (page : ℕ) → AreOnceInOrder page (orders_for_page page (orders h))
  pages-once page = subst (AreOnceInOrder page) (sym (page-orders page h)) (once_in_order (reports_of (sightings h)) page)

  pub page-state : (page : ℕ) → state_in (account_of h).pages page ≡ state_under (orders_for_page page (orders h))
  page-state page = state-under (reports_of (sightings h)) page ∙ ap state_under (sym (page-orders page h))

  pub module-state : (label : Bytes) (row : Module) → lookup (same_label label) (account_of h).modules ≡ Some row → row.replace ≡ has_tripped (module_errors h label)
  module-state label row there = by (is_seen h label) (sym (module-row h label) ∙ there)
    where
      by : (b : Bool) → (if b then Some (module_of h label) else None) ≡ Some row → row.replace ≡ has_tripped (module_errors h label)
      by true is = ap (λ (m : Option Module). option_map_or (λ (m : Module). m.replace) m false) (sym is)
      by false is = absurd cc

module _ (history : History) (start : Start) (is : BeginsWith history start) (script : List ℕ) (n : ℕ) where
  abbrev after : History
  after = history_after history start script n

  pub orders-follow : orders after ≡ orders history ++ ordered start script n
  orders-follow = given-along orders (λ h e. refl) history (first_site start) (reads_of script) n is

  pub page-once : (page : ℕ) → AreOnceInOrder page (orders_for_page page (orders history ++ ordered start script n))
  page-once page = subst (λ (given : List Order). AreOnceInOrder page (orders_for_page page given)) orders-follow (pages-once after page)

  pub module-once : (label : Bytes) → HasRow after label
      → orders_for_module (module_place after label) (orders_since_mark history ++ ordered start script n)
      ≡ (if has_tripped (module_errors after label) then replace_order after label ∷ [] else [])
  module-once label row =
      ap (orders_for_module (module_place after label)) (sym (given-along orders_since_mark (λ h e. refl) history (first_site start) (reads_of script) n is))
      ∙ module-orders after label row

  account-is : account_with start script n ≡ account_of after
  account-is = accounts-follow history start is script n

  pub page-stands : (page : ℕ) → state_in (account_with start script n).pages page ≡ state_under (orders_for_page page (orders history ++ ordered start script n))
  page-stands page =
      ap (λ (a : State). state_in a.pages page) account-is
      ∙ page-state after page
      ∙ ap (λ (given : List Order). state_under (orders_for_page page given)) orders-follow

  pub module-stands : (label : Bytes) (row : Module) → lookup (same_label label) (account_with start script n).modules ≡ Some row → row.replace ≡ has_tripped (module_errors after label)
  module-stands label row there = module-state after label row (ap (λ (a : State). lookup (same_label label) a.modules) (sym account-is) ∙ there)

-- ---- lines after others

before-behind : (ps qs : List Place) → IsPrefixOf (places_before_refusal ps) (places_before_refusal (ps ++ qs))
before-behind [] qs = (places_before_refusal qs, refl)
before-behind (p ∷ ps) qs = by (is_some (refusal_at p)) (before-behind ps qs)
  where
    by : (b : Bool) → IsPrefixOf (places_before_refusal ps) (places_before_refusal (ps ++ qs))
        → IsPrefixOf (if b then [] else p ∷ places_before_refusal ps) (if b then [] else p ∷ places_before_refusal (ps ++ qs))
    by true more = ([], refl)
    by false (rest, is) = (rest, ap (λ (others : List Place). p ∷ others) is)

pub lines-stay : (start : Start) (lines more : List (List ℕ)) → IsPrefixOf (lines_output start (reads_in lines)) (lines_output start (reads_in (lines ++ more)))
lines-stay start lines more =
    let front : List Place = places_from (first_site start) (reads_in lines) in
    let behind : List Place = places_from (site_at start (reads_in lines)) (reads_behind lines more) in
    let all : front ++ behind ≡ places_from (first_site start) (reads_in (lines ++ more)) =
    sym (ap (places_from (first_site start)) (reads-append lines more) ∙ places-append (first_site start) (reads_in lines) (reads_behind lines more)) in
    subst (λ (ps : List Place). IsPrefixOf (lines_output start (reads_in lines)) (flat_map output_at (places_before_refusal ps))) all
    (prefix-flat_map output_at (places_before_refusal front) (places_before_refusal (front ++ behind)) (before-behind front behind))
