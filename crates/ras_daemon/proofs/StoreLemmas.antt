-- The record store along the events of a run, and what the next event does to it.
use Rattle.std.proofs.Common.{◌≡◌, ℕ, true, cond, List, [], ◌∷◌, ◌++◌, length, map, Option, None, Some, Ok, refl, sym, ap, ◌∙◌, append_assoc}
use Rattle.std.specs.Prelude.{filter, get_or, is_some}
use Rattle.std.specs.List.{fold}
use Rattle.std.proofs.lemmas.List.Elements.{filter-append}
use Rattle.erst_store.specs.Store.{Stored, bytes_under}
use Rattle.ras_script.specs.declared.line.Line.TheVariants as asks
use Rattle.ras_events.specs.Described.{NumberedLine}
use Rattle.ras_run.specs.Sites.{Site, Start, first_site}
use Rattle.ras_run.specs.Places.{Place, deed_at, places_from, site_after, site_along, site_at}
use Rattle.ras_daemon.specs.Script.{is_event, reads_of, places_taken}
use Rattle.ras_exit.specs.declared.exit.Exit.{Exit}
use Rattle.ras_exit.specs.declared.exit.Exit.TheVariants.{ErstBusy}
use Rattle.ras_run.specs.Status.{places_before_refusal, refusal_at}
use Rattle.ras_daemon.specs.Machine.{RunEvent, StoreChange, change_next, changes_upto, keeps, last_changed, last_upto, store_changed, store_upto}
use Rattle.ras_daemon.specs.RunOf.{begun_by, change_at, run_event_at, run_of}
use Rattle.ras_daemon.specs.RunStatus.{first_refused, refused_or, script_refused}
use Rattle.ras_daemon.specs.Steps.Running.{AreAccepted, AreFirst}
use Rattle.ras_daemon.proofs.CountLemmas.{events_before, first-events, placed}
use Rattle.ras_daemon.proofs.FirstLinesLemmas.{first-before, first-refused}
use Rattle.ras_daemon.proofs.MachineLemmas.{change-left, changes-same}

-- ---- along the events

-- a line that isn't an event keeps the store
changes-passing : {A : Type 0} (g : A → StoreChange → A) → ((a : A) → g a keeps ≡ a) → (a : A) (ps : List Place) → fold g a (map change_at (filter is_event ps)) ≡ fold g a (map change_at ps)
changes-passing g none a [] = refl
changes-passing g none a ((site, (number, Ok asks.Nothing)) ∷ ps) = changes-passing g none a ps ∙ ap (λ b. fold g b (map change_at ps)) (sym (none a))
changes-passing g none a (p ∷ ps) = changes-passing g none (g a (change_at p)) ps

store-along : (site : Site) (reads : List NumberedLine) → fold store_changed site.store (map change_at (places_from site reads)) ≡ (site_along site reads).store
store-along site [] = refl
store-along site (read ∷ reads) =
    ap (λ (s : List Stored). fold store_changed s (map change_at (places_from (site_after site read) reads))) (change-left (deed_at (site, read)).asks site.store)
    ∙ store-along (site_after site read) reads

module _ (start : Start) (script : List ℕ) (before : List NumberedLine) (first : AreFirst start script before) where
  changes-first : {A : Type 0} (g : A → StoreChange → A) → ((a : A) → g a keeps ≡ a) → (a : A) → fold g a (changes_upto (run_of start script) (events_before start before)) ≡ fold g a (map change_at (placed start before))
  changes-first g none a =
      ap (fold g a) (changes-same start script (events_before start before) ∙ ap (map change_at) (first-events start script before first)) ∙ changes-passing g none a (placed start before)

  -- the store that the first lines leave, and what they last stored
  pub store-first : store_upto (run_of start script) (events_before start before) ≡ (site_at start before).store
  store-first = changes-first store_changed (λ store. refl) start.store ∙ store-along (first_site start) before

  pub last-first : (id : ℕ) → last_upto (run_of start script) (events_before start before) id ≡ fold (last_changed id) (bytes_under id start.store) (map change_at (placed start before))
  last-first id = changes-first (last_changed id) (λ last. refl) (bytes_under id start.store)

-- ---- the event that is begun after the first lines

change-behind : (ps qs : List Place) (p : Place) → get_or (map (λ (event : RunEvent). event.change) (map run_event_at (ps ++ p ∷ qs))) (length ps) keeps ≡ change_at p
change-behind [] qs p = refl
change-behind (q ∷ ps) qs p = change-behind ps qs p

-- a line isn't rejected, or only because its device was busy for too long
abbrev pub IsBegunWith : Option Exit → Type 0
IsBegunWith None = Unit {0}
IsBegunWith (Some ErstBusy) = Unit {0}
IsBegunWith refusal = ⊥

module _ (start : Start) (script : List ℕ) (before rest : List NumberedLine) (read : NumberedLine) (splits : before ++ read ∷ rest ≡ reads_of script) (accepted : AreAccepted start before) where
  abbrev place : Place
  place = (site_at start before, read)

  abbrev later : List Place
  later = places_from (site_after (site_at start before) read) rest

  abbrev first : AreFirst start script before
  first = record { rest = read ∷ rest; splits = splits; accepted = accepted }

  -- all events that the run begins: the events of these lines, then the line, then others
  begun-more : IsBegunWith (refusal_at place) → (more : List Place) × (places_taken start script ++ begun_by (script_refused start script) ≡ placed start before ++ place ∷ more)
  begun-more begun =
      let (more, is) = by (refusal_at place) begun in (
        more,
        (λ i. first-before start script before first i ++ begun_by (first-refused start script before first i))
            ∙ append_assoc (placed start before) (places_before_refusal (place ∷ later)) (begun_by (first_refused (place ∷ later)))
            ∙ ap (λ (ps : List Place). placed start before ++ ps) is,
      )
    where
      by : (refusal : Option Exit) → IsBegunWith refusal
          → (more : List Place) × (cond (is_some refusal) [] (place ∷ places_before_refusal later) ++ begun_by (refused_or refusal place (first_refused later)) ≡ place ∷ more)
      by None begun = (places_before_refusal later ++ begun_by (first_refused later), refl)
      by (Some ErstBusy) begun = ([], refl)
      by (Some exit) begun = absurd begun

  pub line-next : is_event place ≡ true → IsBegunWith (refusal_at place) → change_next (run_of start script) (events_before start before) ≡ change_at place
  line-next event begun =
      let (more, is) = begun-more begun in
      ap (λ ps. get_or (map (λ (event : RunEvent). event.change) (map run_event_at ps)) (events_before start before) keeps)
      (ap (filter is_event) is
      ∙ filter-append is_event (placed start before) (place ∷ more)
      ∙ ap (λ b. filter is_event (placed start before) ++ cond b (place ∷ filter is_event more) (filter is_event more)) event)
      ∙ change-behind (filter is_event (placed start before)) (filter is_event more) place
