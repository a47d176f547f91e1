-- The first lines of a script, each accepted, among all its lines.
use Rattle.std.proofs.Common.{◌≡◌, ℕ, Bool, true, false, List, [], ◌∷◌, ◌++◌, Option, Some, None, Result, Ok, Err, refl, sym, ap, ◌∙◌, subst}
use Rattle.std.specs.Prelude.{if◌then◌else◌}
use Rattle.std.specs.List.{AllByRecursion, flat_map}
use Rattle.std.specs.Option.{option_map_or}
use Rattle.ras_account.specs.Continued.{account_after_all}
use Rattle.erst_store.specs.declared.store.PutRefused.{PutRefused}
use Rattle.erst_store.specs.Store.{is_full_for, refusal_of}
use Rattle.erst_driver.specs.Operations.{is_free_in_time}
use Rattle.ras_events.specs.declared.event.Event.{Event}
use Rattle.ras_events.specs.declared.event.LineRefusal.{LineRefusal}
use Rattle.ras_events.specs.declared.event.LineRefusal.TheVariants.{Bad, NoTable}
use Rattle.ras_events.specs.Making.{entries_in}
use Rattle.ras_events.specs.Deeds.{Asking, Deed, deed_of, polls, puts, saves}
use Rattle.ras_events.specs.declared.made.Piece.{Piece}
use Rattle.ras_texts.specs.Text.{end_line}
use Rattle.ras_events.specs.Described.{NumberedLine}
use Rattle.ras_run.specs.Sites.{Site, Start, first_site}
use Rattle.ras_run.specs.News.{has_no_room_for}
use Rattle.ras_run.specs.Places.{Place, entries_at, event_at, places_from, site_at}
use Rattle.ras_daemon.specs.Script.{places_of, reads_of, places_taken}
use Rattle.ras_exit.specs.declared.exit.Exit.{Exit}
use Rattle.ras_exit.specs.declared.exit.Exit.TheVariants.{Done, ErstBusy, ErstStatus, Full, Usage}
use Rattle.ras_records.specs.Polls.{is_busy_for_reads}
use Rattle.ras_run.specs.Deeds.{deed_counts}
use Rattle.ras_run.specs.Status.{asking_refusal, places_before_refusal, put_refusal, refusal_at, room_refusal, site_refusal}
use Rattle.ras_run.specs.Taking.{IsAccepted}
use Rattle.ras_run.proofs.PlaceLemmas.{places-append, site-account}
use Rattle.ras_daemon.specs.RunOutput.{closing_line}
use Rattle.ras_daemon.specs.RunStatus.{first_refused, refused_or, run_exit, script_refused}
use Rattle.ras_daemon.specs.Steps.Running.{AreAll, AreFirst}
use Rattle.ras_exit.specs.ScriptEnd.{script_exit}

-- if the first of these places are accepted, the first rejected one is among the others
accepted-before : (ps qs : List Place) → AllByRecursion IsAccepted ps → places_before_refusal (ps ++ qs) ≡ ps ++ places_before_refusal qs
accepted-before [] qs all = refl
accepted-before (p ∷ ps) qs all = rw all.0.taken (ap (λ (rest : List Place). p ∷ rest) (accepted-before ps qs all.1))

refused-behind : (ps qs : List Place) → AllByRecursion IsAccepted ps → first_refused (ps ++ qs) ≡ first_refused qs
refused-behind [] qs all = refl
refused-behind (p ∷ ps) qs all = rw all.0.taken (refused-behind ps qs all.1)

module _ (start : Start) (script : List ℕ) (before : List NumberedLine) (first : AreFirst start script before) where
  -- the places of the other lines of the script
  abbrev pub others : List Place
  others = places_from (site_at start before) first.rest

  whole : places_of start script ≡ places_from (first_site start) before ++ others
  whole = ap (places_from (first_site start)) (sym first.splits) ∙ places-append (first_site start) before first.rest

  pub first-before : places_taken start script ≡ places_from (first_site start) before ++ places_before_refusal others
  first-before = ap places_before_refusal whole ∙ accepted-before (places_from (first_site start) before) others first.accepted

  pub first-refused : script_refused start script ≡ first_refused others
  first-refused = ap first_refused whole ∙ refused-behind (places_from (first_site start) before) others first.accepted

-- ---- a refusal is no end of a script

abbrev IsNotDone : Option Exit → Type 0
IsNotDone (Some Done) = ⊥
IsNotDone exit = Unit {0}

if-not : (b : Bool) (one other : Option Exit) → IsNotDone one → IsNotDone other → IsNotDone (if b then one else other)
if-not true one other is not = is
if-not false one other is not = not

put-not : (number : ℕ) (refusal : Option PutRefused) → IsNotDone (put_refusal number refusal)
put-not number None = tt
put-not number (Some why) = tt

room-not : (site : Site) (counted : Option (List Piece)) → IsNotDone (room_refusal site counted)
room-not site None = tt
room-not site (Some made) = if-not (has_no_room_for site.account site.standing (entries_in made)) (Some Full) None tt tt

asking-not : (site : Site) (number : ℕ) (asks : Asking) (room : Option Exit) → IsNotDone room → IsNotDone (asking_refusal site number asks room)
asking-not site number (puts r) room is = put-not number (refusal_of r.id r.bytes site.store)
asking-not site number (saves r) room is =
    if-not (is_free_in_time site.slow) (if is_full_for r.id site.store then Some (ErstStatus 1) else None) (Some ErstBusy)
    (if-not (is_full_for r.id site.store) (Some (ErstStatus 1)) None tt tt) tt
asking-not site number (polls seconds) room is = if-not (is_busy_for_reads site.slow site.store) (Some ErstBusy) room tt is
asking-not site number asks room is = is

refused-not : (site : Site) (number : ℕ) (event : Result Event LineRefusal) → IsNotDone (site_refusal site number event)
refused-not site number (Err (Bad why)) = tt
refused-not site number (Err NoTable) = tt
refused-not site number (Ok event) =
    let deed : Deed = deed_of (Ok event) in
    asking-not site number deed.asks (room_refusal site (deed_counts site deed)) (room-not site (deed_counts site deed))

-- if no line is rejected, all lines are before the first rejected one
all-before : (ps : List Place) (exit : Exit) → option_map_or (λ (r : Place × Exit). r.1) (first_refused ps) exit ≡ Done → places_before_refusal ps ≡ ps
all-before [] exit is = refl
all-before (p ∷ ps) exit is = by (refusal_at p) refl (refused-not p.0 p.1.0 (event_at p)) (all-before ps exit) is
  where
    by : (found : Option Exit) → refusal_at p ≡ found → IsNotDone found
        → (option_map_or (λ (r : Place × Exit). r.1) (first_refused ps) exit ≡ Done → places_before_refusal ps ≡ ps)
        → option_map_or (λ (r : Place × Exit). r.1) (refused_or found p (first_refused ps)) exit ≡ Done → places_before_refusal (p ∷ ps) ≡ p ∷ ps
    by None there not rest is = rw there (ap (λ (qs : List Place). p ∷ qs) (rest is))
    by (Some why) there not rest is = absurd (subst (λ (e : Exit). IsNotDone (Some e)) is not)

-- a run that succeeds takes the whole script
pub done-all : (start : Start) (script : List ℕ) → run_exit start script ≡ Done
    → places_taken start script ≡ places_of start script
done-all start script is = all-before (places_of start script) (script_exit script) is

pub account-all : (start : Start) (script : List ℕ) (before : List NumberedLine) → places_taken start script ≡ places_from (first_site start) before → run_exit start script ≡ Done
    → (site_at start before).account ≡ (site_at start (reads_of script)).account
account-all start script before all is =
    site-account (first_site start) before
    ∙ ap (λ (ps : List Place). account_after_all start.account (flat_map entries_at ps)) (sym all ∙ done-all start script is)
    ∙ sym (site-account (first_site start) (reads_of script))

-- the last line of a run
pub closing-same : (start : Start) (script : List ℕ) (exit : Exit) (before : List NumberedLine) → AreAll start script exit before
    → closing_line (site_at start before).account exit ≡ closing_line (site_at start (reads_of script)).account (run_exit start script)
closing-same start script exit before all =
    by exit all.exit_is ∙ ap (closing_line (site_at start (reads_of script)).account) (sym all.exit_is)
  where
    by : (e : Exit) → run_exit start script ≡ e → closing_line (site_at start before).account e ≡ closing_line (site_at start (reads_of script)).account e
    by Done is = ap end_line (account-all start script before all.all is)
    by Usage is = refl
    by e is = refl
