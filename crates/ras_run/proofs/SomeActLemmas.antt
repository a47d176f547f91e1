-- A line has acts, over any model of the board.
use Rattle.std.proofs.Common.{ℕ, List, [], ◌++◌, map, Option, None, Some, Result, refl}
use Rattle.board_core.specs.declared.board.DiskCall.{DiskCall}
use Rattle.board_core.specs.Doing.{Act, after_acts, calls}
use Rattle.board_core.specs.Stop.{Left}
use Rattle.board_core.specs.Told.{Told}
use Rattle.ras_recover.proofs.OpeningCallsLemmas.{an_opening}
use Rattle.ras_events.specs.declared.event.Event.{Event}
use Rattle.ras_events.specs.declared.event.LineRefusal.{LineRefusal}
use Rattle.ras_run.specs.Places.{Place, event_at}
use Rattle.ras_exit.specs.declared.exit.Exit.{Exit}
use Rattle.ras_events.specs.Deeds.{Asking, Deed, deed_of, reopens}
use Rattle.ras_run.specs.LineActs.{AreActsIn, AreFollowingIn, AreLineActs, AreUnlessRefused, IsReadAgain, asking_by, deed_acts}
use Rattle.ras_run.specs.Status.{site_refusal}
use Rattle.ras_run.specs.Sites.{Site, driving_lists}

some_reading : (asks : Asking) (here : Left) → (reading : List DiskCall) × IsReadAgain asks here reading
some_reading reopens here = (let opening = an_opening here in (opening.1.recovery, opening.1.recovers))
some_reading asks here = ([], refl)

module _ (site : Site) (number : ℕ) (u : Told) where
  some_then : (refusal : Option Exit) (deed : Deed) → (acts : List Act) × AreUnlessRefused refusal (AreFollowingIn site number deed u) acts
  some_then (Some why) deed = ([], refl)
  some_then None deed =
      let some = some_reading deed.asks u.here in
      (map calls some.0 ++ deed_acts site number deed (after_acts (map calls some.0) u), (some.0, some.1, refl))

pub some_in : (site : Site) (number : ℕ) (event : Result Event LineRefusal) (t : Told) → (acts : List Act) × AreActsIn site number event t acts
some_in site number event t =
    let asked : List Act = asking_by (driving_lists site) event t in
    let rest = some_then site number (after_acts asked t) (site_refusal site number event) (deed_of event) in
    (asked ++ rest.0, record { rest = rest.0; is = refl; follow = rest.1 })

pub some_acts : (place : Place) (t : Told) → (acts : List Act) × AreLineActs place t acts
some_acts place t = some_in place.0 place.1.0 (event_at place) t
