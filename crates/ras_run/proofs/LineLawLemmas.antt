-- What the acts of a line at its place lead to.
use Rattle.std.proofs.Common.{◌≡◌, ◌∙◌, ◌⊎◌, ℕ, Bool, true, false, if◌then◌else◌, List, [], ◌++◌, Option, None, Some, Result, Ok, Err, refl, sym, ap, subst, inl, inr}
use Rattle.board_core.specs.declared.board.DiskCall.{DiskCall}
use Rattle.board_core.specs.Doing.{Act, Moment, after_acts, calls_of}
use Rattle.board_core.specs.Stop.{Left}
use Rattle.board_core.specs.Told.{Told}
use Rattle.board_core.proofs.DoingLemmas.{after-append, moment_parts}
use Rattle.erst_store.specs.declared.store.PutRefused.{PutRefused}
use Rattle.erst_store.specs.Store.{Stored, is_full_for, refusal_of}
use Rattle.erst_driver.specs.Operations.{is_free_in_time}
use Rattle.ras_account.specs.Accounts.{IsAccount}
use Rattle.ras_records.proofs.ClearingLemmas.{calls_keep}
use Rattle.ras_events.specs.declared.event.Event.{Event}
use Rattle.ras_events.specs.declared.event.LineRefusal.{LineRefusal}
use Rattle.ras_events.specs.Stores.{store_with}
use Rattle.ras_exit.specs.declared.exit.Exit.{Exit}
use Rattle.ras_exit.specs.declared.exit.Exit.TheVariants.{ErstBusy, ErstStatus}
use Rattle.ras_events.specs.Deeds.{Asking, Deed, deed_of, nothing, puts, saves}
use Rattle.ras_run.specs.Deeds.{deed_pieces, store_asked}
use Rattle.ras_run.specs.LineActs.{AreFollowing, AreLineActs, AreUnlessRefused, CanAsk, HoldsAt, asking_acts, asking_calls}
use Rattle.ras_run.specs.LineCalls.{AreCallsAt}
use Rattle.ras_run.specs.Moments.{refused_store, stored_by}
use Rattle.ras_run.specs.Output.{output_at}
use Rattle.ras_run.specs.Status.{asking_refusal, deed_refusal, put_refusal, refusal_at, site_refusal}
use Rattle.ras_run.specs.Places.{Place, deed_at, event_at, site_after}
use Rattle.ras_run.specs.Sites.{Site, driving_lists}
use Rattle.ras_run.specs.Taking.{IsAccepted, LineMoment}
use Rattle.ras_run.proofs.AdmittedLemmas.{drivable-after}
use Rattle.ras_run.proofs.AskedLemmas.{HasAsked, asked_here, asking_begun, has_asked}
use Rattle.ras_run.proofs.DeedLemmas.{IsDone, follow_calls, follow_done, follow_moment, follow_out, has_room}
use Rattle.ras_run.proofs.DeviceActLemmas.{device_calls_none}
use Rattle.ras_run.proofs.DrivesLemmas.{place_drives}
use Rattle.ras_run.proofs.MadeLemmas.{account_made}
use Rattle.ras_run.proofs.PrintActLemmas.{calls_both}
use Rattle.ras_run.proofs.StoreLemmas.{full_with, refused_with}

-- ---- over any model of the board

-- the model after a line's first device calls
abbrev pub after_asked : Place → Told → Told
after_asked place t = after_acts (asking_acts place t) t

module _ (place : Place) (t : Told) (acts : List Act) (are : AreLineActs place t acts) where
  abbrev now : Told
  now = after_asked place t

  pub acts_then : after_acts acts t ≡ after_acts are.rest now
  acts_then = ap (λ (l : List Act). after_acts l t) are.is ∙ after-append (asking_acts place t) are.rest t

  pub event_acts : refusal_at place ≡ None → AreFollowing place now are.rest
  event_acts none = subst (λ (r : Option Exit). AreUnlessRefused r (AreFollowing place now) are.rest) none are.follow

  pub refused_rest : (exit : Exit) → refusal_at place ≡ Some exit → are.rest ≡ []
  refused_rest exit refused = subst (λ (r : Option Exit). AreUnlessRefused r (AreFollowing place now) are.rest) refused are.follow

  rest_calls : calls_of acts ≡ calls_of are.rest
  rest_calls =
      ap calls_of are.is ∙ (calls_both (asking_acts place t) are.rest ∙ ap (λ (l : List DiskCall). l ++ calls_of are.rest) (device_calls_none (asking_calls (driving_lists place.0) (deed_at place).asks t)))

module _ (place : Place) (t : Told) (acts : List Act) (accepted : IsAccepted place) (are : AreLineActs place t acts) where
  pub line_calls : AreCallsAt place t.here (calls_of acts)
  line_calls =
      subst (AreCallsAt place t.here) (sym (rest_calls place t acts are))
      (follow_calls place.0 place.1.0 (deed_at place).asks (deed_at place).reported (deed_at place).has_done_line t are.rest (event_acts place t acts are accepted.taken))

  pub line_out : (after_acts acts t).here.out ≡ t.here.out ++ output_at place
  line_out =
      ap (λ (u : Told). u.here.out) (acts_then place t acts are)
      ∙ (follow_out place.0 place.1.0 (deed_at place) (after_asked place t) are.rest (event_acts place t acts are accepted.taken)
      ∙ ap (λ out. out ++ output_at place) (ap (λ (l : Left). l.out) (calls_keep (asking_calls (driving_lists place.0) (deed_at place).asks t) t).here))

-- ---- over the files and the record store of the line's site

site_holds : (site : Site) (t : Told) → HoldsAt site t → HasAsked site nothing t
site_holds site t holds = record {
  account = holds.account;
  at = holds.at;
  board = record { store = holds.board.store; slow = holds.board.slow; clear = tt };
}

-- ---- a rejected line

-- the store after a rejected line: unchanged, or with the record of a device that was too late
left_refused : (exit : Exit) (event : Result Event LineRefusal) (store : List Stored) → stored_by event store ≡ store → stored_by event store ≡ refused_store exit event store
left_refused ErstBusy event store same = refl
left_refused exit event store same = same

left_asked : (site : Site) (number : ℕ) (room : Option Exit) (exit : Exit) (asks : Asking) → asking_refusal site number asks room ≡ Some exit → (store_asked asks site.store ≡ site.store) ⊎ (exit ≡ ErstBusy)
left_asked site number room exit (puts r) some = inl (by (refusal_of r.id r.bytes site.store) refl some)
  where
    by : (refusal : Option PutRefused) → refusal_of r.id r.bytes site.store ≡ refusal → put_refusal number refusal ≡ Some exit → store_with r.id r.bytes site.store ≡ site.store
    by None is never = absurd cc
    by (Some why) is refused = refused_with r.id r.bytes site.store why is
left_asked site number room exit (saves r) some = by (is_free_in_time site.slow) (is_full_for r.id site.store) refl some
  where
    by : (free full : Bool) → is_full_for r.id site.store ≡ full → (if free then (if full then Some (ErstStatus 1) else None) else Some ErstBusy) ≡ Some exit → (store_with r.id r.bytes site.store ≡ site.store) ⊎ (exit ≡ ErstBusy)
    by true true is refused = inl (full_with r.id r.bytes site.store is)
    by true false is never = absurd cc
    by false full is busy = inr cc
left_asked site number room exit asks some = inl refl

pub refused_is : (place : Place) (exit : Exit) (event : Result Event LineRefusal) → site_refusal place.0 place.1.0 event ≡ Some exit → stored_by event place.0.store ≡ refused_store exit event place.0.store
refused_is place exit (Ok event) some = elim (left_asked place.0 place.1.0 _ exit (deed_of (Ok event)).asks some) [
  | inl same ↦ left_refused exit (Ok event) place.0.store same
  | inr busy ↦ subst (λ (e : Exit). stored_by (Ok event) place.0.store ≡ refused_store e (Ok event) place.0.store) (sym busy) refl
]
refused_is place exit (Err why) some = left_refused exit (Err why) place.0.store refl

pub line_still : (place : Place) (exit : Exit) (t : Told) (acts : List Act) → refusal_at place ≡ Some exit → CanAsk (event_at place) t → HoldsAt place.0 t → AreLineActs place t acts
    → (after_acts acts t).here ≡ record t.here { store = refused_store exit (event_at place) place.0.store }
line_still place exit t acts refused can holds are =
    ap (λ (u : Told). u.here) (acts_then place t acts are)
    ∙ (ap (λ (l : List Act). (after_acts l (after_asked place t)).here) (refused_rest place t acts are exit refused)
    ∙ (asked_here place.0 t (site_holds place.0 t holds) (deed_at place).asks (place_drives place holds.drivable) can
    ∙ ap (λ (rs : List Stored). record t.here { store = rs }) (refused_is place exit (event_at place) refused)))

-- ---- an accepted line, after its first device calls

pub deed_taken : (site : Site) (number : ℕ) (event : Result Event LineRefusal) → site_refusal site number event ≡ None → deed_refusal site number (deed_of event) ≡ None
deed_taken site number (Ok event) none = none
deed_taken site number (Err why) none = absurd cc

module _ (place : Place) where
  abbrev site : Site
  site = place.0

  abbrev number : ℕ
  number = place.1.0

  abbrev deed : Deed
  deed = deed_at place

  abbrev next : Site
  next = site_after site place.1

  pub taken_account : IsAccepted place → IsAccount site.account → IsAccount next.account
  taken_account accepted account =
      account_made site.account site.standing account (deed_pieces site deed) (has_room site number deed.asks deed.reported account (deed_taken site number (event_at place) accepted.taken)) accepted.fit

  module _ (t : Told) (holds : HoldsAt site t) (can : CanAsk (event_at place) t) where
    pub line_asked : HasAsked site deed.asks (after_asked place t)
    line_asked = has_asked site t (site_holds site t holds) deed.asks (place_drives place holds.drivable) can

    pub asking_moment : (left : Left) → Moment (asking_acts place t) t left → LineMoment place t.here left
    asking_moment left moment = inl (asking_begun site t (site_holds site t holds) number deed next.account (place_drives place holds.drivable) can left moment)

    module _ (acts : List Act) (are : AreLineActs place t acts) (accepted : IsAccepted place) where
      abbrev follow : AreFollowing place (after_asked place t) are.rest
      follow = event_acts place t acts are accepted.taken

      taken : deed_refusal site number deed ≡ None
      taken = deed_taken site number (event_at place) accepted.taken

      pub line_holds : HoldsAt next (after_acts acts t)
      line_holds =
          let done : IsDone site number deed (after_acts are.rest (after_asked place t)) = follow_done site number deed (after_asked place t) line_asked taken accepted.fit are.rest follow in
          subst (HoldsAt next) (sym (acts_then place t acts are)) (record {
            account = done.account;
            at = done.at;
            board = record { store = done.store; slow = done.slow };
            drivable = drivable-after site.settings place.1 holds.drivable;
          })

      pub line_moment : (left : Left) → Moment acts t left → LineMoment place t.here left
      line_moment left moment = elim (moment_parts (asking_acts place t) are.rest t left (subst (λ (l : List Act). Moment l t left) are.is moment)) [
        | inl asking ↦ asking_moment left asking
        | inr later ↦
            follow_moment site number deed (after_asked place t) line_asked taken accepted.fit are.rest follow
            (IsAccepted place) accepted t.here.out (ap (λ (l : Left). l.out) (calls_keep (asking_calls (driving_lists site) deed.asks t) t).here) left later
      ]
