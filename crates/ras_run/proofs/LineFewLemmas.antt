-- No valid file has more than 256 links at any point of a line, or once it is done.
use Rattle.std.proofs.Common.{◌≡◌, ◌∙◌, ℕ, false, List, [], ◌∷◌, ◌++◌, map, None, refl, sym, ap, subst, inl, inr}
use Rattle.board_core.specs.Doing.{Act, DeviceCall, Moment, after_acts, calls}
use Rattle.board_core.specs.Stop.{Begins, InOut, Left}
use Rattle.board_core.specs.Told.{Told, after_print}
use Rattle.board_core.proofs.DoingLemmas.{after-append, moment_parts}
use Rattle.erst_interp.specs.Run.{KeepsButDevice, acts_of}
use Rattle.ras_account.specs.Account.{State}
use Rattle.ras_account.specs.Accounts.{IsAccount}
use Rattle.ras_account.specs.Numbers.{fresh_entries_in}
use Rattle.ras_facts.specs.declared.entry.Entry.{Entry}
use Rattle.journal_format.specs.Links.{link_bytes}
use Rattle.ras_journal.specs.declared.standing.Standing.{Standing}
use Rattle.ras_journal.specs.File.{AreLinksFew}
use Rattle.ras_journal.specs.Recovered.{HasFewLinks, IsAt}
use Rattle.ras_run.specs.Keeping.{lacks_room}
use Rattle.ras_run.proofs.KeepingLemmas.{keeping_few, keeping_few_done}
use Rattle.ras_events.specs.declared.made.Piece.{Piece}
use Rattle.ras_events.specs.Making.{entries_in}
use Rattle.ras_events.specs.Sizes.{IsFit}
use Rattle.ras_records.proofs.ClearingLemmas.{calls_keep}
use Rattle.ras_exit.specs.Acts.{print_acts}
use Rattle.ras_exit.proofs.PrintLemmas.{after_printed, print_moment}
use Rattle.ras_events.specs.Deeds.{Deed}
use Rattle.ras_run.specs.Deeds.{deed_done, deed_pieces, deed_text}
use Rattle.ras_run.specs.LineActs.{AreFollowing, AreFollowingIn, AreLineActs, CanAsk, HoldsAt, asking_acts, asking_calls, clearing_calls, deed_acts, news_acts, telling_acts}
use Rattle.ras_run.specs.News.{has_no_room_for, lacks_room_for}
use Rattle.ras_run.specs.Status.{deed_refusal}
use Rattle.ras_run.specs.Places.{Place, deed_at, event_at}
use Rattle.ras_run.specs.Sites.{Site, driving_lists}
use Rattle.ras_run.specs.Taking.{IsAccepted}
use Rattle.ras_run.proofs.AskedLemmas.{HasAsked}
use Rattle.ras_run.proofs.DeedLemmas.{has_room, read_asked}
use Rattle.ras_run.proofs.DeviceActLemmas.{calls_leave}
use Rattle.ras_run.proofs.LineLawLemmas.{acts_then, after_asked, deed_taken, event_acts, line_asked}
use Rattle.ras_run.proofs.MadeLemmas.{is_not, links, parts}
use Rattle.ras_run.proofs.PrintActLemmas.{can_make, reading_here, told_is}
use Rattle.ras_run.proofs.ReopenLemmas.{reading_moment}

-- Equal files have equally many links.
pub few_same : (here left : Left) → left.file0 ≡ here.file0 → left.file1 ≡ here.file1 → HasFewLinks here → HasFewLinks left
few_same here left zero one few = record { zero = subst AreLinksFew (sym zero) few.zero; one = subst AreLinksFew (sym one) few.one }

-- during a print
pub print_few : (text : List ℕ) (t : Told) (left : Left) → HasFewLinks t.here → Moment (print_acts text) t left → HasFewLinks left
print_few text t left few moment =
    let by : InOut (Begins text) t.here left = print_moment text t left moment in
    few_same t.here left (ap (λ (l : Left). l.file0) by.rest) (ap (λ (l : Left). l.file1) by.rest) few

pub printed_few : (text : List ℕ) (t : Told) → HasFewLinks t.here → HasFewLinks (after_acts (print_acts text) t).here
printed_few text t few = subst (λ (u : Told). HasFewLinks u.here) (sym (after_printed text t)) (few_same t.here (after_print text t).here refl refl few)

-- during device calls
stored_few : (here left : Left) → left ≡ record here { store = left.store } → HasFewLinks here → HasFewLinks left
stored_few here left is few = few_same here left (ap (λ (l : Left). l.file0) is) (ap (λ (l : Left). l.file1) is) few

device_few : (made : List DeviceCall) (t : Told) (left : Left) → HasFewLinks t.here → Moment (acts_of made) t left → HasFewLinks left
device_few made t left few moment = stored_few t.here left (calls_leave made t left moment) few

kept_few : (t u : Told) → KeepsButDevice t u → HasFewLinks t.here → HasFewLinks u.here
kept_few t u keeps few = stored_few t.here u.here keeps.here few

-- during the first device calls of a line
pub asking_few : (place : Place) (t : Told) → HasFewLinks t.here → (left : Left) → Moment (asking_acts place t) t left → HasFewLinks left
asking_few place t few left moment = device_few (asking_calls (driving_lists place.0) (deed_at place).asks t) t left few moment

asked_few : (place : Place) (t : Told) → HasFewLinks t.here → HasFewLinks (after_asked place t).here
asked_few place t few = kept_few t (after_asked place t) (calls_keep (asking_calls (driving_lists place.0) (deed_at place).asks t) t) few

-- ---- during the acts for a line's pieces

module _ (a : State) (s : Standing) (u : Told) (account : IsAccount a) (at : IsAt s a u.here) (few : HasFewLinks u.here) (made : List Piece) (room : has_no_room_for a s (entries_in made) ≡ false) (fit : IsFit made) where
  abbrev news : List Entry
  news = fresh_entries_in a (entries_in made)

  link_few : (left : Left) (list : List Entry) → news ≡ list → lacks_room_for a s list ≡ false → Moment (news_acts s a list) u left → HasFewLinks left
  link_few left [] is lacks never = absurd never
  link_few left (entry ∷ entries) is lacks moment =
      let link : List ℕ = link_bytes (entry ∷ entries) in
      keeping_few s a (entry ∷ entries) link u (can_make s a link account (is_not (lacks_room s a link) lacks)) (is_not (lacks_room s a link) lacks)
      (links a s account made room fit entry entries is) at few left moment

  link_done : (list : List Entry) → news ≡ list → lacks_room_for a s list ≡ false → HasFewLinks (after_acts (news_acts s a list) u).here
  link_done [] is lacks = few
  link_done (entry ∷ entries) is lacks =
      let link : List ℕ = link_bytes (entry ∷ entries) in
      keeping_few_done s a (entry ∷ entries) link u (can_make s a link account (is_not (lacks_room s a link) lacks)) (is_not (lacks_room s a link) lacks)
      (links a s account made room fit entry entries is) at few

  lacks_not : lacks_room_for a s news ≡ false
  lacks_not = (parts a s account made room fit).1

  news_few : (left : Left) → Moment (news_acts s a news) u left → HasFewLinks left
  news_few left moment = link_few left news refl lacks_not moment

  news_done : HasFewLinks (after_acts (news_acts s a news) u).here
  news_done = link_done news refl lacks_not

  -- during a deed, whatever it prints and clears
  module _ (text done : List ℕ) (clears : Told → List DeviceCall) where
    abbrev telling : List Act
    telling = telling_acts a s made text

    abbrev kept : Told
    kept = after_acts (news_acts s a news) u

    abbrev v : Told
    v = after_acts telling u

    abbrev w : Told
    w = after_acts (acts_of (clears v)) v

    abbrev pub acts_few : List Act
    acts_few = telling ++ (acts_of (clears v) ++ print_acts done)

    told_few : HasFewLinks v.here
    told_few = subst (λ (x : Told). HasFewLinks x.here) (sym (told_is s a made text u)) (printed_few text kept news_done)

    cleared_few : HasFewLinks w.here
    cleared_few = kept_few v w (calls_keep (clears v) v) told_few

    pub moment_few : (left : Left) → Moment acts_few u left → HasFewLinks left
    moment_few left moment = elim (moment_parts telling (acts_of (clears v) ++ print_acts done) u left moment) [
      | inl told ↦ elim (moment_parts (news_acts s a news) (print_acts text) u left told) [
        | inl keeping ↦ news_few left keeping
        | inr printing ↦ print_few text kept left news_done printing
      ]
      | inr later ↦ elim (moment_parts (acts_of (clears v)) (print_acts done) v left later) [
        | inl clearing ↦ device_few (clears v) v left told_few clearing
        | inr printing ↦ print_few done w left cleared_few printing
      ]
    ]

    pub done_few : HasFewLinks (after_acts acts_few u).here
    done_few =
        subst (λ (x : Told). HasFewLinks x.here) (sym (after-append telling (acts_of (clears v) ++ print_acts done) u ∙ after-append (acts_of (clears v)) (print_acts done) v))
        (printed_few done w cleared_few)

-- during a deed with the disk calls of a reading before
module _ (site : Site) (number : ℕ) (deed : Deed) (u : Told) (asked : HasAsked site deed.asks u) (few : HasFewLinks u.here) (taken : deed_refusal site number deed ≡ None) (fit : IsFit (deed_pieces site deed)) (acts : List Act)
    (are : AreFollowingIn site number deed u acts) where
  abbrev read : Told
  read = after_acts (map calls are.0) u

  read_has : HasAsked site deed.asks read
  read_has = read_asked site deed.asks u are.0 asked

  read_few : HasFewLinks read.here
  read_few = subst HasFewLinks (sym (reading_here are.0 u)) few

  room : has_no_room_for site.account site.standing (entries_in (deed_pieces site deed)) ≡ false
  room = has_room site number deed.asks deed.reported asked.account taken

  abbrev clears : Told → List DeviceCall
  clears v = clearing_calls (driving_lists site) deed.asks site.store v

  follow_few : (left : Left) → Moment acts u left → HasFewLinks left
  follow_few left moment = elim (moment_parts (map calls are.0) (deed_acts site number deed read) u left (subst (λ (l : List Act). Moment l u left) are.2 moment)) [
    | inl reading ↦ subst HasFewLinks (sym (reading_moment are.0 u left reading)) few
    | inr later ↦
        moment_few site.account site.standing read read_has.account read_has.at read_few (deed_pieces site deed) room fit (deed_text site deed) (deed_done number deed) clears left later
  ]

  follow_few_done : HasFewLinks (after_acts acts u).here
  follow_few_done =
      subst (λ (l : List Act). HasFewLinks (after_acts l u).here) (sym are.2)
      (subst (λ (x : Told). HasFewLinks x.here) (sym (after-append (map calls are.0) (deed_acts site number deed read) u))
      (done_few site.account site.standing read read_has.account read_has.at read_few (deed_pieces site deed) room fit (deed_text site deed) (deed_done number deed) clears))

-- ---- during an accepted line

module _ (place : Place) (t : Told) (holds : HoldsAt place.0 t) (can : CanAsk (event_at place) t) (few : HasFewLinks t.here) (acts : List Act) (are : AreLineActs place t acts) (accepted : IsAccepted place) where
  abbrev site : Site
  site = place.0

  abbrev number : ℕ
  number = place.1.0

  abbrev now : Told
  now = after_asked place t

  abbrev taken : deed_refusal site number (deed_at place) ≡ None
  taken = deed_taken site number (event_at place) accepted.taken

  abbrev follow : AreFollowing place now are.rest
  follow = event_acts place t acts are accepted.taken

  pub line_few : (left : Left) → Moment acts t left → HasFewLinks left
  line_few left moment = elim (moment_parts (asking_acts place t) are.rest t left (subst (λ (l : List Act). Moment l t left) are.is moment)) [
    | inl asking ↦ asking_few place t few left asking
    | inr later ↦ follow_few site number (deed_at place) now (line_asked place t holds can) (asked_few place t few) taken accepted.fit are.rest follow left later
  ]

  pub line_few_done : HasFewLinks (after_acts acts t).here
  line_few_done =
      subst (λ (u : Told). HasFewLinks u.here) (sym (acts_then place t acts are))
      (follow_few_done site number (deed_at place) now (line_asked place t holds can) (asked_few place t few) taken accepted.fit are.rest follow)
