-- The acts of an accepted deed after its device calls: what they leave, and what crashes leave.
use Rattle.std.proofs.Common.{◌≡◌, ◌∙◌, ℕ, Bool, true, false, ◌&&◌, not, nat_eq, List, [], ◌++◌, length, map, Option, None, Some, unwrap_or, inl, inr, refl, sym, ap, subst, if◌then◌else◌, append_assoc, append-nil, arith}
use Rattle.board_core.specs.declared.board.DiskCall.{DiskCall}
use Rattle.board_core.specs.Doing.{Act, DeviceCall, Moment, after_acts, calls, calls_of}
use Rattle.board_core.specs.Stop.{Left}
use Rattle.board_core.specs.Told.{Told}
use Rattle.board_core.proofs.ActLemmas.{acts_device}
use Rattle.board_core.proofs.DoingLemmas.{after-append, moment_parts}
use Rattle.erst_store.specs.Store.{Stored}
use Rattle.erst_interp.specs.Run.{acts_of}
use Rattle.erst_driver.specs.Operations.{is_free_in_time}
use Rattle.ras_account.specs.Account.{State}
use Rattle.ras_account.specs.Accounts.{IsAccount}
use Rattle.ras_account.specs.Continued.{account_after_all}
use Rattle.ras_account.specs.Numbers.{are_past, fresh_entries_in, numbers_with}
use Rattle.ras_facts.specs.declared.entry.Entry.{Entry}
use Rattle.ras_journal.specs.declared.standing.Standing.{Standing}
use Rattle.ras_journal.specs.Recovered.{IsAt, recovered}
use Rattle.ras_events.specs.declared.made.Piece.{Piece}
use Rattle.ras_events.specs.Events.{Lists}
use Rattle.ras_events.specs.Making.{entries_in}
use Rattle.ras_events.specs.Sizes.{IsFit}
use Rattle.ras_events.specs.Stores.{unreadable, without_first}
use Rattle.ras_records.specs.Polls.{is_busy_for_reads, readable_ids}
use Rattle.ras_records.proofs.ClearingLemmas.{calls_keep}
use Rattle.ras_exit.specs.declared.exit.Exit.{Exit}
use Rattle.ras_exit.specs.declared.exit.Exit.TheVariants.{ErstBusy}
use Rattle.ras_exit.specs.Acts.{print_acts}
use Rattle.ras_exit.proofs.PrintLemmas.{after_printed}
use Rattle.ras_events.specs.Deeds.{Asking, Deed, nothing, polls, reopens}
use Rattle.ras_run.specs.Deeds.{clears_by, counted_by, deed_done, deed_pieces, deed_text, store_asked}
use Rattle.ras_run.specs.LineActs.{AreFollowingIn, clearing_calls, deed_acts, news_acts, telling_acts}
use Rattle.ras_run.specs.LineCalls.{AreDeedCalls, AreNewsCalls}
use Rattle.ras_recover.specs.OpeningCalls.{IsRecoveryOf}
use Rattle.ras_run.specs.Moments.{Course, CourseMoment, course_to, store_left}
use Rattle.ras_run.specs.News.{has_no_room_for, standing_with_news}
use Rattle.ras_run.specs.Status.{asking_refusal, deed_refusal, room_refusal}
use Rattle.ras_run.specs.Sites.{Site, driving_lists}
use Rattle.ras_run.proofs.AskedLemmas.{BoardAsked, HasAsked, asked_told, board_kept}
use Rattle.ras_run.proofs.CountLemmas.{no_or, within_past}
use Rattle.ras_run.proofs.CourseLemmas.{done_moment}
use Rattle.ras_run.proofs.DeviceActLemmas.{calls_leave, cleared_here, cleared_moment, device_calls_none}
use Rattle.ras_run.proofs.MadeLemmas.{account_made, none_if, told_at, told_moment}
use Rattle.ras_run.proofs.PrintActLemmas.{calls_before, calls_both, news_calls, print_calls, reading_calls, reading_here, reading_off, told_off, told_out}
use Rattle.ras_run.proofs.ReopenLemmas.{reading_moment}
use Rattle.ras_run.proofs.StandsLemmas.{print_at}

-- ---- an accepted deed has room for what it counts

not_busy : (busy : Bool) (room : Option Exit) → (if busy then Some ErstBusy else room) ≡ None → (busy ≡ false) × (room ≡ None)
not_busy true room is = absurd cc
not_busy false room is = (refl, is)

room_for_none : (a : State) (s : Standing) → IsAccount a → has_no_room_for a s [] ≡ false
room_for_none a s account =
    no_or (are_past (numbers_with a [])) false
    (within_past (numbers_with a []) (record { names = omega (arith, account.within.names); entries = omega (arith, account.within.entries); total = omega (arith, account.within.total) })) refl

pub has_room : (site : Site) (number : ℕ) (asks : Asking) (reported : Option (List Piece)) → IsAccount site.account → asking_refusal site number asks (room_refusal site (counted_by site asks reported)) ≡ None
    → has_no_room_for site.account site.standing (entries_in (unwrap_or (counted_by site asks reported) [])) ≡ false
has_room site number nothing None account taken = room_for_none site.account site.standing account
has_room site number nothing (Some made) account taken = none_if (has_no_room_for site.account site.standing (entries_in made)) taken
has_room site number (polls seconds) reported account taken = none_if (has_no_room_for site.account site.standing _) (not_busy (is_busy_for_reads site.slow site.store) _ taken).1
has_room site number asks reported account taken = room_for_none site.account site.standing account

-- ---- the records that it clears

module _ (site : Site) (number : ℕ) (v : Told) where
  abbrev lists : Lists
  lists = driving_lists site

  abbrev clearing : Asking → List DeviceCall
  clearing asks = clearing_calls lists asks site.store v

  in_time : v.here.store ≡ site.store → v.volatile.slow ≡ site.slow → is_busy_for_reads site.slow site.store ≡ false → is_busy_for_reads v.volatile.slow v.here.store ≡ false
  in_time store slow not_late =
      ap (λ n. not (is_free_in_time n) && not (nat_eq (length v.here.store) 0)) slow ∙ (ap (λ (rs : List Stored). is_busy_for_reads site.slow rs) store ∙ not_late)

  clears_leave : (asks : Asking) (room : Option Exit) → BoardAsked site asks v → asking_refusal site number asks room ≡ None
      → (after_acts (acts_of (clearing asks)) v).here ≡ record v.here { store = if clears_by asks then unreadable (store_asked asks site.store) else store_asked asks site.store }
  clears_leave (polls seconds) room b taken =
      cleared_here lists b.clear.0 v b.clear.1 (readable_ids site.store) (ap (λ (rs : List Stored). readable_ids rs) b.store) (in_time b.store b.slow (not_busy (is_busy_for_reads site.slow site.store) room taken).0)
      ∙ ap (λ (rs : List Stored). record v.here { store = unreadable rs }) b.store
  clears_leave asks room b taken = ap (λ (rs : List Stored). record v.here { store = rs }) b.store

  clears_first : (asks : Asking) (room : Option Exit) → BoardAsked site asks v → asking_refusal site number asks room ≡ None → (left : Left) → Moment (acts_of (clearing asks)) v left
      → (count : ℕ) × (left.store ≡ (if clears_by asks then without_first count (store_asked asks site.store) else store_asked asks site.store))
  clears_first (polls seconds) room b taken left moment =
      let by = cleared_moment lists b.clear.0 v b.clear.1 (readable_ids site.store) (ap (λ (rs : List Stored). readable_ids rs) b.store) (in_time b.store b.slow (not_busy (is_busy_for_reads site.slow site.store) room taken).0) left moment in
      (by.step.count, ap (λ (l : Left). l.store) by.rest ∙ (by.step.is ∙ ap (without_first by.step.count) b.store))
  clears_first asks room b taken left never = absurd never

-- ---- the acts, over any model of the board

module _ (site : Site) (number : ℕ) (deed : Deed) where
  abbrev pub made : List Piece
  made = deed_pieces site deed

  abbrev pub news : List Entry
  news = fresh_entries_in site.account (entries_in made)

  abbrev pub telling : List Act
  telling = telling_acts site.account site.standing made (deed_text site deed)

  abbrev pub cleared : Told → List DeviceCall
  cleared v = clearing_calls (driving_lists site) deed.asks site.store v

  abbrev pub after_cleared : Told → Told
  after_cleared v = after_acts (acts_of (cleared v)) v

  abbrev pub prints_done : List Act
  prints_done = print_acts (deed_done number deed)

  pub deed_then : (t : Told) → after_acts (deed_acts site number deed t) t ≡ after_acts prints_done (after_cleared (after_acts telling t))
  deed_then t =
      let v : Told = after_acts telling t in
      after-append telling (acts_of (cleared v) ++ prints_done) t ∙ after-append (acts_of (cleared v)) prints_done v

  -- The disk calls are the calls that append the new entries.
  deed_calls : (t : Told) → calls_of (deed_acts site number deed t) ≡ calls_of (news_acts site.standing site.account news)
  deed_calls t =
      let v : Told = after_acts telling t in
      calls_before telling (acts_of (cleared v) ++ prints_done) (calls_before (acts_of (cleared v)) prints_done (print_calls (deed_done number deed)) ∙ device_calls_none (cleared v))
      ∙ calls_before (news_acts site.standing site.account news) (print_acts (deed_text site deed)) (print_calls (deed_text site deed))

  -- The printed text grows by the deed's text and done line.
  deed_out : (t : Told) → (after_acts (deed_acts site number deed t) t).here.out ≡ t.here.out ++ (deed_text site deed ++ deed_done number deed)
  deed_out t =
      let v : Told = after_acts telling t in
      ap (λ (u : Told). u.here.out) (deed_then t ∙ after_printed (deed_done number deed) (after_cleared v))
      ∙ (ap (λ out. out ++ deed_done number deed) (ap (λ (l : Left). l.out) (calls_keep (cleared v) v).here ∙ told_out site.standing site.account made (deed_text site deed) t)
      ∙ append_assoc t.here.out (deed_text site deed) (deed_done number deed))

  -- With the disk calls of a reading before, the printed text grows in the same way.
  pub follow_out : (t : Told) (acts : List Act) → AreFollowingIn site number deed t acts → (after_acts acts t).here.out ≡ t.here.out ++ (deed_text site deed ++ deed_done number deed)
  follow_out t acts are =
      let u : Told = after_acts (map calls are.0) t in
      ap (λ (l : List Act). (after_acts l t).here.out) are.2
      ∙ (ap (λ (w : Told). w.here.out) (after-append (map calls are.0) (deed_acts site number deed u) t)
      ∙ (deed_out u ∙ ap (λ out. out ++ (deed_text site deed ++ deed_done number deed)) (ap (λ (l : Left). l.out) (reading_here are.0 t))))

  follow_calls_are : (t : Told) (acts : List Act) (are : AreFollowingIn site number deed t acts) → calls_of acts ≡ are.0 ++ calls_of (news_acts site.standing site.account news)
  follow_calls_are t acts are =
      let u : Told = after_acts (map calls are.0) t in
      ap calls_of are.2
      ∙ (calls_both (map calls are.0) (deed_acts site number deed u)
      ∙ (ap (λ (l : List DiskCall). l ++ calls_of (deed_acts site number deed u)) (reading_calls are.0) ∙ ap (λ (l : List DiskCall). are.0 ++ l) (deed_calls u)))

  kept_calls : (t : Told) (acts : List Act) (are : AreFollowingIn site number deed t acts) → are.0 ≡ [] → AreNewsCalls news (calls_of acts)
  kept_calls t acts are none =
      subst (AreNewsCalls news) (sym (follow_calls_are t acts are ∙ ap (λ (l : List DiskCall). l ++ calls_of (news_acts site.standing site.account news)) none)) (news_calls site.standing site.account news)

-- The disk calls of a deed after its device calls.
pub follow_calls : (site : Site) (number : ℕ) (asks : Asking) (reported : Option (List Piece)) (has_done_line : Bool) (t : Told) (acts : List Act)
    → AreFollowingIn site number (record { asks = asks; reported = reported; has_done_line = has_done_line }) (asked_told (driving_lists site) asks t) acts
    → AreDeedCalls site t.here (record { asks = asks; reported = reported; has_done_line = has_done_line }) (calls_of acts)
follow_calls site number reopens reported has_done_line t acts are =
    subst (IsRecoveryOf t.here) (sym (follow_calls_are site number (record { asks = reopens; reported = reported; has_done_line = has_done_line }) t acts are ∙ append-nil are.0)) are.1
follow_calls site number asks reported has_done_line t acts are = kept_calls site number (record { asks = asks; reported = reported; has_done_line = has_done_line }) (asked_told (driving_lists site) asks t) acts are are.1

-- ---- over a board after the deed's device calls

-- Reading the journal changes nothing.
pub read_asked : (site : Site) (asks : Asking) (u : Told) (reading : List DiskCall) → HasAsked site asks u → HasAsked site asks (after_acts (map calls reading) u)
read_asked site asks u reading asked = record {
  account = asked.account;
  at = subst (IsAt site.standing site.account) (sym (reading_here reading u)) asked.at;
  board = board_kept site asks u (after_acts (map calls reading) u) (acts_device (map calls reading) (reading_off reading) u) asked.board;
}

-- The stages of a deed that leads to the account with what it counts.
abbrev pub course_of : Site → ℕ → Deed → Course
course_of site number deed = course_to site number deed (account_after_all site.account (entries_in (deed_pieces site deed)))

-- A deed is done: the files contain the account with what it counts, and the store is as the deed leaves it.
pub record IsDone (site : Site) (number : ℕ) (deed : Deed) (x : Told) : Type 0 where
  pub account : IsAccount (account_after_all site.account (entries_in (deed_pieces site deed)))
  pub at :
      IsAt (standing_with_news site.account site.standing (fresh_entries_in site.account (entries_in (deed_pieces site deed)))) (account_after_all site.account (entries_in (deed_pieces site deed))) x.here
  pub store : x.here.store ≡ store_left (course_of site number deed)
  pub slow : x.volatile.slow ≡ site.slow

module _ (site : Site) (number : ℕ) (deed : Deed) (u : Told) (asked : HasAsked site deed.asks u) (taken : deed_refusal site number deed ≡ None) (fit : IsFit (deed_pieces site deed)) where
  abbrev a : State
  a = site.account

  abbrev s : Standing
  s = site.standing

  abbrev c : Course
  c = course_of site number deed

  room : has_no_room_for a s (entries_in (deed_pieces site deed)) ≡ false
  room = has_room site number deed.asks deed.reported asked.account taken

  abbrev s_then : Standing
  s_then = standing_with_news a s (news site number deed)

  -- the model once the new entries are appended and the text is printed
  abbrev v : Told
  v = after_acts (telling site number deed) u

  v_at : IsAt s_then c.after v.here
  v_at = told_at a s asked.account (deed_pieces site deed) room fit u asked.at (deed_text site deed)

  v_board : BoardAsked site deed.asks v
  v_board = board_kept site deed.asks u v (acts_device (telling site number deed) (told_off s a (deed_pieces site deed) (deed_text site deed)) u) asked.board

  -- the model once the records are cleared
  abbrev w : Told
  w = after_cleared site number deed v

  w_here : w.here ≡ record v.here { store = store_left c }
  w_here = clears_leave site number v deed.asks _ v_board taken

  w_at : IsAt s_then c.after w.here
  w_at = subst (IsAt s_then c.after) (sym w_here) (record { recovers = v_at.recovers; position = v_at.position })

  w_done : after_acts (prints_done site number deed) w ≡ after_acts (deed_acts site number deed u) u
  w_done = sym (deed_then site number deed u)

  pub deed_is_done : IsDone site number deed (after_acts (deed_acts site number deed u) u)
  deed_is_done = subst (IsDone site number deed) w_done (record {
    account = account_made a s asked.account (deed_pieces site deed) room fit;
    at = print_at (deed_done number deed) s_then c.after w w_at;
    store = ap (λ (x : Told). x.here.store) (after_printed (deed_done number deed) w) ∙ ap (λ (l : Left). l.store) w_here;
    slow = ap (λ (x : Told). x.volatile.slow) (after_printed (deed_done number deed) w) ∙ ((calls_keep (cleared site number deed v) v).slow ∙ v_board.slow);
  })

  -- what crashes leave
  module _ (Accepted : Type 0) (accepted : Accepted) (out : List ℕ) (here : u.here.out ≡ out) where
    v_out : v.here.out ≡ out ++ c.text
    v_out = told_out s a (deed_pieces site deed) (deed_text site deed) u ∙ ap (λ text. text ++ deed_text site deed) here

    clearing_moment : (left : Left) → Moment (acts_of (cleared site number deed v)) v left → CourseMoment Accepted c out left
    clearing_moment left moment =
        let leaves = calls_leave (cleared site number deed v) v left moment in
        let first = clears_first site number v deed.asks _ v_board taken left moment in
        inr (
          accepted,
          inr (inl (record {
            recovers = record { is = ap (λ (l : Left). recovered l.file0 l.file1) leaves ∙ v_at.recovers };
            count = first.0;
            store = first.1;
            text = ap (λ (l : Left). l.out) leaves ∙ v_out;
          })),
        )

    pub deed_moment : (left : Left) → Moment (deed_acts site number deed u) u left → CourseMoment Accepted c out left
    deed_moment left moment = elim (moment_parts (telling site number deed) (acts_of (cleared site number deed v) ++ prints_done site number deed) u left moment) [
      | inl telling ↦ told_moment a s asked.account (deed_pieces site deed) room fit u asked.at Accepted accepted c out refl refl asked.board.store here left telling
      | inr later ↦ elim (moment_parts (acts_of (cleared site number deed v)) (prints_done site number deed) v left later) [
        | inl clears ↦ clearing_moment left clears
        | inr printing ↦
            done_moment Accepted accepted c out w s_then w_at (ap (λ (l : Left). l.store) w_here) (ap (λ (l : Left). l.out) (calls_keep (cleared site number deed v) v).here ∙ v_out) left printing
      ]
    ]

-- With the disk calls of a reading before.
module _ (site : Site) (number : ℕ) (deed : Deed) (u : Told) (asked : HasAsked site deed.asks u) (taken : deed_refusal site number deed ≡ None) (fit : IsFit (deed_pieces site deed)) (acts : List Act) (are : AreFollowingIn site number deed u acts) where
  abbrev read : Told
  read = after_acts (map calls are.0) u

  pub follow_done : IsDone site number deed (after_acts acts u)
  follow_done =
      subst (λ (l : List Act). IsDone site number deed (after_acts l u)) (sym are.2)
      (subst (IsDone site number deed) (sym (after-append (map calls are.0) (deed_acts site number deed read) u)) (deed_is_done site number deed read (read_asked site deed.asks u are.0 asked) taken fit))

  pub follow_moment : (Accepted : Type 0) (accepted : Accepted) (out : List ℕ) → u.here.out ≡ out → (left : Left) → Moment acts u left → CourseMoment Accepted (course_of site number deed) out left
  follow_moment Accepted accepted out here left moment = elim (moment_parts (map calls are.0) (deed_acts site number deed read) u left (subst (λ (l : List Act). Moment l u left) are.2 moment)) [
    | inl reading ↦ (
        let same : left ≡ u.here = reading_moment are.0 u left reading in
        inl (record {
          recovers = record { is = ap (λ (l : Left). recovered l.file0 l.file1) same ∙ asked.at.recovers };
          store = inr (ap (λ (l : Left). l.store) same ∙ asked.board.store);
          text = ap (λ (l : Left). l.out) same ∙ here;
        }))
    | inr later ↦ deed_moment site number deed read (read_asked site deed.asks u are.0 asked) taken fit Accepted accepted out (ap (λ (l : Left). l.out) (reading_here are.0 u) ∙ here) left later
  ]
