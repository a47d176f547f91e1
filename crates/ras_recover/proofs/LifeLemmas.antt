-- What a crash leaves, whatever happened to a journal.
use Rattle.std.proofs.Common.{◌≡◌, ◌∙◌, ℕ, ◌≤◌, List, [], ◌∷◌, ◌++◌, length, Option, None, Some, Ok, refl, sym, ap, subst, arith, inl, inr}
use Rattle.std.proofs.lemmas.List.Sums.{fold-append}
use Rattle.board_core.specs.Clock.{Clock, LeftNow, Adds}
use Rattle.board_core.specs.Steps.ClockLemmas.{adds_weaker}
use Rattle.board_core.specs.Doing.{Seen, after_acts}
use Rattle.board_core.specs.Stop.{Left}
use Rattle.board_core.specs.Told.{Told}
use Rattle.ras_facts.specs.declared.entry.Entry.{Entry}
use Rattle.ras_account.specs.Account.{State, account_of}
use Rattle.ras_account.specs.Continued.{account_after_all, account_after_mark}
use Rattle.ras_account.specs.History.{History, with_entries}
use Rattle.ras_account.proofs.AccountLemmas.{account_of-entries}
use Rattle.entry_format.specs.declared.version.Version.{Version}
use Rattle.entry_format.specs.declared.version.Version.TheVariants.{One}
use Rattle.board_core.specs.declared.board.FileNo.TheVariants.{Zero}
use Rattle.ras_journal.specs.declared.limits.TheConstants.{LONGEST_FILE}
use Rattle.ras_journal.specs.declared.standing.Standing.{Standing}
use Rattle.ras_journal.specs.File.{FileFront, front_of, account_by}
use Rattle.ras_journal.specs.Recovered.{recovered, journal_of, Recovers}
use Rattle.ras_journal.specs.Appending.{Before, append_acts}
use Rattle.ras_journal.proofs.PartLemmas.{bind_of, same_ok}
use Rattle.ras_journal.proofs.JournalLemmas.{both_whole}
use Rattle.ras_recover.specs.Life.{account_after_links, JournalCall, an_append, a_switch, an_opening, Life, start, done, cut, stopped, Continues, RecoversBehind, with_links, Site, CallsSwitch, Works, OpensJournal, IsAnswered, StartsOver, BeginsWith, IsCut, IsStopped, Lives}
use Rattle.ras_recover.specs.Opening.{FormatsFirst, Opening}
use Rattle.ras_journal.proofs.AppendLemmas.{append_ends, append_leaves}
use Rattle.ras_recover.specs.Switching.{switch_acts}
use Rattle.ras_recover.proofs.DoneLemmas.{does_leaves}
use Rattle.ras_recover.proofs.SwitchingLemmas.{switch_ends, switch_leaves}
use Rattle.ras_recover.proofs.OpeningLemmas.{none_of}

-- ---- accounts

pub links_behind : (history : History) (links : List (List Entry)) → account_after_links (account_of history) links ≡ account_of (with_links history links)
links_behind history [] = refl
links_behind history (entries ∷ links) = ap (λ (a : State). account_after_links a links) (sym (account_of-entries history entries)) ∙ links_behind (with_entries history entries) links

pub first_version : (file0 file1 : List ℕ) (front : FileFront) → length file0 ≤ LONGEST_FILE → length file1 ≤ LONGEST_FILE → front_of None file0 ≡ Ok (Some front) → front.version ≡ One → front_of (Some front.generation) file1 ≡ Ok None
    → recovered file0 file1 ≡ Ok (account_after_mark front.account)
unfolding recovered
first_version file0 file1 front short0 short1 zero version one =
    bind_of (journal_of file0 file1) _ (Some (record { file = Zero; front = front })) (both_whole file0 file1 (record {
      zero = Some front;
      one = None;
      reads_zero = zero;
      reads_one = one;
      short_zero = short0;
      short_one = short1;
    })) ∙ ap (λ (v : Version). Ok (account_by v front.account)) version

-- Two files give at most one account.
one_account : (a b : State) (left : Left) → Recovers a left → Recovers b left → a ≡ b
one_account a b left of_a of_b = same_ok a b (sym of_a.is ∙ of_b.is)

continues_first : (account : State) → Continues account start account
continues_first account = record { links = []; kept = refl; is = refl }

kept_is : (account now : State) (front : List (List Entry)) (entries : List Entry) → now ≡ account_after_links account front → account_after_all now entries ≡ account_after_links account (front ++ entries ∷ [])
kept_is account now front entries is = ap (λ (a : State). account_after_all a entries) is ∙ sym (fold-append account_after_all account front (entries ∷ []))

continues_done : (account now : State) (life : Life) (entries : List Entry) → Continues account life now → Continues account (done life (an_append entries)) (account_after_all now entries)
continues_done account now life entries c = record { links = c.links ++ entries ∷ []; kept = (c.links, c.kept, refl); is = kept_is account now c.links entries c.is }

continues_cut : (account now : State) (life : Life) (entries : List Entry) → Continues account life now → Continues account (cut life (an_append entries)) (account_after_all now entries)
continues_cut account now life entries c = record { links = c.links ++ entries ∷ []; kept = inr (c.links, c.kept, refl); is = kept_is account now c.links entries c.is }

-- A call was cut before it did anything.
continues_without : (account now : State) (life : Life) (call : JournalCall) → Continues account life now → Continues account (cut life call) now
continues_without account now life (an_append entries) c = record { links = c.links; kept = inl c.kept; is = c.is }
continues_without account now life a_switch c = record { links = c.links; kept = c.kept; is = c.is }
continues_without account now life an_opening c = record { links = c.links; kept = c.kept; is = c.is }

without : (account : State) (life : Life) (call : JournalCall) (left : Left) → RecoversBehind account life left → RecoversBehind account (cut life call) left
without account life call left r = record { now = r.now; continues = continues_without account r.now life call r.continues; recovers = r.recovers }

-- ---- a board between calls

-- A journal is open on the board, and the files contain an account of this life.
record InForce (account : State) (life : Life) (standing : Standing) (told : Option Told) (clock : Clock) : Type 0 where
  pub now : State
  pub continues : Continues account life now
  pub there : Told
  pub before : Before standing now there told clock

left_behind : (account : State) (life : Life) (standing : Standing) (told : Option Told) (clock : Clock) → InForce account life standing told clock → (left : Left) → LeftNow clock left → RecoversBehind account life left
left_behind account life standing told clock f left now = record {
  now = f.now;
  continues = f.continues;
  recovers = subst (λ (l : Left). Recovers f.now l) (sym (f.before.rests.only left now)) (record { is = f.before.at.recovers });
}

same_standing : (one other : Standing) → ◌≡◌ {A = Option Standing} (Some one) (Some other) → one ≡ other
same_standing one other e = cc

none_stands : (standing : Standing) → ◌≡◌ {A = Option Standing} None (Some standing) → ⊥
none_stands standing e = cc

module _ {B : Type 0} (see : B → Seen) where
  abbrev told : B → Option Told
  told board = (see board).told

  abbrev clock : B → Clock
  clock board = (see board).clock

  record Holds (account : State) (life : Life) (site : Site B) : Type 0 where
    pub left : (left : Left) → LeftNow (clock site.board) left → RecoversBehind account life left
    pub in_force : (standing : Standing) → site.journal ≡ Some standing → InForce account life standing (told site.board) (clock site.board)

  holds_open : (account : State) (life : Life) (standing : Standing) (site : Site B) → site.journal ≡ Some standing → InForce account life standing (told site.board) (clock site.board) → Holds account life site
  holds_open account life standing site journal f = record {
    left = left_behind account life standing (told site.board) (clock site.board) f;
    in_force = λ other is.
        subst (λ (s : Standing). InForce account life s (told site.board) (clock site.board)) (same_standing standing other (sym journal ∙ is)) f;
  }

  -- The machine was started again over files of such an account.
  holds_started : (account : State) (life : Life) (left : Left) (site : Site B) → RecoversBehind account life left → StartsOver see left site → Holds account life site
  holds_started account life left site behind starts = record {
    left = λ l now. subst (RecoversBehind account life) (sym (starts.rests.rests.only l now ∙ starts.rests.same)) behind;
    in_force = λ standing is. absurd (none_stands standing (sym starts.journal ∙ is));
  }

  -- ---- a call in progress

  append_adds : (account : State) (life : Life) (entries : List Entry) (old : Site B) (new : B) → Holds account life old → Works see (an_append entries) old new
      → Adds (RecoversBehind account (cut life (an_append entries))) (clock old.board) (clock new)
  append_adds account life entries old new holds (call, ended, has, does) =
      let f = holds.in_force call.standing call.journal in
      let links = call.links f.now f.there f.before.rests.is (record { is = f.before.at.recovers }) in
      does_leaves see (append_acts call.standing call.link) ended old.board new (RecoversBehind account (cut life (an_append entries))) f.there f.before.rests does
      (λ made left moment. elim (append_leaves call.standing f.now entries call.link f.there left (has made) links f.before.at moment).recovers [
        | inl as_before ↦ record { now = f.now; continues = continues_without account f.now life (an_append entries) f.continues; recovers = as_before }
        | inr with_link ↦ record { now = account_after_all f.now entries; continues = continues_cut account f.now life entries f.continues; recovers = with_link }
      ])

  -- A switch is called with the account that the files contain.
  switch_before : (account : State) (life : Life) (old : Site B) (call : CallsSwitch see old) (f : InForce account life call.standing (told old.board) (clock old.board)) → Before call.standing call.account f.there (told old.board) (clock old.board)
  switch_before account life old call f =
      subst (λ (a : State). Before call.standing a f.there (told old.board) (clock old.board))
      (one_account f.now call.account f.there.here (record { is = f.before.at.recovers }) (call.held f.there f.before.rests.is)) f.before

  switch_continues : (account : State) (life : Life) (old : Site B) (call : CallsSwitch see old) → InForce account life call.standing (told old.board) (clock old.board) → Continues account life call.account
  switch_continues account life old call f =
      subst (Continues account life) (one_account f.now call.account f.there.here (record { is = f.before.at.recovers }) (call.held f.there f.before.rests.is)) f.continues

  switch_adds : (account : State) (life : Life) (old : Site B) (new : B) → Holds account life old → Works see a_switch old new → Adds (RecoversBehind account (cut life a_switch)) (clock old.board) (clock new)
  switch_adds account life old new holds (call, ended, can, does) =
      let f = holds.in_force call.standing call.journal in
      let before = switch_before account life old call f in
      does_leaves see (switch_acts call.standing call.account) ended old.board new (RecoversBehind account (cut life a_switch)) f.there before.rests does
      (λ made left moment. record {
        now = call.account;
        continues = continues_without account call.account life a_switch (switch_continues account life old call f);
        recovers = (switch_leaves call.standing call.account f.there left (can made) before.at moment).recovers;
      })

  -- The board's model is among what a crash leaves.
  abbrev pub TellsLeft : Type 0
  TellsLeft = (board : B) (t : Told) → told board ≡ Some t → LeftNow (clock board) t.here

  abbrev pub Earlier : Type 0
  Earlier = (board : B) (s t : ℕ) (left : Left) → s ≤ t → (clock board).may_leave_since t left → (clock board).may_leave_since s left

  -- If no file is valid, the account is the empty account.
  formats_behind : (account : State) (life : Life) (here left : Left) → RecoversBehind account life here → FormatsFirst here left → RecoversBehind account life left
  formats_behind account life here left behind formats = record {
    now = behind.now;
    continues = behind.continues;
    recovers = subst (λ (a : State). Recovers a left) (sym (none_of behind.now here behind.recovers.is formats.none.none).account_is) formats.recovers;
  }

  opening_adds : TellsLeft → (account : State) (life : Life) (old : Site B) (new : B) → Holds account life old → Works see an_opening old new → Adds (RecoversBehind account (cut life an_opening)) (clock old.board) (clock new)
  opening_adds tells account life old new holds works =
      adds_weaker (Opening (clock old.board) works.0.there.here) (RecoversBehind account (cut life an_opening)) (clock old.board) (clock new) works.1
      (λ left by. without account life an_opening left (elim by [
        | inl before ↦ holds.left left before
        | inr formats ↦ formats_behind account life works.0.there.here left (holds.left works.0.there.here (tells old.board works.0.there works.0.tells)) formats
      ]))

  adds_of : TellsLeft → (account : State) (life : Life) (call : JournalCall) (old : Site B) (new : B) → Holds account life old → Works see call old new → Adds (RecoversBehind account (cut life call)) (clock old.board) (clock new)
  adds_of tells account life (an_append entries) old new holds works = append_adds account life entries old new holds works
  adds_of tells account life a_switch old new holds works = switch_adds account life old new holds works
  adds_of tells account life an_opening old new holds works = opening_adds tells account life old new holds works

  at_work : TellsLeft → (account : State) (life : Life) (call : JournalCall) (old : Site B) (new : B) (left : Left) → Holds account life old → Works see call old new → (clock new).may_leave_since (clock old.board).now left
      → RecoversBehind account (cut life call) left
  at_work tells account life call old new left holds works since =
      elim ((adds_of tells account life call old new holds works).each (clock old.board).now left (omega arith) since) [
        | inl before ↦ without account life call left (holds.left left before)
        | inr behind ↦ behind
      ]

  -- ---- a call that returned

  opening_answered : TellsLeft → (account : State) (life : Life) (now : State) (old new : Site B) → Holds account life old → OpensJournal see now old new → Continues account life now
  opening_answered tells account life now old new holds opens =
      let behind = holds.left opens.call.there.here (tells old.board opens.call.there opens.call.tells) in
      subst (Continues account life) (one_account behind.now now opens.call.there.here behind.recovers opens.recovers) behind.continues

  holds_answered : TellsLeft → (account : State) (life : Life) (call : JournalCall) (old new : Site B) → Holds account life old → IsAnswered see call old new → Holds account (done life call) new
  holds_answered tells account life (an_append entries) old new holds (call, journal, has, does) =
      let f = holds.in_force call.standing call.journal in
      let links = call.links f.now f.there f.before.rests.is (record { is = f.before.at.recovers }) in
      holds_open account (done life (an_append entries)) _ new journal (record {
        now = account_after_all f.now entries;
        continues = continues_done account f.now life entries f.continues;
        there = after_acts (append_acts call.standing call.link) f.there;
        before = record { rests = does.rests f.there f.before.rests; at = append_ends call.standing f.now entries call.link f.there has links f.before.at };
      })
  holds_answered tells account life a_switch old new holds (call, journal, can, does) =
      let f = holds.in_force call.standing call.journal in
      let c = switch_continues account life old call f in
      let before = switch_before account life old call f in
      holds_open account (done life a_switch) _ new journal (record {
        now = call.account;
        continues = record { links = c.links; kept = c.kept; is = c.is };
        there = after_acts (switch_acts call.standing call.account) f.there;
        before = record { rests = does.rests f.there before.rests; at = switch_ends call.standing call.account f.there can before.at };
      })
  holds_answered tells account life an_opening old new holds (now, opens) =
      let c = opening_answered tells account life now old new holds opens in
      holds_open account (done life an_opening) opens.standing new opens.journal (record {
        now = now;
        continues = record { links = c.links; kept = c.kept; is = c.is };
        there = opens.is.there;
        before = opens.is.before;
      })

  -- ---- a call that was cut, and a crash

  holds_cut : TellsLeft → Earlier → (account : State) (life : Life) (call : JournalCall) (old new : Site B) → Holds account life old → IsCut see call old new → Holds account (cut life call) new
  holds_cut tells earlier account life call old new holds (board, works, inl (left, since, starts)) =
      holds_started account (cut life call) left new (at_work tells account life call old board left holds works since) starts
  holds_cut tells earlier account life call old new holds (board, works, inr is) =
      let later : (clock old.board).now ≤ (clock board).now = (adds_of tells account life call old board holds works).later in
      subst (λ (site : Site B). Holds account (cut life call) site) (sym is) (record {
        left = λ left now. at_work tells account life call old board left holds works (earlier board (clock old.board).now (clock board).now left later now);
        in_force = λ standing is. absurd (none_stands standing is);
      })

  holds_stopped : (account : State) (life : Life) (old new : Site B) → Holds account life old → IsStopped see old new → Holds account (stopped life) new
  holds_stopped account life old new holds (left, now, starts) =
      let behind = holds.left left now in
      holds_started account (stopped life) left new
      (record { now = behind.now; continues = record { links = behind.continues.links; kept = behind.continues.kept; is = behind.continues.is }; recovers = behind.recovers }) starts

  holds_begun : (account : State) (site : Site B) → BeginsWith see account site → Holds account start site
  holds_begun account site (inl (here, recovers, starts)) =
      holds_started account start here site (record { now = account; continues = continues_first account; recovers = recovers }) starts
  holds_begun account site (inr (standing, journal, is)) =
      holds_open account start standing site journal (record { now = account; continues = continues_first account; there = is.there; before = is.before })

  lives : TellsLeft → Earlier → (account : State) (life : Life) (first last : Site B) → BeginsWith see account first → Lives see life first last → Holds account life last
  lives tells earlier account start first last begins is = subst (λ (site : Site B). Holds account start site) (sym is) (holds_begun account first begins)
  lives tells earlier account (done life call) first last begins (mid, so_far, answered) =
      holds_answered tells account life call mid last (lives tells earlier account life first mid begins so_far) answered
  lives tells earlier account (cut life call) first last begins (mid, so_far, is_cut) =
      holds_cut tells earlier account life call mid last (lives tells earlier account life first mid begins so_far) is_cut
  lives tells earlier account (stopped life) first last begins (mid, so_far, is_stopped) =
      holds_stopped account life mid last (lives tells earlier account life first mid begins so_far) is_stopped

  -- ---- the law's clauses

  pub between_calls : TellsLeft → Earlier → (account : State) (life : Life) (first last : Site B) (left : Left) → BeginsWith see account first → Lives see life first last → LeftNow (clock last.board) left → RecoversBehind account life left
  between_calls tells earlier account life first last left begins so_far now = (lives tells earlier account life first last begins so_far).left left now

  pub in_a_call : TellsLeft → Earlier → (account : State) (life : Life) (call : JournalCall) (first last : Site B) (board : B) (left : Left) → BeginsWith see account first → Lives see life first last
      → Works see call last board → (clock board).may_leave_since (clock last.board).now left → RecoversBehind account (cut life call) left
  in_a_call tells earlier account life call first last board left begins so_far works since = at_work tells account life call last board left (lives tells earlier account life first last begins so_far) works since

  pub opened_account : TellsLeft → Earlier → (account now : State) (life : Life) (first last new : Site B) → BeginsWith see account first → Lives see life first last → OpensJournal see now last new → Continues account life now
  opened_account tells earlier account now life first last new begins so_far opens = opening_answered tells account life now last new (lives tells earlier account life first last begins so_far) opens
