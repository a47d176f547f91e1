-- Runs on one journal and record store, one after another: what the files count, and which records are stored.
use Rattle.std.proofs.Common.{◌≡◌, ℕ, ◌+◌, ◌<◌, nat_eq, nat_lt, Bool, true, false, if◌then◌else◌, List, [], ◌∷◌, ◌++◌, length, drop, Option, None, Some, Result, Ok, refl, sym, ap, ◌∙◌, subst, inl, inr, append_assoc, append-nil, arith}
use Rattle.std.specs.Prelude.{◌⊎◌}
use Rattle.std.specs.List.{IsDistinct, fold}
use Rattle.std.specs.Option.{option_or}
use Rattle.std.proofs.lemmas.Bool.{ltb-false, ltb-true}
use Rattle.std.proofs.lemmas.Bool.Decides.{nat_tests}
use Rattle.std.proofs.lemmas.List.Sums.{fold-append}
use Rattle.std.proofs.Math.Seq.{drop-append_seam}
use Rattle.board_core.specs.Stop.{Becomes, Left}
use Rattle.cper_records.specs.Readable.{filled, read_under}
use Rattle.erst_store.specs.Store.{Stored, bytes_under}
use Rattle.ras_account.specs.Account.{State, account_of, names_of}
use Rattle.ras_account.specs.Continued.{account_after, account_after_all}
use Rattle.ras_account.specs.Fresh.{fresh_entries}
use Rattle.ras_account.specs.History.{History, with_entries}
use Rattle.ras_account.specs.Numbers.{fresh_entries_in}
use Rattle.ras_account.proofs.KnownLemmas.{knows-after_all}
use Rattle.ras_facts.specs.declared.entry.Entry.{Entry}
use Rattle.ras_facts.specs.declared.name.Name.{Name}
use Rattle.ras_facts.specs.Names.{same_name}
use Rattle.ras_journal.specs.Recovered.{Recovers, Refusal, recovered}
use Rattle.ras_panic.specs.Reading.{stored_name}
use Rattle.ras_events.proofs.HistoryLemmas.{account_by_history, news_behind}
use Rattle.ras_events.specs.DoneLines.{done_count}
use Rattle.ras_daemon.specs.Headline.{Headline}
use Rattle.ras_daemon.specs.Machine.{StoreChange, account_upto, change_next, changes_upto, last_changed, last_upto, puts, store_changed, store_upto, text_upto}
use Rattle.ras_daemon.specs.StoreDuring.{HasPut, KeepsRecords, KnownBy, StoreDuring}
use Rattle.ras_daemon.proofs.HistoryLemmas.{fresh-once, with_entries-append}
use Rattle.era_laws.specs.Eras.{AreEras, BeginsOver, Counts, CountsEach, Era, IsEra, done_in, is_put_by, laid_in, last_laid_in, left_after, logged_in, logs_upto, printed_in, reported_in, reports_upto}
use Rattle.era_laws.proofs.FoundLemmas.{all-changed}

-- ---- two accounts of one pair of files

same-ok : (a b : State) → ◌≡◌ {A = Result State Refusal} (Ok a) (Ok b) → a ≡ b
same-ok a b is = cc

pub one-account : (a b : State) (left : Left) → Recovers a left → Recovers b left → a ≡ b
one-account a b left of_a of_b = same-ok a b (sym of_a.is ∙ of_b.is)

moved : (here : Left) (era : Era) (a : State) → BeginsOver here era → Recovers a here → Recovers a era.here
moved here era a begins of = record { is = (λ i. recovered (begins.zero i) (begins.one i)) ∙ of.is }

-- the account at the start of an era is the account that the era before left
start-account : (here : Left) (era : Era) (a : State) → BeginsOver here era → IsEra era → Recovers a here → a ≡ era.run.account
start-account here era a begins is of = one-account a era.run.account era.here (moved here era a begins of) is.opens

-- ---- what was printed

module _ (era : Era) (is : IsEra era) where
  abbrev at : Headline era.run era.here era.left
  at = is.leaves

  pub printed-is : printed_in era ≡ at.printed
  printed-is = ap (drop (length era.here.out)) at.text ∙ drop-append_seam era.here.out at.printed

  done-is : done_in era ≡ at.done
  done-is = ap done_count printed-is ∙ at.counted

  -- ---- what was counted

  abbrev CountsBy : ℕ → List ℕ → Type 0
  CountsBy done printed =
      (n : ℕ) × Recovers (account_upto era.run n) era.left × ((n ≡ done) ⊎ (n ≡ done + 1)) × (length (text_upto era.run done) < length printed → n ≡ done + 1)

  recovers-by : (n : ℕ) → at.account ≡ account_upto era.run n → Recovers (account_upto era.run n) era.left
  recovers-by n same = subst (λ (a : State). Recovers a era.left) same at.recovers

  one-more : at.account ≡ account_upto era.run (at.done + 1) → CountsBy at.done at.printed
  one-more same = (at.done + 1, recovers-by (at.done + 1) same, inr refl, λ less. refl)

  counts-by : (at.account ≡ account_upto era.run at.done) ⊎ (at.account ≡ account_upto era.run (at.done + 1)) → CountsBy at.done at.printed
  counts-by (inr more) = one-more more
  counts-by (inl whole) = by (nat_lt (length (text_upto era.run at.done)) (length at.printed)) refl
    where
      by : (b : Bool) → nat_lt (length (text_upto era.run at.done)) (length at.printed) ≡ b → CountsBy at.done at.printed
      by true less = one-more (at.acknowledged (ltb-true (length (text_upto era.run at.done)) (length at.printed) less))
      by false not = (at.done, recovers-by at.done whole, inl refl, λ less. absurd (omega (arith, ltb-false (length (text_upto era.run at.done)) (length at.printed) not)))

  pub counts-of : (n : ℕ) × Counts era n
  counts-of =
      let (n, recovers, whole, acknowledged) =
      subst (λ (done : ℕ). CountsBy done (printed_in era)) (sym done-is) (subst (CountsBy at.done) (sym printed-is) (counts-by at.whole)) in
      (n, record { recovers = recovers; whole = whole; acknowledged = acknowledged })

  -- a name that is known at an era's start is known at its end
  known-still : (name : Name) → KnownBy era.run.account name → KnownBy at.account name
  known-still name known = elim at.whole [ inl whole ↦ upto at.done whole | inr more ↦ upto (at.done + 1) more ]
    where
      upto : (n : ℕ) → at.account ≡ account_upto era.run n → KnownBy at.account name
      upto n same = subst (λ (a : State). KnownBy a name) (sym same) (knows-after_all era.run.account (reports_upto era.run n) name known)

  -- a put that a crash interrupted is done or isn't
  pub era-cut : (r : Stored) → change_next era.run (done_in era) ≡ puts r
      → Becomes (store_changed (store_upto era.run (done_in era)) (puts r)) (store_upto era.run (done_in era)) era.left.store
  era-cut r next =
      subst (λ (change : StoreChange). StoreDuring change (store_upto era.run (done_in era)) era.left.store) next
      (subst (λ (n : ℕ). StoreDuring (change_next era.run n) (store_upto era.run n) era.left.store) (sym done-is) at.store)

-- ---- along eras

-- one account knows all names that another one knows
abbrev pub KnowsAllOf : State → State → Type 0
KnowsAllOf one other = (name : Name) → KnownBy one name → KnownBy other name

-- a name that is known at the start of some eras is known at the start of the next era
pub knows-along : (eras : List Era) (next : Era) (account : State) (here : Left) → Recovers account here → AreEras here (eras ++ next ∷ []) → KnowsAllOf account next.run.account
knows-along [] next account here opens (begins, is, follow) name known =
    subst (λ (a : State). KnownBy a name) (start-account here next account begins is opens) known
knows-along (era ∷ eras) next account here opens (begins, is, follow) name known =
    knows-along eras next is.leaves.account era.left is.leaves.recovers follow name
    (known-still era is name (subst (λ (a : State). KnownBy a name) (start-account here era account begins is opens) known))

-- the next era begins with the record store that these eras left
pub store-along : (eras : List Era) (next : Era) (here : Left) → AreEras here (eras ++ next ∷ []) → next.run.store ≡ (left_after here eras).store
store-along [] next here (begins, is, follow) = is.store ∙ begins.store
store-along (era ∷ eras) next here (begins, is, follow) = store-along eras next era.left follow

pub each-counts : (here : Left) (eras : List Era) → AreEras here eras → (counts : List ℕ) × CountsEach eras counts
each-counts here [] follow = ([], tt)
each-counts here (era ∷ eras) (begins, is, follow) =
    let (n, one) = counts-of era is in
    let (counts, others) = each-counts era.left eras follow in
    (n ∷ counts, (one, others))

pub accounts-along : (eras : List Era) (counts : List ℕ) (account : State) (here : Left) → Recovers account here → AreEras here eras → CountsEach eras counts
    → Recovers (account_after_all account (reported_in eras counts)) (left_after here eras)
accounts-along [] [] account here opens follow counted = opens
accounts-along [] (n ∷ counts) account here opens follow counted = absurd counted
accounts-along (era ∷ eras) [] account here opens follow counted = absurd counted
accounts-along (era ∷ eras) (n ∷ counts) account here opens (begins, is, follow) (one, others) =
    let entries : List Entry = reports_upto era.run n in
    let now : Recovers (account_after_all account entries) era.left =
    subst (λ (a : State). Recovers (account_after_all a entries) era.left) (sym (start-account here era account begins is opens)) one.recovers in
    subst (λ (a : State). Recovers a (left_after era.left eras)) (sym (fold-append account_after account entries (reported_in eras counts)))
    (accounts-along eras counts (account_after_all account entries) era.left now follow others)

pub histories-along : (history : History) (here : Left) (eras : List Era) (counts : List ℕ) → Recovers (account_of history) here → AreEras here eras → CountsEach eras counts
    → Recovers (account_of (with_entries history (reported_in eras counts))) (left_after here eras)
histories-along history here eras counts opens follow counted =
    subst (λ (a : State). Recovers a (left_after here eras)) (account_by_history history (reported_in eras counts))
    (accounts-along eras counts (account_of history) here opens follow counted)

-- ---- what was logged

-- the history that an era leaves
module _ (history : History) (here : Left) (era : Era) (begins : BeginsOver here era) (is : IsEra era) (opens : Recovers (account_of history) here) where
  pub begins-with : era.run.account ≡ account_of history
  begins-with = sym (start-account here era (account_of history) begins is opens)

  pub leaves-history : (n : ℕ) → Counts era n → Recovers (account_of (with_entries history (reports_upto era.run n))) era.left
  leaves-history n one =
      let entries : List Entry = reports_upto era.run n in
      subst (λ (a : State). Recovers a era.left) (ap (λ (a : State). account_after_all a entries) begins-with ∙ account_by_history history entries) one.recovers

  logs-follow : (n : ℕ) → fresh_entries (with_entries history (reports_upto era.run n)) ≡ fresh_entries history ++ logs_upto era.run n
  logs-follow n =
      let entries : List Entry = reports_upto era.run n in
      news_behind history entries ∙ ap (λ (a : State). fresh_entries history ++ fresh_entries_in a entries) (sym begins-with)

pub logs-along : (eras : List Era) (counts : List ℕ) (history : History) (here : Left) → Recovers (account_of history) here → AreEras here eras → CountsEach eras counts
    → fresh_entries (with_entries history (reported_in eras counts)) ≡ fresh_entries history ++ logged_in eras counts
logs-along [] [] history here opens follow counted = sym (append-nil (fresh_entries history))
logs-along [] (n ∷ counts) history here opens follow counted = absurd counted
logs-along (era ∷ eras) [] history here opens follow counted = absurd counted
logs-along (era ∷ eras) (n ∷ counts) history here opens (begins, is, follow) (one, others) =
    let entries : List Entry = reports_upto era.run n in
    ap fresh_entries (with_entries-append history entries (reported_in eras counts))
    ∙ logs-along eras counts (with_entries history entries) era.left (leaves-history history here era begins is opens n one) follow others
    ∙ ap (λ (es : List Entry). es ++ logged_in eras counts) (logs-follow history here era begins is opens n)
    ∙ append_assoc (fresh_entries history) (logs_upto era.run n) (logged_in eras counts)

pub logs-once-along : (history : History) (here : Left) (eras : List Era) (counts : List ℕ) → Recovers (account_of history) here → AreEras here eras → CountsEach eras counts
    → IsDistinct same_name (names_of (fresh_entries history ++ logged_in eras counts))
logs-once-along history here eras counts opens follow counted =
    subst (λ (es : List Entry). IsDistinct same_name (names_of es)) (logs-along eras counts history here opens follow counted) (fresh-once (with_entries history (reported_in eras counts)))

-- ---- which records are kept

eq-self : (a b : ℕ) → nat_eq a b ≡ false → a ≡ b → ⊥
eq-self a b apart same = grind (arith, nat_tests)

not-put : (change : StoreChange) (id : ℕ) (store : List Stored) → (is_put_by change id ≡ false) ⊎ (bytes_under id store ≡ None) → HasPut change id store → ⊥
not-put (puts r) id store (inl apart) put = eq-self r.id id apart put.0
not-put (puts r) id store (inr none) (same, stands) = cc
not-put change id store never put = put

module _ (era : Era) (is : IsEra era) (last : ℕ → Option (List ℕ)) (keeps : KeepsRecords last (KnownBy era.run.account) era.here.store) where
  abbrev next : StoreChange
  next = change_next era.run (done_in era)

  abbrev changes : List StoreChange
  changes = changes_upto era.run (done_in era)

  abbrev laid-by : Option (List ℕ) → ℕ → Option (List ℕ)
  laid-by before id = fold (last_changed id) before changes

  abbrev IsKept : ℕ → List ℕ → List ℕ → Type 0
  IsKept id bytes own = (bytes_under id era.left.store ≡ Some bytes) ⊎ KnownBy is.leaves.account (stored_name own)

  kept-here : (id : ℕ) (bytes own : List ℕ) → last_upto era.run (done_in era) id ≡ Some bytes → read_under id (filled bytes) ≡ Ok own → HasPut next id era.left.store ⊎ IsKept id bytes own
  kept-here =
      subst (λ (n : ℕ). (id : ℕ) (bytes own : List ℕ) → last_upto era.run n id ≡ Some bytes → read_under id (filled bytes) ≡ Ok own → HasPut (change_next era.run n) id era.left.store ⊎ IsKept id bytes own)
      (sym (done-is era is)) is.leaves.kept

  pub era-kept : KeepsRecords (λ id. laid_in id (last id) era) (KnownBy is.leaves.account) era.left.store
  era-kept id bytes own there reads = by (is_put_by next id) refl there
    where
      NotPut : Type 0
      NotPut = HasPut next id era.left.store → ⊥

      kept : NotPut → laid-by (bytes_under id era.run.store) id ≡ Some bytes → IsKept id bytes own
      kept apart laid = elim (kept-here id bytes own laid reads) [ inl put ↦ absurd (apart put) | inr stays ↦ stays ]

      stood : NotPut → ((a : Option (List ℕ)) → laid-by a id ≡ a)
          → (bytes_under id era.here.store ≡ Some bytes) ⊎ KnownBy era.run.account (stored_name own) → IsKept id bytes own
      stood apart stays (inl stands) = kept apart (stays (bytes_under id era.run.store) ∙ ap (bytes_under id) is.store ∙ stands)
      stood apart stays (inr known) = inr (known-still era is (stored_name own) known)

      from : NotPut → laid-by (last id) id ≡ Some bytes
          → (((a b : Option (List ℕ)) → laid-by a id ≡ laid-by b id) ⊎ ((a : Option (List ℕ)) → laid-by a id ≡ a)) → IsKept id bytes own
      from apart laid (inl any) = kept apart (any (bytes_under id era.run.store) (last id) ∙ laid)
      from apart laid (inr stays) = stood apart stays (keeps id bytes own (sym (stays (last id)) ∙ laid) reads)

      anew : (o : Option (List ℕ)) → bytes_under id era.left.store ≡ o → option_or o (laid-by (last id) id) ≡ Some bytes → IsKept id bytes own
      anew None none laid = from (not-put next id era.left.store (inr none)) laid (all-changed id changes)
      anew (Some it) is same = inl (is ∙ same)

      by : (b : Bool) → is_put_by next id ≡ b → (if b then option_or (bytes_under id era.left.store) (laid-by (last id) id) else laid-by (last id) id) ≡ Some bytes → IsKept id bytes own
      by true is laid = anew (bytes_under id era.left.store) refl laid
      by false apart laid = from (not-put next id era.left.store (inl apart)) laid (all-changed id changes)

kept-along : (eras : List Era) (last : ℕ → Option (List ℕ)) (account now : State) (here : Left) → Recovers account here → KeepsRecords last (KnownBy account) here.store
    → AreEras here eras → Recovers now (left_after here eras)
    → KeepsRecords (λ id. fold (laid_in id) (last id) eras) (KnownBy now) (left_after here eras).store
kept-along [] last account now here opens keeps follow of =
    subst (λ (a : State). KeepsRecords last (KnownBy a) here.store) (one-account account now here opens of) keeps
kept-along (era ∷ eras) last account now here opens keeps (begins, is, follow) of =
    let started : KeepsRecords last (KnownBy era.run.account) era.here.store =
    subst (λ (store : List Stored). KeepsRecords last (KnownBy era.run.account) store) (sym begins.store)
    (subst (λ (a : State). KeepsRecords last (KnownBy a) here.store) (start-account here era account begins is opens) keeps) in
    kept-along eras (λ id. laid_in id (last id) era) is.leaves.account now era.left is.leaves.recovers (era-kept era is last started) follow of

pub records-kept : (account now : State) (here : Left) (eras : List Era) → Recovers account here → AreEras here eras → Recovers now (left_after here eras)
    → KeepsRecords (last_laid_in here eras) (KnownBy now) (left_after here eras).store
records-kept account now here eras opens follow of =
    kept-along eras (λ id. bytes_under id here.store) account now here opens (λ id bytes own there reads. inl there) follow of
