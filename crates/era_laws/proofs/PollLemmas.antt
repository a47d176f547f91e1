-- A script that polls and is run again over the record store that was left.
use Rattle.std.proofs.Common.{◌≡◌, ℕ, zero, suc, ◌≤◌, nat_eq, Bool, true, false, not, ◌||◌, if◌then◌else◌, List, [], ◌∷◌, ◌++◌, length, take, map, Option, None, Some, Result, Ok, Err, refl, sym, ap, ◌∙◌, subst, inl, inr, arith}
use Rattle.std.specs.Prelude.{◌⊎◌, All, Contains, unwrap_or}
use Rattle.std.specs.List.{AllByRecursion, flat_map}
use Rattle.std.specs.Option.{option_map_or}
use Rattle.std.proofs.lemmas.Bool.Decides.{nat_tests}
use Rattle.std.proofs.lemmas.List.{take-take}
use Rattle.std.proofs.lemmas.List.Elements.{All-contains_itself, All-from_recursion, recursion_from_All}
use Rattle.std.proofs.lemmas.List.Sums.{fold-append}
use Rattle.cper_records.specs.declared.refusals.Unreadable.{Unreadable as Why}
use Rattle.dimm_topology.specs.declared.row.Row.{Row}
use Rattle.erst_store.specs.Store.{Stored, bytes_under, holds, record_after_put, refusal_of, with_record}
use Rattle.erst_store.specs.Steps.StoreLemmas.{found-with_record, under-with_record}
use Rattle.erst_store.specs.declared.store.PutRefused.{PutRefused}
use Rattle.board_core.specs.Stop.{Left}
use Rattle.ras_base.specs.Prefix.{IsPrefixOf}
use Rattle.ras_account.specs.Account.{State, names_of}
use Rattle.ras_account.specs.Continued.{account_after, account_after_all, is_fresh_in}
use Rattle.ras_account.specs.Numbers.{fresh_entries_in}
use Rattle.ras_account.proofs.FreshLemmas.{names_of-append}
use Rattle.ras_account.proofs.KnownLemmas.{knows-after_all, knows-own}
use Rattle.ras_facts.specs.declared.entry.Entry.{Entry}
use Rattle.ras_facts.specs.declared.entry.Entry.TheVariants.{Fact}
use Rattle.ras_facts.specs.declared.name.Name.{Name}
use Rattle.ras_panic.specs.Reading.{stored_name}
use Rattle.ras_events.specs.declared.made.Piece.{Piece}
use Rattle.ras_events.specs.Deeds.{Asking, Deed, counted_in, polls, puts, saves}
use Rattle.ras_events.specs.Described.{NumberedLine}
use Rattle.ras_events.specs.Making.{entries_in, piece_of, polled}
use Rattle.ras_events.specs.Stores.{is_readable, read_stored, store_with, unreadable}
use Rattle.ras_events.proofs.QuietLemmas.{all_both}
use Rattle.ras_events.proofs.StoreLemmas.{same_id}
use Rattle.ras_run.specs.Deeds.{store_done}
use Rattle.ras_run.specs.Places.{Place, deed_at, entries_at, places_from, site_after}
use Rattle.ras_run.specs.Sites.{Site, first_site}
use Rattle.ras_run.specs.Status.{places_before_refusal, refusal_at}
use Rattle.ras_daemon.specs.Headline.{account_with, reported}
use Rattle.ras_daemon.specs.Machine.{account_upto}
use Rattle.ras_daemon.specs.RunOf.{change_by}
use Rattle.ras_daemon.specs.Runs.{IsTakenWhole, event_count, logged}
use Rattle.ras_script.specs.Line.{is_asking}
use Rattle.ras_daemon.specs.Script.{events_of, reads_of}
use Rattle.ras_daemon.specs.StoreDuring.{KnownBy}
use Rattle.ras_daemon.proofs.FirstLinesLemmas.{done-all}
use Rattle.ras_daemon.proofs.KeptLemmas.{HasRoom, change-room, poll-knows, told-name}
use Rattle.ras_daemon.proofs.ListLemmas.{all-filter, all-weaker, take-whole}
use Rattle.ras_daemon.proofs.RunLawLemmas.{prefix-flat_map, prefix-take, reports-none}
use Rattle.era_laws.specs.Eras.{AreEras, Counts, Era, IsReadableIn, TakesScript, left_after, logs_upto}
use Rattle.era_laws.proofs.EraLemmas.{KnowsAllOf, knows-along, store-along}
use Rattle.era_laws.proofs.FirstEventLemmas.{events, events-cut, events-some, first_events, left, taken-or}
use Rattle.era_laws.proofs.TakesLemmas.{takes-account, takes-count, takes-logs, takes-start, takes-store}

-- the names of entries are known after the entries
own-known : (a : State) (es : List Entry) → AllByRecursion (KnownBy (account_after_all a es)) (names_of es)
own-known a [] = tt
own-known a (Fact fact ∷ es) = (knows-after_all (account_after a (Fact fact)) es fact.name (knows-own a fact), own-known (account_after a (Fact fact)) es)
own-known a (e ∷ es) = own-known (account_after a e) es

-- a statement about the record that is put and about all other records of a store holds of the store after the put
module _ (P Q : Stored → Type 0) (id : ℕ) (bytes : List ℕ) (other : (r : Stored) → nat_eq id r.id ≡ false → P r → Q r) (put : Q (record { id = id; bytes = bytes })) where
  replaced : (rs : List Stored) → AllByRecursion P rs → AllByRecursion Q (map (record_after_put id bytes) rs)
  replaced [] all = tt
  replaced (r ∷ rs) all = (by (nat_eq r.id id) refl, replaced rs all.1)
    where
      by : (b : Bool) → nat_eq r.id id ≡ b → Q (if b then record { id = r.id; bytes = bytes } else r)
      by true is = subst (λ (k : ℕ). Q (record { id = k; bytes = bytes })) (sym (same_id r.id id is)) put
      by false is = let apart : nat_eq id r.id ≡ false = grind (arith, nat_tests) in other r apart all.0

  none-held : (rs : List Stored) → holds id rs ≡ false → AllByRecursion P rs → AllByRecursion Q rs
  none-held [] none all = tt
  none-held (r ∷ rs) none all = by (nat_eq id r.id) refl none (none-held rs)
    where
      by : (b : Bool) → nat_eq id r.id ≡ b → (b || holds id rs) ≡ false → (holds id rs ≡ false → AllByRecursion P rs → AllByRecursion Q rs) → AllByRecursion Q (r ∷ rs)
      by true is held rest = absurd cc
      by false is apart rest = (other r is all.0, rest apart all.1)

  all-put : (rs : List Stored) → AllByRecursion P rs → AllByRecursion Q (with_record id bytes rs)
  all-put rs all = by (holds id rs) refl
    where
      by : (b : Bool) → holds id rs ≡ b → AllByRecursion Q (if b then map (record_after_put id bytes) rs else rs ++ record { id = id; bytes = bytes } ∷ [])
      by true is = replaced rs all
      by false is = all_both Q rs (record { id = id; bytes = bytes } ∷ []) (none-held rs is all) (put, tt)

-- ---- lines of which the first are taken

-- a run from a site on has n events, or rejects none of its lines
abbrev Reaches : ℕ → Site → List NumberedLine → Type 0
Reaches n site reads = (n ≤ length (events site reads)) ⊎ (places_before_refusal (places_from site reads) ≡ places_from site reads)

reaches-taken : (n : ℕ) (site : Site) (read : NumberedLine) (reads : List NumberedLine) → Reaches (suc n) site (read ∷ reads)
    → (refusal_at (site, read) ≡ None) × Reaches (left (is_asking read.1) n) (site_after site read) reads
reaches-taken n site read reads (inl few) = let (taken, fewer) = events-some n site read reads few in (taken, inl fewer)
reaches-taken n site read reads (inr all) = elim (taken-or (site, read)) [
  | inl taken ↦ (taken, inr (let same : (site, read) ∷ places_before_refusal (places_from (site_after site read) reads) ≡ places_from site (read ∷ reads) = rw taken at all in cc))
  | inr refused ↦ absurd (let none : ◌≡◌ {A = List Place} [] (places_from site (read ∷ reads)) = rw refused.1 at all in cc)
]

-- ---- one run after another that takes the same lines

module _ (IsNew : Name → Type 0) where
  -- an account knows a name, or the name is new
  abbrev KnowsOrNew : State → Name → Type 0
  KnowsOrNew a name = KnownBy a name ⊎ IsNew name

  more-known : (a b : State) → KnowsAllOf a b → (name : Name) → KnowsOrNew a name → KnowsOrNew b name
  more-known a b more name (inl known) = inl (more name known)
  more-known a b more name (inr new) = inr new

  -- each name of these entries is known or new
  abbrev AreKnownOrNew : State → List Entry → Type 0
  AreKnownOrNew a es = AllByRecursion (KnowsOrNew a) (names_of es)

  grown : (a : State) (entries es : List Entry) → AreKnownOrNew a es → AreKnownOrNew (account_after_all a entries) es
  grown a entries es = all-weaker (KnowsOrNew a) (KnowsOrNew (account_after_all a entries)) (more-known a (account_after_all a entries) (knows-after_all a entries)) (names_of es)

  either : (b : Bool) (one other : List Entry) → AllByRecursion IsNew (names_of one) → AllByRecursion IsNew (names_of other) → AllByRecursion IsNew (names_of (if b then one else other))
  either true one other first second = first
  either false one other first second = second

  -- what an account logs of such entries has only new names
  logs-new : (a : State) (es : List Entry) → AreKnownOrNew a es → AllByRecursion IsNew (names_of (fresh_entries_in a es))
  logs-new a [] all = tt
  logs-new a (Fact fact ∷ es) (inl known, all) = rw known (logs-new a es all)
  logs-new a (Fact fact ∷ es) (inr new, all) =
      either (is_fresh_in a (Fact fact)) (Fact fact ∷ fresh_entries_in (account_after a (Fact fact)) es) (fresh_entries_in a es)
      (new, logs-new (account_after a (Fact fact)) es (grown a (Fact fact ∷ []) es all)) (logs-new a es all)
  logs-new a (e ∷ es) all =
      either (is_fresh_in a e) (e ∷ fresh_entries_in (account_after a e) es) (fresh_entries_in a es)
      (logs-new (account_after a e) es (grown a (e ∷ []) es all)) (logs-new a es all)

  -- A record in the other run's store: the first run's store has it too, or the first run's account knows its name,
  -- or its name is new.
  abbrev IsHeld : List Stored → State → Stored → Type 0
  IsHeld store a r = (own : List ℕ) → read_stored r ≡ Ok own → (bytes_under r.id store ≡ Some r.bytes) ⊎ KnowsOrNew a (stored_name own)

  -- a deed in both runs, with one machine description
  module _ (rows : List Row) (a : State) (one other : List Stored) (held : AllByRecursion (IsHeld one a) other) where
    abbrev made : List Stored → Asking → Option (List Piece) → List Entry
    made store asks reported = entries_in (unwrap_or (counted_in rows store asks reported) [])

    abbrev after : Asking → Option (List Piece) → State
    after asks reported = account_after_all a (made one asks reported)

    abbrev polled-by : ℕ → State
    polled-by seconds = after (polls seconds) None

    polled-record : (seconds : ℕ) (r : Stored) → IsHeld one a r → (own : List ℕ) → read_stored r ≡ Ok own → KnowsOrNew (polled-by seconds) (stored_name own)
    polled-record seconds r held own reads = elim (held own reads) [
      | inl stands ↦ inl (poll-knows a rows seconds one r.id r.bytes own stands reads)
      | inr named ↦ more-known a (polled-by seconds) (knows-after_all a (made one (polls seconds) None)) (stored_name own) named
    ]

    polled-entries : (seconds : ℕ) (rs : List Stored) → AllByRecursion (IsHeld one a) rs → AreKnownOrNew (polled-by seconds) (entries_in (polled rows seconds rs))
    polled-entries seconds [] all = tt
    polled-entries seconds (r ∷ rs) all = by (read_stored r) refl (polled-entries seconds rs all.1)
      where
        by : (o : Result (List ℕ) Why) → read_stored r ≡ o → AreKnownOrNew (polled-by seconds) (entries_in (polled rows seconds rs))
            → AreKnownOrNew (polled-by seconds) (entries_in (piece_of rows seconds r.id o ∷ polled rows seconds rs))
        by (Err why) is rest = rest
        by (Ok own) is rest = (subst (KnowsOrNew (polled-by seconds)) (sym (told-name rows seconds own)) (polled-record seconds r all.0 own is), rest)

    put-held : (r : Stored) → refusal_of r.id r.bytes one ≡ None → refusal_of r.id r.bytes other ≡ None → AllByRecursion (IsHeld (store_with r.id r.bytes one) a) (store_with r.id r.bytes other)
    put-held r here there =
        rw (with_room one here, with_room other there)
        (all-put (IsHeld one a) (IsHeld (with_record r.id r.bytes one) a) r.id r.bytes apart (λ own reads. inl (found-with_record r.id r.bytes one)) other held)
      where
        with_room : (store : List Stored) → refusal_of r.id r.bytes store ≡ None → store_with r.id r.bytes store ≡ with_record r.id r.bytes store
        with_room store room = ap (λ (o : Option PutRefused). option_map_or (λ why. store) o (with_record r.id r.bytes store)) room

        apart : (q : Stored) → nat_eq r.id q.id ≡ false → IsHeld one a q → IsHeld (with_record r.id r.bytes one) a q
        apart q not held own reads = elim (held own reads) [ inl stands ↦ inl (under-with_record r.id q.id r.bytes not one ∙ stands) | inr named ↦ inr named ]

    -- After a deed in both runs the first run's account knows each name that the other run reports, or the name is
    -- new. The same then holds of each record in the other run's store.
    deed-held : (asks : Asking) (reported : Option (List Piece)) → HasRoom (change_by asks) one → HasRoom (change_by asks) other
        → AreKnownOrNew (after asks reported) (made other asks reported) × AllByRecursion (IsHeld (store_done asks one) (after asks reported)) (store_done asks other)
    deed-held (puts r) reported here there = (tt, put-held r here there)
    deed-held (saves r) reported here there = (tt, put-held r here there)
    deed-held (polls seconds) reported here there = (
      polled-entries seconds other held,
      all-filter (IsHeld (unreadable one) (polled-by seconds)) (λ r. not (is_readable r)) other
          (all-weaker (IsHeld one a) (IsHeld (unreadable one) (polled-by seconds)) (λ r held own reads. inr (polled-record seconds r held own reads)) other held),
    )
    deed-held asks reported here there = (
      all-weaker (KnownBy (after asks reported)) (KnowsOrNew (after asks reported)) (λ name known. inl known) (names_of (made other asks reported)) (own-known a (made one asks reported)),
      all-weaker (IsHeld one a) (IsHeld one (after asks reported)) still other held,
    )
      where
        still : (r : Stored) → IsHeld one a r → IsHeld one (after asks reported) r
        still r held own reads = elim (held own reads) [
          | inl stands ↦ inl stands
          | inr named ↦ inr (more-known a (after asks reported) (knows-after_all a (made one asks reported)) (stored_name own) named)
        ]

  -- the site of the first run, with the other run's machine description
  abbrev beside : Site → Site → Site
  beside one other = record one { settings = other.settings }

  abbrev first-reports : ℕ → Site → List NumberedLine → List Entry
  first-reports n site reads = flat_map entries_at (first_events n site reads)

  -- If the first run has n events, or accepts all lines, its account knows each name that the other run's first n
  -- events report, or the name is new.
  walk : (n : ℕ) (one other : Site) (reads : List NumberedLine) → Reaches n (beside one other) reads → AllByRecursion (IsHeld one.store one.account) other.store
      → AreKnownOrNew (account_after_all one.account (first-reports n (beside one other) reads)) (first-reports n other reads)
  walk zero one other reads reaches held = tt
  walk (suc n) one other [] reaches held = tt
  walk (suc n) one other (read ∷ reads) reaches held = elim (taken-or (other, read)) [
    | inr refused ↦ rw refused.1 tt
    | inl taken ↦
        let first : Site = beside one other in
        let (here, later) = reaches-taken n first read reads reaches in
        let deed : Deed = deed_at (other, read) in
        let (known, still) =
        deed-held other.settings.topology one.account one.store other.store held deed.asks deed.reported (change-room (first, read) here) (change-room (other, read) taken) in
        let m : ℕ = left (is_asking read.1) n in
        let more : List Entry = first-reports m (site_after first read) reads in
        let others : List Entry = first-reports m (site_after other read) reads in
        let now : State = account_after_all (site_after first read).account more in
        subst (λ (a : State). AreKnownOrNew a (first-reports (suc n) other (read ∷ reads)))
        (sym (ap (account_after_all one.account) (events-cut n first read reads entries_at reports-none here) ∙ fold-append account_after one.account (entries_at (first, read)) more))
        (subst (AllByRecursion (KnowsOrNew now)) (sym (ap names_of (events-cut n other read reads entries_at reports-none taken) ∙ names_of-append (entries_at (other, read)) others))
        (all_both (KnowsOrNew now) (names_of (entries_at (other, read))) (names_of others)
        (grown (site_after first read).account more (entries_at (other, read)) known) (walk m (site_after first read) (site_after other read) reads later still)))
  ]

-- ---- the laws

module _ (here : Left) (era next : Era) (between : List Era) (script : List ℕ) (n : ℕ) (follow : AreEras here (era ∷ (between ++ next ∷ []))) (takes : TakesScript script era) (again : TakesScript script next) (counted : Counts era n) where
  abbrev first-events : ℕ → List Place
  first-events m = take m (events_of takes.start script)

  -- what the next era logs in its first events, if these are among the events that were counted
  logs-readable : (m : ℕ) → IsPrefixOf (first-events m) (first-events n) → Reaches m (first_site takes.start) (reads_of script)
      → All (IsReadableIn (left_after era.left between).store) (names_of (logs_upto next.run m))
  logs-readable m front reaches =
      subst (λ (store : List Stored). All (IsReadableIn store) (names_of (logs_upto next.run m))) (sym (takes-store script next again) ∙ store-along between next era.left follow.2)
      (subst (λ (es : List Entry). All IsNew (names_of es)) (sym (takes-logs script next again m))
      (All-from_recursion IsNew (names_of (logged again.start script m))
      (logs-new IsNew again.start.account (reported again.start script m)
      (all-weaker (KnowsOrNew IsNew (account_with takes.start script m)) (KnowsOrNew IsNew again.start.account) (more-known IsNew (account_with takes.start script m) again.start.account known)
      (names_of (reported again.start script m))
      (walk IsNew m (first_site takes.start) (first_site again.start) (reads_of script) reaches held)))))
    where
      IsNew : Name → Type 0
      IsNew = IsReadableIn again.start.store

      held : AllByRecursion (IsHeld IsNew takes.start.store takes.start.account) again.start.store
      held =
          all-weaker (Contains again.start.store) (IsHeld IsNew takes.start.store takes.start.account)
          (λ r there own reads. inr (inr (record { stored = r; there = there; own = own; reads = reads; is = refl })))
          again.start.store (recursion_from_All (Contains again.start.store) again.start.store (All-contains_itself again.start.store))

      known : (name : Name) → KnownBy (account_with takes.start script m) name → KnownBy again.start.account name
      known name before =
          let (rest, is) = prefix-flat_map entries_at (first-events m) (first-events n) front in
          subst (λ (a : State). KnownBy a name) (takes-start script next again)
          (knows-along between next (account_upto era.run n) era.left counted.recovers follow.2 name
          (subst (λ (a : State). KnownBy a name)
          (sym (takes-account script era takes n ∙ ap (account_after_all takes.start.account) (sym is) ∙ fold-append account_after takes.start.account (reported takes.start script m) rest))
          (knows-after_all (account_with takes.start script m) rest name before)))

  count-is : length era.run.does ≡ event_count takes.start script
  count-is = takes-count script era takes

  pub era-polled : (m : ℕ) → m ≤ n → m ≤ length era.run.does → All (IsReadableIn (left_after era.left between).store) (names_of (logs_upto next.run m))
  era-polled m less few =
      logs-readable m (subst (λ (ps : List Place). IsPrefixOf ps (first-events n)) (take-take m n (events_of takes.start script) less) (prefix-take m (first-events n)))
      (inl (omega (arith, count-is)))

  pub era-polled-whole : (m : ℕ) → IsTakenWhole takes.start script → length era.run.does ≤ n → All (IsReadableIn (left_after era.left between).store) (names_of (logs_upto next.run m))
  era-polled-whole m whole all =
      logs-readable m
      (subst (IsPrefixOf (first-events m)) (sym (take-whole (events_of takes.start script) n (omega (arith, count-is)))) (prefix-take m (events_of takes.start script)))
      (inr (done-all takes.start script whole))
