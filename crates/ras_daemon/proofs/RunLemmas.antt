-- A run from its start: the journal is opened, or the run is rejected.
use Rattle.std.proofs.Common.{◌≡◌, ℕ, false, List, [], ◌∷◌, ◌++◌, Option, None, Some, IfSome, IsSomeAnd, Result, Ok, Err, refl, ap, sym, ◌∙◌, subst, append-nil, inl, inr, unwrap_or, arith}
use Rattle.std.specs.Prelude.{◌≤◌, ◌⊎◌, ⊤}
use Rattle.std.proofs.lemmas.List.Elements.{All-nil}
use Rattle.board_core.specs.declared.board.DiskCall.{DiskCall}
use Rattle.board_core.specs.declared.board.DiskCall.TheVariants.{Sync}
use Rattle.board_core.specs.declared.board.FileNo.TheVariants.{Zero, One}
use Rattle.std.specs.Result.{result_unwrap_or}
use Rattle.board_core.specs.Cause.{disk_call}
use Rattle.board_core.specs.Clock.{Clock, Adds, IsStored, LeftNow}
use Rattle.board_core.specs.Steps.ClockLemmas.{adds_both, adds_none, adds_weaker}
use Rattle.board_core.specs.Device.{LeavesDevice}
use Rattle.board_core.specs.Doing.{Seen}
use Rattle.board_core.specs.Stop.{Begins, InOut, Left}
use Rattle.board_core.specs.Told.{Relates, Told}
use Rattle.ras_base.specs.Prefix.{IsPrefixOf}
use Rattle.ras_account.specs.Account.{State, account_of}
use Rattle.ras_account.specs.Accounts.{IsAccount}
use Rattle.ras_account.specs.History.{empty}
use Rattle.ras_journal.specs.Recovered.{Recovers, Refusal, damaged, recovered, too_long}
use Rattle.ras_journal.specs.Appending.{Before}
use Rattle.ras_run.specs.declared.ledger.Ledger.{Ledger}
use Rattle.ras_recover.specs.DiskCalls.{IsBeginning, IsReading, Makes}
use Rattle.ras_recover.specs.Opening.{FormatsFirst, Opening, OpeningSynced, standing_opened}
use Rattle.ras_recover.specs.OpeningActs.{LeavesUnopened}
use Rattle.ras_recover.specs.OpeningCalls.{AfterOpening, AfterRecovery, IsRecovery, MakesOpening}
use Rattle.ras_recover.specs.Recovering.{MaySync, RestsHere, SyncsFirst, both_syncs, file_number}
use Rattle.ras_recover.proofs.CallsLemmas.{nothing_called}
use Rattle.ras_recover.proofs.OpeningCallsLemmas.{refused_keeps, refused_recovers, told_opened}
use Rattle.ras_exit.specs.declared.exit.Exit.{Exit}
use Rattle.ras_exit.specs.declared.exit.Exit.TheVariants.{Damaged, DiskFault, NoMemory, SourceFault, TooLong}
use Rattle.ras_exit.specs.Endings.{CallEnding, EndsBy, IfAnswered, IsCut, OnAnswer, OnlyFault, answered, ending_of, faulted, is_answered, source_failed, starved}
use Rattle.ras_exit.proofs.DeviceLemmas.{device_by, device_stays}
use Rattle.ras_exit.proofs.EndingLemmas.{ends_weaker, memory_ran_out, not_both, on_cut}
use Rattle.ras_run.specs.LineActs.{HoldsAt}
use Rattle.ras_run.specs.Sites.{Start, first_site}
use Rattle.ras_exit.specs.StopLine.{stop_line}
use Rattle.ras_exit.specs.Telling.{PrintMoment, Tells}
use Rattle.ras_run.specs.Files.{KeepsFiles, files_refusal, refusal_exit}
use Rattle.ras_run.specs.Taking.{IsReady, OpensLedger, Prints}
use Rattle.ras_daemon.specs.Reporting.{ReportMoment}
use Rattle.ras_daemon.specs.Steps.Doing.{Comes, ComesScript, DoesRun, Ends, Opens as OpensRun, TakesScript}
use Rattle.ras_daemon.specs.Promises.{EndsRefused, OverRefused, Refuses}
use Rattle.ras_daemon.specs.Headline.{AtOpening, OverRun}
use Rattle.ras_daemon.specs.RunOutput.{closing_line}
use Rattle.ras_daemon.specs.RunStatus.{start_of}
use Rattle.ras_daemon.specs.Steps.Running.{EndsAhead, EndsIn, IsStart, OpenMoment, RunEnds, RunMoment, lines_from}
use Rattle.ras_daemon.specs.declared.word.Task.{Task}
use Rattle.ras_daemon.specs.declared.word.Task.TheVariants.{Run}
use Rattle.ras_daemon.proofs.SaidLemmas.{Printed, says_printed}
use Rattle.ras_daemon.proofs.TakenLemmas.{answers}
use Rattle.ras_daemon.proofs.ScriptLemmas.{early_none, takes_runs, takes_stops}
use Rattle.ras_run.proofs.StandsLemmas.{before_of}

-- ---- source and board are modelled, and the files give an account

pub over_run : (P : Start → List ℕ → Told → Type 0) (left : Option (List ℕ)) (told : Option Told)
    → ((account : State) (script : List ℕ) (t : Told) → left ≡ Some script → told ≡ Some t → Recovers account t.here → P (start_of account t) script t)
    → OverRun P (Some Run) left told
over_run P None told holds = tt
over_run P (Some script) None holds = tt
over_run P (Some script) (Some t) holds = λ account recovers. holds account script t refl refl recovers

over_refused : (P : Exit → Told → Told → Type 0) (old new : Option Told) → ((before : Told) → old ≡ Some before → IfSome (files_refusal before.here) (λ why. IsSomeAnd new (P why before))) → OverRefused P (Some Run) old new
over_refused P None new holds = tt
over_refused P (Some before) new holds = holds before refl

ok_same : {A E : Type 0} (x y : A) → ◌≡◌ {A = Result A E} (Ok x) (Ok y) → x ≡ y
ok_same {A} {E} x y is = ap (λ (r : Result A E). result_unwrap_or r x) is

-- ---- the start

pub start_opened : (account : State) (t u : Told) (ledger : Ledger) → Recovers account t.here → recovered t.here.file0 t.here.file1 ≡ Ok ledger.account.state
    → ledger.journal.standing ≡ standing_opened t.here.file0 t.here.file1 → AfterOpening t u → IsStart (start_of account t) ledger u
start_opened account t u ledger recovers opens standing after = record {
  account = ok_same ledger.account.state account (sym opens ∙ recovers.is);
  standing = standing;
  board = record { store = after.store; slow = ap (λ volatile. volatile.slow) after.volatile };
}

-- a statement about the model holds if the board has this model
pub if_told : (P : Told → Type 0) (told : Option Told) (t : Told) → told ≡ Some t → IfSome told P → P t
if_told P told t is holds = let here : IsSomeAnd (Some t) P = subst (λ o. IfSome o P) is holds in here

-- the model once the journal was opened or the run was rejected
pub told_on : (P : Told → Told → Type 0) (told new : Option Told) (t : Told) → told ≡ Some t → Relates P told new → (u : Told) × (new ≡ Some u) × P t u
told_on P told new t is relates = by new (subst (λ o. Relates P o new) is relates)
  where
    by : (new : Option Told) → Relates P (Some t) new → (u : Told) × (new ≡ Some u) × P t u
    by None relates = absurd relates
    by (Some u) relates = (u, refl, relates)

-- a relation between the models before and after
told_both : (P : Told → Told → Type 0) (told new : Option Told) (t u : Told) → told ≡ Some t → new ≡ Some u → Relates P told new → P t u
told_both P told new t u one two relates = subst (λ n. Relates P (Some t) n) two (subst (λ o. Relates P o new) one relates)

-- ---- what crashes leave

-- what a crash leaves while file 0 is formatted
formatting_at : (account : State) (t : Told) (left : Left) → Recovers account t.here → FormatsFirst t.here left → AtOpening (start_of account t) t.here.out left
formatting_at account t left recovers formats =
    let same : account ≡ account_of empty = ok_same account (account_of empty) (sym recovers.is ∙ formats.none.recovers) in
    record { recovers = rw same formats.recovers; store = ap (λ (l : Left). l.store) formats.rest; text = ap (λ (l : Left). l.out) formats.rest }

-- what a crash leaves while the journal is opened, once both files are synced
pub synced_at : (account : State) (t : Told) (left : Left) → Recovers account t.here → OpeningSynced t.here left → AtOpening (start_of account t) t.here.out left
synced_at account t left recovers (inl same) = record { recovers = subst (Recovers account) (sym same) recovers; store = ap (λ (l : Left). l.store) same; text = ap (λ (l : Left). l.out) same }
synced_at account t left recovers (inr formats) = formatting_at account t left recovers formats

-- what a crash leaves while the journal is opened
pub opening_at : (account : State) (t : Told) (a : Clock) (left : Left) → Recovers account t.here → Opening a t.here left → LeftNow a left ⊎ AtOpening (start_of account t) t.here.out left
opening_at account t a left recovers (inl now) = inl now
opening_at account t a left recovers (inr formats) = inr (formatting_at account t left recovers formats)

pub opening_moments : (account : State) (script : List ℕ) (t : Told) (a b : Clock) → Recovers account t.here → Adds (Opening a t.here) a b
    → Adds (RunMoment a (start_of account t) script t.here) a b
opening_moments account script t a b recovers adds =
    adds_weaker (Opening a t.here) (RunMoment a (start_of account t) script t.here) a b adds
    (λ left opening. elim (opening_at account t a left recovers opening) [ inl now ↦ inl now | inr at ↦ inr (inl at) ])

-- what a crash leaves once the journal is open
pub opened_moments : (clock : Clock) (start : Start) (script : List ℕ) (t u : Told) (b c : Clock) → IsAccount start.account → u.here.out ≡ t.here.out
    → Adds (OpenMoment start script u.here.out) b c → Adds (RunMoment clock start script t.here) b c
opened_moments clock start script t u b c account same adds = adds_weaker (OpenMoment start script u.here.out) (RunMoment clock start script t.here) b c adds
    (λ left moment. inr (inr (account, subst (λ out. OpenMoment start script out left) same moment)))

-- ---- a journal that isn't opened

-- if the files give an account, only a fault of the disk or lack of memory keeps the journal from being opened
abbrev pub IsCutOpening : Exit → Type 0
IsCutOpening exit = EndsBy ⊥ ⊤ (OnlyFault disk_call) (ending_of exit)

pub cut_opening : (exit : Exit) (account : State) (held : Result State Refusal) → held ≡ Ok account → OpensLedger (Err exit) held → IsCutOpening exit
cut_opening exit account held is opens =
    ends_weaker (refusal_exit held ≡ Some exit) ⊥ ⊤ ⊤ (OnlyFault disk_call) (OnlyFault disk_call) exit
    (λ found. let not : refusal_exit held ≡ None = ap (λ (h : Result State Refusal). refusal_exit h) is in cc) (λ memory over. over) (λ kind is. is) opens

pub cut_is : (exit : Exit) → IsCutOpening exit → IsCut exit
cut_is exit cut = by (ending_of exit) cut
  where
    by : (ending : CallEnding) → EndsBy ⊥ ⊤ (OnlyFault disk_call) ending → is_answered ending ≡ false
    by answered cut = absurd cut
    by ending cut = refl

-- ---- files that are refused

-- what holds of a rejected run, apart from the device and the source
abbrev pub RefusesSo : Exit → Exit → Told → Told → Type 0
RefusesSo why result before now = EndsRefused why result × Tells why (stop_line why) result before now × KeepsFiles before now × Makes (IsBeginning IsRecovery) before now

-- nothing was printed, and the run was cut short
refuses_cut : (why result : Exit) (before now : Told) → EndsRefused why result → Makes (IsBeginning IsRecovery) before now → IsCut result → Prints [] before now → KeepsFiles before now → RefusesSo why result before now
refuses_cut why result before now ends calls cut text keeps = (
  ends,
  record {
    answers = on_cut result (result ≡ why) cut;
    begun = ([], (stop_line why, refl), text);
    whole = on_cut result (now.here.out ≡ before.here.out ++ stop_line why) cut;
  },
  keeps,
  calls,
)

-- what holds of a rejected run, with the device, the source and what crashes leave
refuses_whole : (result : Exit) (Same : Type 0) (a b : Clock) (before : Told) (new : Option Told) (refusal : Option Exit) → Same → LeavesDevice (Some before) new a b
    → IfSome refusal (λ why. Adds (ReportMoment a (stop_line why) before.here) a b) → IfSome refusal (λ why. IsSomeAnd new (RefusesSo why result before)) → IfSome refusal (λ why. IsSomeAnd new (Refuses result Same a b why before))
refuses_whole result Same a b before new None same device stops so = tt
refuses_whole result Same a b before None (Some why) same device stops so = absurd so
refuses_whole result Same a b before (Some now) (Some why) same device stops so = record { ends = so.0; tells = so.1; files = so.2; stops = stops; calls = so.3; device = device; unread = same }

some_same : {A : Type 0} (x y : A) → Some x ≡ Some y → x ≡ y
some_same x y is = ap (λ o. unwrap_or o x) is

-- why files are rejected, and the last line for that reason
refusal_err : (held : Result State Refusal) (why : Exit) → refusal_exit held ≡ Some why → (w : Refusal) × (held ≡ Err w)
refusal_err (Ok account) why is = absurd cc
refusal_err (Err w) why is = (w, refl)

refusal_line : (held : Result State Refusal) (why : Exit) (state : State) → refusal_exit held ≡ Some why → closing_line state why ≡ stop_line why
refusal_line (Ok account) why state is = absurd cc
refusal_line (Err too_long) why state is = subst (λ e. closing_line state e ≡ stop_line e) (some_same TooLong why is) refl
refusal_line (Err (damaged file place)) why state is = subst (λ e. closing_line state e ≡ stop_line e) (some_same (Damaged (file_number file) place) why is) refl

-- An opening is rejected for that reason, or was cut short.
refused_as : (held : Result State Refusal) (why exit : Exit) → refusal_exit held ≡ Some why → OpensLedger (Err exit) held → (exit ≡ why) ⊎ IsCut exit
refused_as held why exit is opens = by (ending_of exit) refl opens
  where
    by : (ending : CallEnding) → ending_of exit ≡ ending → EndsBy (refusal_exit held ≡ Some exit) ⊤ (OnlyFault disk_call) ending → (exit ≡ why) ⊎ IsCut exit
    by answered so found = inl (some_same exit why (sym found ∙ is))
    by source_failed so found = absurd found
    by (faulted kind) so found = inr (ap is_answered so)
    by starved so found = inr (ap is_answered so)

-- only `DiskFault` is a fault of the disk
pub disk_failed : (exit : Exit) → ending_of exit ≡ faulted disk_call → exit ≡ DiskFault
disk_failed DiskFault is = refl
disk_failed exit is = absurd cc

pub not_starved : (exit : Exit) → ending_of exit ≡ starved → exit ≡ DiskFault → ⊥
not_starved exit starving disk =
    let never : faulted disk_call ≡ starved = sym (ap ending_of disk) ∙ starving in
    cc

refused_exits : (held : Result State Refusal) (why exit : Exit) → refusal_exit held ≡ Some why → OpensLedger (Err exit) held → (exit ≡ why) ⊎ ((exit ≡ DiskFault) ⊎ (exit ≡ NoMemory))
refused_exits held why exit is opens = by (ending_of exit) refl opens
  where
    by : (ending : CallEnding) → ending_of exit ≡ ending → EndsBy (refusal_exit held ≡ Some exit) ⊤ (OnlyFault disk_call) ending → (exit ≡ why) ⊎ ((exit ≡ DiskFault) ⊎ (exit ≡ NoMemory))
    by answered so found = inl (some_same exit why (sym found ∙ is))
    by source_failed so found = absurd found
    by (faulted kind) so only = inr (inl (disk_failed exit (so ∙ ap faulted only)))
    by starved so any = inr (inr (memory_ran_out exit so))

refused_ends : {X : Type 0} (see : X → Seen) (why exit result : Exit) (line : List ℕ) (a b : X) → (exit ≡ why) ⊎ ((exit ≡ DiskFault) ⊎ (exit ≡ NoMemory)) → Ends see exit result line a b → EndsRefused why result
refused_ends see why exit result line a b found ends = by ends
  where
    as_exit : result ≡ exit → (exit ≡ why) ⊎ ((exit ≡ DiskFault) ⊎ (exit ≡ NoMemory)) → EndsRefused why result
    as_exit is (inl same) = inl (is ∙ same)
    as_exit is (inr (inl disk)) = inr (inl (is ∙ disk))
    as_exit is (inr (inr memory)) = inr (inr (inr (is ∙ memory)))

    by : Ends see exit result line a b → EndsRefused why result
    by (inl (answer, inl said)) = as_exit said.0 found
    by (inl (answer, inr (inl failed))) = inr (inr (inl failed.0))
    by (inl (answer, inr (inr short))) = inr (inr (inr short.0))
    by (inr cut) = as_exit cut.1 found

pub answer_weaker : (result : Exit) (P Q : Type 0) → OnAnswer result P → (P → Q) → OnAnswer result Q
answer_weaker result P Q holds gives = by (ending_of result) holds
  where
    by : (ending : CallEnding) → IfAnswered ending P → IfAnswered ending Q
    by answered holds = gives holds
    by ending holds = tt

module _ (why result : Exit) (line : List ℕ) (before mid : Told) (ends : EndsRefused why result) (calls : Makes (IsBeginning IsRecovery) before mid) (text : Prints [] before mid) (keeps : KeepsFiles before mid) where
  -- the last line was printed, or a beginning of it
  refuses_printed : (new : Option Told) → line ≡ stop_line why → Relates (Printed why result line) (Some mid) new → IsSomeAnd new (RefusesSo why result before)
  refuses_printed None same printed = absurd printed
  refuses_printed (Some now) same printed =
      let out : (part : List ℕ) → now.here.out ≡ mid.here.out ++ part → now.here.out ≡ before.here.out ++ part = (λ part is. is ∙ ap (λ out. out ++ part) (text ∙ append-nil before.here.out)) in
      let told : now.here.out ≡ before.here.out ++ printed.part = out printed.part (ap (λ (t : Told). t.here.out) printed.is) in (
        ends,
        record {
          answers = answer_weaker result ((result ≡ why) × (printed.part ≡ line)) (result ≡ why) printed.answers (λ both. both.0);
          begun = (printed.part, subst (IsPrefixOf printed.part) same printed.begins, told);
          whole = answer_weaker result ((result ≡ why) × (printed.part ≡ line)) (now.here.out ≡ before.here.out ++ stop_line why) printed.answers (λ both. told ∙ ap (λ last. before.here.out ++ last) (both.1 ∙ same));
        },
        rw printed.is (record { file0 = keeps.file0; file1 = keeps.file1 }),
        record { made = calls.made; listed = ap (λ (t : Told). t.disk_calls) printed.is ∙ calls.listed; are = calls.are },
      )

refused_so : {X : Type 0} (see : X → Seen) (exit result : Exit) (state : State) (before : Told) (old mid new : X) → (see old).told ≡ Some before → Relates AfterOpening (see old).told (see mid).told
    → IfSome (see old).told (λ t. OpensLedger (Err exit) (recovered t.here.file0 t.here.file1)) → Ends see exit result (closing_line state exit) mid new → IfSome (files_refusal before.here) (λ why. IsSomeAnd (see new).told (RefusesSo why result before))
refused_so see exit result state before old mid new one after opens ends = by (files_refusal before.here) refl
  where
    found : (u : Told) × ((see mid).told ≡ Some u) × AfterOpening before u
    found = told_on AfterOpening (see old).told (see mid).told before one after

    held : Result State Refusal
    held = recovered before.here.file0 before.here.file1

    text : Prints [] before found.0
    text = found.2.text ∙ sym (append-nil before.here.out)

    calls : (w : Refusal) → held ≡ Err w → Makes (IsBeginning IsRecovery) before found.0
    calls w is =
        let begun = found.2.calls.are in
        record { made = found.2.calls.made; listed = found.2.calls.listed; are = record { whole = begun.whole; are = refused_recovers w before.here begun.whole is begun.are; begins = begun.begins } }

    here : OpensLedger (Err exit) held
    here = if_told (λ t. OpensLedger (Err exit) (recovered t.here.file0 t.here.file1)) (see old).told before one opens

    last : (why : Exit) → refusal_exit held ≡ Some why → Makes (IsBeginning IsRecovery) before found.0 → KeepsFiles before found.0 → (exit ≡ why) ⊎ IsCut exit → Ends see exit result (closing_line state exit) mid new → IsSomeAnd (see new).told (RefusesSo why result before)
    last why is made keeps as_found (inr cut) =
        rw (cut.2, found.1) (refuses_cut why result before found.0 (refused_ends see why exit result (closing_line state exit) mid new (refused_exits held why exit is here) (inr cut)) made (rw cut.1 cut.0) text keeps)
    last why is made keeps (inr cut) (inl said) = absurd (not_both exit cut said.0)
    last why is made keeps (inl same) (inl said) =
        refuses_printed why result (closing_line state exit) before found.0 (refused_ends see why exit result (closing_line state exit) mid new (refused_exits held why exit is here) (inl said)) made text keeps (see new).told (ap (closing_line state) same ∙ refusal_line held why state is)
        (subst (λ (o : Option Told). Relates (Printed why result (closing_line state exit)) o (see new).told) found.1
        (subst (λ (e : Exit). Relates (Printed e result (closing_line state exit)) (see mid).told (see new).told) same (says_printed see exit result (closing_line state exit) mid new said.1)))

    by : (refusal : Option Exit) → files_refusal before.here ≡ refusal → IfSome refusal (λ why. IsSomeAnd (see new).told (RefusesSo why result before))
    by None is = tt
    by (Some why) is =
        let err = refusal_err held why is in
        let kept : KeepsFiles before found.0 = record { file0 = refused_keeps err.0 before found.0 err.1 found.2; file1 = found.2.file1 } in
        last why is (calls err.0 err.1) kept (refused_as held why exit is here) ends

-- files that are opened aren't rejected
opened_not : (held : Result State Refusal) (account : State) → held ≡ Ok account → refusal_exit held ≡ None
opened_not held account is = ap (λ (h : Result State Refusal). refusal_exit h) is

pub refused_none : (P : Exit → Told → Told → Type 0) (told new : Option Told) (account : State) → IfSome told (λ t. recovered t.here.file0 t.here.file1 ≡ Ok account) → OverRefused P (Some Run) told new
refused_none P None new account is = tt
refused_none P (Some t) new account is = rw (opened_not (recovered t.here.file0 t.here.file1) account is) tt

-- ---- what crashes leave of files that are rejected

module _ (a b : Clock) (before : Told) (mid : Option Told) (why : Exit) (refused : files_refusal before.here ≡ Some why) (opening : Adds (Opening a before.here) a b) where
  -- what a crash leaves while the last line is printed
  abbrev AtLast : Left → Type 0
  AtLast = ReportMoment a (stop_line why) before.here

  never_formats : (left : Left) → Opening a before.here left → AtLast left
  never_formats left (inl now) = inl now
  never_formats left (inr formats) =
      let err = refusal_err (recovered before.here.file0 before.here.file1) why refused in
      let both : ◌≡◌ {A = Result State Refusal} (Ok (account_of empty)) (Err err.0) = sym formats.none.recovers ∙ err.1 in
      absurd cc

  unprinted : Adds AtLast a b
  unprinted = adds_weaker (Opening a before.here) AtLast a b opening never_formats

  last_printed : (c : Clock) → RestsHere before.here mid b → Adds (PrintMoment b (stop_line why)) b c → Adds AtLast a c
  last_printed c rests prints =
      adds_both AtLast a b c unprinted
      (adds_weaker (PrintMoment b (stop_line why)) AtLast b c prints
      (λ left by. inr (subst (λ (from : Left). InOut (Begins (stop_line why)) from left) (rests.rests.only by.from by.was ∙ rests.same) by.by)))

refused_stops : {X : Type 0} (see : X → Seen) (exit result : Exit) (state : State) (before : Told) (old mid new : X) (refusal : Option Exit) → files_refusal before.here ≡ refusal → OpensLedger (Err exit) (recovered before.here.file0 before.here.file1)
    → Adds (Opening (see old).clock before.here) (see old).clock (see mid).clock → OnAnswer exit (RestsHere before.here (see mid).told (see mid).clock) → Ends see exit result (closing_line state exit) mid new
    → Adds (PrintMoment (see mid).clock (closing_line state exit)) (see mid).clock (see new).clock → IfSome refusal (λ why. Adds (ReportMoment (see old).clock (stop_line why) before.here) (see old).clock (see new).clock)
refused_stops see exit result state before old mid new None is opens opening rests ends prints = tt
refused_stops see exit result state before old mid new (Some why) is opens opening rests ends prints = by ends (refused_as (recovered before.here.file0 before.here.file1) why exit is opens)
  where
    by : Ends see exit result (closing_line state exit) mid new → (exit ≡ why) ⊎ IsCut exit → Adds (ReportMoment (see old).clock (stop_line why) before.here) (see old).clock (see new).clock
    by (inr cut) found =
        subst (λ x. Adds (ReportMoment (see old).clock (stop_line why) before.here) (see old).clock (see x).clock) (sym cut.2) (unprinted (see old).clock (see mid).clock before (see mid).told why is opening)
    by (inl said) (inr cut) = absurd (not_both exit cut said.0)
    by (inl said) (inl same) =
        last_printed (see old).clock (see mid).clock before (see mid).told why is opening (see new).clock
        (subst (λ (e : CallEnding). IfAnswered e (RestsHere before.here (see mid).told (see mid).clock)) (answers exit said.0) rests)
        (subst (λ line. Adds (PrintMoment (see mid).clock line) (see mid).clock (see new).clock) (ap (closing_line state) same ∙ refusal_line (recovered before.here.file0 before.here.file1) why state is) prints)

pub files_refused : {X : Type 0} (see : X → Seen) (Same : Type 0) (exit result : Exit) (state : State) (old mid new : X) → Same → LeavesDevice (see old).told (see new).told (see old).clock (see new).clock
    → Relates AfterOpening (see old).told (see mid).told → IfSome (see old).told (λ t. OpensLedger (Err exit) (recovered t.here.file0 t.here.file1)) → Ends see exit result (closing_line state exit) mid new
    → ((t : Told) → (see old).told ≡ Some t → Adds (Opening (see old).clock t.here) (see old).clock (see mid).clock) → OnAnswer exit ((t : Told) → (see old).told ≡ Some t → RestsHere t.here (see mid).told (see mid).clock)
    → Adds (PrintMoment (see mid).clock (closing_line state exit)) (see mid).clock (see new).clock → OverRefused (Refuses result Same (see old).clock (see new).clock) (Some Run) (see old).told (see new).told
files_refused see Same exit result state old mid new same device after opens ends opening rests prints =
    over_refused (Refuses result Same (see old).clock (see new).clock) (see old).told (see new).told (λ before one.
    refuses_whole result Same (see old).clock (see new).clock before (see new).told (files_refusal before.here) same
    (subst (λ o. LeavesDevice o (see new).told (see old).clock (see new).clock) one device)
    (refused_stops see exit result state before old mid new (files_refusal before.here) refl (if_told (λ t. OpensLedger (Err exit) (recovered t.here.file0 t.here.file1)) (see old).told before one opens) (opening before one)
    (answer_weaker exit ((t : Told) → (see old).told ≡ Some t → RestsHere t.here (see mid).told (see mid).clock) (RestsHere before.here (see mid).told (see mid).clock) rests (λ holds. holds before one)) ends prints)
    (refused_so see exit result state before old mid new one after opens ends))

-- ---- a run, from what its parts did

-- no call was made
recovery_none : (t : Told) → AfterRecovery t t
recovery_none t = record {
  file0 = refl;
  file1 = refl;
  store = refl;
  text = refl;
  volatile = refl;
  accesses = refl;
  calls = record {
    made = [];
    listed = sym (append-nil t.disk_calls);
    are = record { whole = syncs; are = record { reading = []; is = refl; alone = All-nil IsReading }; begins = (syncs, refl) };
  };
}
  where
    syncs : List DiskCall
    syncs = Sync Zero ∷ Sync One ∷ []

pub starved_refused : (Same : Type 0) (told : Option Told) (clock : Clock) → Same → OverRefused (Refuses NoMemory Same clock clock) (Some Run) told told
starved_refused Same None clock same = tt
starved_refused Same (Some t) clock same = refuses_whole NoMemory Same clock clock t (Some t) (files_refusal t.here) same (device_stays (Some t) clock) (still (files_refusal t.here)) (by (files_refusal t.here))
  where
    still : (refusal : Option Exit) → IfSome refusal (λ why. Adds (ReportMoment clock (stop_line why) t.here) clock clock)
    still None = tt
    still (Some why) = adds_none (ReportMoment clock (stop_line why) t.here) clock

    by : (refusal : Option Exit) → IfSome refusal (λ why. IsSomeAnd (Some t) (RefusesSo why NoMemory t))
    by None = tt
    by (Some why) = refuses_cut why NoMemory t t (inr (inr (inr refl))) (recovery_none t).calls refl (sym (append-nil t.here.out)) (record { file0 = refl; file1 = refl })

pub none_called : {X : Type 0} (see : X → Seen) (start : Start) (script : List ℕ) (t : Told) (x : X) → (see x).told ≡ Some t → DoesRun see start script NoMemory t x x
none_called see start script t x is =
    let opened : AfterOpening t t = told_opened (Some t) (Some t) (recovery_none t) in
    inl (record { cut = tt; told = rw is opened; unopened = rw is (inl (recovery_none t)); stops = adds_none (Opening (see x).clock t.here) (see x).clock; syncs = inr (record { calls = rw is (nothing_called (λ made. IsPrefixOf made both_syncs) (both_syncs, refl) t); stops = adds_none (LeftNow (see x).clock) (see x).clock }) })

-- the journal wasn't opened
pub not_opened : {X : Type 0} (see : X → Seen) (account : State) (script : List ℕ) (exit result : Exit) (line : List ℕ) (t : Told) (a b new : X) → (see a).told ≡ Some t → Recovers account t.here
    → IfSome (see a).told (λ u. OpensLedger (Err exit) (recovered u.here.file0 u.here.file1)) → Relates AfterOpening (see a).told (see b).told
    → Relates (LeavesUnopened (exit ≡ DiskFault)) (see a).told (see b).told → Adds (Opening (see a).clock t.here) (see a).clock (see b).clock → MaySync see (OpeningSynced t.here) t a b → Ends see exit result line b new → DoesRun see (start_of account t) script result t a new
not_opened see account script exit result line t a b new is recovers opens after unopened stops syncs ends = by ends
  where
    cut : IsCutOpening exit
    cut = cut_opening exit account (recovered t.here.file0 t.here.file1) recovers.is (if_told (λ u. OpensLedger (Err exit) (recovered u.here.file0 u.here.file1)) (see a).told t is opens)

    some : (P : Told → Told → Type 0) → Relates P (see a).told (see b).told → IsSomeAnd (see b).told (P t)
    some P relates = let found = told_on P (see a).told (see b).told t is relates in rw found.1 found.2

    by : Ends see exit result line b new → DoesRun see (start_of account t) script result t a new
    by (inl said) = absurd (not_both exit (cut_is exit cut) said.0)
    by (inr ended) = rw (ended.1, ended.2) (inl (record { cut = cut; told = some AfterOpening after; unopened = some (LeavesUnopened (exit ≡ DiskFault)) unopened; stops = stops; syncs = syncs }))

-- the journal was opened
pub ledger_holds : (start : Start) (ledger : Ledger) (u : Told) (told : Option Told) (clock : Clock) → IsStart start ledger u → IsAccount ledger.account.state → Before ledger.journal.standing ledger.account.state u told clock → HoldsAt (first_site start) u
ledger_holds start ledger u told clock begins account before = record {
  account = subst IsAccount begins.account account;
  at = record { recovers = before.at.recovers ∙ ap Ok begins.account; position = before.at.position ∙ ap Some begins.standing };
  board = begins.board;
  drivable = tt;
}

pub was_opened : {X : Type 0} (see : X → Seen) (start : Start) (script : List ℕ) (exit : Exit) (ledger : Ledger) (t : Told) (a b new : X) → (is : (see a).told ≡ Some t)
    → (after : Relates AfterOpening (see a).told (see b).told) → IsStart start ledger (told_on AfterOpening (see a).told (see b).told t is after).0 → IsAccount ledger.account.state
    → Relates MakesOpening (see a).told (see b).told → Adds (Opening (see a).clock t.here) (see a).clock (see b).clock → SyncsFirst see (OpeningSynced t.here) t a b → IsReady ledger (see b)
    → TakesScript see start script (told_on AfterOpening (see a).told (see b).told t is after).0 exit b new → OpensRun see start script exit t a new
was_opened see start script exit ledger t a b new is after begins account makes stops syncs ready takes =
    let found = told_on AfterOpening (see a).told (see b).told t is after in
    let before = before_of ledger.journal.standing ledger.account.state (see b).told (see b).clock found.0 ready.stands found.1 in
    record {
      mid = b;
      there = found.0;
      makes = told_both MakesOpening (see a).told (see b).told t found.0 is found.1 makes;
      text = found.2.text;
      stops = stops;
      syncs = syncs;
      rests = before.rests;
      holds = ledger_holds start ledger found.0 (see b).told (see b).clock begins account before;
      takes = takes;
    }

-- the journal was opened, and the source was read after the orders, or left alone
pub opened_comes : {X : Type 0} (see : X → Seen) (Same : Type 0) (start : Start) (script : List ℕ) (exit : Exit) (t there : Told) (left : Option (List ℕ)) (old mid new : X) → there.here.out ≡ t.here.out
    → OpensRun see start script exit t old new → ComesScript see Same start script there exit left mid new → Comes see Same start script exit t left old new
opened_comes see Same start script exit t there left old mid new text opens comes = record {
  does = inr opens;
  reads = elim comes.reads [
    | inl same ↦ inl same
    | inr ahead ↦ inr (opens, subst (λ out. EndsAhead (exit ≡ SourceFault) start script (lines_from start out) left (see new).told) text ahead)
  ];
}

-- the device is left alone while the journal is opened
pub opening_device : (told new : Option Told) (a b : Clock) → Relates AfterOpening told new → ((t : Told) → told ≡ Some t → Adds (Opening a t.here) a b)
    → ((m n : ℕ) (left : Left) → m ≤ n → b.may_leave_since n left → b.may_leave_since m left) → LeavesDevice told new a b
opening_device told new a b after stops earlier =
    device_by AfterOpening told new a b (λ u v opened. record { store = opened.store; volatile = opened.volatile; accesses = opened.accesses }) after
    (λ t is stored. record {
      since = adds_weaker (Opening a t.here) (λ left. left.store ≡ t.here.store) a b (stops t is) (left_store t stored);
      now = λ left now. elim ((stops t is).each a.now left (omega arith) (earlier a.now b.now left (stops t is).later now)) [ inl was ↦ stored left was | inr opening ↦ left_store t stored left opening ];
    })
  where
    left_store : (t : Told) → IsStored t.here.store a → (left : Left) → Opening a t.here left → left.store ≡ t.here.store
    left_store t stored left (inl before) = stored left before
    left_store t stored left (inr formats) = ap (λ (l : Left). l.store) formats.rest

-- ---- how a run ends, and what crashes leave of it

module _ {X : Type 0} (see : X → Seen) (account : State) (script : List ℕ) (exit : Exit) (t : Told) (old new : X) (recovers : Recovers account t.here) where
  abbrev start : Start
  start = start_of account t

  early_by : (ending : CallEnding) → ending_of exit ≡ ending → EndsBy ⊥ ⊤ (OnlyFault disk_call) ending → (u : Told) → LeavesUnopened (exit ≡ DiskFault) t u → EndsIn start script exit ending t.here.out u
  early_by answered so never u unopened = absurd never
  early_by source_failed so never u unopened = absurd never
  early_by (faulted kind) so only u unopened = tt
  early_by starved so any u (inl kept) = early_none start script t u (record { is = rw (kept.file0, kept.file1) recovers.is }) kept.store kept.text
  early_by starved so any u (inr failed) = absurd (not_starved exit so failed.0)

  pub run_ends : DoesRun see start script exit t old new → IsSomeAnd (see new).told (RunEnds start script exit t.here.out)
  run_ends (inr d) = subst (λ out. IsSomeAnd (see new).told (RunEnds start script exit out)) d.text (takes_runs see start script d.there exit d.mid new d.rests d.holds d.takes)
  run_ends (inl d) = by (see new).told d.unopened
    where
      by : (told : Option Told) → IsSomeAnd told (LeavesUnopened (exit ≡ DiskFault) t) → IsSomeAnd told (RunEnds start script exit t.here.out)
      by None never = absurd never
      by (Some u) unopened = early_by (ending_of exit) refl d.cut u unopened

  pub run_stops : DoesRun see start script exit t old new → Adds (RunMoment (see old).clock start script t.here) (see old).clock (see new).clock
  run_stops (inl d) = opening_moments account script t (see old).clock (see new).clock recovers d.stops
  run_stops (inr d) =
      adds_both (RunMoment (see old).clock start script t.here) (see old).clock (see d.mid).clock (see new).clock
      (opening_moments account script t (see old).clock (see d.mid).clock recovers d.stops)
      (opened_moments (see old).clock start script t d.there (see d.mid).clock (see new).clock d.holds.account d.text (takes_stops see start script d.there exit d.mid new d.rests d.holds d.takes))

-- what follows if source and board are modelled and the files give an account
pub over_comes : {X : Type 0} (see : X → Seen) (Same : Type 0) (P : Start → List ℕ → Told → Type 0) (task : Option Task) (script left : Option (List ℕ)) (told : Option Told) (exit : Exit) (old new : X) → task ≡ Some Run
    → ((account : State) (text : List ℕ) (t : Told) → script ≡ Some text → told ≡ Some t → Recovers account t.here → Comes see Same (start_of account t) text exit t left old new → P (start_of account t) text t)
    → OverRun (λ start text t. Comes see Same start text exit t left old new) (Some Run) script told → OverRun P task script told
over_comes see Same P task script left told exit old new is gives comes = rw is (by script told gives comes)
  where
    by : (script : Option (List ℕ)) (told : Option Told)
        → ((account : State) (text : List ℕ) (t : Told) → script ≡ Some text → told ≡ Some t → Recovers account t.here → Comes see Same (start_of account t) text exit t left old new → P (start_of account t) text t)
        → OverRun (λ start text t. Comes see Same start text exit t left old new) (Some Run) script told → OverRun P (Some Run) script told
    by (Some text) (Some t) gives comes = λ account recovers. gives account text t refl refl recovers (comes account recovers)
    by None told gives comes = tt
    by (Some text) None gives comes = tt
