-- The disk calls of a recovery and of an opening.
use Rattle.std.proofs.Common.{◌≡◌, ◌∙◌, ◌<◌, List, [], ◌∷◌, ◌++◌, length, Option, None, Some, Result, Ok, Err, refl, sym, ap, subst, arith, inl, inr, append_assoc}
use Rattle.std.specs.Prelude.{All, Bool, true, false, IfSome, OnOk}
use Rattle.std.proofs.lemmas.List.{append-nil}
use Rattle.std.proofs.lemmas.List.Elements.{All-cons, All-nil}
use Rattle.ras_base.specs.Prefix.{IsPrefixOf}
use Rattle.ras_base.specs.Steps.PrefixLemmas.{IsPrefixOf-append, IsPrefixOf-refl, IsPrefixOf-trans}
use Rattle.board_core.specs.declared.board.FileNo.{FileNo}
use Rattle.board_core.specs.declared.board.FileNo.TheVariants.{Zero, One}
use Rattle.board_core.specs.declared.board.DiskCall.{DiskCall}
use Rattle.board_core.specs.declared.board.DiskCall.TheVariants.{ReadAt, Sync}
use Rattle.board_core.specs.Cause.{Faults, FailsAs, disk_call}
use Rattle.board_core.specs.Doing.{Act, Does, Ended, FailsActs, Seen, after_acts, broke, calls_of, gave_up, went_well}
use Rattle.board_core.specs.Stop.{Left, file_in}
use Rattle.board_core.specs.Told.{Told, Relates, Steps, with_file}
use Rattle.board_core.proofs.ActLemmas.{calls_by_acts}
use Rattle.ras_account.specs.History.{empty}
use Rattle.ras_account.specs.Account.{State, account_of}
use Rattle.ras_journal.specs.declared.standing.Standing.{Standing}
use Rattle.ras_journal.specs.Recovered.{IsAt, is_shut, position_of, recovered, Refusal}
use Rattle.ras_journal.proofs.FileLemmas.{lies}
use Rattle.ras_journal.proofs.JournalLemmas.{here_of}
use Rattle.ras_recover.specs.declared.refused.OpenRefused.{OpenRefused}
use Rattle.ras_recover.specs.declared.refused.OpenRefused.TheVariants.{Damaged, Disk, NoMemory, TooLong}
use Rattle.ras_recover.specs.DiskCalls.{Calls, IsReading, ReadsPlace, Makes, IsBeginning, with_calls}
use Rattle.ras_recover.specs.Recovering.{open_end, open_failure, open_refused_end}
use Rattle.ras_recover.specs.Steps.Looking.{AreSyncs, AreReads, IfWell, WritesIn}
use Rattle.ras_recover.specs.Opening.{HoldsNone, opening_acts}
use Rattle.ras_recover.specs.OpeningCalls.{IsRecovery, IsRecoveryOf, IsOpening, MakesOpening, ReadsBoth, ReadsStanding, ReadsTo, AfterRecovery, AfterOpening}
use Rattle.ras_recover.proofs.CallsLemmas.{relates_then, relates_weaker, relates_if, relates_steps, calls_then, calls_weaker, calls_seen, both_later, both_read_alone, one_reads, any_left, any_right, makes_calls, makes_weaker}
use Rattle.ras_recover.proofs.KeepingLemmas.{no_faults}
use Rattle.ras_recover.proofs.LooksLemmas.{if_well}
use Rattle.ras_recover.proofs.CountingLemmas.{AreThrough, acts_write, fails_write}
use Rattle.ras_recover.proofs.OpeningLemmas.{acts_are, first_acts, no_acts, none_of, refused_acts}

-- ---- both syncs

abbrev syncs : List DiskCall
syncs = Sync Zero ∷ Sync One ∷ []

-- ---- a recovery

-- the calls of a recovery that ended in this way
pub record OfRecovery (ended : Ended) (here : Left) (calls : List DiskCall) : Type 0 where
  pub recovery : IsRecovery calls
  pub reads : IfWell ended (ReadsBoth here calls)

abbrev pub Recovers : Ended → Told → Told → Type 0
Recovers ended old new = Calls (OfRecovery ended old.here) old new

of_recovery : (ended : Ended) (here : Left) (xs ys : List DiskCall) → xs ≡ syncs → AreReads ended (ReadsBoth here) ys → OfRecovery ended here (xs ++ ys)
of_recovery ended here xs ys both reads = record {
  recovery = record { reading = ys; is = ap (λ (l : List DiskCall). l ++ ys) both; alone = reads.alone };
  reads = if_well ended (ReadsBoth here ys) (ReadsBoth here (xs ++ ys)) (both_later here xs ys) reads.done;
}

recovers_then : (ended : Ended) (x y z : Told) → Calls (λ l. l ≡ syncs) x y → Calls (AreReads ended (ReadsBoth y.here)) y z → Recovers ended x z
recovers_then ended x y z first second =
    let here : y.here ≡ x.here = ap (λ (t : Told). t.here) first.is in
    calls_then (λ l. l ≡ syncs) (AreReads ended (ReadsBoth x.here)) (OfRecovery ended x.here) (of_recovery ended x.here) x y z first
    (subst (λ (l : Left). Calls (AreReads ended (ReadsBoth l)) y z) here second)

pub recovers : {S : Type 0} (E : Type 0) (done : S) (ended : Ended) (a b c : Option Told) → Relates (Calls (AreSyncs {E = E} (Ok done))) a b → Relates (λ y. Calls (AreReads ended (ReadsBoth y.here)) y) b c → Relates (Recovers ended) a c
recovers {S} E done ended a b c first second =
    relates_then (Calls (λ l. l ≡ syncs)) (λ y. Calls (AreReads ended (ReadsBoth y.here)) y) (Recovers ended) (recovers_then ended) a b c
    (calls_seen (AreSyncs {E = E} (Ok done)) (λ l. l ≡ syncs) (λ xs are. are.done) a b first) second

-- ---- the model after a recovery

recovery_told : (x y : Told) → Calls (IsBeginning IsRecovery) x y → AfterRecovery x y
recovery_told x y calls = record {
  file0 = ap (λ (t : Told). t.here.file0) calls.is;
  file1 = ap (λ (t : Told). t.here.file1) calls.is;
  store = ap (λ (t : Told). t.here.store) calls.is;
  text = ap (λ (t : Told). t.here.out) calls.is;
  volatile = ap (λ (t : Told). t.volatile) calls.is;
  accesses = ap (λ (t : Told). t.accesses) calls.is;
  calls = makes_calls (IsBeginning IsRecovery) x y calls;
}

all_begun : (Are : List DiskCall → Type 0) (calls : List DiskCall) → Are calls → IsBeginning Are calls
all_begun Are calls are = record { whole = calls; are = are; begins = IsPrefixOf-refl calls }

syncs_begin : {T E : Type 0} (result : Result T E) (calls : List DiskCall) → AreSyncs result calls → IsBeginning IsRecovery calls
syncs_begin result calls are = record { whole = syncs; are = record { reading = []; is = refl; alone = All-nil IsReading }; begins = are.begins }

pub told_unsynced : {T E : Type 0} (result : Result T E) (a b : Option Told) → Relates (Calls (AreSyncs result)) a b → Relates AfterRecovery a b
told_unsynced result a b calls =
    relates_weaker (Calls (IsBeginning IsRecovery)) AfterRecovery recovery_told a b (calls_seen (AreSyncs result) (IsBeginning IsRecovery) (syncs_begin result) a b calls)

pub told_recovered : (ended : Ended) (a b : Option Told) → Relates (Recovers ended) a b → Relates AfterRecovery a b
told_recovered ended a b calls =
    relates_weaker (Recovers ended) AfterRecovery
    (λ x y c. recovery_told x y (calls_weaker (OfRecovery ended x.here) (IsBeginning IsRecovery) (λ l of. all_begun IsRecovery l of.recovery) x y c)) a b calls

pub reads_recovered : {T : Type 0} (result : Result T OpenRefused) (a b : Option Told) → Relates (Recovers (open_end result)) a b → OnOk result (Relates (λ old. Calls (IsRecoveryOf old.here) old) a b)
reads_recovered (Ok x) a b calls =
    relates_weaker (Recovers went_well) (λ old. Calls (IsRecoveryOf old.here) old)
    (λ t u c. calls_weaker (OfRecovery went_well t.here) (IsRecoveryOf t.here) (λ l of. record { recovery = of.recovery; reads = of.reads }) t u c) a b calls
reads_recovered (Err why) a b calls = tt

-- ---- whole recoveries and openings of any files

-- Reads of every offset of both files.
abbrev pub reads_all : Left → List DiskCall
reads_all here = ReadAt Zero 0 (length here.file0) ∷ ReadAt One 0 (length here.file1) ∷ []

reads_all_alone : (here : Left) → All IsReading (reads_all here)
reads_all_alone here = All-cons IsReading (ReadAt Zero 0 (length here.file0)) (ReadAt One 0 (length here.file1) ∷ []) tt (one_reads (ReadAt One 0 (length here.file1)) tt)

reads_all_both : (here : Left) → ReadsBoth here (reads_all here)
reads_all_both here = record {
  zero = λ taken front place stands before.
      (let within : front.gate < length here.file0 = (lies taken here.file0 front stands).within in
      any_left (ReadsPlace Zero place) (ReadAt Zero 0 (length here.file0) ∷ []) (ReadAt One 0 (length here.file1) ∷ []) (0, ReadAt Zero 0 (length here.file0), omega arith, refl, (refl, omega arith, omega arith)));
  one = λ taken front place stands before.
      (let within : front.gate < length here.file1 = (lies taken here.file1 front stands).within in
      any_right (ReadsPlace One place) (ReadAt Zero 0 (length here.file0) ∷ []) (ReadAt One 0 (length here.file1) ∷ []) (0, ReadAt One 0 (length here.file1), omega arith, refl, (refl, omega arith, omega arith)));
}

-- Any recovery can be continued to one that reads all that decides the result.
pub recovery_on : (here : Left) (calls : List DiskCall) → IsRecovery calls → IsRecoveryOf here (calls ++ reads_all here)
recovery_on here calls is = record {
  recovery = record {
    reading = is.reading ++ reads_all here;
    is = ap (λ (l : List DiskCall). l ++ reads_all here) is.is;
    alone = both_read_alone is.reading (reads_all here) is.alone (reads_all_alone here);
  };
  reads = both_later here calls (reads_all here) (reads_all_both here);
}

opening_of : (here : Left) (calls : List DiskCall) → IsRecoveryOf here calls → IsOpening here (calls ++ calls_of (opening_acts here))
opening_of here calls is = record { recovery = calls; recovers = is; is = refl }

-- There is an opening of any two files.
pub an_opening : (here : Left) → (calls : List DiskCall) × IsOpening here calls
an_opening here = (_, opening_of here (syncs ++ reads_all here) (recovery_on here syncs (record { reading = []; is = refl; alone = All-nil IsReading })))

-- ---- an opening that writes nothing

begun_of : (here : Left) (calls : List DiskCall) → IsBeginning IsRecovery calls → IsBeginning (IsOpening here) calls
begun_of here calls begun =
    let whole = begun.whole ++ reads_all here in
    record {
      whole = whole ++ calls_of (opening_acts here);
      are = opening_of here whole (recovery_on here begun.whole begun.are);
      begins = IsPrefixOf-trans calls begun.whole (whole ++ calls_of (opening_acts here)) begun.begins
          (IsPrefixOf-trans begun.whole whole (whole ++ calls_of (opening_acts here)) (IsPrefixOf-append begun.whole (reads_all here)) (IsPrefixOf-append whole (calls_of (opening_acts here))));
    }

opening_told : (x y : Told) → AfterRecovery x y → AfterOpening x y
opening_told x y after = record {
  file0 = inl after.file0;
  file1 = after.file1;
  store = after.store;
  text = after.text;
  volatile = after.volatile;
  accesses = after.accesses;
  calls = makes_weaker (IsBeginning IsRecovery) (IsBeginning (IsOpening x.here)) (begun_of x.here) x y after.calls;
}

pub told_opened : (a b : Option Told) → Relates AfterRecovery a b → Relates AfterOpening a b
told_opened a b after = relates_weaker AfterRecovery AfterOpening opening_told a b after

abbrev pub Reads : Told → Told → Type 0
Reads old new = Calls (IsRecoveryOf old.here) old new

-- If a file is valid, an opening is a recovery.
pub opens_standing : (standing : Standing) (a b : Option Told) → IfSome a (λ t. position_of t.here.file0 t.here.file1 ≡ Some standing) → Relates Reads a b → Relates MakesOpening a b
opens_standing standing a b stands reads =
    relates_weaker (λ x y. (position_of x.here.file0 x.here.file1 ≡ Some standing) × Reads x y) MakesOpening
    (λ x y both. record {
      recovery = both.1.made;
      recovers = both.1.are;
      is = both.1.is ∙ sym (ap (λ (acts : List Act). after_acts acts (with_calls both.1.made x)) (no_acts x.here standing both.0));
    }) a b (relates_if (λ t. position_of t.here.file0 t.here.file1 ≡ Some standing) Reads a b stands reads)

-- ---- an opening that formats

-- No file is valid, and this says whether file 0 is shut.
abbrev pub Formats : State → Bool → Left → Type 0
Formats account shut here = HoldsNone account here × (shut ≡ is_shut here.file0)

abbrev pub Recovered : State → Bool → Told → Told → Type 0
Recovered account shut x y = Formats account shut x.here × Reads x y

pub recovered_none : (account : State) (one two : Bool) (a b : Option Told) → IfSome a (λ t. recovered t.here.file0 t.here.file1 ≡ Ok account) → IfSome a (λ t. position_of t.here.file0 t.here.file1 ≡ None)
    → IfSome a (λ t. (one ≡ is_shut t.here.file0) × (two ≡ is_shut t.here.file1)) → Relates Reads a b → Relates (Recovered account one) a b
recovered_none account one two None b holds none shut reads = reads
recovered_none account one two (Some t) b holds none shut reads =
    relates_if (λ t. Formats account one t.here) Reads (Some t) b (record { recovers = holds; none = none }, shut.0) reads

formats_through : (shut : Bool) (account : State) → AreThrough Zero (first_acts shut account)
formats_through true account = (refl, (refl, tt))
formats_through false account = (refl, (refl, (refl, tt)))

formats_then : (account : State) (shut : Bool) (x y z : Told) → Recovered account shut x y → WritesIn Zero (λ made. IsPrefixOf made (calls_of (first_acts shut account))) y z → AfterOpening x z
formats_then account shut x y z ((none, shut_is), reads) writes =
    let is : z ≡ with_calls writes.made (with_file Zero writes.bytes (with_calls reads.made x)) =
    writes.is ∙ ap (λ (t : Told). with_calls writes.made (with_file Zero writes.bytes t)) reads.is in
    let acts = acts_are account x.here shut none shut_is in
    record {
      file0 = inr (record { recovers = none.recovers ∙ ap (λ (a : State). Ok a) (none_of account x.here none.recovers none.none).account_is; none = none.none });
      file1 = ap (λ (t : Told). t.here.file1) is;
      store = ap (λ (t : Told). t.here.store) is;
      text = ap (λ (t : Told). t.here.out) is;
      volatile = ap (λ (t : Told). t.volatile) is;
      accesses = ap (λ (t : Told). t.accesses) is;
      calls = record {
        made = reads.made ++ writes.made;
        listed = ap (λ (t : Told). t.disk_calls) is ∙ append_assoc x.disk_calls reads.made writes.made;
        are = record {
          whole = reads.made ++ calls_of (first_acts shut account);
          are = record { recovery = reads.made; recovers = reads.are; is = ap (λ (l : List Act). reads.made ++ calls_of l) acts };
          begins = (writes.are.0, append_assoc reads.made writes.made writes.are.0 ∙ ap (λ (l : List DiskCall). reads.made ++ l) writes.are.1);
        };
      };
    }

pub told_formatted : {X : Type 0} (see : X → Seen) (account : State) (shut : Bool) (ended : Ended) (old : Option Told) (a b : X) → Relates (Recovered account shut) old (see a).told → Relates AfterRecovery old (see a).told
    → Does see (first_acts shut account) ended a b → Relates AfterOpening old (see b).told
told_formatted see account shut went_well old a b reads after does =
    relates_then (Recovered account shut) (WritesIn Zero (λ made. IsPrefixOf made (calls_of (first_acts shut account)))) AfterOpening (formats_then account shut) old (see a).told (see b).told reads
    (relates_steps (WritesIn Zero (λ made. IsPrefixOf made (calls_of (first_acts shut account)))) (after_acts (first_acts shut account)) (acts_write Zero (first_acts shut account) (formats_through shut account)) (see a).told (see b).told does.told)
told_formatted see account shut (broke kind) old a b reads after does =
    relates_then (Recovered account shut) (WritesIn Zero (λ made. IsPrefixOf made (calls_of (first_acts shut account)))) AfterOpening (formats_then account shut) old (see a).told (see b).told reads
    (relates_weaker (FailsActs kind (first_acts shut account)) (WritesIn Zero (λ made. IsPrefixOf made (calls_of (first_acts shut account)))) (fails_write kind Zero (first_acts shut account) (formats_through shut account)) (see a).told (see b).told does.told)
told_formatted see account shut gave_up old a b reads after same = subst (λ x. Relates AfterOpening old (see x).told) (sym same) (told_opened old (see a).told after)

pub opens_formatted : (account : State) (shut : Bool) (old a b : Option Told) → Relates (Recovered account shut) old a → Steps (after_acts (first_acts shut account)) a b → Relates MakesOpening old b
opens_formatted account shut old a b reads steps =
    relates_then (Recovered account shut) (λ y z. z ≡ after_acts (first_acts shut account) y) MakesOpening
    (λ x y z both is. record {
      recovery = both.1.made;
      recovers = both.1.are;
      is = is ∙ (ap (after_acts (first_acts shut account)) both.1.is ∙ ap (λ (acts : List Act). after_acts acts (with_calls both.1.made x)) (acts_are account x.here shut both.0.0 both.0.1));
    }) old a b reads (relates_steps (λ y z. z ≡ after_acts (first_acts shut account) y) (after_acts (first_acts shut account)) (λ t. refl) a b steps)

-- ---- faults

pub refusal_cause : {X : Type 0} (T : Type 0) (see : X → Seen) (acts : List Act) (why : OpenRefused) (f : Faults) (a b : X) → (see a).faults ≡ f → Does see acts (open_refused_end why) a b → FailsAs disk_call f (see b).faults (open_failure {T = T} (Err why))
refusal_cause T see acts Disk f a b is does =
    subst (λ (g : Faults). FailsAs {T = Unit {0}} {E = OpenRefused} disk_call g (see b).faults (Err Disk)) is
    (record { own = record { later = does.faults.later; failed = does.faults.own; same = tt }; others = does.faults.others })
refusal_cause T see acts TooLong f a b is same = no_faults f (see b).faults tt (ap (λ x. (see x).faults) same ∙ is)
refusal_cause T see acts (Damaged file place) f a b is same = no_faults f (see b).faults tt (ap (λ x. (see x).faults) same ∙ is)
refusal_cause T see acts NoMemory f a b is same = no_faults f (see b).faults tt (ap (λ x. (see x).faults) same ∙ is)

-- ---- the calls of an opening

-- An opening that returned `Ok` made the calls of a whole opening.
pub opens_calls : (x y : Told) → MakesOpening x y → Makes (IsOpening x.here) x y
opens_calls x y opens = record {
  made = opens.recovery ++ calls_of (opening_acts x.here);
  listed = ap (λ (t : Told). t.disk_calls) opens.is
      ∙ (calls_by_acts (opening_acts x.here) (with_calls opens.recovery x) ∙ append_assoc x.disk_calls opens.recovery (calls_of (opening_acts x.here)));
  are = opening_of x.here opens.recovery opens.recovers;
}

pub calls_opened : (a b : Option Told) → Relates MakesOpening a b → Relates (λ old. Makes (IsOpening old.here) old) a b
calls_opened a b opens = relates_weaker MakesOpening (λ old. Makes (IsOpening old.here) old) opens_calls a b opens

recovers_alone : (here : Left) (calls : List DiskCall) → opening_acts here ≡ [] → IsOpening here calls → IsRecoveryOf here calls
recovers_alone here calls none opening =
    subst (IsRecoveryOf here) (sym (opening.is ∙ (ap (λ (acts : List Act). opening.recovery ++ calls_of acts) none ∙ append-nil opening.recovery))) opening.recovers

-- If a file is valid, the calls of an opening are the calls of a recovery.
pub standing_recovers : (standing : Standing) (here : Left) (calls : List DiskCall) → position_of here.file0 here.file1 ≡ Some standing → IsOpening here calls → IsRecoveryOf here calls
standing_recovers standing here calls stands opening = recovers_alone here calls (no_acts here standing stands) opening

-- ---- if the files are rejected, nothing is written

-- The files are unchanged.
pub refused_keeps : (why : Refusal) (x y : Told) → recovered x.here.file0 x.here.file1 ≡ Err why → AfterOpening x y → y.here.file0 ≡ x.here.file0
refused_keeps why x y refused after = elim after.file0 [ inl same ↦ same | inr none ↦ absurd (no_account (sym refused ∙ none.recovers)) ]
  where
    no_account : ◌≡◌ {A = Result State Refusal} (Err why) (Ok (account_of empty)) → ⊥
    no_account e = cc

-- The opening is only a recovery, which writes to no file.
pub refused_recovers : (why : Refusal) (here : Left) (calls : List DiskCall) → recovered here.file0 here.file1 ≡ Err why → IsOpening here calls → IsRecovery calls
refused_recovers why here calls refused opening = (recovers_alone here calls (refused_acts here why refused) opening).recovery

-- ---- what is read of a journal whose files are valid

reads_in : (file : FileNo) (here : Left) (calls : List DiskCall) → ReadsBoth here calls → ReadsStanding file (file_in file here) calls
reads_in Zero here calls reads = reads.zero
reads_in One here calls reads = reads.one

pub recovery_reads : (standing : Standing) (account : State) (here : Left) (calls : List DiskCall) → IsAt standing account here → IsRecoveryOf here calls → ReadsTo standing.file standing.length calls
recovery_reads standing account here calls at is =
    let h = here_of standing account here at in
    let gate : h.front.gate ≡ standing.length = ap (λ (s : Standing). s.length) h.standing_is in
    λ place within. reads_in standing.file here calls is.reads h.counts.taken h.front place h.counts.reads (omega arith)
