-- An opening in which a disk call failed, as acts.
use Rattle.std.proofs.Common.{◌≡◌, ◌∙◌, ◌≤◌, List, [], ◌∷◌, ◌++◌, length, map, Option, refl, sym, ap, subst, inl, inr, append_assoc, append-nil, arith}
use Rattle.std.specs.Prelude.{Bool}
use Rattle.board_core.specs.declared.board.Access.{Access}
use Rattle.board_core.specs.declared.board.DiskCall.{DiskCall}
use Rattle.board_core.specs.Cause.{disk_call}
use Rattle.board_core.specs.Doing.{Act, Does, FailsActs, Seen, after_acts, calls}
use Rattle.board_core.specs.Stop.{Left}
use Rattle.board_core.specs.Told.{Told, Relates, with_call}
use Rattle.board_core.proofs.DoingLemmas.{fails_then}
use Rattle.ras_account.specs.Account.{State}
use Rattle.ras_recover.specs.declared.refused.OpenRefused.{OpenRefused}
use Rattle.ras_recover.specs.declared.refused.OpenRefused.TheVariants.{Damaged, Disk, NoMemory, TooLong}
use Rattle.ras_recover.specs.DiskCalls.{with_calls}
use Rattle.ras_recover.specs.Opening.{opening_acts}
use Rattle.ras_recover.specs.OpeningActs.{AreOpeningActs, FailsFormatting, LeavesUnopened}
use Rattle.ras_recover.specs.OpeningCalls.{AfterRecovery, IsRecoveryOf}
use Rattle.ras_recover.specs.Recovering.{open_refused_end}
use Rattle.ras_recover.proofs.CallsLemmas.{relates_then, relates_weaker}
use Rattle.ras_recover.proofs.OpeningCallsLemmas.{Recovered, reads_all, recovery_on}
use Rattle.ras_recover.proofs.OpeningLemmas.{acts_are, first_acts}

-- ---- calls that write nothing, as acts

with_more : (call : DiskCall) (made : List DiskCall) (t : Told) → with_calls made (with_call call t) ≡ with_calls (call ∷ made) t
with_more call made t = ap (λ (l : List DiskCall). record t { disk_calls = l }) (append_assoc t.disk_calls (call ∷ []) made)

pub after_reading : (made : List DiskCall) (t : Told) → after_acts (map calls made) t ≡ with_calls made t
after_reading [] t = ap (λ (l : List DiskCall). record t { disk_calls = l }) (sym (append-nil t.disk_calls))
after_reading (call ∷ made) t = after_reading made (with_call call t) ∙ with_more call made t

-- A beginning of the calls was made, and the next call or the last of them failed.
pub reading_fails : (made rest : List DiskCall) (more : List Act) (t : Told) → 1 ≤ length (made ++ rest) → FailsActs disk_call (map calls (made ++ rest) ++ more) t (with_calls made t)
reading_fails [] [] more t some = absurd (omega arith)
reading_fails [] (call ∷ rest) more t some = inl (refl, inl (ap (λ (l : List DiskCall). record t { disk_calls = l }) (append-nil t.disk_calls)))
reading_fails (call ∷ []) rest more t some = inl (refl, inr refl)
reading_fails (call ∷ next ∷ made) rest more t some =
    inr (subst (FailsActs disk_call (map calls (next ∷ made ++ rest) ++ more) (with_call call t)) (with_more call (next ∷ made) t) (reading_fails (next ∷ made) rest more (with_call call t) (omega arith)))

-- In the model only the list of disk calls changed.
pub listed_alone : (t u : Told) (made : List DiskCall) → u.here.file0 ≡ t.here.file0 → u.here.file1 ≡ t.here.file1 → u.here.store ≡ t.here.store → u.here.out ≡ t.here.out → u.volatile ≡ t.volatile → u.accesses ≡ t.accesses
    → u.disk_calls ≡ t.disk_calls ++ made → u ≡ with_calls made t
listed_alone t u made file0 file1 store out volatile accesses listed =
    ap (λ (l : Left). record u { here = l }) here
    ∙ (ap (λ v. record u { here = t.here; volatile = v }) volatile
    ∙ (ap (λ (l : List DiskCall). record u { here = t.here; volatile = t.volatile; disk_calls = l }) listed
    ∙ ap (λ (l : List Access). record t { disk_calls = t.disk_calls ++ made; accesses = l }) accesses))
  where
    here : u.here ≡ t.here
    here =
        ap (λ bytes. record u.here { file0 = bytes }) file0
        ∙ (ap (λ bytes. record u.here { file0 = t.here.file0; file1 = bytes }) file1
        ∙ (ap (λ records. record u.here { file0 = t.here.file0; file1 = t.here.file1; store = records }) store
        ∙ ap (λ text. record t.here { out = text }) out))

-- ---- a call failed, as one of an opening's acts

pub record FailsOpening (t u : Told) : Type 0 where
  pub acts : List Act
  pub are : AreOpeningActs t.here acts
  pub fails : FailsActs disk_call acts t u

-- While the files are read, the model doesn't distinguish a failed call from one that succeeded.
pub recovery_fails : (t u : Told) → AfterRecovery t u → FailsOpening t u
recovery_fails t u after =
    let made : List DiskCall = after.calls.made in
    let begun = after.calls.are in
    let rest : List DiskCall = begun.begins.0 ++ reads_all t.here in
    let whole : List DiskCall = begun.whole ++ reads_all t.here in
    let recovers : IsRecoveryOf t.here whole = recovery_on t.here begun.whole begun.are in
    let is : u ≡ with_calls made t = listed_alone t u made after.file0 after.file1 after.store after.text after.volatile after.accesses after.calls.listed in
    let there : made ++ rest ≡ whole = sym (append_assoc made begun.begins.0 (reads_all t.here)) ∙ ap (λ (l : List DiskCall). l ++ reads_all t.here) begun.begins.1 in
    let some : 1 ≤ length whole = rw recovers.recovery.is (omega arith) in
    let long : 1 ≤ length (made ++ rest) = rw there some in
    record {
      acts = map calls whole ++ opening_acts t.here;
      are = record { recovery = whole; recovers = recovers; is = refl };
      fails = subst (λ (v : Told). FailsActs disk_call (map calls whole ++ opening_acts t.here) t v) (sym is)
          (subst (λ (l : List DiskCall). FailsActs disk_call (map calls l ++ opening_acts t.here) t (with_calls made t)) there (reading_fails made rest (opening_acts t.here) t long));
    }

pub formatting_fails : (t u : Told) → FailsFormatting t u → FailsOpening t u
formatting_fails t u formatting =
    let first : List Act = map calls formatting.recovery in
    record {
      acts = first ++ opening_acts t.here;
      are = record { recovery = formatting.recovery; recovers = formatting.recovers; is = refl };
      fails = fails_then disk_call first (opening_acts t.here) t u
          (subst (λ (v : Told). FailsActs disk_call (opening_acts t.here) v u) (sym (after_reading formatting.recovery t)) formatting.fails);
    }

-- ---- what an opening leaves that didn't return Ok

pub unopened_read : (Failed : Type 0) (a b : Option Told) → Relates AfterRecovery a b → Relates (LeavesUnopened Failed) a b
unopened_read Failed a b after = relates_weaker AfterRecovery (LeavesUnopened Failed) (λ t u read. inl read) a b after

pub unopened_for : (Failed Other : Type 0) (a b : Option Told) → (Failed → Other) → Relates (LeavesUnopened Failed) a b → Relates (LeavesUnopened Other) a b
unopened_for Failed Other a b more leaves =
    relates_weaker (LeavesUnopened Failed) (LeavesUnopened Other) (λ t u either. elim either [ inl read ↦ inl read | inr failed ↦ inr (more failed.0, failed.1) ]) a b leaves

broke_off : (account : State) (shut : Bool) (x y z : Told) → Recovered account shut x y → FailsActs disk_call (first_acts shut account) y z → FailsFormatting x z
broke_off account shut x y z ((none, shut_is), reads) fails = record {
  recovery = reads.made;
  recovers = reads.are;
  fails = subst (λ (v : Told). FailsActs disk_call (opening_acts x.here) v z) reads.is
      (subst (λ (acts : List Act). FailsActs disk_call acts y z) (acts_are account x.here shut none shut_is) fails);
}

unopened_still : {X : Type 0} (see : X → Seen) (Failed : Type 0) (old : Option Told) (a b : X) → Relates AfterRecovery old (see a).told → b ≡ a → Relates (LeavesUnopened Failed) old (see b).told
unopened_still see Failed old a b after same = subst (λ x. Relates (LeavesUnopened Failed) old (see x).told) (sym same) (unopened_read Failed old (see a).told after)

pub unopened_formatting : {X : Type 0} (see : X → Seen) (account : State) (shut : Bool) (why : OpenRefused) (old : Option Told) (a b : X)
    → Relates (Recovered account shut) old (see a).told → Relates AfterRecovery old (see a).told → Does see (first_acts shut account) (open_refused_end why) a b → Relates (LeavesUnopened (why ≡ Disk)) old (see b).told
unopened_formatting see account shut Disk old a b is after breaks =
    relates_then (Recovered account shut) (FailsActs disk_call (first_acts shut account)) (LeavesUnopened (Disk ≡ Disk))
    (λ x y z recovers fails. inr (refl, broke_off account shut x y z recovers fails)) old (see a).told (see b).told is breaks.told
unopened_formatting see account shut TooLong old a b is after same = unopened_still see (TooLong ≡ Disk) old a b after same
unopened_formatting see account shut (Damaged file place) old a b is after same = unopened_still see (Damaged file place ≡ Disk) old a b after same
unopened_formatting see account shut NoMemory old a b is after same = unopened_still see (NoMemory ≡ Disk) old a b after same
