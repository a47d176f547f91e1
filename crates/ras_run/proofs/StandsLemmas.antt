-- The ledger agrees with the board's model again after acts that succeeded.
use Rattle.std.proofs.Common.{◌≡◌, ℕ, List, [], ◌∷◌, ◌++◌, Option, None, Some, IfSome, Result, Ok, Err, OnOk, refl, sym, subst}
use Rattle.board_core.specs.Cause.{print_call}
use Rattle.board_core.specs.Clock.{Clock}
use Rattle.board_core.specs.Steps.ClockLemmas.{not_told}
use Rattle.board_core.specs.Stop.{Left}
use Rattle.board_core.specs.Told.{Relates, Told, Steps}
use Rattle.board_core.specs.Doing.{Act, DeviceCall, Does, GoesWell, Seen, after_acts, one_end}
use Rattle.board_core.proofs.DoingLemmas.{after-append}
use Rattle.erst_interp.specs.Run.{KeepsButDevice, acts_of}
use Rattle.ras_account.specs.Account.{State}
use Rattle.ras_journal.specs.declared.standing.Standing.{Standing}
use Rattle.ras_journal.specs.Appending.{Before}
use Rattle.ras_journal.specs.Recovered.{IsAt}
use Rattle.ras_run.specs.Keeping.{Stands}
use Rattle.ras_exit.specs.Acts.{part_end, print_acts}
use Rattle.ras_exit.specs.declared.exit.Exit.{Exit}
use Rattle.ras_run.specs.declared.ledger.Ledger.{Ledger}
use Rattle.ras_records.proofs.ClearingLemmas.{calls_keep}
use Rattle.ras_run.specs.Taking.{IsReady}

pub same_told : (u t : Told) → Some u ≡ Some t → u ≡ t
same_told u t is = cc

pub before_of : (s : Standing) (a : State) (told : Option Told) (clock : Clock) (t : Told) → Stands s a told clock → told ≡ Some t → Before s a t told clock
before_of s a None clock t stands is = absurd (not_told t is)
before_of s a (Some u) clock t stands is = subst (λ (v : Told). Before s a v (Some u) clock) (same_told u t is) stands

pub stands_by : (s : Standing) (a : State) (t : Told) (told : Option Told) (clock : Clock) → Before s a t told clock → Stands s a told clock
stands_by s a t told clock before = by told before.rests.is before
  where
    by : (o : Option Told) → o ≡ Some t → Before s a t o clock → Stands s a o clock
    by None is b = tt
    by (Some u) is b = subst (λ (v : Told). Before s a v (Some u) clock) (sym (same_told u t is)) b

-- over acts that lead from one account to another
pub stands_on : (acts : List Act) (s s' : Standing) (a a' : State) (old new : Seen) → ((t : Told) → IsAt s a t.here → IsAt s' a' (after_acts acts t).here)
    → Stands s a old.told old.clock → GoesWell acts old new → Stands s' a' new.told new.clock
stands_on acts s s' a a' old new leads stands well = by old.told refl stands well.told
  where
    by : (o : Option Told) → old.told ≡ o → Stands s a o old.clock → Steps (after_acts acts) o new.told → Stands s' a' new.told new.clock
    by None is st steps = rw steps tt
    by (Some t) is st steps = stands_by s' a' (after_acts acts t) new.told new.clock (record {
      rests = well.rests t (record { is = is; only = st.rests.only });
      at = leads t st.at;
    })

-- ---- over prints

pub print_at : (text : List ℕ) (s : Standing) (a : State) (t : Told) → IsAt s a t.here → IsAt s a (after_acts (print_acts text) t).here
print_at [] s a t at = at
print_at (b ∷ text) s a t at = record { recovers = at.recovers; position = at.position }

pub prints_at : (one two : List ℕ) (s : Standing) (a : State) (t : Told) → IsAt s a t.here → IsAt s a (after_acts (print_acts one ++ print_acts two) t).here
prints_at one two s a t at =
    subst (λ (u : Told). IsAt s a u.here) (sym (after-append (print_acts one) (print_acts two) t))
    (print_at two s a (after_acts (print_acts one) t) (print_at one s a t at))

-- The run can process the next line after prints.
pub ready_printed : {X : Type 0} (see : X → Seen) (one two : List ℕ) (ledger : Ledger) (result : Result (Unit {0}) Exit) (x y : X) → IsReady ledger (see x) → Does see (print_acts one ++ print_acts two) (part_end result) x y
    → OnOk result (IsReady ledger (see y))
ready_printed see one two ledger (Ok over) x y ready does = record {
  usable = ready.usable;
  stands = stands_on (print_acts one ++ print_acts two) ledger.journal.standing ledger.journal.standing ledger.account.state ledger.account.state (see x) (see y)
      (prints_at one two ledger.journal.standing ledger.account.state) ready.stands does;
}
ready_printed see one two ledger (Err exit) x y ready does = tt

pub ready_print : {X : Type 0} (see : X → Seen) (text : List ℕ) (ledger : Ledger) (result : Result (Unit {0}) Exit) (x y : X) → IsReady ledger (see x) → Does see (print_acts text) (one_end print_call result) x y
    → OnOk result (IsReady ledger (see y))
ready_print see text ledger (Ok over) x y ready does = record {
  usable = ready.usable;
  stands = stands_on (print_acts text) ledger.journal.standing ledger.journal.standing ledger.account.state ledger.account.state (see x) (see y)
      (print_at text ledger.journal.standing ledger.account.state) ready.stands does;
}
ready_print see text ledger (Err exit) x y ready does = tt

-- ---- over calls of the device

same_files : (s : Standing) (a : State) (old new : Told) → KeepsButDevice old new → IsAt s a old.here → IsAt s a new.here
same_files s a old new keeps at = subst (λ (l : Left). IsAt s a l) (sym keeps.here) (record { recovers = at.recovers; position = at.position })

pub calls_at : (calls : List DeviceCall) (s : Standing) (a : State) (t : Told) → IsAt s a t.here → IsAt s a (after_acts (acts_of calls) t).here
calls_at calls s a t at = same_files s a t (after_acts (acts_of calls) t) (calls_keep calls t) at

pub stands_called : {X : Type 0} (see : X → Seen) (calls : Told → List DeviceCall) (s : Standing) (a : State) (x y : X) → Relates KeepsButDevice (see x).told (see y).told → IfSome (see x).told (λ t. GoesWell (acts_of (calls t)) (see x) (see y))
    → Stands s a (see x).told (see x).clock → Stands s a (see y).told (see y).clock
stands_called see calls s a x y kept does stands = by (see x).told refl kept does stands
  where
    by : (o : Option Told) → (see x).told ≡ o → Relates KeepsButDevice o (see y).told → IfSome o (λ t. GoesWell (acts_of (calls t)) (see x) (see y)) → Stands s a o (see x).clock → Stands s a (see y).told (see y).clock
    by None is kept does st = subst (λ (o : Option Told). Stands s a o (see y).clock) (sym kept) tt
    by (Some t) is kept does st =
        stands_on (acts_of (calls t)) s s a a (see x) (see y) (calls_at (calls t) s a) (subst (λ (o : Option Told). Stands s a o (see x).clock) (sym is) st) does

pub ready_called : {X : Type 0} (see : X → Seen) (calls : Told → List DeviceCall) (ledger : Ledger) (x y : X) → Relates KeepsButDevice (see x).told (see y).told → IfSome (see x).told (λ t. GoesWell (acts_of (calls t)) (see x) (see y))
    → IsReady ledger (see x) → IsReady ledger (see y)
ready_called see calls ledger x y kept does ready = record {
  usable = ready.usable;
  stands = stands_called see calls ledger.journal.standing ledger.account.state x y kept does ready.stands;
}

pub ready_put : {X : Type 0} (see : X → Seen) (call : DeviceCall) (ledger : Ledger) (x y : X) → GoesWell (acts_of (call ∷ [])) (see x) (see y) → IsReady ledger (see x) → IsReady ledger (see y)
ready_put see call ledger x y does ready = record {
  usable = ready.usable;
  stands = stands_on (acts_of (call ∷ [])) ledger.journal.standing ledger.journal.standing ledger.account.state ledger.account.state (see x) (see y)
      (calls_at (call ∷ []) ledger.journal.standing ledger.account.state) ready.stands does;
}
