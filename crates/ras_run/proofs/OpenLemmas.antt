-- What an opening returns for a journal whose files are valid.
use Rattle.std.proofs.Common.{◌≡◌, ℕ, ◌≤◌, List, Option, None, Some, ap, sym, subst, ◌∙◌, inl, inr}
use Rattle.erst_store.specs.Store.{Stored}
use Rattle.board_core.specs.Clock.{Clock}
use Rattle.board_core.specs.Stop.{Left}
use Rattle.board_core.specs.Told.{Told}
use Rattle.ras_account.specs.Account.{State}
use Rattle.ras_journal.specs.declared.standing.Standing.{Standing}
use Rattle.ras_journal.specs.Appending.{Before}
use Rattle.ras_journal.specs.Recovered.{position_of}
use Rattle.ras_recover.specs.Opening.{OnRefusal, Opening}
use Rattle.ras_recover.specs.OpeningCalls.{AfterOpening}
use Rattle.ras_recover.specs.declared.refused.OpenRefused.{OpenRefused}
use Rattle.ras_recover.specs.declared.refused.OpenRefused.TheVariants as opening
use Rattle.ras_exit.specs.Endings.{OnAnswer}
use Rattle.ras_exit.specs.declared.exit.Exit.{Exit}
use Rattle.ras_run.specs.Taking.{unopened_exit}

-- What a crash may leave since a moment, it may also leave since an earlier moment.
abbrev pub CountsEarlier : Clock → Type 0
CountsEarlier clock = (s t : ℕ) (left : Left) → s ≤ t → clock.may_leave_since t left → clock.may_leave_since s left

pub opening_left : (s : Standing) (a : State) (t : Told) (told : Option Told) (old : Clock) (left : Left) → Before s a t told old → Opening old t.here left → left ≡ t.here
opening_left s a t told old left before (inl was) = before.rests.only left was
opening_left s a t told old left before (inr formats) =
    absurd (let none : position_of t.here.file0 t.here.file1 ≡ None = formats.none.none in let some : position_of t.here.file0 t.here.file1 ≡ Some s = before.at.position in cc)

pub here_kept : (s : Standing) (a : State) (t u : Told) (told : Option Told) (old : Clock) → Before s a t told old → AfterOpening t u → u.here ≡ t.here
here_kept s a t u told old before opened =
    let zero : u.here.file0 ≡ t.here.file0 = elim opened.file0 [
      | inl same ↦ same
      | inr none ↦ absurd (let none_at : position_of t.here.file0 t.here.file1 ≡ None = none.none in let some : position_of t.here.file0 t.here.file1 ≡ Some s = before.at.position in cc)
    ] in
    ap (λ bytes. record u.here { file0 = bytes }) zero
    ∙ (ap (λ bytes. record u.here { file0 = t.here.file0; file1 = bytes }) opened.file1
    ∙ (ap (λ (records : List Stored). record u.here { file0 = t.here.file0; file1 = t.here.file1; store = records }) opened.store
    ∙ ap (λ text. record t.here { out = text }) opened.text))

-- files that reject a run
pub refused_so : (why : OpenRefused) (exit : Exit) (P : Type 0) → exit ≡ unopened_exit why → OnRefusal why P → OnAnswer exit P
refused_so why exit P is holds = subst (λ (e : Exit). OnAnswer e P) (sym is) (by why holds)
  where
    by : (why : OpenRefused) → OnRefusal why P → OnAnswer (unopened_exit why) P
    by opening.Disk holds = tt
    by opening.TooLong holds = holds
    by (opening.Damaged file place) holds = holds
    by opening.NoMemory holds = tt
