-- What crashes leave while a line prints is one of the line's stages.
use Rattle.std.proofs.Common.{◌≡◌, ◌∙◌, ℕ, List, [], ◌++◌, refl, sym, ap, subst, inl, inr, append-nil}
use Rattle.board_core.specs.Doing.{Moment}
use Rattle.board_core.specs.Stop.{Begins, InOut, Left}
use Rattle.board_core.specs.Told.{Told}
use Rattle.ras_account.specs.Account.{State}
use Rattle.ras_journal.specs.declared.standing.Standing.{Standing}
use Rattle.ras_journal.specs.Recovered.{IsAt, Recovers, recovered}
use Rattle.ras_exit.specs.Acts.{print_acts}
use Rattle.ras_exit.proofs.PrintLemmas.{print_moment}
use Rattle.ras_run.specs.Moments.{Course, CourseMoment, store_left}

-- ---- one print

begun : (piece : List ℕ) (here left : Left) → InOut (Begins piece) here left → Begins piece here.out left.out
begun piece here left by = record {
  part = by.step.part;
  missing = by.step.missing;
  splits = by.step.splits;
  is = ap (λ (l : Left). l.out) by.rest ∙ by.step.is;
}

recovers_printed : (s : Standing) (a : State) (piece : List ℕ → List ℕ → Type 0) (here left : Left) → IsAt s a here → InOut piece here left → Recovers a left
recovers_printed s a piece here left at by = record { is = ap (λ (l : Left). recovered l.file0 l.file1) by.rest ∙ at.recovers }

pub begins_nothing : (piece : List ℕ) (here left : Left) → left.out ≡ here.out → Begins piece here.out left.out
begins_nothing piece here left same = record { part = []; missing = piece; splits = refl; is = same ∙ sym (append-nil here.out) }

-- ---- the prints of a line whose new entries are appended

module _ (Accepted : Type 0) (accepted : Accepted) (c : Course) (out : List ℕ) (u : Told) (s : Standing) (at : IsAt s c.after u.here) where
  -- While the line's text is printed.
  pub text_moment : u.here.store ≡ c.stored → u.here.out ≡ out → (left : Left) → Moment (print_acts c.text) u left → CourseMoment Accepted c out left
  text_moment store text left moment =
      let by : InOut (Begins c.text) u.here left = print_moment c.text u left moment in
      inr (
        accepted,
        inl (record {
          recovers = recovers_printed s c.after (Begins c.text) u.here left at by;
          store = ap (λ (l : Left). l.store) by.rest ∙ store;
          text = subst (λ before. Begins c.text before left.out) text (begun c.text u.here left by);
        }),
      )

  -- While the done line is printed, once all records are cleared.
  pub done_moment : u.here.store ≡ store_left c → u.here.out ≡ out ++ c.text → (left : Left) → Moment (print_acts c.done) u left → CourseMoment Accepted c out left
  done_moment store text left moment =
      let by : InOut (Begins c.done) u.here left = print_moment c.done u left moment in
      inr (
        accepted,
        inr (inr (record {
          recovers = recovers_printed s c.after (Begins c.done) u.here left at by;
          store = ap (λ (l : Left). l.store) by.rest ∙ store;
          text = subst (λ before. Begins c.done before left.out) text (begun c.done u.here left by);
        })),
      )
