-- What a call prints for a record, and how far it reads.
use Rattle.std.proofs.Common.{◌≡◌, ℕ, List, [], ◌++◌, Option, None, Some, Err, Ok, Result, refl, sym, append-nil}
use Rattle.board_core.specs.Cause.{print_call}
use Rattle.board_core.specs.Doing.{Does, Seen, broke, went_well}
use Rattle.board_core.specs.Told.{FailsPrint, Relates, Steps, Told, after_print}
use Rattle.ras_exit.proofs.PrintLemmas.{not_printed, printed}
use Rattle.ras_exit.specs.Acts.{print_acts}
use Rattle.ras_exit.specs.declared.exit.Exit.{Exit}
use Rattle.ras_exit.specs.declared.exit.Exit.TheVariants.{Done, NoMemory, PrintFault}
use Rattle.bank_lines.specs.Saved.Printing.{PrintsText}

module _ (text : List ℕ) where
  all_text : (t : Told) → PrintsText text Done t (after_print text t)
  all_text t = record { tells = record { answers = refl; begun = (text, ([], append-nil text), refl); whole = refl }; only = refl }

  part_text : (t : Told) (part rest : List ℕ) → part ++ rest ≡ text → PrintsText text PrintFault t (after_print part t)
  part_text t part rest splits = record { tells = record { answers = tt; begun = (part, (rest, splits), refl); whole = tt }; only = refl }

  -- nothing was printed
  no_text : (exit : Exit) (t : Told) → PrintsText text NoMemory t t
  no_text exit t = record { tells = record { answers = tt; begun = ([], (text, refl), sym (append-nil t.here.out)); whole = tt }; only = refl }

  all_told : (old new : Option Told) → Steps (after_print text) old new → Relates (PrintsText text Done) old new
  all_told None new is = is
  all_told (Some t) new is = rw is (all_text t)

  part_told : (old new : Option Told) → Relates (FailsPrint text) old new → Relates (PrintsText text PrintFault) old new
  part_told None new fails = fails
  part_told (Some t) None fails = absurd fails
  part_told (Some t) (Some u) (part, rest, splits, is) = rw is (part_text t part rest splits)

  module _ {X : Type 0} (see : X → Seen) (x y : X) where
    pub text_printed : Does see (print_acts text) went_well x y → Relates (PrintsText text Done) (see x).told (see y).told
    text_printed does = all_told (see x).told (see y).told (printed {T = Unit {0}} see text (Ok tt) x y does)

    pub text_cut : (fault : Exit) → ◌≡◌ {A = Result (Unit {0}) Exit} (Err fault) (Err PrintFault) → Does see (print_acts text) (broke print_call) x y → Relates (PrintsText text fault) (see x).told (see y).told
    text_cut fault is does =
        let same : fault ≡ PrintFault = cc in
        rw same (part_told (see x).told (see y).told (not_printed {T = Unit {0}} see text (Err PrintFault) x y does))
