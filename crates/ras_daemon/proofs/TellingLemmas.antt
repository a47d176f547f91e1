-- A call that only prints a text changes nothing else in the model. If the call succeeds, the whole text is printed.
use Rattle.std.proofs.Common.{◌≡◌, ℕ, List, ◌++◌, Option, Some, None, sym, ap, ◌∙◌}
use Rattle.board_core.specs.Clock.{Adds, Clock}
use Rattle.board_core.specs.Device.{LeavesDevice}
use Rattle.board_core.specs.Told.{Relates, Told}
use Rattle.ras_exit.specs.declared.exit.Exit.{Exit}
use Rattle.ras_exit.specs.Telling.{PrintMoment}
use Rattle.ras_daemon.specs.Commands.{Leaves, OnlyTells}
use Rattle.ras_daemon.proofs.RunLemmas.{answer_weaker}
use Rattle.ras_daemon.proofs.SaidLemmas.{Printed}

module _ (exit : Exit) (text : List ℕ) where
  told_so : (result : Exit) (old now : Told) → Printed exit result text old now → OnlyTells exit text result old now
  told_so result old now printed =
      let out : now.here.out ≡ old.here.out ++ printed.part = ap (λ (t : Told). t.here.out) printed.is in
      let all : Type 0 = (result ≡ exit) × (printed.part ≡ text) in record {
        tells = record {
          answers = answer_weaker result all (result ≡ exit) printed.answers (λ has. has.0);
          begun = (printed.part, printed.begins, out);
          whole = answer_weaker result all (now.here.out ≡ old.here.out ++ text) printed.answers (λ has. out ∙ ap (λ (part : List ℕ). old.here.out ++ part) has.1);
        };
        only = printed.is ∙ ap (λ (bytes : List ℕ). record old { here = record old.here { out = bytes } }) (sym out);
      }

  pub only_told : (result : Exit) (old new : Option Told) → Relates (Printed exit result text) old new → Relates (OnlyTells exit text result) old new
  only_told result None new same = same
  only_told result (Some t) None printed = printed
  only_told result (Some t) (Some now) printed = told_so result t now printed

-- what a command does that only prints a text
pub printed_commands : (exit result : Exit) (text : List ℕ) (before now : Option Told) (old new : Clock)
    → Relates (Printed exit result text) before now → Adds (PrintMoment old text) old new → LeavesDevice before now old new
    → Leaves (Relates (OnlyTells exit text result) before now) (Adds (PrintMoment old text) old new) before now old new
printed_commands exit result text before now old new said stops device = record { tells = only_told exit text result before now said; stops = stops; device = device }
