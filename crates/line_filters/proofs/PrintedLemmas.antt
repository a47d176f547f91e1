-- A filter's text is printed, or printing it failed.
use Rattle.std.proofs.Common.{◌≡◌, ℕ, ◌==◌, true, List, [], ◌∷◌, length, Result, Ok, Err, inl, inr, refl, arith}
use Rattle.std.specs.Prelude.{◌⊎◌}
use Rattle.std.proofs.lemmas.Bool.Decides.{nat_tests}
use Rattle.board_core.specs.Cause.{print_call}
use Rattle.board_core.specs.Clock.{Leads, Passes}
use Rattle.board_core.specs.Doing.{Does, Seen, broke, went_well}
use Rattle.board_core.specs.Stop.{Appends, Begins, InOut}
use Rattle.ras_exit.specs.Acts.{print_acts}
use Rattle.ras_exit.specs.Endings.{IsAnswer}
use Rattle.ras_exit.specs.declared.exit.Exit.{Exit}
use Rattle.ras_exit.specs.declared.exit.Exit.TheVariants.{PrintFault}
use Rattle.ras_exit.proofs.PrintLemmas.{not_printed, printed}
use Rattle.line_filters.specs.Steps.Filtering.{Ends, Printed, PrintsWaiting, Unprinted}

module _ {X : Type 0} (see : X → Seen) (x y : X) where
  pub not_all_printed : (why : Exit) (text : List ℕ) → Does see (print_acts text) (broke print_call) x y → Passes (InOut (Begins text)) (see x).clock (see y).clock → Unprinted see text x y
  not_all_printed why text does stops = record { told = not_printed {T = Unit {0}} see text (Err why) x y does; stops = stops }

  pub text_printed : (text : List ℕ) → Does see (print_acts text) went_well x y → Passes (InOut (Begins text)) (see x).clock (see y).clock → Leads (InOut (Appends text)) (see x).clock (see y).clock → Printed see text x y
  text_printed text does stops leads = record { told = printed {T = Unit {0}} see text (Ok tt) x y does; stops = stops; leads = leads }

  pub prints_waiting : (Held : Type 0) (text rest : List ℕ) → rest ≡ [] → Does see (print_acts text) went_well x y → Passes (InOut (Begins text)) (see x).clock (see y).clock → Leads (InOut (Appends text)) (see x).clock (see y).clock
      → PrintsWaiting see (Ok tt) Held text rest x y
  prints_waiting Held text rest is does stops leads = inl (is, text_printed text does stops leads)

  pub prints_none : (fault : Exit) (Held : Type 0) (text rest : List ℕ) → ◌≡◌ {A = Result (Unit {0}) Exit} (Err fault) (Err PrintFault) → Does see (print_acts text) (broke print_call) x y → Passes (InOut (Begins text)) (see x).clock (see y).clock
      → PrintsWaiting see (Err fault) Held text rest x y
  prints_none fault Held text rest is does stops = ((let same : fault ≡ PrintFault = cc in same), not_all_printed fault text does stops)

  pub ends_unprinted : (exit fault : Exit) (text : List ℕ) → IsAnswer exit → Does see (print_acts text) (broke print_call) x y → Passes (InOut (Begins text)) (see x).clock (see y).clock
      → ◌≡◌ {A = Result (Unit {0}) Exit} (Err fault) (Err PrintFault) → Ends see exit fault text x y
  ends_unprinted exit fault text answer does stops is = inl (answer, inr (inl ((let same : fault ≡ PrintFault = cc in same), not_all_printed fault text does stops)))

  pub ends_printed : (exit : Exit) (text : List ℕ) → IsAnswer exit → Does see (print_acts text) went_well x y → Passes (InOut (Begins text)) (see x).clock (see y).clock → Leads (InOut (Appends text)) (see x).clock (see y).clock
      → Ends see exit exit text x y
  ends_printed exit text answer does stops leads = inl (answer, inl (refl, text_printed text does stops leads))

-- nothing waits, or the source isn't read
pub waits : {X : Type 0} (see : X → Seen) (Held : Type 0) (text : List ℕ) (x : X) → (text ≡ []) ⊎ Held → PrintsWaiting see (Ok tt) Held text text x x
waits see Held text x free = inr (refl, refl, free)

pub empty_text : (text : List ℕ) → (length text == 0) ≡ true → text ≡ []
empty_text [] none = refl
empty_text (byte ∷ text) none = absurd (grind (arith, nat_tests))
