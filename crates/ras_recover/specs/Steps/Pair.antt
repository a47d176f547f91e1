-- What was read of both files.
use Rattle.std.specs.Prelude.{◌≡◌, ℕ, ◌⊎◌, List, OnOk, Option, Some, Result, Ok}
use Rattle.board_core.specs.Told.{Relates, Told}
use Rattle.std.specs.Option.{option_map}
use Rattle.ras_journal.specs.Recovered.{is_shut, journal_of}
use Rattle.ras_recover.specs.declared.pair.BothRead.{BothRead}
use Rattle.ras_recover.specs.declared.refused.OpenRefused.{OpenRefused}
use Rattle.ras_recover.specs.declared.window.SizedFile.{SizedFile}
use Rattle.ras_recover.specs.DiskCalls.{Calls}
use Rattle.ras_recover.specs.OpeningCalls.{AfterRecovery, IsRecoveryOf}
use Rattle.ras_recover.specs.Steps.Reading.{front_at}

-- What was read is what two files of these bytes contain.
pub record AreRead (both : BothRead) (file0 file1 : List ℕ) : Type 0 where
  pub journal : journal_of file0 file1 ≡ Ok (option_map (λ j. record { file = j.0; front = front_at j.1 j.2.state }) both.journal)
  pub zero : both.shut.0 ≡ is_shut file0
  pub one : both.shut.1 ≡ is_shut file1

-- what holds if something was found
abbrev pub IfFound : {T E : Type 0} → Result (Option T) E → Type 0 → Type 0
IfFound (Ok (Some x)) P = P
IfFound other P = Unit {0}

-- Two files are two others, in one order or the other.
abbrev pub AreBoth : SizedFile → SizedFile → SizedFile → SizedFile → Type 0
AreBoth zero one older newer = ((older ≡ zero) × (newer ≡ one)) ⊎ ((older ≡ one) × (newer ≡ zero))

-- Both files were synced. After Ok, all that decides the result was read.
pub record DoesRecovery {T : Type 0} (result : Result T OpenRefused) (before now : Option Told) : Type 0 where
  pub told : Relates AfterRecovery before now
  pub reads : OnOk result (Relates (λ old. Calls (IsRecoveryOf old.here) old) before now)
