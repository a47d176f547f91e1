-- What a call has printed, by how it ends, and what a crash during it leaves.
use Rattle.std.specs.Prelude.{◌≡◌, ℕ, List, ◌++◌}
use Rattle.board_core.specs.Clock.{After, Clock}
use Rattle.board_core.specs.Stop.{Begins, InOut, Left}
use Rattle.board_core.specs.Told.{Told}
use Rattle.ras_base.specs.Prefix.{IsPrefixOf}
use Rattle.ras_exit.specs.declared.exit.Exit.{Exit}
use Rattle.ras_exit.specs.Endings.{OnAnswer}

-- The bytes printed now are the bytes printed before and a beginning of the output, or all of it.
abbrev pub PrintsPart : List ℕ → List ℕ → List ℕ → Type 0
PrintsPart output before now = (part : List ℕ) × IsPrefixOf part output × (now ≡ before ++ part)

-- In the model only the printed text changed.
abbrev pub OnlyText : Told → Told → Type 0
OnlyText before now = now ≡ record before { here = record before.here { out = now.here.out } }

-- A call ends with this exit and prints this text, unless a fault cuts it short or memory runs out: a beginning of the
-- text was then printed.
pub record Tells (exit : Exit) (text : List ℕ) (result : Exit) (before now : Told) : Type 0 where
  pub answers : OnAnswer result (result ≡ exit)
  pub begun : PrintsPart text before.here.out now.here.out
  pub whole : OnAnswer result (now.here.out ≡ before.here.out ++ text)

-- What a crash during a call leaves that only prints this text: what a crash before the call may have left, with a
-- beginning of the text appended.
abbrev pub PrintMoment : Clock → List ℕ → Left → Type 0
PrintMoment clock text left = After clock (InOut (Begins text)) left
