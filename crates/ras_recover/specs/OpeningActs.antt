-- What an opening does to a board, as acts.
use Rattle.std.specs.Prelude.{◌≡◌, ◌⊎◌, List, ◌++◌, map, IfErr, OnOk, Option, Result}
use Rattle.board_core.specs.Cause.{disk_call}
use Rattle.board_core.specs.declared.board.DiskCall.{DiskCall}
use Rattle.board_core.specs.Doing.{Act, FailsActs, calls}
use Rattle.board_core.specs.Stop.{Left}
use Rattle.board_core.specs.Told.{Relates, Told}
use Rattle.ras_recover.specs.DiskCalls.{with_calls}
use Rattle.ras_recover.specs.Opening.{opening_acts}
use Rattle.ras_recover.specs.OpeningCalls.{AfterOpening, AfterRecovery, IsRecoveryOf, MakesOpening}

-- The journal is opened over these files: all that decides the result is read, and file 0 is formatted if no file is
-- valid.
pub record AreOpeningActs (here : Left) (acts : List Act) : Type 0 where
  pub recovery : List DiskCall
  pub recovers : IsRecoveryOf here recovery
  pub is : acts ≡ map calls recovery ++ opening_acts here

-- All that decides the result was read, and then an act of the formatting failed. It was the last act that was begun.
pub record FailsFormatting (old new : Told) : Type 0 where
  pub recovery : List DiskCall
  pub recovers : IsRecoveryOf old.here recovery
  pub fails : FailsActs disk_call (opening_acts old.here) (with_calls recovery old) new

-- What an opening leaves that didn't return Ok: nothing was written; or a disk call failed (Failed), and that call may
-- be one of the formatting.
abbrev pub LeavesUnopened : Type 0 → Told → Told → Type 0
LeavesUnopened Failed old new = AfterRecovery old new ⊎ (Failed × FailsFormatting old new)

-- What an opening does. Whatever it returns, the model is unchanged, except file 0 if no file is valid, and the disk
-- calls are the calls of an opening or a beginning of them. After Ok, all that decides the result was read, and
-- exactly the formatting was written. Otherwise nothing was written, unless a disk call of the formatting failed.
pub record DoesOpening {T E : Type 0} (IsFault : E → Type 0) (result : Result T E) (before now : Option Told) : Type 0 where
  pub told : Relates AfterOpening before now
  pub whole : OnOk result (Relates MakesOpening before now)
  pub unopened : IfErr result (λ refused. Relates (LeavesUnopened (IsFault refused)) before now)
