-- The disk calls of a recovery and of an opening, and how these change the board's model, whatever is returned.
use Rattle.std.specs.Prelude.{◌≡◌, ℕ, ◌≤◌, ◌⊎◌, List, ◌∷◌, ◌++◌, All, Any, Option, Some, Ok}
use Rattle.board_core.specs.declared.board.FileNo.{FileNo}
use Rattle.board_core.specs.declared.board.FileNo.TheVariants.{Zero, One}
use Rattle.board_core.specs.declared.board.DiskCall.{DiskCall}
use Rattle.board_core.specs.declared.board.DiskCall.TheVariants.{Sync}
use Rattle.board_core.specs.Doing.{after_acts, calls_of}
use Rattle.board_core.specs.Stop.{Left}
use Rattle.board_core.specs.Told.{Told}
use Rattle.ras_account.specs.History.{empty}
use Rattle.ras_account.specs.Account.{account_of}
use Rattle.ras_journal.specs.File.{FileFront, front_of}
use Rattle.ras_recover.specs.DiskCalls.{IsReading, ReadsPlace, Makes, IsBeginning, with_calls}
use Rattle.ras_recover.specs.Opening.{HoldsNone, opening_acts}

-- A whole recovery: both files are synced, and then there are only Size and ReadAt calls.
pub record IsRecovery (calls : List DiskCall) : Type 0 where
  pub reading : List DiskCall
  pub is : calls ≡ Sync Zero ∷ Sync One ∷ reading
  pub alone : All IsReading reading

-- If a file is valid, one of these reads covers each offset from 0 up to and including its closed gate, whatever
-- generation the other file has.
abbrev pub ReadsStanding : FileNo → List ℕ → List DiskCall → Type 0
ReadsStanding file bytes calls =
    (taken : Option ℕ) (front : FileFront) (place : ℕ)
    → front_of taken bytes ≡ Ok (Some front) → place ≤ front.gate → Any (ReadsPlace file place) calls

-- These calls read both files up to their closed gates, if the files are valid.
pub record ReadsBoth (here : Left) (calls : List DiskCall) : Type 0 where
  pub zero : ReadsStanding Zero here.file0 calls
  pub one : ReadsStanding One here.file1 calls

-- One of these reads covers each offset of a file from 0 up to and including this one.
abbrev pub ReadsTo : FileNo → ℕ → List DiskCall → Type 0
ReadsTo file last calls = (place : ℕ) → place ≤ last → Any (ReadsPlace file place) calls

-- A whole recovery over these files: all that decides the result is read.
pub record IsRecoveryOf (here : Left) (calls : List DiskCall) : Type 0 where
  pub recovery : IsRecovery calls
  pub reads : ReadsBoth here calls

-- A whole opening over these files: a whole recovery, and then the calls of the formatting, if no file is valid.
pub record IsOpening (here : Left) (calls : List DiskCall) : Type 0 where
  pub recovery : List DiskCall
  pub recovers : IsRecoveryOf here recovery
  pub is : calls ≡ recovery ++ calls_of (opening_acts here)

-- An opening returned Ok: it made a whole recovery, and then exactly the writes of the formatting.
pub record MakesOpening (old new : Told) : Type 0 where
  pub recovery : List DiskCall
  pub recovers : IsRecoveryOf old.here recovery
  pub is : new ≡ after_acts (opening_acts old.here) (with_calls recovery old)

-- ---- the model afterwards, whatever is returned

-- After a recovery: its calls were made, all of them or a beginning, and nothing else changed.
pub record AfterRecovery (old new : Told) : Type 0 where
  pub file0 : new.here.file0 ≡ old.here.file0
  pub file1 : new.here.file1 ≡ old.here.file1
  pub store : new.here.store ≡ old.here.store
  pub text : new.here.out ≡ old.here.out
  pub volatile : new.volatile ≡ old.volatile
  pub accesses : new.accesses ≡ old.accesses
  pub calls : Makes (IsBeginning IsRecovery) old new

-- After an opening: as after a recovery, except that file 0 may have changed if no file is valid.
pub record AfterOpening (old new : Told) : Type 0 where
  pub file0 : (new.here.file0 ≡ old.here.file0) ⊎ HoldsNone (account_of empty) old.here
  pub file1 : new.here.file1 ≡ old.here.file1
  pub store : new.here.store ≡ old.here.store
  pub text : new.here.out ≡ old.here.out
  pub volatile : new.volatile ≡ old.volatile
  pub accesses : new.accesses ≡ old.accesses
  pub calls : Makes (IsBeginning (IsOpening old.here)) old new
