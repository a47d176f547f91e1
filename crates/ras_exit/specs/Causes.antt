-- Why a call ends with a fault: the count of its kind of fault rose. A count that didn't rise is unchanged.
use Rattle.std.specs.Prelude.{◌≡◌, ℕ, Result, MatchResult}
use Rattle.board_core.specs.Cause.{Rose, Faults}
use Rattle.board_core.specs.Doing.{Raises}
use Rattle.ras_exit.specs.declared.exit.Exit.{Exit}
use Rattle.ras_exit.specs.Endings.{CallEnding, ending_of, faulted, source_failed}

-- if the exit is a fault of the source, its count rose; with any other exit the count is unchanged
abbrev pub SourceCauseBy : CallEnding → ℕ → ℕ → Type 0
SourceCauseBy source_failed before now = Rose before now
SourceCauseBy ending before now = now ≡ before

abbrev pub SourceCause : Exit → ℕ → ℕ → Type 0
SourceCause exit before now = SourceCauseBy (ending_of exit) before now

-- if the exit is a fault of the board, the count of its kind rose; with any other exit all counts are unchanged
abbrev pub BoardCauseBy : CallEnding → Faults → Faults → Type 0
BoardCauseBy (faulted kind) before now = Raises kind before now
BoardCauseBy ending before now = now ≡ before

abbrev pub BoardCause : Exit → Faults → Faults → Type 0
BoardCause exit before now = BoardCauseBy (ending_of exit) before now

-- The cause of a part of a run. If the part succeeds, the run continues with unchanged counts.
abbrev pub Causes : {C T : Type 0} → (Exit → C → C → Type 0) → Result T Exit → C → C → Type 0
Causes Cause result before now = MatchResult result (λ _. now ≡ before) (λ exit. Cause exit before now)
