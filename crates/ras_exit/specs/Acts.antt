-- What a part of a run does to a board, by how it ends.
use Rattle.std.specs.Prelude.{◌≡◌, ℕ, List, [], ◌∷◌, ◌++◌, Result, Some, Ok, Err}
use Rattle.board_core.specs.Doing.{Act, Breaks, Ended, GoesWell, Moment, Seen, after_acts, broke, ended_by, gave_up, prints}
use Rattle.board_core.specs.Stop.{Left}
use Rattle.board_core.specs.Told.{Told}
use Rattle.ras_exit.specs.declared.exit.Exit.{Exit}
use Rattle.ras_exit.specs.Endings.{CallEnding, answered, ending_of, faulted}

-- A text is printed by one call, an empty text by no call.
abbrev pub print_acts : List ℕ → List Act
print_acts [] = []
print_acts (byte ∷ bytes) = prints (byte ∷ bytes) ∷ []

-- ---- a part that is refused, or runs out of memory, before its first act

-- how a part ends that wasn't done
abbrev pub end_of : CallEnding → Ended
end_of (faulted kind) = broke kind
end_of ending = gave_up

abbrev pub part_end : {T : Type 0} → Result T Exit → Ended
part_end result = ended_by (λ exit. end_of (ending_of exit)) result

-- ---- any part

-- Acts leave the files, the record store and the text unchanged, and so does a crash meanwhile.
pub record AreStill (acts : List Act) (t : Told) : Type 0 where
  pub here : (after_acts acts t).here ≡ t.here
  pub moments : (left : Left) → Moment acts t left → left ≡ t.here

-- The first of these acts, which only read, were done, and then memory ran out.
pub record DoesSome {X : Type 0} (see : X → Seen) (acts : List Act) (old new : X) : Type 0 where
  pub done : List Act
  pub later : List Act
  pub splits : done ++ later ≡ acts
  pub still : (t : Told) → (see old).told ≡ Some t → AreStill done t
  pub does : GoesWell done (see old) (see new)

-- how a part of a run ended
abbrev pub ended_with : {T : Type 0} → Result T Exit → CallEnding
ended_with (Ok done) = answered
ended_with (Err exit) = ending_of exit

-- All of these acts were done; or a call of the board failed, and was the last; or memory ran out before any of them
-- wrote or printed.
abbrev pub DoesBy : {X : Type 0} → (X → Seen) → List Act → CallEnding → X → X → Type 0
DoesBy see acts answered old new = GoesWell acts (see old) (see new)
DoesBy see acts (faulted kind) old new = Breaks kind acts (see old) (see new)
DoesBy see acts ending old new = DoesSome see acts old new
