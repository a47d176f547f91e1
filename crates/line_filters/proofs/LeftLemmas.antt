-- What a call of a filter leaves of an input of any length.
use Rattle.std.proofs.Common.{◌≡◌, ℕ, List, [], ◌++◌, Option, None, Some, IfSome, IsSomeAnd, Result, Ok, Err, refl, ap, sym, ◌∙◌, append_assoc, subst}
use Rattle.board_core.specs.declared.source.Failed.{Failed}
use Rattle.ras_script.specs.InputBuffer.{InputBuffer, MovesInput}
use Rattle.ras_script.specs.Reader.{AreTaken}
use Rattle.ras_script.specs.declared.input.InputStep.{InputStep}
use Rattle.ras_script.specs.declared.input.InputStep.TheVariants.{Line, Long, Dropping, End}
use Rattle.ras_exit.specs.declared.exit.Exit.{Exit}
use Rattle.ras_exit.specs.declared.exit.Exit.TheVariants.{Done}
use Rattle.line_filters.specs.Feeds.{TakesInput}
use Rattle.line_filters.specs.Steps.Feeding.{IsFeedStop, LeavesEnd}

pub leaves_all : (first : Option (List ℕ)) → LeavesEnd first first
leaves_all None = tt
leaves_all (Some input) = ([], refl)

-- ---- the reader goes on

read_by : (result : Result InputStep Failed) (old new : InputBuffer) (before now : Option (List ℕ)) → MovesInput result old new before now → (bytes : List ℕ) × AreTaken bytes before now
read_by (Ok Line) old new before now moves = (moves.0.bytes, moves.0.taken)
read_by (Ok Long) old new before now moves = (moves.1.bytes, moves.1.taken)
read_by (Ok Dropping) old new before now moves = (moves.1.bytes, moves.1.taken)
read_by (Ok (End cut)) old new before now moves = (moves.0.bytes, moves.0.taken)
read_by (Err failed) old new before now moves = (moves.0.bytes, moves.0.taken)

leaves_bytes : (bytes : List ℕ) (first before now : Option (List ℕ)) → AreTaken bytes before now → LeavesEnd first before → LeavesEnd first now
leaves_bytes bytes None before now taken leaves = tt
leaves_bytes bytes (Some input) None now taken leaves = absurd leaves
leaves_bytes bytes (Some input) (Some left) None taken leaves = absurd taken
leaves_bytes bytes (Some input) (Some left) (Some rest) taken leaves =
    (leaves.0 ++ bytes, append_assoc leaves.0 bytes rest ∙ ap (λ (text : List ℕ). leaves.0 ++ text) (sym taken) ∙ leaves.1)

pub leaves_more : (result : Result InputStep Failed) (old new : InputBuffer) (first before now : Option (List ℕ)) → MovesInput result old new before now → LeavesEnd first before → LeavesEnd first now
leaves_more result old new first before now moves leaves =
    let read = read_by result old new before now moves in
    leaves_bytes read.0 first before now read.1 leaves

-- ---- the call

pub takes_left : (exit : Exit) (first now : Option (List ℕ)) → (exit ≡ Done → IfSome now (λ left. left ≡ [])) → LeavesEnd first now → IfSome first (λ input. IsSomeAnd now (TakesInput exit input))
takes_left exit None now all leaves = tt
takes_left exit (Some input) None all leaves = absurd leaves
takes_left exit (Some input) (Some left) all leaves = record { taken = leaves.0; splits = leaves.1; all = all }

pub stop_not_done : (exit : Exit) (P : Type 0) → IsFeedStop exit → exit ≡ Done → P
stop_not_done exit P stops is = absurd (subst IsFeedStop is stops)
