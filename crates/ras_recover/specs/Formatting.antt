-- Formatting: a new generation of the journal is written over a file.
--
-- If the file is valid, or has at most one byte, the gate at its front is first closed and synced. Then
-- everything after that gate is written and synced, up to and including the first closed gate of the chain.
-- Then the gate at the front is opened and synced. What a longer file had after that closed gate stays there,
-- and doesn't count.
use Rattle.std.specs.Prelude.{ℕ, Bool, true, false, List, [], ◌∷◌, ◌++◌, length}
use Rattle.ras_base.specs.LittleEndian.{u64_bytes}
use Rattle.board_core.specs.declared.board.FileNo.{FileNo}
use Rattle.board_core.specs.Doing.{Act, after_acts, through}
use Rattle.board_core.specs.Told.{Told}
use Rattle.entry_format.specs.declared.version.Version.TheVariants.{Two}
use Rattle.ras_journal.specs.declared.limits.TheConstants.{OPEN_GATE, CLOSED_GATE}
use Rattle.ras_journal.specs.Laws.{magic}

-- the bytes after the gate at the front: the magic of version 2, the generation, the number of the checkpoint's bytes,
-- the checkpoint, and a closed gate
abbrev pub behind_gate : ℕ → List ℕ → List ℕ
behind_gate generation checkpoint =
    (magic Two ++ (u64_bytes generation ++ (u64_bytes (length checkpoint) ++ checkpoint))) ++ CLOSED_GATE ∷ []

-- The gate at the front is closed and synced, unless the file is shut already.
abbrev pub closing_acts : FileNo → Bool → List Act
closing_acts file true = []
closing_acts file false = through file 0 (CLOSED_GATE ∷ []) ∷ []

abbrev pub formatting_acts : FileNo → Bool → List ℕ → List Act
formatting_acts file shut bytes =
    closing_acts file shut ++ (through file 1 bytes ∷ through file 0 (OPEN_GATE ∷ []) ∷ [])

-- the model after the formatting
abbrev pub after_formatting : FileNo → Bool → List ℕ → Told → Told
after_formatting file shut bytes t = after_acts (formatting_acts file shut bytes) t
