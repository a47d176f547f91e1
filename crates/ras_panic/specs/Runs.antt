-- Bytes in which runs of other bytes replace those at some offsets.
use Rattle.std.specs.Prelude.{ℕ, ◌+◌, List, [], ◌∷◌, ◌++◌, length, take, drop}

-- the bytes with a run at an offset, which replaces the bytes there
unfoldable pub with_run : ℕ → List ℕ → List ℕ → List ℕ
with_run place run bytes = take place bytes ++ (run ++ drop (place + length run) bytes)

-- the bytes with several runs, put in this order
abbrev pub with_runs : List (ℕ × List ℕ) → List ℕ → List ℕ
with_runs [] bytes = bytes
with_runs (run ∷ runs) bytes = with_runs runs (with_run run.0 run.1 bytes)
