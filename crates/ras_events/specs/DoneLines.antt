-- The done lines of a printed text.
use Rattle.std.specs.Prelude.{ℕ, ◌==◌, Bool, List, codes, length, nat_eq, filter}
use Rattle.std.specs.List.{slice_split, starts_with}
use Rattle.ras_script.specs.Lines.{without_last}

-- The lines of a text that end with a line feed, each without it. Bytes after the last line feed aren't a line.
abbrev pub ended_lines : List ℕ → List (List ℕ)
ended_lines text = without_last (slice_split (λ b. b == 10) text)

-- whether a line begins as a done line does
abbrev pub is_done_line : List ℕ → Bool
is_done_line line = starts_with nat_eq line (codes "done ")

-- the done lines of a text, and their number
abbrev pub done_lines : List ℕ → List (List ℕ)
done_lines text = filter is_done_line (ended_lines text)

abbrev pub done_count : List ℕ → ℕ
done_count text = length (done_lines text)
