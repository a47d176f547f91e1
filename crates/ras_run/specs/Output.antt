-- What a line prints at its place: its text, and its done line.
use Rattle.std.specs.Prelude.{List, ◌++◌, ℕ}
use Rattle.ras_run.specs.Deeds.{deed_done, deed_text}
use Rattle.ras_run.specs.Places.{Place, deed_at}

abbrev pub text_at : Place → List ℕ
text_at place = deed_text place.0 (deed_at place)

-- A line that asks for nothing has no done line, nor has a rejected line.
abbrev pub done_at : Place → List ℕ
done_at place = deed_done place.1.0 (deed_at place)

abbrev pub output_at : Place → List ℕ
output_at place = text_at place ++ done_at place
