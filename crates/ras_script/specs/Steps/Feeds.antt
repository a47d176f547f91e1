-- The first line feed of a text.
use Rattle.std.specs.Prelude.{ℕ, ◌==◌, List}
use Rattle.std.specs.List.{position_or_len}

-- its index, or the text's length if the text has no line feed
abbrev pub line_feed_in : List ℕ → ℕ
line_feed_in text = position_or_len (λ b. b == 10) text
