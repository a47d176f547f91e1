-- The buffer of a reader of lines.
use Rattle.std.specs.Prelude.{ℕ, List, slice_range}
use Rattle.ras_script.specs.declared.window.Window.{Window}

-- the line that was returned last, and the bytes after it that weren't returned yet
abbrev pub line_in : Window → List ℕ
line_in w = slice_range w.bytes.items w.line w.line_end

abbrev pub held_in : Window → List ℕ
held_in w = slice_range w.bytes.items w.start w.end
