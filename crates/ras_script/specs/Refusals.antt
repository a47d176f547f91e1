-- The numbers by which the refusals of a line are printed.
use Rattle.std.specs.Prelude.{ℕ, Option, Some, None}
use Rattle.ras_script.specs.declared.line.LineRefused.{LineRefused}
use Rattle.ras_script.specs.declared.line.LineRefused.TheVariants as refused

-- The number of a refusal. Running out of memory has no number.
abbrev pub line_number : LineRefused → Option ℕ
line_number refused.Kind = Some 1
line_number refused.Words = Some 2
line_number refused.Number = Some 3
line_number refused.Hex = Some 4
line_number refused.Label = Some 6
line_number refused.NoMemory = None
