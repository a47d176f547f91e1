-- Refusals of a table: the numbers that the program prints, and what the reader returns.
use Rattle.std.specs.Prelude.{◌≡◌, ℕ, Option, Some, None, Result, Err}
use Rattle.erst_interp.specs.declared.refusals.ErstTableRefused.{ErstTableRefused}
use Rattle.erst_interp.specs.declared.refusals.ErstTableRefused.TheVariants.{Short, Signature, Length, Sum, HeaderSize, Count, NoMemory}

-- The number of a refusal. Running out of memory has no number.
abbrev pub erst_number : ErstTableRefused → Option ℕ
erst_number Short = Some 1
erst_number Signature = Some 2
erst_number Length = Some 3
erst_number Sum = Some 4
erst_number HeaderSize = Some 5
erst_number Count = Some 6
erst_number NoMemory = None

-- This is returned, unless memory ran out.
abbrev pub IsAnswer : {T : Type 0} → Result T ErstTableRefused → Result T ErstTableRefused → Type 0
IsAnswer (Err NoMemory) answer = Unit {0}
IsAnswer result answer = result ≡ answer
