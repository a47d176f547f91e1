-- How the words of a script write bytes.
use Rattle.std.specs.Prelude.{ℕ, ◌==◌, ◌<◌, List, length, Option, None, if◌then◌else◌}
use Rattle.std.specs.List.{AllByRecursion}
use Rattle.std.specs.Result.{result_ok}
use Rattle.hex.specs.Hex.{decode_of}

-- a word for bytes: two hexadecimal digits of either case for each byte, and at least one byte
abbrev pub bytes_of : List ℕ → Option (List ℕ)
bytes_of word = if length word == 0 then None else result_ok (decode_of word)

-- Bytes that a word for bytes can write: at least one byte.
abbrev pub AreBytes : List ℕ → Type 0
AreBytes bytes = (0 < length bytes) × AllByRecursion (λ b. b < 256) bytes
