-- Numbers as bytes from the low one on, as all formats here write them.
use Rattle.std.specs.Prelude.{ℕ, zero, suc, ◌+◌, ◌*◌, ◌<◌, List, slice_index}
use Rattle.std.specs.Int.{to_le_bytes, w16, w32, w64}

-- Each number of a list is below 256.
abbrev pub AreBytes : List ℕ → Type 0
AreBytes bytes = (i : ℕ) → slice_index bytes i < 256

-- a number of 2, 4 or 8 bytes
unfoldable pub u16_bytes : ℕ → List ℕ
u16_bytes number = to_le_bytes w16 number

unfoldable pub u32_bytes : ℕ → List ℕ
u32_bytes number = to_le_bytes w32 number

unfoldable pub u64_bytes : ℕ → List ℕ
u64_bytes number = to_le_bytes w64 number

-- the number of n bytes from an offset on, the lowest byte first
unfoldable pub number_at : ℕ → ℕ → List ℕ → ℕ
number_at place zero bytes = 0
number_at place (suc width) bytes = slice_index bytes place + 256 * number_at (place + 1) width bytes
