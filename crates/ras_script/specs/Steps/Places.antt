-- Where a byte is in a text.
use Rattle.std.specs.Prelude.{◌≡◌, ℕ, ◌+◌, ◌<◌, ◌≤◌, List, slice_index}
use Rattle.std.specs.Int.{bit_at}
use Rattle.ras_script.specs.declared.blocks.TheConstants.{BLOCK_BYTES}

-- The byte isn't in the text from `start` to `end`.
abbrev pub StandsNowhere : ℕ → List ℕ → ℕ → ℕ → Type 0
StandsNowhere byte text start end = (k : ℕ) → start ≤ k → k < end → ¬ (slice_index text k ≡ byte)

-- In the block of bytes from `at` on, bit k is set if and only if the byte is at `at + k`, and this is at `from` or
-- later.
pub record ArePlaces (byte : ℕ) (text : List ℕ) (at from bits : ℕ) : Type 0 where
  pub all : (k : ℕ) → k < BLOCK_BYTES → from ≤ at + k → slice_index text (at + k) ≡ byte → bit_at bits k ≡ 1
  pub block : (k : ℕ) → bit_at bits k ≡ 1 → k < BLOCK_BYTES
  pub from_on : (k : ℕ) → bit_at bits k ≡ 1 → from ≤ at + k
  pub only : (k : ℕ) → bit_at bits k ≡ 1 → slice_index text (at + k) ≡ byte
