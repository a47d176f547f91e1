-- How a read changes the bytes that a source has left.
use Rattle.std.specs.Prelude.{◌≡◌, ℕ, ◌≤◌, List, [], length, take, drop, Option, None, Some}

-- A read of n bytes into the front of a buffer. If the source is modelled, they are the next n bytes that are left, and
-- n is 0 only if nothing is left.
abbrev pub Takes : ℕ → List ℕ → Option (List ℕ) → Option (List ℕ) → Type 0
Takes n buffer None new = new ≡ None
Takes n buffer (Some left) new = (new ≡ Some (drop n left)) × (take n buffer ≡ take n left) × (n ≤ length left) × (n ≡ 0 → left ≡ [])
