-- Ranges in the order of their addresses, no two of which have an address in common.
use Rattle.std.specs.Prelude.{ℕ, ◌≤◌, Bool, nat_le, nat_lt, ◌&&◌, if◌then◌else◌, IsTrue, ⊤, List, [], ◌∷◌}
use Rattle.std.specs.List.{list_all}
use Rattle.dimm_topology.specs.declared.ranges.HeldRange.{HeldRange}

-- Whether a range has an address in common with the addresses from `first` to `last`.
abbrev pub meets : ℕ → ℕ → HeldRange → Bool
meets first last range = nat_le first range.last && nat_le range.first last

-- Whether a range ends before an address.
abbrev pub ends_before : ℕ → HeldRange → Bool
ends_before address range = nat_lt range.last address

-- Whether a range ends before another begins, and the other doesn't begin after its own end.
abbrev pub comes_before : HeldRange → HeldRange → Bool
comes_before range next = nat_lt range.last next.first && nat_le next.first next.last

-- Each range ends before the ranges after it begin.
abbrev pub IsRising : List HeldRange → Type 0
IsRising [] = ⊤
IsRising (range ∷ ranges) = (range.first ≤ range.last) × IsTrue (list_all (comes_before range) ranges) × IsRising ranges

-- ranges with one more, after the ranges that end before it
abbrev pub put_in : HeldRange → List HeldRange → List HeldRange
put_in range [] = range ∷ []
put_in range (held ∷ ranges) = if ends_before range.first held then held ∷ put_in range ranges else range ∷ held ∷ ranges
