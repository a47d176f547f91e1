-- What a binary search finds among ranges, and where one more range belongs.
use Rattle.std.proofs.Common.{◌≡◌, ℕ, zero, suc, ◌+◌, ◌≤◌, ◌<◌, Bool, true, false, nat_le, nat_lt, ◌&&◌, ◌||◌, if◌then◌else◌, Option, Some, None, is_some, List, [], ◌∷◌, length, get_or, insert, refl, ap, arith}
use Rattle.std.proofs.lemmas.Grind.{common_steps}
use Rattle.std.proofs.lemmas.Bool.Decides.{nat_tests}
use Rattle.std.proofs.lemmas.List.Sums.{prefix_len_is}
use Rattle.std.specs.List.{list_any, list_all, find, slice_get, prefix_len}
use Rattle.std.specs.List.Sorted.{IsPartitionedBy, IsPartitionPoint}
use Rattle.dimm_topology.specs.declared.ranges.HeldRange.{HeldRange}
use Rattle.dimm_topology.specs.Steps.Ranges.{meets, ends_before, comes_before, put_in, IsRising}

one_more : (n : ℕ) → 1 + n ≡ suc n
one_more n = omega arith

-- A range that comes before all others is passed by none of them.
earlier : (address : ℕ) (x : HeldRange) (xs : List HeldRange) (j : ℕ) (d : HeldRange) → list_all (comes_before x) xs ≡ true → j < length xs
    → ends_before address (get_or xs j d) ≡ true → ends_before address x ≡ true
earlier address x [] j d all within ends = absurd (omega arith)
earlier address x (y ∷ ys) zero d all within ends = grind (arith, common_steps, nat_tests)
earlier address x (y ∷ ys) (suc j) d all within ends = earlier address x ys j d (grind (arith, common_steps)) (omega arith) ends

-- Ranges that end before an address come first.
pub parted : (address : ℕ) (xs : List HeldRange) → IsRising xs → IsPartitionedBy (ends_before address) xs
parted address [] rising i j d low within ends = absurd (omega arith)
parted address (x ∷ xs) rising zero zero d low within ends = ends
parted address (x ∷ xs) rising zero (suc j) d low within ends = earlier address x xs j d rising.1 (omega arith) ends
parted address (x ∷ xs) rising (suc i) zero d low within ends = absurd (omega arith)
parted address (x ∷ xs) rising (suc i) (suc j) d low within ends = parted address xs rising.2 i j d (omega arith) (omega arith) ends

-- How many ranges end before an address, by the index that a binary search returns.
pub place_from_point : (address : ℕ) (xs : List HeldRange) (r : ℕ) → r ≤ length xs
    → IsPartitionPoint (λ y. ends_before address y ≡ true) (λ y. ends_before address y ≡ false) xs r → prefix_len (ends_before address) xs ≡ r
place_from_point address xs r bound point =
    let d : HeldRange = record { label = []; first = 0; last = 0 } in
    prefix_len_is (ends_before address) xs r d bound (λ k l. point.0 k d (omega arith) l) (λ l. point.1 r d (omega arith) l)

-- the range, if it begins no later than an address
abbrev pub begun : ℕ → Option HeldRange → Option HeldRange
begun last None = None
begun last (Some range) = if nat_le range.first last then Some range else None

-- If a range begins too late, so do the ranges after it.
none_after : (first last : ℕ) (x : HeldRange) (xs : List HeldRange) → x.first ≤ x.last → nat_le x.first last ≡ false → list_all (comes_before x) xs ≡ true
    → find (meets first last) xs ≡ None
none_after first last x [] upright late all = refl
none_after first last x (y ∷ ys) upright late all = grind (arith, common_steps, nat_tests, none_after first last x ys upright late)

-- The first range that meets addresses is the first that doesn't end before them.
pub first_meeting : (first last : ℕ) (xs : List HeldRange) → first ≤ last → IsRising xs
    → find (meets first last) xs ≡ begun last (slice_get xs (prefix_len (ends_before first) xs))
first_meeting first last [] low rising = refl
first_meeting first last (x ∷ xs) low rising = by (ends_before first x) (nat_le x.first last) refl refl (first_meeting first last xs low rising.2)
  where
    by : (b c : Bool) → ends_before first x ≡ b → nat_le x.first last ≡ c
        → find (meets first last) xs ≡ begun last (slice_get xs (prefix_len (ends_before first) xs))
        → find (meets first last) (x ∷ xs) ≡ begun last (slice_get (x ∷ xs) (prefix_len (ends_before first) (x ∷ xs)))
    by true c ends begins rest =
        let none : meets first last x ≡ false = grind (arith, nat_tests) in
        rw (none, ends, one_more (prefix_len (ends_before first) xs)) rest
    by false true ends begins rest =
        let here : meets first last x ≡ true = grind (arith, nat_tests) in
        rw (here, ends, begins) refl
    by false false ends begins rest =
        let none : meets first last x ≡ false = grind (arith, nat_tests) in
        rw (none, ends, begins) (none_after first last x xs rising.0 begins rising.1)

-- A range is put in by an insertion after the ranges that end before it.
pub put_at : (range : HeldRange) (xs : List HeldRange) → insert xs (prefix_len (ends_before range.first) xs) range ≡ put_in range xs
put_at range [] = refl
put_at range (x ∷ xs) = by (ends_before range.first x) refl (put_at range xs)
  where
    by : (b : Bool) → ends_before range.first x ≡ b → insert xs (prefix_len (ends_before range.first) xs) range ≡ put_in range xs
        → insert (x ∷ xs) (prefix_len (ends_before range.first) (x ∷ xs)) range ≡ put_in range (x ∷ xs)
    by true ends rest = rw (ends, one_more (prefix_len (ends_before range.first) xs)) (ap (λ (ys : List HeldRange). x ∷ ys) rest)
    by false ends rest = rw ends refl

pub any_put : (test : HeldRange → Bool) (range : HeldRange) (xs : List HeldRange) → list_any test (put_in range xs) ≡ (test range || list_any test xs)
any_put test range [] = refl
any_put test range (x ∷ xs) = grind (arith, common_steps, any_put test range xs)

all_put : (test : HeldRange → Bool) (range : HeldRange) (xs : List HeldRange) → list_all test (put_in range xs) ≡ (test range && list_all test xs)
all_put test range [] = refl
all_put test range (x ∷ xs) = grind (arith, common_steps, all_put test range xs)

-- A range that ends before another begins comes before all that the other comes before.
all_later : (range x : HeldRange) (xs : List HeldRange) → nat_lt range.last x.first ≡ true → x.first ≤ x.last → list_all (comes_before x) xs ≡ true
    → list_all (comes_before range) xs ≡ true
all_later range x [] before upright all = refl
all_later range x (y ∷ ys) before upright all = grind (arith, common_steps, nat_tests, all_later range x ys before upright)

-- Ranges stay in their order if a range is put in that meets none of them.
pub rising_put : (range : HeldRange) (xs : List HeldRange) → range.first ≤ range.last → list_any (meets range.first range.last) xs ≡ false → IsRising xs
    → IsRising (put_in range xs)
rising_put range [] upright free rising = (upright, refl, tt)
rising_put range (x ∷ xs) upright free rising =
    by (ends_before range.first x) refl (rising_put range xs upright (grind (arith, common_steps)) rising.2)
  where
    by : (b : Bool) → ends_before range.first x ≡ b → IsRising (put_in range xs) → IsRising (put_in range (x ∷ xs))
    by true ends rest = rw ends (rising.0, grind (arith, common_steps, nat_tests, all_put (comes_before x) range xs, rising.1), rest)
    by false ends rest =
        let before : nat_lt range.last x.first ≡ true = grind (arith, common_steps, nat_tests) in
        let upright' : nat_le x.first x.last ≡ true = grind (arith, nat_tests, rising.0) in
        rw ends (upright, grind (arith, common_steps, all_later range x xs before rising.0 rising.1), rising)

-- A range that fails a test doesn't change which range passes it first.
pub find_put : (test : HeldRange → Bool) (range : HeldRange) (xs : List HeldRange) → test range ≡ false → find test (put_in range xs) ≡ find test xs
find_put test range [] fails = rw fails refl
find_put test range (x ∷ xs) fails = grind (arith, common_steps, find_put test range xs)

-- A range that meets no other is the range of each of its addresses.
pub found_put : (address : ℕ) (range : HeldRange) (xs : List HeldRange) → meets address address range ≡ true → list_any (meets range.first range.last) xs ≡ false
    → find (meets address address) (put_in range xs) ≡ Some range
found_put address range [] holds free = rw holds refl
found_put address range (x ∷ xs) holds free =
    let other : meets address address x ≡ false = grind (arith, common_steps, nat_tests) in
    grind (arith, common_steps, other, found_put address range xs holds)

-- A search finds something if something passes.
pub any_found : (test : HeldRange → Bool) (xs : List HeldRange) → is_some (find test xs) ≡ list_any test xs
any_found test [] = refl
any_found test (x ∷ xs) = grind (arith, common_steps, any_found test xs)
