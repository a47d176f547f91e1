-- Tests of the numbers below a count.
use Rattle.std.proofs.Common.{◌≡◌, ◌∙◌, sym, ℕ, zero, suc, ◌+◌, ◌<◌, ◌≤◌, List, length, Bool, true, false, ◌||◌, not, Result, Ok, Err, refl, arith, add-one}
use Rattle.std.specs.Result.{is_ok, is_err}
use Rattle.cper_records.specs.Descriptors.{some_below, is_out, section_end}

-- No number is below 0.
pub some_below_none : (test : ℕ → Bool) → some_below 0 test ≡ false
unfolding some_below
some_below_none test = refl

-- One more number.
pub some_below_next : (count : ℕ) (test : ℕ → Bool) → some_below (count + 1) test ≡ (some_below count test || test count)
unfolding some_below
some_below_next count test = rw add-one refl

some_below_more : (count : ℕ) (test : ℕ → Bool) → some_below (suc count) test ≡ (some_below count test || test count)
unfolding some_below
some_below_more count test = refl

-- If one number passes the test, some number does.
pub some_below_at : (count i : ℕ) (test : ℕ → Bool) → i < count → test i ≡ true → some_below count test ≡ true
some_below_at zero i test below passes = grind arith
some_below_at (suc count) i test below passes =
    grind (arith, some_below_next count test, some_below_at count i test, add-one)

-- If no number passes the test, each fails it.
pub some_below_each : (count i : ℕ) (test : ℕ → Bool) → some_below count test ≡ false → i < count → test i ≡ false
some_below_each count i test none below = grind (arith, some_below_at count i test below)

-- If some number passes the test, there is one that does.
pub some_below_true : (count : ℕ) (test : ℕ → Bool) → some_below count test ≡ true → (i : ℕ) × ((i < count) × (test i ≡ true))
some_below_true zero test some = absurd (not_both (sym (some_below_none test) ∙ some))
  where
    not_both : false ≡ true → ⊥
    not_both is = cc
some_below_true (suc count) test some =
    by (some_below count test) (test count) refl refl (sym (some_below_more count test) ∙ some) (some_below_true count test)
  where
    by : (before here : Bool) → some_below count test ≡ before → test count ≡ here → (some_below count test || test count) ≡ true
        → (some_below count test ≡ true → (i : ℕ) × ((i < count) × (test i ≡ true)))
        → (i : ℕ) × ((i < suc count) × (test i ≡ true))
    by true here was is some found = let one = found was in (one.0, (omega (arith, one.1.0), one.1.1))
    by false true was is some found = (count, (omega arith, is))
    by false false was is some found = cc

-- If each number fails the test, no number passes it.
pub some_below_false : (count : ℕ) (test : ℕ → Bool) → ((i : ℕ) → i < count → test i ≡ false) → some_below count test ≡ false
some_below_false zero test each = some_below_none test
some_below_false (suc count) test each =
    let before : some_below count test ≡ false = some_below_false count test (λ i below. each i (omega arith)) in
    let here : test count ≡ false = each count (omega arith) in
    some_below_more count test ∙ (rw (before, here) refl)

-- If no section passes the end, each lies inside.
pub inside_each : (bytes : List ℕ) (count i : ℕ) → some_below count (is_out bytes) ≡ false → i < count
    → section_end bytes i ≤ length bytes
unfolding is_out
inside_each bytes count i none below = grind (arith, some_below_each count i (is_out bytes) none below)

-- A section is refused if and only if it can't be read.
pub not_is_ok : {X Y : Type 0} (read : Result X Y) → not (is_ok read) ≡ is_err read
not_is_ok (Ok x) = refl
not_is_ok (Err y) = refl
